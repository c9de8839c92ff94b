-- THE RULE OF LABELS keeps the table sound, and the live labels with it.
-- Assumes nothing.
use Prim.Native.Nat.{ℕ, zero, suc, ◌+◌, ◌-◌, ◌≤◌, ◌<◌}
use Rattle.std.proofs.Common.{le_refl, ◌∙◌}
use native.Mathlib.Omega.{arith}
use Rattle.std.specs.Prelude.{◌≡◌, true, false, get_or, eqb}
use Rattle.std.proofs.Math.Path.{refl, sym, ap, ap₂, subst}
use mathlib.Core.List.{List, [], ◌∷◌, ◌++◌}
use Rattle.std.proofs.Math.ListN.{length, length-set}
use borrow.Author.Tests.{eqb-true, eqb-false, eq-eqb, le-leb, lt-leb}
use Rattle.meaning.specs.Octets.{pick, same}
use Rattle.meaning.specs.Wire.{element_refusal, is_kind, withdraw, Sent}
use Rattle.meaning.specs.Card.{Tree, Use, free, mapped, awaiting, Card, nobody, with_trees, with_labels, with_label, tree_place, tree_of, tree_at, leads_on, is_free, mapped_to, use_of, held_for, free_labels, next_free, with_last, neighbour_count}
use Rattle.meaning.specs.Events.{Moved, still, followed_by, set_use, set_label, ended, give_up, give, let_go, take_up, move_label, relabel, need_move, need, holder, of_root, move_one, move_from, move_all, need_one, sum_from, need_all}
use Rattle.promise.specs.Promise.{Given, note_sent, note_all, NoneLive, AllMapped, use_but, Untouched}
use Rattle.meaning.specs.Lists.{by-test, picked, same-eq, same_refl, count_set, count_less}
use Rattle.meaning_laws.specs.RoundTrip.{AllSendable, sendable-append}
use Rattle.promise.specs.LiveLaws.{is_mapped, mapped-near, mapped-eq, stray-not, Linked, linked-eq, upd, carry, up-linked, give-linked, up-keeps, give-keeps, Books, books-eq, books-free, books-give, books-mark, books-standing, mark-length}
use Rattle.promise.specs.CardLaws.{shape, Proper, Tidy}
use Rattle.promise.proofs.CardLaws.{use-after, in_block, at-proper, at_place, at_named, labelled-is, labelled-tidy, labelled-at, untouched-same, untouched-then, untouched-last, labelled-untouched, used-untouched, next-within, next-use, next-from, next-free}
use Rattle.promise.specs.LabelLaws.{Spent, Sound, Fine, Kept}

-- it depends on three things
pub spent-eq : (c d : Card) → d.last ≡ c.last → d.base ≡ c.base → (free_labels c ≡ 256 → free_labels d ≡ 256) → Spent c → Spent d
spent-eq c d l b f s = record { none = λ z. f (s.none (sym l ∙ z)); block = λ z. rw (l, b) (s.block (λ k. z (l ∙ k))) }

pub still-fine : (i : ℕ) (c : Card) (gs : List Given) → Sound c gs → Fine i c gs (still c)
unfolding still note_all NoneLive AllMapped AllSendable
still-fine i c gs S = record { sound = S; fair = tt; ends = tt; said = tt; others = λ b n. refl; uses = λ b n. refl; shapes = λ b. refl; size = refl; routes = refl; at = λ j. refl; apart = untouched-same _ c }

pub shape-name : (t s : Tree) → shape t ≡ shape s → t.name ≡ s.name
unfolding shape with_label
shape-name t s e = ap (λ (x : Tree). x.name) e

pub note-append : (ms ns : List Sent) (gs : List Given) → note_all (ms ++ ns) gs ≡ note_all ns (note_all ms gs)
unfolding note_all
note-append [] ns gs = refl
note-append (m ∷ ms) ns gs = note-append ms ns (note_sent m.to m.message gs)

pub none-append : (ms ns : List Sent) (gs : List Given) → NoneLive ms gs → NoneLive ns (note_all ms gs) → NoneLive (ms ++ ns) gs
unfolding note_all NoneLive
none-append [] ns gs f g = g
none-append (m ∷ ms) ns gs f g = (f.0, none-append ms ns (note_sent m.to m.message gs) f.1 g)

pub mapped-append : (ms ns : List Sent) (gs : List Given) → AllMapped ms gs → AllMapped ns (note_all ms gs) → AllMapped (ms ++ ns) gs
unfolding note_all AllMapped
mapped-append [] ns gs f g = g
mapped-append (m ∷ ms) ns gs f g = (f.0, mapped-append ms ns (note_sent m.to m.message gs) f.1 g)

then-fine : (i : ℕ) (c : Card) (gs : List Given) (m : Moved) (f : Card → Moved) → Fine i c gs m → Fine i m.card (note_all m.sent gs) (f m.card) → Fine i c gs (followed_by m f)
unfolding followed_by
then-fine i c gs m f p q =
    let nm : (tree_at i m.card).name ≡ (tree_at i c).name = shape-name _ _ (p.at i) in
    record {
      sound = rw (note-append m.sent (f m.card).sent gs) q.sound;
      fair = none-append m.sent (f m.card).sent gs p.fair q.fair;
      ends = mapped-append m.sent (f m.card).sent gs p.ends q.ends;
      said = sendable-append m.sent (f m.card).sent p.said q.said;
      others = λ b n. q.others b (rw nm n) ∙ p.others b n;
      uses = λ b n. ap (λ (t : Tree). use_of t.label (f m.card).card) (sym (p.others b n)) ∙ q.uses b (rw nm n) ∙ ap (λ (t : Tree). use_of t.label m.card) (p.others b n) ∙ p.uses b n;
      shapes = λ b. q.shapes b ∙ p.shapes b;
      size = q.size ∙ p.size;
      routes = q.routes ∙ p.routes;
      at = λ j. q.at j ∙ p.at j;
      apart = untouched-then _ c m.card (f m.card).card p.apart (subst (λ (a : List ℕ). Untouched a m.card (f m.card).card) nm q.apart);
    }

-- a's own labels
own-mapped : (n : ℕ) (a : List ℕ) → use_but a (mapped n a) ≡ free
unfolding use_but
own-mapped n a = rw (same_refl a) refl

pub own-awaiting : (n : ℕ) (a : List ℕ) → use_but a (awaiting n a) ≡ free
unfolding use_but
own-awaiting n a = rw (same_refl a) refl

-- ---- one label's use and one tree's label change together

module _ (c : Card) (gs : List Given) (S : Sound c gs) (i : ℕ) (h : i < length c.trees) (m x : ℕ) (v : Use)
    (from : c.base ≤ m) (within : m - c.base < length c.labels) where
  abbrev moved : Card
  moved = set_label i x (set_use m v c)

  moved-use : (l : ℕ) → use_of l moved ≡ upd (λ (k : ℕ). use_of k c) m v l
  moved-use l = same-use ∙ use-after c m v from within l
    where
      same-use : use_of l moved ≡ use_of l (set_use m v c)
      same-use = unfold use_of set_label with_trees in refl

  moved-tree : (b : List ℕ) → tree_of b moved ≡ pick (same (tree_at i c).name b) (with_label x (tree_of b c)) (tree_of b c)
  unfolding tree_of tree_place tree_at set_label set_use with_labels with_trees
  moved-tree b = labelled-is c S.tidy i h x b

  moved-tidy : Tidy moved.trees
  unfolding tree_at set_label set_use with_labels with_trees
  moved-tidy = labelled-tidy c S.tidy i h x

  moved_at : (j : ℕ) → shape (tree_at j moved) ≡ shape (tree_at j c)
  unfolding tree_at set_label set_use with_labels with_trees
  moved_at j = ap shape (labelled-at c S.tidy i h x j) ∙ picked (λ (t : Tree). shape t ≡ shape (tree_at j c)) (eqb i j) (λ _. unfold shape with_label in refl) (λ _. refl)

  moved-label : (b : List ℕ) → (tree_of b moved).label ≡ carry (λ a. (tree_of a c).label) (tree_at i c).name x b
  moved-label b = ap (λ (t : Tree). t.label) (moved-tree b) ∙ by-test (same (tree_at i c).name b) (λ e. rw e (unfold with_label in refl)) (λ e. rw e refl)

  used-name : (tree_at i (set_use m v c)).name ≡ (tree_at i c).name
  unfolding tree_at set_use with_labels
  used-name = refl

  -- (and k is the last label given)
  moved-fine : (ms : List Sent) (k : ℕ) → Linked (carry (λ a. (tree_of a c).label) (tree_at i c).name x) (upd (λ l. use_of l c) m v) → Books (upd (λ l. use_of l c) m v) (note_all ms gs)
      → length (note_all ms gs) + free_labels moved ≡ 256 → NoneLive ms gs → AllMapped ms gs → AllSendable ms → Spent (with_last k moved)
      → ((b : List ℕ) → same (tree_at i c).name b ≡ false → upd (λ l. use_of l c) m v (tree_of b c).label ≡ use_of (tree_of b c).label c)
      → use_but (tree_at i c).name v ≡ use_but (tree_at i c).name (use_of m c)
      → Fine i c gs (record { sent = ms; card = with_last k moved })
  unfolding with_last
  moved-fine ms k L B n f en sd sp keep mine = record {
    sound = record {
      tidy = moved-tidy;
      low = unfold set_label set_use with_labels with_trees in S.low;
      high = unfold set_label set_use with_labels with_trees in S.high;
      many = unfold set_label set_use with_labels with_trees in length-set c.labels (m - c.base) v ∙ S.many;
      linked = unfold tree_of tree_place use_of in linked-eq _ _ _ _ moved-label moved-use L;
      books = unfold use_of in books-eq _ _ _ moved-use B;
      sum = unfold free_labels in n;
      last = sp;
    };
    fair = f;
    ends = en;
    said = sd;
    others = λ b e. unfold tree_of tree_place in (moved-tree b ∙ rw e refl);
    uses = λ b e. unfold use_of in (moved-use (tree_of b c).label ∙ keep b e);
    shapes = λ b. unfold tree_of tree_place in ap shape (moved-tree b) ∙ picked (λ (t : Tree). shape t ≡ shape (tree_of b c)) (same (tree_at i c).name b) (λ _. unfold shape with_label in refl) (λ _. refl);
    size = unfold set_label set_use with_labels with_trees in length-set c.trees i _;
    routes = unfold set_label set_use with_labels with_trees in refl;
    at = λ j. unfold tree_at in moved_at j;
    apart = untouched-last _ c moved k (untouched-then _ c (set_use m v c) moved (used-untouched _ c m v from within mine) (subst (λ (a : List ℕ). Untouched a (set_use m v c) moved) used-name (labelled-untouched (set_use m v c) i x)));
  }

-- the use by its place
pub use-place : (c : Card) (m : ℕ) → c.base ≤ m → use_of m c ≡ get_or c.labels (m - c.base) free
unfolding use_of
use-place c m h = rw (le-leb c.base m h) refl

module _ (c : Card) (gs : List Given) (S : Sound c gs) (i : ℕ) (h : i < length c.trees) where
  its-label : (tree_of (tree_at i c).name c).label ≡ (tree_at i c).label
  its-label = ap (λ (t : Tree). t.label) (at_named c S.tidy i h)

  -- a label held for somebody is mapped for the tree
  held-own : (held_for c (tree_at i c) ≡ nobody → ⊥) → is_mapped (tree_at i c).name (use_of (tree_at i c).label c) ≡ true
  unfolding held_for mapped_to
  held-own some_one =
      rw (← its-label) (S.linked.own (tree_at i c).name
      (λ z. some_one (ap mapped_to (ap (λ (k : ℕ). use_of k c) (sym its-label ∙ z) ∙ S.linked.zero-free))))

  -- a tree with a label holds it for somebody
  pub held_none : held_for c (tree_at i c) ≡ nobody → (tree_at i c).label ≡ 0
  unfolding held_for
  held_none e =
      by-test (eqb (tree_at i c).label 0)
      (λ k. eqb-true _ _ k)
      (λ k. absurd (stray-not (tree_at i c).name _ (rw its-label at (S.linked.own (tree_at i c).name (λ z. eqb-false _ _ k (sym its-label ∙ z)))) (S.linked.real (tree_at i c).label) e))

  label-held : ((tree_at i c).label ≡ 0 → ⊥) → held_for c (tree_at i c) ≡ nobody → ⊥
  label-held some-label e = some-label (held_none e)

  module _ (some_one : held_for c (tree_at i c) ≡ nobody → ⊥) where
    its-use : use_of (tree_at i c).label c ≡ mapped (held_for c (tree_at i c)) (tree_at i c).name
    unfolding held_for
    its-use = mapped-eq (tree_at i c).name (use_of (tree_at i c).label c) (held-own some_one)

    its-block : (c.base ≤ (tree_at i c).label) × ((tree_at i c).label - c.base < length c.labels)
    its-block = in_block c (tree_at i c).label (ap is_free its-use ∙ unfold is_free in refl)

    its-end : ended (use_of (tree_at i c).label c) ≡ awaiting (held_for c (tree_at i c)) (tree_at i c).name
    its-end = ap ended its-use ∙ unfold ended in refl

    ended-free : free_labels (set_label i 0 (set_use (tree_at i c).label (awaiting (held_for c (tree_at i c)) (tree_at i c).name) c)) ≡ free_labels c
    unfolding free_labels set_label set_use with_labels with_trees is_free
    ended-free = count_set is_free c.labels ((tree_at i c).label - c.base) (awaiting (held_for c (tree_at i c)) (tree_at i c).name) free
        (sym (ap is_free (sym (use-place c (tree_at i c).label its-block.0) ∙ its-use)))

    up-free : free_labels (give_up i c).card ≡ free_labels c
    unfolding give_up
    up-free = rw its-end ended-free

    up-said : AllSendable (give_up i c).sent
    unfolding AllSendable give_up is_kind
    up-said =
        let ok : element_refusal (tree_at i c).name ≡ 0 = unfold Proper in (at-proper c i S.tidy h).1 in
        let near : held_for c (tree_at i c) < neighbour_count = unfold held_for in mapped-near (tree_at i c).name (use_of (tree_at i c).label c) (held-own some_one) (S.linked.real (tree_at i c).label) in
        let low = its-block.0 in
        let high = its-block.1 in
        (record { near = near; says = record { kind = refl; kind_fits = omega arith; name = ok; low = omega (arith, S.low); high = omega (arith, S.high, S.many) } }, tt)

    -- the label that awaits release, with the last one given as it was
    abbrev awaits : Card
    awaits = set_label i 0 (set_use (tree_at i c).label (awaiting (held_for c (tree_at i c)) (tree_at i c).name) c)

    up-last : with_last c.last awaits ≡ awaits
    unfolding with_last set_label set_use with_labels with_trees
    up-last = refl

    up-spent : Spent awaits
    up-spent = spent-eq c awaits (unfold set_label set_use with_labels with_trees in refl) (unfold set_label set_use with_labels with_trees in refl) (λ e. ended-free ∙ e) S.last

    up-fine : Fine i c gs (give_up i c)
    unfolding give_up
    up-fine = rw (its-end, ← up-last) (moved-fine c gs S i h (tree_at i c).label 0 _ its-block.0 its-block.1 _ c.last
        (up-linked _ _ S.linked (tree_at i c).name (tree_at i c).label (held_for c (tree_at i c)) (held-own some_one))
        (unfold note_all note_sent in books-mark _ gs S.books (tree_at i c).name (tree_at i c).label (held_for c (tree_at i c)) withdraw its-use)
        (unfold note_all note_sent in ap₂ ◌+◌ (mark-length _ _ gs) ended-free ∙ S.sum)
        (unfold NoneLive in ((λ e. absurd (omega arith)), tt))
        (unfold AllMapped in ((λ _. books-standing _ gs S.books (tree_at i c).name (tree_at i c).label (held_for c (tree_at i c)) withdraw its-use), tt))
        (unfold give_up in up-said)
        (rw up-last up-spent)
        (λ b n. up-keeps _ _ S.linked (tree_at i c).name (tree_at i c).label _ b (held-own some_one) n)
        (own-awaiting (held_for c (tree_at i c)) (tree_at i c).name ∙ sym (ap (use_but (tree_at i c).name) its-use ∙ own-mapped (held_for c (tree_at i c)) (tree_at i c).name)))

  module _ (u : ℕ) (near : u < neighbour_count) (some-free : 0 < free_labels c) (none : (tree_at i c).label ≡ 0) where
    not-zero : next_free c ≡ 0 → ⊥
    not-zero z = omega (arith, S.low, next-from c some-free)

    given-free : suc (free_labels (set_label i (next_free c) (set_use (next_free c) (mapped u (tree_at i c).name) c))) ≡ free_labels c
    unfolding free_labels set_label set_use with_labels with_trees
    given-free = count_less is_free c.labels (next_free c - c.base) (mapped u (tree_at i c).name) free (next-use c some-free) (unfold is_free in refl) (next-within c some-free)

    give-free : suc (free_labels (give i u c).card) ≡ free_labels c
    unfolding give with_last free_labels
    give-free = given-free

    give-said : AllSendable (give i u c).sent
    unfolding AllSendable give is_kind
    give-said =
        let ok : element_refusal (tree_at i c).name ≡ 0 = unfold Proper in (at-proper c i S.tidy h).1 in
        let from = next-from c some-free in
        let within = next-within c some-free in
        (record { near = near; says = record { kind = refl; kind_fits = omega arith; name = ok; low = omega (arith, S.low); high = omega (arith, S.high, S.many) } }, tt)

    give-spent : Spent (give i u c).card
    unfolding give with_last set_label set_use with_labels with_trees
    give-spent = let within = next-within c some-free in let from = next-from c some-free in record { none = λ z. absurd (not-zero z); block = λ z. (from, omega (arith, S.many)) }

    give-fine : Fine i c gs (give i u c)
    unfolding give
    give-fine = moved-fine c gs S i h (next_free c) (next_free c) _ (next-from c some-free) (next-within c some-free) _ (next_free c)
        (give-linked _ _ S.linked (tree_at i c).name (next_free c) u (its-label ∙ none) (next-free c some-free) not-zero (lt-leb neighbour_count u near))
        (unfold note_all note_sent in books-give _ gs S.books (tree_at i c).name (next_free c) u (next-free c some-free))
        (unfold note_all note_sent in omega (arith, given-free, S.sum))
        (unfold NoneLive in ((λ _. books-free _ gs S.books (next_free c) (next-free c some-free)), tt))
        (unfold AllMapped in ((λ e. absurd (omega arith)), tt))
        (unfold give in give-said)
        (unfold give in give-spent)
        (λ b n. give-keeps _ _ S.linked (next_free c) _ b (next-free c some-free) not-zero)
        (own-mapped u (tree_at i c).name ∙ sym (ap (use_but (tree_at i c).name) (next-free c some-free) ∙ unfold use_but in refl))

    give_at : (tree_at i (give i u c).card).label ≡ next_free c
    unfolding give tree_at with_last set_label set_use with_labels with_trees
    give_at = ap (λ (t : Tree). t.label) (labelled-at c S.tidy i h (next_free c) i) ∙ rw (eq-eqb i i refl) (unfold with_label in refl)

    give-own : held_for (give i u c).card (tree_at i (give i u c).card) ≡ u
    unfolding held_for give use_of with_last
    give-own =
        ap (λ (l : ℕ). mapped_to (use_of l (give i u c).card)) (unfold give in give_at)
        ∙ ap mapped_to (moved-use c gs S i h (next_free c) (next_free c) (mapped u (tree_at i c).name) (next-from c some-free) (next-within c some-free) (next_free c))
        ∙ rw (eq-eqb (next_free c) (next_free c) refl) (unfold mapped_to in refl)

-- ---- the rule of labels

module _ (c : Card) (gs : List Given) (S : Sound c gs) (i : ℕ) (h : i < length c.trees) where
  pub let-go-fine : Fine i c gs (let_go i c)
  unfolding let_go
  let-go-fine =
      picked (Fine i c gs) (eqb (tree_at i c).label 0)
      (λ _. still-fine i c gs S)
      (λ e. up-fine c gs S i h (label-held c gs S i h (eqb-false _ _ e)))

  let-go-free : free_labels (let_go i c).card ≡ free_labels c
  unfolding let_go still
  let-go-free =
      picked (λ (m : Moved). free_labels m.card ≡ free_labels c) (eqb (tree_at i c).label 0)
      (λ _. refl)
      (λ e. up-free c gs S i h (label-held c gs S i h (eqb-false _ _ e)))

  up_none : (tree_at i (give_up i c).card).label ≡ 0
  unfolding give_up tree_at set_label set_use with_labels with_trees
  up_none = ap (λ (t : Tree). t.label) (labelled-at c S.tidy i h 0 i) ∙ rw (eq-eqb i i refl) (unfold with_label in refl)

  pub let-go-none : (tree_at i (let_go i c).card).label ≡ 0
  unfolding let_go still
  let-go-none =
      picked (λ (m : Moved). (tree_at i m.card).label ≡ 0) (eqb (tree_at i c).label 0)
      (λ e. eqb-true _ _ e)
      (λ e. up_none)

  take-up-fine : (u : ℕ) → (eqb u nobody ≡ false → u < neighbour_count) → (eqb u nobody ≡ false → 0 < free_labels c) → (tree_at i c).label ≡ 0 → Fine i c gs (take_up i u c)
  unfolding take_up
  take-up-fine u near enough none =
      picked (Fine i c gs) (eqb u nobody)
      (λ _. still-fine i c gs S)
      (λ e. give-fine c gs S i h u (near e) (enough e) none)

  pub none-held : (tree_at i c).label ≡ 0 → held_for c (tree_at i c) ≡ nobody
  unfolding held_for mapped_to
  none-held z = ap mapped_to (ap (λ (l : ℕ). use_of l c) z ∙ S.linked.zero-free)

  take-up-own : (u : ℕ) → (eqb u nobody ≡ false → u < neighbour_count) → (eqb u nobody ≡ false → 0 < free_labels c) → (tree_at i c).label ≡ 0 → held_for (take_up i u c).card (tree_at i (take_up i u c).card) ≡ u
  unfolding take_up still
  take-up-own u near enough none =
      by-test (eqb u nobody)
      (λ e. rw e (none-held none ∙ sym (eqb-true _ _ e)))
      (λ e. rw e (give-own c gs S i h u (near e) (enough e) none))

  take-up-free : (u : ℕ) → (eqb u nobody ≡ false → u < neighbour_count) → (eqb u nobody ≡ false → 0 < free_labels c) → (tree_at i c).label ≡ 0 → free_labels (take_up i u c).card + need_move u ≡ free_labels c
  unfolding take_up still need_move
  take-up-free u near enough none =
      by-test (eqb u nobody)
      (λ e. rw e (omega arith))
      (λ e. rw e (omega (arith, give-free c gs S i h u (near e) (enough e) none)))

module _ (c : Card) (gs : List Given) (S : Sound c gs) (i : ℕ) (h : i < length c.trees) (u : ℕ) (near : eqb u nobody ≡ false → u < neighbour_count) (enough : need_move u ≤ free_labels c) where
  left : Card
  left = (let_go i c).card

  left-sound : Sound left (note_all (let_go i c).sent gs)
  unfolding left
  left-sound = (let-go-fine c gs S i h).sound

  left-enough : eqb u nobody ≡ false → 0 < free_labels left
  unfolding need_move left
  left-enough k = rw (let-go-free c gs S i h) (rw k at enough)

  left-within : i < length left.trees
  unfolding left
  left-within = rw (let-go-fine c gs S i h).size h

  left-none : (tree_at i left).label ≡ 0
  unfolding left
  left-none = let-go-none c gs S i h

  pub move-fine : Fine i c gs (move_label i u c)
  unfolding move_label
  move-fine =
      then-fine i c gs (let_go i c) (take_up i u) (let-go-fine c gs S i h)
      (unfold left in take-up-fine left _ left-sound i left-within u near left-enough left-none)

  pub move-free : free_labels (move_label i u c).card + need_move u ≡ free_labels c
  unfolding move_label followed_by left
  move-free =
      let one = take-up-free left _ left-sound i left-within u near left-enough left-none in
      let same-free = let-go-free c gs S i h in
      omega (arith, one, same-free)

  -- the tree holds its label for u
  pub move-own : held_for (move_label i u c).card (tree_at i (move_label i u c).card) ≡ u
  unfolding move_label followed_by left
  move-own = take-up-own left _ left-sound i left-within u near left-enough left-none

  pub move-none : u ≡ nobody → (tree_at i (move_label i u c).card).label ≡ 0
  unfolding move_label followed_by take_up still
  move-none z = rw (eq-eqb u nobody z) (let-go-none c gs S i h)

module _ (c : Card) (gs : List Given) (S : Sound c gs) (i : ℕ) (h : i < length c.trees) (u : ℕ) (near : eqb u nobody ≡ false → u < neighbour_count) (enough : need c (tree_at i c) u ≤ free_labels c) where
  move-enough : eqb (held_for c (tree_at i c)) u ≡ false → need_move u ≤ free_labels c
  unfolding need
  move-enough e = rw e at enough

  pub relabel-fine : Fine i c gs (relabel i u c)
  unfolding relabel
  relabel-fine =
      picked (Fine i c gs) (eqb (held_for c (tree_at i c)) u)
      (λ _. still-fine i c gs S)
      (λ e. move-fine c gs S i h u near (move-enough e))

  pub relabel-free : free_labels (relabel i u c).card + need c (tree_at i c) u ≡ free_labels c
  unfolding relabel need still
  relabel-free =
      by-test (eqb (held_for c (tree_at i c)) u)
      (λ e. rw e (omega arith))
      (λ e. rw e (move-free c gs S i h u near (unfold need in move-enough e)))

  -- the tree holds its label for u
  pub relabel-own : held_for (relabel i u c).card (tree_at i (relabel i u c).card) ≡ u
  unfolding relabel still
  relabel-own =
      by-test (eqb (held_for c (tree_at i c)) u)
      (λ e. rw e (eqb-true _ _ e))
      (λ e. rw e (move-own c gs S i h u near (move-enough e)))

  -- no label is left where none is to be held
  pub relabel-none : u ≡ nobody → (tree_at i (relabel i u c).card).label ≡ 0
  unfolding relabel still
  relabel-none z =
      by-test (eqb (held_for c (tree_at i c)) u)
      (λ e. rw e (held_none c gs S i h (eqb-true _ _ e ∙ z)))
      (λ e. rw e (move-none c gs S i h u near (move-enough e) z))

pub then-kept : (c : Card) (gs : List Given) (m : Moved) (f : Card → Moved) → Kept c gs m → Kept m.card (note_all m.sent gs) (f m.card) → Kept c gs (followed_by m f)
unfolding followed_by
then-kept c gs m f p q = record {
  sound = rw (note-append m.sent (f m.card).sent gs) q.sound;
  fair = none-append m.sent (f m.card).sent gs p.fair q.fair;
  ends = mapped-append m.sent (f m.card).sent gs p.ends q.ends;
  said = sendable-append m.sent (f m.card).sent p.said q.said;
  shapes = λ b. q.shapes b ∙ p.shapes b;
  size = q.size ∙ p.size;
  routes = q.routes ∙ p.routes;
  at = λ j. q.at j ∙ p.at j;
}

module _ (c : Card) (gs : List Given) (S : Sound c gs) (i : ℕ) (h : i < length c.trees) (m : Moved) (p : Fine i c gs m) where
  -- the tree at another place is as it was
  pub names_apart : (j : ℕ) → j < length c.trees → (i ≡ j → ⊥) → same (tree_at i c).name (tree_at j c).name ≡ false
  names_apart j k n =
      by-test (same (tree_at i c).name (tree_at j c).name)
      (λ e. absurd (n (sym (at_place c S.tidy i h) ∙ ap (λ (a : List ℕ). tree_place a c) (same-eq _ _ e) ∙ at_place c S.tidy j k)))
      (λ e. e)

  pub at_other : (j : ℕ) → j < length c.trees → (i ≡ j → ⊥) → tree_at j m.card ≡ tree_at j c
  at_other j k n =
      sym (at_named m.card p.sound.tidy j (rw p.size k))
      ∙ ap (λ (a : List ℕ). tree_of a m.card) (shape-name _ _ (p.at j))
      ∙ p.others (tree_at j c).name (names_apart j k n)
      ∙ at_named c S.tidy j k

  pub held-other : (j : ℕ) → j < length c.trees → (i ≡ j → ⊥) → held_for m.card (tree_at j c) ≡ held_for c (tree_at j c)
  unfolding held_for
  held-other j k n = ap mapped_to (rw (at_named c S.tidy j k) at (p.uses (tree_at j c).name (names_apart j k n)))

-- whoever is to hold the label is a neighbour, where u is one
pub holder-near : (u : ℕ) (t : Tree) → (eqb u nobody ≡ false → u < neighbour_count) → eqb (holder u t) nobody ≡ false → holder u t < neighbour_count
unfolding holder
holder-near u t near = picked (λ (x : ℕ). eqb x nobody ≡ false → x < neighbour_count) (leads_on u t) (λ _. near) (λ _ e. absurd (eqb-false nobody nobody e refl))

module _ (r : List ℕ) (u : ℕ) (near : eqb u nobody ≡ false → u < neighbour_count) where
  pub one-fine : (c : Card) (gs : List Given) → Sound c gs → (i : ℕ) → i < length c.trees → need_one r u (tree_at i c) ≤ free_labels c → Fine i c gs (move_one r u i c)
  unfolding move_one need_one
  one-fine c gs S i h enough =
      by-test (of_root r (tree_at i c))
      (λ e. rw e (move-fine c gs S i h (holder u (tree_at i c)) (holder-near u (tree_at i c) near) (rw e at enough)))
      (λ e. rw e (still-fine i c gs S))

  pub one_free : (c : Card) (gs : List Given) → Sound c gs → (i : ℕ) → i < length c.trees → need_one r u (tree_at i c) ≤ free_labels c
      → free_labels (move_one r u i c).card + need_one r u (tree_at i c) ≡ free_labels c
  unfolding move_one need_one still
  one_free c gs S i h enough =
      by-test (of_root r (tree_at i c))
      (λ e. rw e (move-free c gs S i h (holder u (tree_at i c)) (holder-near u (tree_at i c) near) (rw e at enough)))
      (λ e. rw e (omega arith))

  module _ (c : Card) (gs : List Given) (S : Sound c gs) (i : ℕ) (h : i < length c.trees) (m : Moved) (p : Fine i c gs m) where
    need-other : (j : ℕ) → j < length c.trees → (i ≡ j → ⊥) → need_one r u (tree_at j m.card) ≡ need_one r u (tree_at j c)
    need-other j k n = ap (need_one r u) (at_other c gs S i h m p j k n)

    pub need-later : (n j : ℕ) → i < j → j + n ≤ length c.trees → sum_from (need_one r u) n j m.card ≡ sum_from (need_one r u) n j c
    unfolding sum_from
    need-later zero j a b = refl
    need-later (suc n) j a b = ap₂ ◌+◌ (need-other j (omega arith) (λ e. omega arith)) (need-later n (suc j) (omega arith) (omega arith))

  pub from-kept : (n i : ℕ) (c : Card) (gs : List Given) → Sound c gs → i + n ≤ length c.trees → sum_from (need_one r u) n i c ≤ free_labels c → Kept c gs (move_from r u n i c)
  unfolding move_from sum_from
  from-kept zero i c gs S h enough = unfold still note_all NoneLive AllMapped AllSendable in record { sound = S; fair = tt; ends = tt; said = tt; shapes = λ b. refl; size = refl; routes = refl; at = λ j. refl }
  from-kept (suc n) i c gs S h enough =
      let within : i < length c.trees = omega arith in
      let first : need_one r u (tree_at i c) ≤ free_labels c = omega arith in
      let p : Fine i c gs (move_one r u i c) = one-fine c gs S i within first in
      let later = need-later c gs S i within (move_one r u i c) p n (suc i) (le_refl _) (omega arith) in
      let spent = one_free c gs S i within first in
      let size : length (move_one r u i c).card.trees ≡ length c.trees = p.size in
      then-kept c gs (move_one r u i c) (move_from r u n (suc i)) (record { sound = p.sound; fair = p.fair; ends = p.ends; said = p.said; shapes = p.shapes; size = p.size; routes = p.routes; at = p.at })
      (from-kept n (suc i) (move_one r u i c).card _ p.sound (omega arith) (omega arith))

  pub all-kept : (c : Card) (gs : List Given) → Sound c gs → need_all r u c ≤ free_labels c → Kept c gs (move_all r u c)
  unfolding move_all need_all
  all-kept c gs S enough = from-kept (length c.trees) 0 c gs S (omega arith) enough

  -- ---- for whom the trees hold their labels afterwards

  one-held : (c : Card) (gs : List Given) → Sound c gs → (i : ℕ) → i < length c.trees → need_one r u (tree_at i c) ≤ free_labels c
      → held_for (move_one r u i c).card (tree_at i (move_one r u i c).card) ≡ pick (of_root r (tree_at i c)) (holder u (tree_at i c)) (held_for c (tree_at i c))
  unfolding move_one need_one still
  one-held c gs S i h enough =
      by-test (of_root r (tree_at i c))
      (λ e. rw e (move-own c gs S i h (holder u (tree_at i c)) (holder-near u (tree_at i c) near) (rw e at enough)))
      (λ e. rw e refl)

  -- another tree, over one step
  one-other : (c : Card) (gs : List Given) → Sound c gs → (i : ℕ) → i < length c.trees → need_one r u (tree_at i c) ≤ free_labels c → (j : ℕ) → j < length c.trees → (i ≡ j → ⊥)
      → held_for (move_one r u i c).card (tree_at j (move_one r u i c).card) ≡ held_for c (tree_at j c)
  one-other c gs S i h enough j k d =
      let p : Fine i c gs (move_one r u i c) = one-fine c gs S i h enough in
      ap (held_for (move_one r u i c).card) (at_other c gs S i h (move_one r u i c) p j k d) ∙ held-other c gs S i h (move_one r u i c) p j k d

  -- those before place i are left alone
  from-before : (n i : ℕ) (c : Card) (gs : List Given) → Sound c gs → i + n ≤ length c.trees → sum_from (need_one r u) n i c ≤ free_labels c → (j : ℕ) → j < i → j < length c.trees
      → held_for (move_from r u n i c).card (tree_at j (move_from r u n i c).card) ≡ held_for c (tree_at j c)
  unfolding move_from sum_from followed_by still
  from-before zero i c gs S h enough j lt k = refl
  from-before (suc n) i c gs S h enough j lt k =
      let within : i < length c.trees = omega arith in
      let first : need_one r u (tree_at i c) ≤ free_labels c = omega arith in
      let p : Fine i c gs (move_one r u i c) = one-fine c gs S i within first in
      let later = need-later c gs S i within (move_one r u i c) p n (suc i) (le_refl _) (omega arith) in
      let spent = one_free c gs S i within first in
      let size : length (move_one r u i c).card.trees ≡ length c.trees = p.size in
      from-before n (suc i) (move_one r u i c).card _ p.sound (omega arith) (omega arith) j (omega arith) (omega arith)
      ∙ one-other c gs S i within first j k (λ e. omega arith)

  -- those from place i on hold theirs as the new route asks, where they are of the root
  from-held : (n i : ℕ) (c : Card) (gs : List Given) → Sound c gs → i + n ≤ length c.trees → sum_from (need_one r u) n i c ≤ free_labels c → (j : ℕ) → i ≤ j → j < i + n
      → held_for (move_from r u n i c).card (tree_at j (move_from r u n i c).card) ≡ pick (of_root r (tree_at j c)) (holder u (tree_at j c)) (held_for c (tree_at j c))
  unfolding move_from sum_from followed_by still
  from-held zero i c gs S h enough j le lt = absurd (omega arith)
  from-held (suc n) i c gs S h enough j le lt =
      let within : i < length c.trees = omega arith in
      let first : need_one r u (tree_at i c) ≤ free_labels c = omega arith in
      let p : Fine i c gs (move_one r u i c) = one-fine c gs S i within first in
      let later = need-later c gs S i within (move_one r u i c) p n (suc i) (le_refl _) (omega arith) in
      let spent = one_free c gs S i within first in
      let size : length (move_one r u i c).card.trees ≡ length c.trees = p.size in
      by-test (eqb i j)
      (λ e. subst (λ (x : ℕ). held_for (move_from r u n (suc i) (move_one r u i c).card).card (tree_at x (move_from r u n (suc i) (move_one r u i c).card).card) ≡ pick (of_root r (tree_at x c)) (holder u (tree_at x c)) (held_for c (tree_at x c))) (eqb-true i j e)
      (from-before n (suc i) (move_one r u i c).card _ p.sound (omega arith) (omega arith) i (le_refl _) (omega arith) ∙ one-held c gs S i within first))
      (λ e. let d : i ≡ j → ⊥ = eqb-false i j e in
      from-held n (suc i) (move_one r u i c).card _ p.sound (omega arith) (omega arith) j (omega arith) (omega arith)
      ∙ ap₂ (λ (t : Tree) (x : ℕ). pick (of_root r t) (holder u t) x) (at_other c gs S i within (move_one r u i c) p j (omega arith) d) (one-other c gs S i within first j (omega arith) d))

  pub all_held : (c : Card) (gs : List Given) → Sound c gs → need_all r u c ≤ free_labels c → (j : ℕ) → j < length c.trees
      → held_for (move_all r u c).card (tree_at j (move_all r u c).card) ≡ pick (of_root r (tree_at j c)) (holder u (tree_at j c)) (held_for c (tree_at j c))
  unfolding move_all need_all
  all_held c gs S enough j k = from-held (length c.trees) 0 c gs S (omega arith) enough j (omega arith) (omega arith)
