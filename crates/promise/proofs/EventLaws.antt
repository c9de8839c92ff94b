-- Every event keeps the table sound, and makes of each tree what it says.
-- Assumes nothing.
use Prim.Native.Nat.{ℕ, zero, suc, ◌+◌, ◌-◌, ◌≤◌, ◌<◌, suc-le-suc}
use Rattle.std.proofs.Common.{arith, ap₂, ◌∙◌, subst}
use Rattle.std.specs.Prelude.{◌≡◌, Bool, get_or, eqb, ltb}
use Rattle.std.proofs.Math.Path.{refl, sym, ap}
use Rattle.std.proofs.Math.Bool.{true, false}
use mathlib.Core.List.{List, [], ◌∷◌, ◌++◌}
use Rattle.std.proofs.Math.ListN.{length, length-set}
use borrow.Author.Tests.{eqb-true, eqb-false, eq-eqb, ne_eqb, ltb-true, ltb-false, leb-false, not-false}
use Rattle.meaning.specs.Octets.{pick, place, same, put}
use Rattle.meaning.specs.Wire.{is_kind, mapping, withdraw, release, Message, message_in, element_refusal, Sent}
use Rattle.meaning.specs.Card.{Tree, Use, free, mapped, awaiting, Card, nobody, with_routes, with_trees, with_labels, with_branch, with_leaf, tree_limit, named, bare, tree_place, tree_of, tree_at, stands, is_empty, is_free, is_awaiting, mapped_to, use_of, held_for, free_labels, route_of, Route, no_entry, route_place, neighbour_count}
use Rattle.meaning.specs.Events.{Outcome, refused, taken, unless, Moved, tell, set_use, relabel, need, labels_short, upstream, holder_of, entered, swept, trees_full, tree_refusal, enter, become, branch, other_label, on_mapping, less_branch, on_withdraw, not_awaited, on_release, on_message, no_neighbour, on_octets, on_join, on_leave, move_all, need_all, routes_with, route_refusal, re_route, on_route, Event, receive, join, leave, route, outcome, part, on_lost, lost, total, in_root, worked_out, entry_of, recounted}
use Rattle.promise.specs.Promise.{Given, remove, note_sent, note_all, note_taken, NoneLive, AllMapped, use_but, Untouched, without}
use Rattle.meaning.specs.Lists.{by-test, picked, same-eq, count-new, no-when}
use Rattle.meaning_laws.specs.RoundTrip.{Heard, heard, AllSendable, sendable-append}
use Rattle.meaning_laws.specs.Counts.{plains, plain-length, plain-count, recount-plain, counted_same, enough-labels}
use Rattle.promise.specs.CountLaws.{Tally, found}
use Rattle.promise.proofs.CountLaws.{same-shapes, with-another, one-true, counted_of}
use Rattle.promise.specs.LiveLaws.{linked-eq, upd, free-linked, books-eq, books-remove, books-removed}
use Rattle.promise.specs.CardLaws.{shape, Proper}
use Rattle.promise.proofs.CardLaws.{use-after, in_block, tree-name, tree-sized, entered-is, entered-tidy, put-within, swept-use, swept-routes, untouched-then, entered-untouched, swept-untouched, used-untouched}
use Rattle.promise.specs.RuleLaws.{Ruled}
use Rattle.promise.proofs.RuleLaws.{empty-asked, shape-empty, holder-same, route-ruled, put_in, put-more, cut_in, put-other-at, swept_at}
use Rattle.promise.specs.LabelLaws.{Sound, Fine, Kept}
use Rattle.promise.proofs.LabelLaws.{shape-name, own-awaiting, holder-near, at_other, held-other, relabel-own, relabel-fine, relabel-none, none-append, mapped-append, note-append, all-kept, use-place, spent-eq}
use Rattle.promise.proofs.LossLaws.{one-swept-tree, one-swept-sound, loss-kept, loss-swept, loss-shapes, loss-ruled, swept-total}
use Rattle.promise.specs.EventLaws.{by_message, became, Apart, Follows, Keeps, Quiet, only_for, Awaited, Admits, Meets}

unless-keeps : (c : Card) (gs : List Given) (f : List ℕ → Tree → Tree) (t : Card → Type 0) (n : ℕ) (o : Outcome) → (n ≡ 0 → Keeps c gs f t o) → Keeps c gs f t (unless n o)
unfolding unless Keeps
unless-keeps c gs f t zero o h = h refl
unless-keeps c gs f t (suc n) o h = λ z. omega arith

refused-keeps : (c : Card) (gs : List Given) (f : List ℕ → Tree → Tree) (t : Card → Type 0) (n : ℕ) → Keeps c gs f t (refused (suc n))
unfolding Keeps
refused-keeps c gs f t n = λ z. omega arith

keeps-eq : (c : Card) (gs : List Given) (f g : List ℕ → Tree → Tree) (t : Card → Type 0) (o : Outcome) → ((a : List ℕ) (x : Tree) → f a x ≡ g a x) → Keeps c gs f t o → Keeps c gs g t o
unfolding Keeps
keeps-eq c gs f g t (refused n) e k = k
keeps-eq c gs f g t (taken ms after) e k = record { sound = k.sound; fair = k.fair; ends = k.ends; said = k.said; shapes = λ b. k.shapes b ∙ ap shape (e b (tree_of b c)); apart = k.apart; ruled = k.ruled }

none-quiet : (gs : List Given) → Quiet gs []
unfolding Quiet note_all NoneLive AllSendable AllMapped
none-quiet gs = (refl, tt, tt, tt)

-- what is known of a message that 1 to 9 and 18 pass, from neighbour n
release-quiet : (gs : List Given) (n : ℕ) (a : List ℕ) (l : ℕ) → Heard n a l → Quiet gs (tell n release a l ∷ [])
unfolding Quiet note_all note_sent NoneLive AllSendable AllMapped is_kind
release-quiet gs n a l g = (
  refl,
  ((λ e. absurd (omega arith)), tt),
  (record { near = g.near; says = record { kind = refl; kind_fits = omega arith; name = g.name; low = g.low; high = g.high } }, tt),
  ((λ e. absurd (omega arith)), tt),
)

pub upstream-near : (via : ℕ) → eqb (upstream via) nobody ≡ false → upstream via < neighbour_count
unfolding upstream
upstream-near via =
    by-test (ltb via neighbour_count)
    (λ e. rw e (λ _. ltb-true via neighbour_count e))
    (λ e. rw e (λ z. absurd (let z' : ◌≡◌ {A = ℕ} 0 1 = cc in omega arith)))

with-near : (c : Card) (t : Tree) → eqb (holder_of c t) nobody ≡ false → holder_of c t < neighbour_count
unfolding holder_of
with-near c t = holder-near _ t (upstream-near _)

-- nothing of this depends on the routes
routes-sound : (c : Card) (gs : List Given) → Sound c gs → (rs : List Route) → Sound (with_routes rs c) gs
routes-sound c gs S rs = record {
  tidy = unfold with_routes in S.tidy;
  low = unfold with_routes in S.low;
  high = unfold with_routes in S.high;
  many = unfold with_routes in S.many;
  linked = unfold with_routes tree_of tree_place use_of in S.linked;
  books = unfold with_routes use_of in S.books;
  sum = unfold with_routes free_labels in S.sum;
  last = spent-eq c (with_routes rs c) (unfold with_routes in refl) (unfold with_routes in refl) (λ e. unfold with_routes free_labels in e) S.last;
}

pub get_d-put {ℓ} : {A : Type ℓ} (t : A → Bool) (l : List A) (x d : A) → get_or (put l (place t l) x) (place t l) d ≡ x
unfolding place put
get_d-put t [] x d = refl
get_d-put t (y ∷ l) x d = by-test (t y) (λ e. rw e refl) (λ e. rw e (get_d-put t l x d))

module _ (c : Card) (gs : List Given) (S : Sound c gs) (a : List ℕ) (good : element_refusal a ≡ 0) (f : Tree → Tree)
    (keeps-name : (t : Tree) → (f t).name ≡ t.name) (keeps-label : (t : Tree) → (f t).label ≡ t.label) (keeps-size : (t : Tree) → length (f t).branches ≡ length t.branches) where
  its : Tree
  its = f (tree_of a c)

  its-name : its.name ≡ a
  unfolding its
  its-name = keeps-name (tree_of a c) ∙ tree-name a c

  its-size : length its.branches ≡ neighbour_count
  unfolding its
  its-size = keeps-size (tree_of a c) ∙ tree-sized a c S.tidy

  its-place : ℕ
  its-place = tree_place its.name c

  entered-tree : (b : List ℕ) → tree_of b (entered c its) ≡ only_for a f b (tree_of b c)
  unfolding only_for its
  entered-tree b =
      entered-is c S.tidy its b
      ∙ ap (λ (x : List ℕ). pick (same x b) its (tree_of b c)) its-name
      ∙ by-test (same a b)
      (λ k. rw k (ap (λ (x : List ℕ). f (tree_of x c)) (same-eq a b k)))
      (λ k. rw k refl)

  entered-label : (b : List ℕ) → (tree_of b (entered c its)).label ≡ (tree_of b c).label
  unfolding only_for
  entered-label b = ap (λ (t : Tree). t.label) (entered-tree b) ∙ picked (λ (t : Tree). t.label ≡ (tree_of b c).label) (same a b) (λ _. keeps-label (tree_of b c)) (λ _. refl)

  entered-use : (l : ℕ) → use_of l (entered c its) ≡ use_of l c
  unfolding use_of entered with_trees
  entered-use l = refl

  entered-sound : Sound (entered c its) gs
  entered-sound = record {
    tidy = entered-tidy c S.tidy its (unfold Proper in (its-size, ap element_refusal its-name ∙ good));
    low = unfold entered with_trees in S.low;
    high = unfold entered with_trees in S.high;
    many = unfold entered with_trees in S.many;
    linked = linked-eq _ _ _ _ entered-label entered-use S.linked;
    books = books-eq _ _ gs entered-use S.books;
    sum = unfold entered with_trees free_labels in S.sum;
    last = spent-eq c (entered c its) (unfold entered with_trees in refl) (unfold entered with_trees in refl) (λ e. unfold entered with_trees free_labels in e) S.last;
  }

  its-within : its-place < length (entered c its).trees
  unfolding its-place entered with_trees tree_place
  its-within = put-within (named its.name) c.trees its

  its-at : tree_at its-place (entered c its) ≡ its
  unfolding its-place tree_at entered with_trees tree_place
  its-at = get_d-put (named its.name) c.trees its (bare [])

  module _ (enough : need c its (holder_of c its) ≤ free_labels c) where
    entered-enough : need (entered c its) (tree_at its-place (entered c its)) (holder_of c its) ≤ free_labels (entered c its)
    entered-enough = rw its-at (unfold need held_for use_of free_labels entered with_trees in enough)

    relabelled : Moved
    relabelled = relabel its-place (holder_of c its) (entered c its)

    fine : Fine its-place (entered c its) gs relabelled
    unfolding relabelled
    fine = relabel-fine (entered c its) gs entered-sound its-place its-within (holder_of c its) (with-near c its) entered-enough

    bare-label : is_empty (tree_at its-place relabelled.card) ≡ true → (tree_at its-place relabelled.card).label ≡ 0
    unfolding holder_of relabelled
    bare-label e =
        let empty : is_empty its ≡ true = sym (shape-empty _ _ (fine.at its-place ∙ ap shape its-at)) ∙ e in
        relabel-none (entered c its) gs entered-sound its-place its-within (holder_of c its) (with-near c its) entered-enough (empty-asked c its empty)

    within-after : its-place < length relabelled.card.trees
    within-after = rw fine.size its-within

    swept-tree : (b : List ℕ) → tree_of b (swept its-place relabelled.card) ≡ tree_of b relabelled.card
    swept-tree b = one-swept-tree relabelled.card _ fine.sound its-place within-after bare-label b

    swept-sound : Sound (swept its-place relabelled.card) (note_all relabelled.sent gs)
    swept-sound = one-swept-sound relabelled.card _ fine.sound its-place within-after bare-label

    abbrev end : Card
    end = swept its-place relabelled.card

    end-routes : end.routes ≡ c.routes
    end-routes = swept-routes relabelled.card its-place ∙ fine.routes ∙ unfold entered with_trees in refl

    -- a tree at another place is as it was
    else-at : (k : ℕ) → k < length relabelled.card.trees → (its-place ≡ k → ⊥) → (k < length c.trees) × (tree_at k relabelled.card ≡ tree_at k c) × (held_for relabelled.card (tree_at k c) ≡ held_for c (tree_at k c))
    else-at k h d =
        let h₁ : k < length (entered c its).trees = rw fine.size at h in
        let old : (tree_at k (entered c its) ≡ tree_at k c) × (k < length c.trees) = was k h₁ d in (
          old.1,
          at_other (entered c its) gs entered-sound its-place its-within relabelled fine k h₁ d ∙ old.0,
          ap (held_for relabelled.card) (sym old.0) ∙ held-other (entered c its) gs entered-sound its-place its-within relabelled fine k h₁ d ∙ ap (held_for (entered c its)) old.0 ∙ held-entered (tree_at k c),
        )
      where
        was : (k : ℕ) → k < length (entered c its).trees → (its-place ≡ k → ⊥) → (tree_at k (entered c its) ≡ tree_at k c) × (k < length c.trees)
        was k h d = unfold its-place tree_at entered with_trees tree_place in put-other-at (named its.name) c.trees its (bare []) k d h

        held-entered : (t : Tree) → held_for (entered c its) t ≡ held_for c t
        held-entered t = unfold held_for use_of entered with_trees in refl

    end-held : (t : Tree) → held_for end t ≡ held_for relabelled.card t
    unfolding held_for
    end-held t = ap mapped_to (swept-use relabelled.card its-place t.label)

    -- the place itself
    here-held : held_for relabelled.card (tree_at its-place relabelled.card) ≡ holder_of end (tree_at its-place relabelled.card)
    here-held =
        let own : held_for relabelled.card (tree_at its-place relabelled.card) ≡ holder_of c its = unfold relabelled in relabel-own (entered c its) gs entered-sound its-place its-within (holder_of c its) (with-near c its) entered-enough in
        own
        ∙ holder-same c end its (tree_at its-place relabelled.card) (ap plains (sym end-routes)) (sym (fine.at its-place ∙ ap shape its-at))

    -- the trees are no more than before, but for one that is new
    size-after : length relabelled.card.trees ≡ length (put c.trees its-place its)
    unfolding its-place
    size-after = fine.size ∙ unfold entered with_trees in refl

    few-after : trees_full c its ≡ false → length c.trees ≤ tree_limit → length end.trees ≤ tree_limit
    unfolding swept with_trees trees_full stands its-place
    few-after full few =
        let more = put-more c.trees its-place its in
        let same-empty : is_empty (tree_at its-place relabelled.card) ≡ is_empty its = shape-empty _ _ (fine.at its-place ∙ ap shape its-at) in
        by-test (is_empty its)
        (λ e. rw (same-empty, e) (omega (arith, cut_in relabelled.card.trees its-place within-after, size-after)))
        (λ e. rw (same-empty, e) (rw size-after (by-test (ltb its-place (length c.trees))
        (λ k. rw (put_in c.trees its-place its (ltb-true _ _ k)) few)
        (λ k. let left = leb-false tree_limit (length c.trees) (rw (e, k) at full) in omega arith))))

    end-full : Ruled c → (j : ℕ) → j < length end.trees → is_empty (tree_at j end) ≡ false
    end-full R j h =
        let r = swept_at relabelled.card its-place j h in
        rw r.2 (by-test (eqb its-place r.0)
        (λ e. r.3 (eqb-true _ _ e))
        (λ e. let o = else-at r.0 r.1 (eqb-false _ _ e) in rw o.1 (R.full r.0 o.0)))

    end-right : Ruled c → (j : ℕ) → j < length end.trees → held_for end (tree_at j end) ≡ holder_of end (tree_at j end)
    end-right R j h =
        let r = swept_at relabelled.card its-place j h in
        rw r.2 (end-held (tree_at r.0 relabelled.card) ∙ by-test (eqb its-place r.0)
        (λ e. subst (λ (k : ℕ). held_for relabelled.card (tree_at k relabelled.card) ≡ holder_of end (tree_at k relabelled.card)) (eqb-true its-place r.0 e) here-held)
        (λ e. let o = else-at r.0 r.1 (eqb-false _ _ e) in
        rw o.1 (o.2 ∙ R.held r.0 o.0 ∙ holder-same c end (tree_at r.0 c) (tree_at r.0 c) (ap plains (sym end-routes)) refl)))

    -- and the tree is counted as it is now
    abbrev final : Card
    final = recounted (tree_of its.name c) its end

    final-plain : plains final.routes ≡ plains c.routes
    unfolding recounted with_routes
    final-plain = recount-plain (tree_of its.name c) its end.routes ∙ ap plains end-routes

    final-right : Ruled c → (j : ℕ) → j < length final.trees → held_for final (tree_at j final) ≡ holder_of final (tree_at j final)
    final-right R j h = held ∙ end-right R j (unfold recounted with_routes in h) ∙ holder-same end final (tree_at j end) (tree_at j final) (ap plains end-routes ∙ sym final-plain) (ap shape at)
      where
        at : tree_at j end ≡ tree_at j final
        at = unfold recounted with_routes tree_at in refl

        held : held_for final (tree_at j final) ≡ held_for end (tree_at j end)
        held = unfold recounted with_routes tree_at held_for use_of in refl

    end-total : (get : Route → ℕ) (w : Tree → ℕ) → Tally get w → (q : List ℕ) → total (in_root q w) end.trees + in_root q w (tree_of its.name c) ≡ total (in_root q w) c.trees + in_root q w its
    end-total get w T q =
        ap (λ (k : ℕ). k + in_root q w (tree_of its.name c)) (swept-total relabelled.card its-place get w T q ∙ same-shapes get w T q relabelled.card.trees (entered c its).trees fine.size (unfold tree_at in fine.at))
        ∙ unfold tree_of entered with_trees tree_place in with-another get w T q (named its.name) c.trees its its.name

    final-true : Ruled c → (get : Route → ℕ) (w : Tree → ℕ) → Tally get w → (q : List ℕ) → get (found q (worked_out final.trees (no_entry q)) final.routes) ≡ total (in_root q w) final.trees
    unfolding recounted with_routes entry_of route_place
    final-true R get w T q =
        let now : get (entry_of q c) ≡ total (in_root q w) c.trees = T.counted c q (R.counts q) in
        rw end-routes (one-true get w T (tree_of its.name c) its c.routes q c.trees end.trees (tree-name its.name c) R.trees (end-total get w T) now)

    ruled-after : trees_full c its ≡ false → Ruled c → Ruled final
    ruled-after full R = record {
      trees = unfold recounted with_routes in few-after full R.trees;
      routes = rw (plain-length final.routes c.routes final-plain) R.routes;
      roots = λ r. rw (plain-count final.routes c.routes final-plain r) (R.roots r);
      full = unfold recounted with_routes tree_at in end-full R;
      held = final-right R;
      counts = counted_of final (final-true R);
    }

    -- the place is that of a, from its entry to its sweep
    all_apart : Untouched a c end
    all_apart =
        let start-name : (tree_at its-place (entered c its)).name ≡ a = ap (λ (t : Tree). t.name) its-at ∙ its-name in
        let end-name : (tree_at its-place relabelled.card).name ≡ a = shape-name _ _ (fine.at its-place) ∙ start-name in
        untouched-then a c relabelled.card end
        (untouched-then a c (entered c its) relabelled.card
        (subst (λ (x : List ℕ). Untouched x c (entered c its)) its-name (entered-untouched c its))
        (subst (λ (x : List ℕ). Untouched x (entered c its) relabelled.card) start-name fine.apart))
        (subst (λ (x : List ℕ). Untouched x relabelled.card end) end-name (swept-untouched relabelled.card its-place))

    entered-follows : trees_full c its ≡ false → (first : List Sent) → Quiet gs first → Follows c gs (only_for a f) (Untouched a c) (first ++ relabelled.sent) final
    unfolding Quiet
    entered-follows full first q = record {
      sound = rw (note-append first relabelled.sent gs, q.0) (unfold recounted in routes-sound end _ swept-sound _);
      fair = none-append first relabelled.sent gs q.1 (rw q.0 fine.fair);
      ends = mapped-append first relabelled.sent gs q.3 (rw q.0 fine.ends);
      said = sendable-append first relabelled.sent q.2 fine.said;
      shapes = λ b. ap shape (final-tree b ∙ swept-tree b) ∙ fine.shapes b ∙ ap shape (entered-tree b);
      apart = record { trees = unfold recounted with_routes in all_apart.trees; uses = unfold recounted with_routes use_of in all_apart.uses };
      ruled = ruled-after full;
    }
      where
        final-tree : (b : List ℕ) → tree_of b final ≡ tree_of b end
        final-tree b = unfold recounted with_routes tree_of tree_place in refl

  pub enter-keeps : (first : List Sent) → Quiet gs first → tree_refusal c (f (tree_of a c)) ≡ 0 → Keeps c gs (only_for a f) (Untouched a c) (enter c first (f (tree_of a c)))
  unfolding tree_refusal labels_short its enter Keeps relabelled its-place
  enter-keeps first q e = let r = no-when 10 _ _ e in entered-follows (ltb-false _ _ (no-when 11 _ 0 r.1).0) r.0 first q

  pub become-keeps : (first : List Sent) → Quiet gs first → Keeps c gs (only_for a f) (Untouched a c) (become c first (f (tree_of a c)))
  unfolding become
  become-keeps first q = unless-keeps c gs _ _ _ _ (enter-keeps first q)

-- ---- messages

size-branch : (n l : ℕ) (t : Tree) → length (with_branch n l t).branches ≡ length t.branches
unfolding with_branch
size-branch n l t = length-set t.branches n l

pub less-name : (n l : ℕ) (t : Tree) → (less_branch n l t).name ≡ t.name
unfolding less_branch with_branch
less-name n l t = picked (λ (x : Tree). x.name ≡ t.name) (eqb (branch t n) l) (λ _. refl) (λ _. refl)

pub less-label : (n l : ℕ) (t : Tree) → (less_branch n l t).label ≡ t.label
unfolding less_branch with_branch
less-label n l t = picked (λ (x : Tree). x.label ≡ t.label) (eqb (branch t n) l) (λ _. refl) (λ _. refl)

less-size : (n l : ℕ) (t : Tree) → length (less_branch n l t).branches ≡ length t.branches
unfolding less_branch
less-size n l t = picked (λ (x : Tree). length x.branches ≡ length t.branches) (eqb (branch t n) l) (λ _. size-branch n 0 t) (λ _. refl)

pub awaiting-eq : (n : ℕ) (a : List ℕ) (u : Use) → is_awaiting n a u ≡ true → u ≡ awaiting n a
unfolding is_awaiting
awaiting-eq n a free e = cc
awaiting-eq n a (mapped k t) e = cc
awaiting-eq n a (awaiting k t) e =
    by-test (eqb k n)
    (λ h. ap₂ awaiting (eqb-true k n h) (same-eq t a (rw h at e)))
    (λ h. let z : false ≡ true = rw h at e in cc)

either : {X : Type 0} (b : Bool) (x : X) → x ≡ pick b x x
either true x = refl
either false x = refl

freed-free : (c : Card) (l : ℕ) → is_free (get_or c.labels (l - c.base) free) ≡ false → l - c.base < length c.labels → free_labels (set_use l free c) ≡ suc (free_labels c)
unfolding free_labels set_use with_labels is_free
freed-free c l old within = count-new is_free c.labels (l - c.base) free free old refl within

freed-tree : (c : Card) (l : ℕ) (b : List ℕ) → tree_of b (set_use l free c) ≡ tree_of b c
unfolding tree_of tree_place set_use with_labels
freed-tree c l b = refl

module _ (c : Card) (gs : List Given) (S : Sound c gs) where
  -- a Release that is taken: the label is free
  freed-sound : (n k : ℕ) (a : List ℕ) (l : ℕ) → is_awaiting n a (use_of l c) ≡ true → Sound (set_use l free c) (remove n (record { kind = k; name = a; label = l }) gs)
  unfolding is_free
  freed-sound n k a l w =
      let us : use_of l c ≡ awaiting n a = awaiting-eq n a (use_of l c) w in
      let block : (c.base ≤ l) × (l - c.base < length c.labels) = in_block c l (ap is_free us) in
      let uses : (x : ℕ) → use_of x (set_use l free c) ≡ upd (λ (y : ℕ). use_of y c) l free x = use-after c l free block.0 block.1 in
      let fewer = books-removed _ gs S.books a l n k us in
      let old : is_free (get_or c.labels (l - c.base) free) ≡ false = ap is_free (sym (use-place c l block.0) ∙ us) in
      let more : free_labels (set_use l free c) ≡ suc (free_labels c) = freed-free c l old block.1 in
      record {
        tidy = unfold set_use with_labels in S.tidy;
        low = unfold set_use with_labels in S.low;
        high = unfold set_use with_labels in S.high;
        many = unfold set_use with_labels in length-set c.labels (l - c.base) free ∙ S.many;
        linked = linked-eq _ _ _ _ (λ b. ap (λ (t : Tree). t.label) (freed-tree c l b)) uses (free-linked _ _ S.linked l n a w);
        books = books-eq _ _ _ uses (books-remove _ gs S.books a l n k us);
        sum = omega (arith, S.sum);
        last = spent-eq c (set_use l free c) (unfold set_use with_labels in refl) (unfold set_use with_labels in refl) (λ e. absurd (omega (arith, S.sum))) S.last;
      }

  -- no tree carries a label that awaits release
  freed-held : (n : ℕ) (a : List ℕ) (l : ℕ) → is_awaiting n a (use_of l c) ≡ true → (j : ℕ) → j < length c.trees → held_for (set_use l free c) (tree_at j c) ≡ held_for c (tree_at j c)
  unfolding held_for is_free mapped_to
  freed-held n a l w j h =
      let us : use_of l c ≡ awaiting n a = awaiting-eq n a (use_of l c) w in
      let block : (c.base ≤ l) × (l - c.base < length c.labels) = in_block c l (ap is_free us) in
      ap mapped_to (use-after c l free block.0 block.1 (tree_at j c).label)
      ∙ by-test (eqb l (tree_at j c).label)
      (λ e. rw e (sym (ap mapped_to (ap (λ (x : ℕ). use_of x c) (sym (eqb-true l (tree_at j c).label e)) ∙ us))))
      (λ e. rw e refl)

  freed-ruled : (n k : ℕ) (a : List ℕ) (l : ℕ) → is_awaiting n a (use_of l c) ≡ true → Ruled c → Ruled (set_use l free c)
  freed-ruled n k a l w R = record {
    roots = unfold set_use with_labels in R.roots;
    trees = unfold set_use with_labels in R.trees;
    routes = unfold set_use with_labels in R.routes;
    full = unfold set_use with_labels tree_at in R.full;
    counts = λ q. counted_same c (set_use l free c) (unfold set_use with_labels in refl) (unfold set_use with_labels in refl) q (R.counts q);
    held = λ j h. ap (held_for (set_use l free c)) (freed-at j) ∙ freed-held n a l w j (unfold set_use with_labels in h) ∙ R.held j (unfold set_use with_labels in h) ∙ holder-same c (set_use l free c) (tree_at j c) (tree_at j (set_use l free c)) (ap plains (unfold set_use with_labels in refl)) (ap shape (sym (freed-at j)));
  }
    where
      freed-at : (j : ℕ) → tree_at j (set_use l free c) ≡ tree_at j c
      freed-at j = unfold tree_at set_use with_labels in refl

  freed-apart : (n : ℕ) (a : List ℕ) (l : ℕ) → is_awaiting n a (use_of l c) ≡ true → Untouched a c (set_use l free c)
  freed-apart n a l w =
      let us : use_of l c ≡ awaiting n a = awaiting-eq n a (use_of l c) w in
      let block : (c.base ≤ l) × (l - c.base < length c.labels) = in_block c l (ap is_free us ∙ unfold is_free in refl) in
      used-untouched a c l free block.0 block.1 (sym (ap (use_but a) us ∙ own-awaiting n a ∙ unfold use_but in refl))

  release-keeps : (n k : ℕ) (a : List ℕ) (l : ℕ) → Keeps c (remove n (record { kind = k; name = a; label = l }) gs) (λ b x. x) (Untouched a c) (on_release c n a l)
  unfolding on_release not_awaited
  release-keeps n k a l =
      unless-keeps c _ _ _ _ (taken [] (set_use l free c))
      (λ e. unfold Keeps in record {
        sound = unfold note_all in freed-sound n k a l (not-false _ (no-when 12 _ 0 e).0);
        fair = unfold NoneLive in tt;
        ends = unfold AllMapped in tt;
        said = unfold AllSendable in tt;
        shapes = λ b. ap shape (freed-tree c l b);
        apart = freed-apart n a l (not-false _ (no-when 12 _ 0 e).0);
        ruled = freed-ruled n k a l (not-false _ (no-when 12 _ 0 e).0);
      })

  mapping-keeps : (n : ℕ) (a : List ℕ) (l : ℕ) → Heard n a l → Keeps c gs (only_for a (with_branch n l)) (Untouched a c) (on_mapping c n a l)
  unfolding on_mapping
  mapping-keeps n a l g = unless-keeps c gs _ _ _ _ (λ _. become-keeps c gs S a g.name (with_branch n l) (λ t. unfold with_branch in refl) (λ t. unfold with_branch in refl) (size-branch n l) [] (none-quiet gs))

  withdraw-keeps : (n : ℕ) (a : List ℕ) (l : ℕ) → Heard n a l → Keeps c gs (only_for a (less_branch n l)) (Untouched a c) (on_withdraw c n a l)
  unfolding on_withdraw
  withdraw-keeps n a l g = become-keeps c gs S a g.name (less_branch n l) (less-name n l) (less-label n l) (less-size n l) _ (release-quiet gs n a l g)

  message-keeps : (n : ℕ) (m : Message) → Heard n m.name m.label → Keeps c (pick (eqb m.kind release) (remove n m gs) gs) (only_for m.name (by_message n m)) (Untouched m.name c) (on_message c n m)
  unfolding on_message only_for by_message
  message-keeps n m g =
      by-test (eqb m.kind mapping)
      (λ e. rw (e, ne_eqb m.kind release (λ k. omega (arith, eqb-true m.kind mapping e)))
      (keeps-eq c gs (only_for m.name (with_branch n m.label)) (only_for m.name (by_message n m)) _ _ (λ b t. rw e refl) (mapping-keeps n m.name m.label g)))
      (λ e. by-test (eqb m.kind withdraw)
      (λ k. rw (e, k, ne_eqb m.kind release (λ k'. omega (arith, eqb-true m.kind withdraw k)))
      (keeps-eq c gs (only_for m.name (less_branch n m.label)) (only_for m.name (by_message n m)) _ _ (λ b t. rw (e, k) refl) (withdraw-keeps n m.name m.label g)))
      (λ k. by-test (eqb m.kind release)
      (λ r. rw (e, k, r) (keeps-eq c (remove n m gs) (λ b t. t) (only_for m.name (by_message n m)) _ _ (λ b t. rw (e, k) (either (same m.name b) t)) (release-keeps n m.kind m.name m.label)))
      (λ r. rw (e, k, r) (refused-keeps c gs (only_for m.name (by_message n m)) _ 2))))

  -- ---- the route order

  routed : (r : List ℕ) (via : ℕ) (m : Moved) → Kept c gs m → (Ruled c → Ruled (with_routes (routes_with c r via) m.card)) → Follows c gs (λ b x. x) (λ _. Unit {0}) m.sent (with_routes (routes_with c r via) m.card)
  routed r via m k rl = record {
    sound = routes-sound m.card _ k.sound (routes_with c r via);
    fair = k.fair;
    ends = k.ends;
    said = k.said;
    shapes = λ b. unfold with_routes tree_of tree_place in k.shapes b;
    apart = tt;
    ruled = rl;
  }

  moved_keeps : (r : List ℕ) (via : ℕ) → route_refusal c r via ≡ 0 → Keeps c gs (λ b x. x) (λ _. Unit {0}) (re_route c r via)
  unfolding re_route Keeps route_refusal
  moved_keeps r via e =
      let full = no-when 14 _ _ e in
      let enough : need_all r (upstream via) c ≤ free_labels c = enough-labels c r via e in
      routed r via (move_all r (upstream via) c) (all-kept r (upstream via) (upstream-near via) c gs S enough) (λ R. route-ruled c gs S R r via (upstream-near via) enough full.0)

  route-keeps : (r : List ℕ) (via : ℕ) → Keeps c gs (λ b x. x) (λ _. Unit {0}) (on_route c r via)
  unfolding on_route
  route-keeps r via =
      unless-keeps c gs _ _ _ _
      (λ _. picked (Keeps c gs (λ b x. x) (λ _. Unit {0})) (eqb (route_of r c) via)
      (λ _. unfold Keeps note_all NoneLive AllMapped AllSendable in record { sound = S; fair = tt; ends = tt; said = tt; shapes = λ b. refl; apart = tt; ruled = λ R. R })
      (λ _. unless-keeps c gs _ _ (route_refusal c r via) (re_route c r via) (moved_keeps r via)))

  -- ---- the loss of a neighbour

  lost-keeps : (n : ℕ) → n < neighbour_count → Keeps c (without n gs) (λ b x. with_branch n 0 x) (λ _. Unit {0}) (part c n)
  unfolding part Keeps
  lost-keeps n near = record {
    sound = (loss-swept n c gs S).sound;
    fair = (loss-kept n c gs S).fair;
    ends = (loss-kept n c gs S).ends;
    said = (loss-kept n c gs S).said;
    shapes = loss-shapes n c gs S;
    apart = tt;
    ruled = loss-ruled n c gs S near;
  }

  -- ---- every event

  pub event-keeps : (e : Event) → Keeps c (note_taken e gs) (became e) (Apart e c) (outcome c e)
  unfolding outcome note_taken became Apart on_octets on_join on_leave on_lost only_for no_neighbour
  event-keeps (receive n s) = unless-keeps c _ _ _ _ _ (λ z. unless-keeps c _ _ _ _ _ (λ e. message-keeps n (message_in s) (heard n s (suc-le-suc (ltb-false 15 n (no-when 0 _ 0 z).0)) e)))
  event-keeps (join e) = unless-keeps c gs _ _ _ _ (λ ok. become-keeps c gs S e ok (with_leaf true) (λ t. unfold with_leaf in refl) (λ t. unfold with_leaf in refl) (λ t. unfold with_leaf in refl) [] (none-quiet gs))
  event-keeps (leave e) = unless-keeps c gs _ _ _ _ (λ ok. unless-keeps c gs _ _ _ _ (λ fits. unless-keeps c gs _ _ _ _ (λ _. enter-keeps c gs S e ok (with_leaf false) (λ t. unfold with_leaf in refl) (λ t. unfold with_leaf in refl) (λ t. unfold with_leaf in refl) [] (none-quiet gs) fits)))
  event-keeps (route r via) = route-keeps r via
  event-keeps (lost n) = unless-keeps c _ _ _ _ _ (λ z. lost-keeps n (suc-le-suc (ltb-false 15 n (no-when 0 _ 0 z).0)))

unless-awaited : (c : Card) (n : ℕ) (m : Message) (k : ℕ) (o : Outcome) → (k ≡ 0 → Awaited c n m o) → Awaited c n m (unless k o)
unfolding unless Awaited
unless-awaited c n m zero o h = h refl
unless-awaited c n m (suc k) o h = λ z. omega arith

release-awaited : (c : Card) (n : ℕ) (m : Message) → m.kind ≡ release → Awaited c n m (on_message c n m)
unfolding on_message on_release not_awaited
release-awaited c n m e =
    rw (ne_eqb m.kind mapping (λ k. omega arith), ne_eqb m.kind withdraw (λ k. omega arith), eq-eqb m.kind release e)
    (unless-awaited c n m _ _ (λ z. unfold Awaited in not-false _ (no-when 12 _ 0 z).0))

pub heard-awaited : (c : Card) (n : ℕ) (s : List ℕ) → (message_in s).kind ≡ release → Awaited c n (message_in s) (outcome c (receive n s))
unfolding outcome on_octets
heard-awaited c n s e = unless-awaited c n _ _ _ (λ _. unless-awaited c n _ _ _ (λ _. release-awaited c n (message_in s) e))

unless-meets : (c : Card) (e : Event) (k : ℕ) (o : Outcome) → (k ≡ 0 → Meets c e o) → Meets c e (unless k o)
unfolding unless Meets
unless-meets c e zero o h = h refl
unless-meets c e (suc k) o h = tt

admitted : (c : Card) (e : Event) → Admits c e → (o : Outcome) → Meets c e o
unfolding Meets
admitted c e a (refused k) = tt
admitted c e a (taken ms after) = a

heard-admits : (c : Card) (n : ℕ) (s : List ℕ) → Heard n (message_in s).name (message_in s).label → ((message_in s).kind ≡ mapping → other_label (tree_of (message_in s).name c) n (message_in s).label ≡ false) → Admits c (receive n s)
unfolding Admits
heard-admits c n s g none = (g.near, g.low, none)

heard-meets : (c : Card) (n : ℕ) (s : List ℕ) → Heard n (message_in s).name (message_in s).label → Meets c (receive n s) (on_message c n (message_in s))
unfolding on_message on_mapping
heard-meets c n s g =
    picked (Meets c (receive n s)) (eqb (message_in s).kind mapping)
    (λ _. unless-meets c (receive n s) _ _ (λ z. admitted c (receive n s) (heard-admits c n s g (λ _. (no-when 9 _ 0 z).0)) _))
    (λ e. admitted c (receive n s) (heard-admits c n s g (λ k. absurd (eqb-false _ _ e k))) _)

pub event-meets : (c : Card) (e : Event) → Meets c e (outcome c e)
unfolding outcome on_octets no_neighbour
event-meets c (receive n s) = unless-meets c _ _ _ (λ z. unless-meets c _ _ _ (λ e. heard-meets c n s (heard n s (suc-le-suc (ltb-false 15 n (no-when 0 _ 0 z).0)) e)))
event-meets c (join e) = admitted c (join e) (unfold Admits in tt) _
event-meets c (leave e) = admitted c (leave e) (unfold Admits in tt) _
event-meets c (route r via) = admitted c (route r via) (unfold Admits in tt) _
event-meets c (lost n) = admitted c (lost n) (unfold Admits in tt) _
