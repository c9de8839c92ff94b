-- The save over a history: every table that a history leaves keeps the rules in force, so that its save, where 19 does not refuse it, is taken; and demand 3 continues over a card swap.
-- Assumes nothing.
use Prim.Native.Nat.{ℕ, ◌+◌, ◌≤◌, ◌<◌}
use Rattle.std.proofs.Math.Nat.{add-sub_cancel_left}
use native.Mathlib.Omega.{arith}
use Rattle.std.specs.Prelude.{◌≡◌, Bool, true, false, ◌&&◌, List, [], ◌∷◌, get_or, length, eqb, ltb}
use Rattle.std.proofs.Math.Path.{refl, ap, subst}
use Rattle.std.proofs.Common.{sym, ◌∙◌}
use borrow.Author.Tests.{eqb-false, eq-eqb, le-leb, lt-ltb, ltb-false, eqb-true}
use Rattle.meaning.specs.Octets.{same, all}
use Rattle.meaning.specs.Wire.{mapping, withdraw, message_in, element_refusal, least_label, most_label}
use Rattle.meaning.specs.Card.{Tree, Use, free, mapped, awaiting, Card, fresh, with_next, bare, tree_of, tree_at, is_branch, is_empty, use_of, with_last, tree_place, held_for, free_labels, route_of, route_place, neighbour_count, label_count}
use Rattle.meaning.specs.Events.{Out, refuse, accept, Event, receive, join, leave, route, base_outside, start, holder_of, lost}
use Rattle.meaning.specs.Lists.{by-test, picked, same_refl}
use Rattle.meaning_save.specs.Save.{Form, old, new, is_name, is_branch_label, is_tree, is_use, is_carried, is_mapped_for, carries_own, keeps_rules, saved, restore, fits_save, settled, carried_by, last_right, ruled, Moved, move}
use Rattle.meaning_laws.specs.SaveFields.{all_cons}
use Rattle.meaning_laws.specs.RoundTrip.{both}
use Rattle.meaning_laws.specs.SaveRules.{all_of, Rules, rules-kept}
use Rattle.meaning_laws.specs.SaveLaws.{fits-any, restored, highest-none, highest-block}
use Rattle.meaning_laws.specs.SaveMoves.{Taken, move_taken, moved-restored}
use Rattle.meaning_laws.specs.Counts.{counted_same}
use Rattle.meaning_laws.specs.SaveCounts.{counted-right}
use Rattle.promise.specs.Promise.{Given, of_label, without_label, said_by, branches_said, Step, Past, then_steps, begun, history, Each, Promise}
use Rattle.promise.specs.LiveLaws.{is_mapped, only, givens, Books}
use Rattle.promise.specs.CardLaws.{Proper}
use Rattle.promise.proofs.CardLaws.{at-proper, at_named}
use Rattle.promise.specs.PromiseProof.{listed, Upheld}
use Rattle.promise.proofs.PromiseProof.{steps-upheld, started, history-upheld, kept}
use Rattle.promise.specs.LabelLaws.{Spent}
use Rattle.promise.specs.SaveSteps.{Passed, AllPassed, Told, Writable}
use Rattle.promise.proofs.SaveSteps.{steps-writable}
use Rattle.promise.specs.SaveKept.{swapped, carried_on, moved_over, carried}

-- ---- branches: each is the label of an accepted Mapping

label-good : (l : ℕ) → least_label ≤ l → l ≤ most_label → is_branch_label l ≡ true
unfolding is_branch_label
label-good l low high = by-test (eqb l 0) (λ e. rw e refl) (λ e. rw (e, le-leb least_label l low, le-leb l most_label high) refl)

all_without : (t : ℕ → Bool) (l : ℕ) (ls : List ℕ) → all t ls ≡ true → all t (without_label l ls) ≡ true
unfolding all without_label
all_without t l [] h = refl
all_without t l (k ∷ ks) h =
    let r = all_cons t k ks h in
    picked (λ (x : List ℕ). all t x ≡ true) (eqb k l) (λ _. all_without t l ks r.1) (λ _. unfold all in rw r.0 (all_without t l ks r.1))

said-good : (a : List ℕ) (n : ℕ) (es : List Event) → AllPassed es → all is_branch_label (branches_said a n es) ≡ true
unfolding branches_said AllPassed Passed said_by all
said-good a n [] h = refl
said-good a n (receive from s ∷ es) h =
    let before = said-good a n es h.1 in
    let good : List ℕ → Type 0 = λ ls. all is_branch_label ls ≡ true in
    let ended : good (without_label (message_in s).label (branches_said a n es)) = all_without is_branch_label (message_in s).label (branches_said a n es) before in
    picked good (eqb from n && same (message_in s).name a)
    (λ _. picked good (eqb (message_in s).kind mapping)
    (λ _. rw (label-good (message_in s).label h.0.low h.0.high) ended)
    (λ _. picked good (eqb (message_in s).kind withdraw) (λ _. ended) (λ _. before)))
    (λ _. before)
said-good a n (join e ∷ es) h = said-good a n es h.1
said-good a n (leave e ∷ es) h = said-good a n es h.1
said-good a n (route r via ∷ es) h = said-good a n es h.1
said-good a n (lost k ∷ es) h = picked (λ (ls : List ℕ). all is_branch_label ls ≡ true) (eqb k n) (λ _. unfold all in refl) (λ _. said-good a n es h.1)

-- and so is what stands in a tree's place
place-good : (l : ℕ) → all is_branch_label (listed l) ≡ true → is_branch_label l ≡ true
unfolding listed is_branch
place-good l h =
    by-test (ltb 0 l)
    (λ e. (all_cons is_branch_label l [] (rw e at h)).0)
    (λ e. rw (le-zero l (ltb-false 0 l e)) (unfold is_branch_label in refl))
  where
    le-zero : (k : ℕ) → k ≤ 0 → k ≡ 0
    le-zero k z = omega arith

is-tree : (t : Tree) → element_refusal t.name ≡ 0 → length t.branches ≡ neighbour_count → all is_branch_label t.branches ≡ true → is_empty t ≡ false → is_tree t ≡ true
unfolding is_tree is_name
is-tree t ok sixteen good full = rw (eq-eqb (element_refusal t.name) 0 ok, eq-eqb (length t.branches) neighbour_count sixteen, good, full) refl

-- ---- uses: each is a live label's

each-with : (P : Given → Type 0) (l : ℕ) (gs : List Given) → Each P gs → Each P (only l gs)
unfolding Each only
each-with P l [] h = tt
each-with P l (g ∷ gs) h = picked (Each P) (of_label l g) (λ _. unfold Each in (h.0, each-with P l gs h.1)) (λ _. each-with P l gs h.1)

is-use : (l : ℕ) (u : Use) → Each Told (givens l u) → is_use u ≡ true
unfolding is_use is_name givens Each Told
is-use l free h = refl
is-use l (mapped n a) h = rw (lt-ltb n neighbour_count h.0.0, eq-eqb (element_refusal a) 0 h.0.1) refl
is-use l (awaiting n a) h = rw (lt-ltb n neighbour_count h.0.0, eq-eqb (element_refusal a) 0 h.0.1) refl

pub mapped-same : (a : List ℕ) (u : Use) → is_mapped_for a u ≡ is_mapped a u
unfolding is_mapped_for is_mapped
mapped-same a free = refl
mapped-same a (mapped n b) = refl
mapped-same a (awaiting n b) = refl

is_carried_lem : (c : Card) (l : ℕ) (u : Use) → ((a : List ℕ) → is_mapped a u ≡ true → (tree_of a c).label ≡ l) → is_carried c l u ≡ true
unfolding is_carried is_mapped
is_carried_lem c l free h = refl
is_carried_lem c l (mapped n a) h = eq-eqb _ _ (h a (same_refl a))
is_carried_lem c l (awaiting n a) h = refl

use-there : (c : Card) (i : ℕ) → use_of (c.base + i) c ≡ get_or c.labels i free
unfolding use_of
use-there c i = rw (le-leb c.base (c.base + i) (omega arith), add-sub_cancel_left c.base i) refl

-- ---- the rules

module _ (p : Past) (u : Upheld p) (w : Writable p) where
  tree-good : (i : ℕ) → i < length p.card.trees → is_tree (tree_at i p.card) ≡ true
  tree-good i h =
      let t : Tree = tree_at i p.card in
      let proper : (length t.branches ≡ neighbour_count) × (element_refusal t.name ≡ 0) = unfold Proper in at-proper p.card i u.sound.tidy h in
      let its : (n : ℕ) → branches_said t.name n p.accepted ≡ listed (get_or t.branches n 0) = λ n. (u.reads t.name).said n ∙ ap (λ (x : Tree). listed (get_or x.branches n 0)) (at_named p.card u.sound.tidy i h) in
      is-tree t proper.1 proper.0 (all_of is_branch_label t.branches 0 (λ n _. place-good _ (rw (its n) at (said-good t.name n p.accepted w.passed)))) (u.ruled.full i h)

  use-good : (i : ℕ) → is_use (get_or p.card.labels i free) ≡ true
  unfolding Books
  use-good i =
      let l : ℕ = p.card.base + i in
      is-use l _ (subst (λ (x : Use). Each Told (givens l x)) (use-there p.card i) (subst (Each Told) (u.sound.books l) (each-with Told l p.live w.told)))

  carried-good : (i : ℕ) → is_carried p.card (p.card.base + i) (get_or p.card.labels i free) ≡ true
  carried-good i = is_carried_lem p.card (p.card.base + i) _ (λ a e. u.sound.linked.led a (p.card.base + i) (ap (is_mapped a) (use-there p.card i) ∙ e))

  own-good : (i : ℕ) → i < length p.card.trees → carries_own p.card (tree_at i p.card) ≡ true
  unfolding carries_own
  own-good i h =
      let t : Tree = tree_at i p.card in
      let its : (tree_of t.name p.card).label ≡ t.label = ap (λ (x : Tree). x.label) (at_named p.card u.sound.tidy i h) in
      by-test (eqb t.label 0)
      (λ e. rw e refl)
      (λ e. rw e (mapped-same t.name (use_of t.label p.card) ∙ subst (λ (l : ℕ). is_mapped t.name (use_of l p.card) ≡ true) its (u.sound.linked.own t.name (λ z. eqb-false _ _ e (sym its ∙ z)))))

  rules-hold : Rules p.card
  rules-hold = record {
    low = u.sound.low;
    high = u.sound.high;
    next = w.next;
    few-routes = u.ruled.routes;
    few-trees = u.ruled.trees;
    many = u.sound.many;
    routes = w.routes;
    roots = u.ruled.roots;
    trees = all_of is_tree p.card.trees (bare []) (unfold tree_at in tree-good);
    names = u.sound.tidy.once;
    uses = all_of is_use p.card.labels free (λ i _. use-good i);
    carried = λ i _. carried-good i;
    own = own-good;
    held = u.ruled.held;
    counts = counted-right p.card u.ruled.roots u.ruled.counts;
  }

  pub past-keeps-rules : keeps_rules p.card ≡ true
  past-keeps-rules = rules-kept p.card rules-hold

-- ---- a history

pub start-writable : (base : ℕ) → Writable (begun base)
unfolding start accept refuse with_next fresh all AllPassed Each
start-writable base =
    by-test (base_outside base)
    (λ e. rw e (record { next = omega arith; routes = refl; passed = tt; told = tt }))
    (λ e. rw e (record { next = omega arith; routes = refl; passed = tt; told = tt }))

pub history-writable : (base : ℕ) (steps : List Step) → Writable (history base steps)
unfolding history
history-writable base steps = steps-writable _ steps (started base) (start-writable base)

-- After any history the table keeps the rules in force, and so its save is taken, where there is one.
pub history-keeps-rules : (base : ℕ) (steps : List Step) → keeps_rules (history base steps).card ≡ true
history-keeps-rules base steps = past-keeps-rules (history base steps) (history-upheld base steps) (history-writable base steps)

-- After any history the last label given is of the block, and none only while no label is in use.
spent-right : (c : Card) → Spent c → last_right c ≡ true
unfolding last_right
spent-right c s =
    by-test (eqb c.last 0)
    (λ e. rw e (eq-eqb _ _ (s.none (eqb-true _ _ e))))
    (λ e. let p = s.block (eqb-false _ _ e) in rw (e, le-leb c.base c.last p.0, lt-ltb c.last (c.base + 256) p.1) refl)

pub history-last : (base : ℕ) (steps : List Step) → last_right (history base steps).card ≡ true
history-last base steps = spent-right (history base steps).card (history-upheld base steps).sound.last

-- So it keeps the rules that either form asks for.
pub past-ruled : (p : Past) → Upheld p → Writable p → (f : Form) → ruled f p.card ≡ true
unfolding ruled
past-ruled p u w old = past-keeps-rules p u w
past-ruled p u w new = rw (past-keeps-rules p u w, spent-right p.card u.sound.last) refl

pub history-ruled : (base : ℕ) (steps : List Step) (f : Form) → ruled f (history base steps).card ≡ true
history-ruled base steps = past-ruled (history base steps) (history-upheld base steps) (history-writable base steps)

pub swapped_same : (f : Form) (p : Past) → ruled f p.card ≡ true → (d : Card) → swapped f p d ≡ carried_on f p
unfolding swapped carried_on
swapped_same f p h d =
    by-test (fits_save f p.card)
    (λ e. rw (e, restored f p.card h e d) refl)
    (λ e. rw e refl)

-- By the new form nothing is lost.
pub carried-on-new : (p : Past) → carried_on new p ≡ p
unfolding carried_on carried_by
carried-on-new p = rw (fits-any p.card) refl

settled-spent : (c : Card) → least_label ≤ c.base → length c.labels ≡ label_count → Spent (settled c)
unfolding settled with_last free_labels
settled-spent c low many = record {
  none = λ z. highest-none c.base c.labels (omega arith) z ∙ many;
  block = λ z. let p = highest-block c.base c.labels z in (p.0, omega (arith, p.1));
}

pub carried-upheld : (f : Form) (p : Past) → Upheld p → Upheld (carried f p)
unfolding carried carried_by settled with_last tree_of tree_place use_of free_labels
carried-upheld old p u = record {
  sound = record { tidy = u.sound.tidy; low = u.sound.low; high = u.sound.high; many = u.sound.many; linked = u.sound.linked; books = u.sound.books; sum = u.sound.sum; last = unfold settled with_last in settled-spent p.card u.sound.low u.sound.many };
  reads = u.reads;
  ruled = unfold tree_at held_for holder_of route_of route_place in record { roots = u.ruled.roots; full = u.ruled.full; held = u.ruled.held; trees = u.ruled.trees; routes = u.ruled.routes; counts = λ q. counted_same p.card _ refl refl q (u.ruled.counts q) };
  routed = λ q. unfold route_of route_place in u.routed q;
}
carried-upheld new p u = u

pub carried-writable : (f : Form) (p : Past) → Writable p → Writable (carried f p)
unfolding carried carried_by settled with_last
carried-writable old p w = record { next = w.next; routes = w.routes; passed = w.passed; told = w.told }
carried-writable new p w = w

-- Whatever holds of a past, and of it with what the form carries, holds after a swap,
pub either_way : (P : Past → Type 0) (f : Form) (p : Past) → P p → P (carried f p) → P (carried_on f p)
unfolding carried_on carried
either_way P f p stays goes = by-test (fits_save f p.card) (λ e. rw e goes) (λ e. rw e stays)

-- and with what both carry, after a swap with a move on the way.
moved-card : (f g : Form) (room : ℕ) (c d : Card) → ruled f c ≡ true → fits_save f c ≡ true → (move f g room (saved f c)).answer ≡ 0 → (restore g (move f g room (saved f c)).octets d).card ≡ carried_by g (carried_by f c)
moved-card f g room c d h s e =
    let o : List ℕ = saved f c in
    let t : Taken f g room o = move_taken f g room o e in
    ap (λ (r : Out). r.card) (moved-restored f g o t.save t.fits room t.short d) ∙ ap (λ (r : Out). carried_by g r.card) (restored f c h s d)

pub moved-way : (P : Past → Type 0) (f g : Form) (room : ℕ) (p : Past) → ruled f p.card ≡ true → P p → P (carried g (carried f p)) → (d : Card) → P (moved_over f g room p d)
unfolding moved_over carried
moved-way P f g room p h stays goes d =
    let c : Card = p.card in
    let m : Moved = move f g room (saved f c) in
    picked (λ (k : Card). P (record { card = k; live = p.live; accepted = p.accepted })) (fits_save f c && eqb m.answer 0)
    (λ e. let q = both (fits_save f c) (eqb m.answer 0) e in
    subst (λ (k : Card). P (record { card = k; live = p.live; accepted = p.accepted })) (sym (moved-card f g room c d h q.0 (eqb-true _ _ q.1))) goes)
    (λ _. stays)

pub swap-upheld : (f : Form) (p : Past) → Upheld p → ruled f p.card ≡ true → (d : Card) → Upheld (swapped f p d)
swap-upheld f p u h d = rw (swapped_same f p h d) (either_way Upheld f p u (carried-upheld f p u))

-- the promise, over a swap and all further steps
pub swap-kept : (f : Form) (p : Past) → Upheld p → ruled f p.card ≡ true → (d : Card) (more : List Step) → Promise (then_steps (swapped f p d) more)
swap-kept f p u h d more = kept (then_steps (swapped f p d) more) (steps-upheld (swapped f p d) more (swap-upheld f p u h d))

-- DEMAND 3 CONTINUES: after any history, a save, its restore on another card, and any further steps.
pub promise-continues : (f : Form) (base : ℕ) (steps : List Step) (d : Card) (more : List Step) → Promise (then_steps (swapped f (history base steps) d) more)
promise-continues f base steps d more = swap-kept f (history base steps) (history-upheld base steps) (history-ruled base steps f) d more

-- The save of a table after any history, where its values have their space, is read back as that table, in the old form but for the last label given.
pub history-restored : (f : Form) (base : ℕ) (steps : List Step) (d : Card) → fits_save f (history base steps).card ≡ true → restore f (saved f (history base steps).card) d ≡ record { answer = 0; octets = []; card = carried_by f (history base steps).card }
history-restored f base steps d s = restored f (history base steps).card (history-ruled base steps f) s d

-- And what follows is what would have followed, without the swap, from a card with what the form carries; so that swaps may be many.
pub swap-goes-on : (f : Form) (base : ℕ) (steps : List Step) (d : Card) (more : List Step) → then_steps (swapped f (history base steps) d) more ≡ then_steps (carried_on f (history base steps)) more
swap-goes-on f base steps d more = ap (λ (p : Past). then_steps p more) (swapped_same f (history base steps) (history-ruled base steps f) d)

-- By the new form all that follows is what would have followed without a swap.
pub swap-new-goes-on : (base : ℕ) (steps : List Step) (d : Card) (more : List Step) → then_steps (swapped new (history base steps) d) more ≡ then_steps (history base steps) more
swap-new-goes-on base steps d more = swap-goes-on new base steps d more ∙ ap (λ (p : Past). then_steps p more) (carried-on-new (history base steps))
