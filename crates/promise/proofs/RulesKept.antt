-- The table's rules after any history, and what they say of a Withdraw and of a leave.
-- Assumes nothing.
use Rattle.std.specs.Prelude.{ℕ, ◌≤◌, ◌≡◌, true, ◌||◌, length, set, eqb, ltb}
use Rattle.std.proofs.Common.{zero-le, arith, sym, ◌∙◌, eq-eqb, ne_eqb, ltb-true, ltb-false, le-ltb}
use Rattle.std.proofs.Math.Path.{refl, ap}
use Rattle.std.proofs.Math.Bool.{false, not}
use mathlib.Core.List.{List, [], ◌∷◌, ◌++◌}
use Rattle.meaning.specs.Octets.{count, any, ◌when◌else◌}
use Rattle.meaning.specs.Wire.{root_in, element_refusal, mapping, withdraw, release, Message, message_in, message_refusal, Sent}
use Rattle.meaning.specs.Card.{with_trees, named, tree_at, use_of, route_of, Tree, Card, nobody, with_branch, with_leaf, is_for, tree_place, tree_of, stands, bare, is_branch, is_empty, not_held, leads_on, held_for, free_labels}
use Rattle.meaning.specs.Events.{taken, unless, Moved, still, upstream, holder, tell, relabel, entered, swept, need_move, need, labels_short, holder_of, trees_full, tree_refusal, enter, become, branch, less_branch, on_withdraw, on_message, no_neighbour, on_octets, not_leaf, on_leave, receive, leave, outcome, recounted}
use Rattle.meaning_laws.specs.Standing.{standing-at, not-standing}
use Rattle.promise.specs.Promise.{Given, Step, history}
use Rattle.meaning.specs.Lists.{by-test, picked, neither}
use Rattle.meaning_laws.specs.RoundTrip.{both}
use Rattle.promise.proofs.CardLaws.{tree-name}
use Rattle.promise.specs.LabelLaws.{Sound}
use Rattle.meaning_laws.specs.Counts.{any-set-zero}
use Rattle.promise.specs.RuleLaws.{Ruled}
use Rattle.promise.proofs.RuleLaws.{held-named, bare-empty, any-set-two}
use Rattle.promise.proofs.EventLaws.{get_d-put, less-name, less-label}
use Rattle.promise.proofs.PromiseProof.{history-upheld}

-- All of the table's rules.
pub rules-kept : (base : ℕ) (steps : List Step) → Ruled (history base steps).card
rules-kept base steps = (history-upheld base steps).ruled

-- No two trees have one name.
pub names-once : (base : ℕ) (steps : List Step) (a : List ℕ) → count (named a) (history base steps).card.trees ≤ 1
names-once base steps a = (history-upheld base steps).sound.tidy.once a

-- No two routes have one root.
pub roots-once : (base : ℕ) (steps : List Step) (r : List ℕ) → count (is_for r) (history base steps).card.routes ≤ 1
roots-once base steps r = (history-upheld base steps).ruled.roots r

-- A tree stands exactly while it has a branch or a leaf.
pub stands-exactly : (base : ℕ) (steps : List Step) (a : List ℕ) → stands a (history base steps).card ≡ not (is_empty (tree_of a (history base steps).card))
stands-exactly base steps a = standing (history base steps).card (history-upheld base steps).ruled
  where
    standing : (c : Card) → Ruled c → stands a c ≡ not (is_empty (tree_of a c))
    standing c R =
        unfold stands in by-test (ltb (tree_place a c) (length c.trees))
        (λ k. rw (k, standing-at c a (ltb-true _ _ k), R.full (tree_place a c) (ltb-true _ _ k)) refl)
        (λ k. rw (k, not-standing c a (ltb-false _ _ k), bare-empty a) refl)

-- A tree holds a label exactly while its root's route is a neighbour and it has a leaf or a branch from another, for that neighbour.
pub holds-exactly : (base : ℕ) (steps : List Step) (a : List ℕ) → held_for (history base steps).card (tree_of a (history base steps).card) ≡ holder_of (history base steps).card (tree_of a (history base steps).card)
holds-exactly base steps a = let u = history-upheld base steps in held-named (history base steps).card _ u.sound u.ruled a

-- ---- a tree that goes on standing, or stays away, sends nothing of its own

pub entered_at : (c : Card) (t : Tree) → tree_at (tree_place t.name c) (entered c t) ≡ t
unfolding tree_at entered with_trees tree_place
entered_at c t = get_d-put (named t.name) c.trees t (bare [])

entered-held : (c : Card) (t : Tree) → held_for (entered c t) t ≡ held_for c t
unfolding held_for use_of entered with_trees
entered-held c t = refl

same-held : (c : Card) (t s : Tree) → t.label ≡ s.label → held_for c t ≡ held_for c s
unfolding held_for
same-held c t s e = rw e refl

same_up : (c : Card) (t : Tree) → ((u : ℕ) → leads_on u t ≡ leads_on u (tree_of t.name c)) → holder_of c (tree_of t.name c) ≡ holder_of c t
unfolding holder_of holder tree_of
same_up c t e = rw (tree-name t.name c) (rw (e _) refl)

-- an event that leaves it as it was whether the tree leads on
pub nothing-moves : (c : Card) (gs : List Given) → Sound c gs → Ruled c → (t : Tree) → t.label ≡ (tree_of t.name c).label → ((u : ℕ) → leads_on u t ≡ leads_on u (tree_of t.name c))
    → relabel (tree_place t.name c) (holder_of c t) (entered c t) ≡ still (entered c t)
unfolding relabel
nothing-moves c gs S R t l e =
    rw (eq-eqb (held_for (entered c t) (tree_at (tree_place t.name c) (entered c t))) (holder_of c t)
    (ap (held_for (entered c t)) (entered_at c t) ∙ entered-held c t ∙ same-held c t (tree_of t.name c) l ∙ held-named c gs S R t.name ∙ same_up c t e)) refl

-- ---- a Withdraw is always answered

pub less-leads : (n l u : ℕ) (t : Tree) → leads_on u t ≡ false → leads_on u (less_branch n l t) ≡ false
unfolding less_branch
less-leads n l u t e = picked (λ (x : Tree). leads_on u x ≡ false) (eqb (branch t n) l) (λ _. unfold leads_on not_held with_branch in gone) (λ _. e)
  where
    gone : (any is_branch (set (set t.branches n 0) u 0) || t.leaf) ≡ false
    gone = let r = neither (any is_branch (set t.branches u 0)) t.leaf (unfold leads_on not_held in e) in rw (any-set-two t.branches n u r.0) r.1

with-branch-empty : (n : ℕ) (t : Tree) → is_empty t ≡ true → is_empty (with_branch n 0 t) ≡ true
unfolding is_empty with_branch
with-branch-empty n t e =
    by-test (any is_branch t.branches)
    (λ k. let z : false ≡ true = rw k at e in cc)
    (λ k. rw (any-set-zero t.branches n k) (rw k at e))

less-empty : (n l : ℕ) (t : Tree) → is_empty t ≡ true → is_empty (less_branch n l t) ≡ true
unfolding less_branch
less-empty n l t e = picked (λ (x : Tree). is_empty x ≡ true) (eqb (branch t n) l) (λ _. with-branch-empty n t e) (λ _. e)

not-empty-stands : (c : Card) (a : List ℕ) → is_empty (tree_of a c) ≡ false → stands a c ≡ true
unfolding stands
not-empty-stands c a e =
    by-test (ltb (tree_place a c) (length c.trees))
    (λ k. k)
    (λ k. let z : false ≡ true = sym e ∙ ap is_empty (not-standing c a (ltb-false _ _ k)) ∙ bare-empty a in cc)

-- the tree named a, with less than it had
module _ (c : Card) (gs : List Given) (S : Sound c gs) (R : Ruled c) (a : List ℕ) (rest : Tree)
    (named-so : rest.name ≡ a) (labelled-so : rest.label ≡ (tree_of a c).label) (less : is_empty (tree_of a c) ≡ true → is_empty rest ≡ true)
    (fewer : (u : ℕ) → leads_on u (tree_of a c) ≡ false → leads_on u rest ≡ false) where
  rest-was : is_empty rest ≡ false → is_empty (tree_of a c) ≡ false
  rest-was e =
      by-test (is_empty (tree_of a c))
      (λ k. let z : true ≡ false = sym (less k) ∙ e in cc)
      (λ k. k)

  abbrev up : ℕ
  up = upstream (route_of (root_in a) c)

  led_on : leads_on up rest ≡ true → leads_on up (tree_of a c) ≡ true
  led_on e =
      by-test (leads_on up (tree_of a c))
      (λ k. k)
      (λ k. let z : false ≡ true = sym (fewer up k) ∙ e in cc)

  -- it needs no label
  rest-need : need c rest (holder_of c rest) ≡ 0
  unfolding need leads_on any not_held
  rest-need =
      by-test (leads_on up rest)
      (λ e. let same_up : holder_of c (tree_of a c) ≡ holder_of c rest = unfold holder_of holder in rw (named-so, tree-name a c) (rw (e, led_on e) refl) in
      rw (eq-eqb (held_for c rest) (holder_of c rest) (same-held c rest (tree_of a c) labelled-so ∙ held-named c gs S R a ∙ same_up)) refl)
      (λ e. let none : holder_of c rest ≡ nobody = unfold holder_of holder in rw named-so (rw e refl) in rw none (picked (λ (k : ℕ). k ≡ 0) (eqb (held_for c rest) nobody) (λ _. refl) (λ _. unfold need_move in refl)))

  -- neither 11 nor 12 applies
  rest-fits : tree_refusal c rest ≡ 0
  unfolding tree_refusal trees_full labels_short ◌when◌else◌
  rest-fits =
      by-test (is_empty rest)
      (λ e. rw (e, rest-need) (rw (le-ltb (free_labels c) 0 zero-le) refl))
      (λ e. rw (e, rest-need, named-so, not-empty-stands c a (rest-was e)) (rw (le-ltb (free_labels c) 0 zero-le) refl))

pub less-fits : (c : Card) (gs : List Given) → Sound c gs → Ruled c → (n : ℕ) (a : List ℕ) (l : ℕ) → tree_refusal c (less_branch n l (tree_of a c)) ≡ 0
less-fits c gs S R n a l = rest-fits c gs S R a (less_branch n l (tree_of a c)) (less-name n l (tree_of a c) ∙ tree-name a c) (less-label n l (tree_of a c)) (less-empty n l (tree_of a c)) (λ u. less-leads n l u (tree_of a c))

-- After any history neither 11 nor 12 applies to a Withdraw.
pub withdraw-fits : (base : ℕ) (steps : List Step) (n : ℕ) (a : List ℕ) (l : ℕ) → tree_refusal (history base steps).card (less_branch n l (tree_of a (history base steps).card)) ≡ 0
withdraw-fits base steps n a l = let u = history-upheld base steps in less-fits (history base steps).card _ u.sound u.ruled n a l

-- Nor to a leave.
pub leave_fits : (base : ℕ) (steps : List Step) (e : List ℕ) → tree_refusal (history base steps).card (with_leaf false (tree_of e (history base steps).card)) ≡ 0
unfolding with_leaf
leave_fits base steps e =
    let c = (history base steps).card in
    let u = history-upheld base steps in
    rest-fits c _ u.sound u.ruled e (with_leaf false (tree_of e c)) (tree-name e c) refl (leaf-empty (tree_of e c)) (λ u. leaf-leads u (tree_of e c))
  where
    leaf-leads : (u : ℕ) (t : Tree) → leads_on u t ≡ false → leads_on u (with_leaf false t) ≡ false
    leaf-leads u t k = unfold leads_on not_held with_leaf in rw (neither (any is_branch (set t.branches u 0)) t.leaf (unfold leads_on not_held in k)).0 refl

    leaf-empty : (t : Tree) → is_empty t ≡ true → is_empty (with_leaf false t) ≡ true
    leaf-empty t k = unfold is_empty with_leaf in rw (both (not (any is_branch t.branches)) (not t.leaf) (unfold is_empty in k)).0 refl

enter-taken : (c : Card) (first : List Sent) (t : Tree) → (ms : List Sent) × (after : Card) × (enter c first t ≡ taken (first ++ ms) after)
unfolding enter
enter-taken c first t =
    let i : ℕ = tree_place t.name c in
    let m : Moved = relabel i (holder_of c t) (entered c t) in
    (m.sent, recounted (tree_of t.name c) t (swept i m.card), refl)

-- After any history, a Withdraw that 1 to 9 and 18 pass is answered by the Release that it names, whatever stands.
pub withdraw-answered : (base : ℕ) (steps : List Step) (n : ℕ) (s : List ℕ) → no_neighbour n ≡ false → message_refusal s ≡ 0 → (message_in s).kind ≡ withdraw
    → (ms : List Sent) × (after : Card) × (outcome (history base steps).card (receive n s) ≡ taken (tell n release (message_in s).name (message_in s).label ∷ ms) after)
unfolding outcome on_octets on_message on_withdraw become unless ◌when◌else◌
withdraw-answered base steps n s near ok w =
    let m : Message = message_in s in
    let r = enter-taken (history base steps).card (tell n release m.name m.label ∷ []) (less_branch n m.label (tree_of m.name (history base steps).card)) in
    (r.0, r.1, rw (near, ok, ne_eqb m.kind mapping (λ k. omega arith), eq-eqb m.kind withdraw w, withdraw-fits base steps n m.name m.label) r.2)

-- And a leave of a leaf, that 6, 7 and 18 pass, is taken.
pub leave-answered : (base : ℕ) (steps : List Step) (e : List ℕ) → element_refusal e ≡ 0 → (tree_of e (history base steps).card).leaf ≡ true
    → (ms : List Sent) × (after : Card) × (outcome (history base steps).card (leave e) ≡ taken ms after)
unfolding outcome on_leave unless ◌when◌else◌
leave-answered base steps e ok l =
    let leaf : not_leaf (tree_of e (history base steps).card) ≡ false = unfold not_leaf in ap not l in
    let r = enter-taken (history base steps).card [] (with_leaf false (tree_of e (history base steps).card)) in
    (r.0, r.1, rw (ok, leave_fits base steps e, leaf) r.2)
