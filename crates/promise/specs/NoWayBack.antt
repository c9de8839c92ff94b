-- A feed never leads back to the neighbour that sends it, on any card: to whom a label is mapped, or whom the root's route names.
-- Assumes nothing.
use Rattle.std.specs.Prelude.{ℕ, zero, suc, ◌+◌, ◌<◌, ◌≡◌, Bool, List, [], ◌∷◌, set, eqb, ltb}
use Rattle.std.proofs.Common.{arith, ap, ◌∙◌, ne_eqb}
use Rattle.std.proofs.Math.Path.{refl}
use Rattle.meaning.specs.Octets.{count}
use Rattle.meaning.specs.Wire.{root_in, element_refusal}
use Rattle.meaning.specs.Card.{Tree, Use, free, mapped, awaiting, Card, tree_of, route_of, mapped_to, use_of, is_branch, not_held, Branch, Feed, nothing, branches_from, feed_of, carrier, feed_of_use, lookup_label, lookup_name}
use Rattle.meaning.specs.Lists.{by-test, picked}

unfoldable pub towards : ℕ → Branch → Bool
towards n b = eqb b.neighbour n

-- the branches from place k on go to no neighbour below k
none_below : (j k : ℕ) (bs : List ℕ) → j < k → count (towards j) (branches_from k bs) ≡ 0
unfolding branches_from count towards
none_below j k [] h = refl
none_below j k (b ∷ bs) h =
    by-test (is_branch b)
    (λ e. rw (e, ne_eqb k j (λ z. omega arith)) (none_below j (suc k) bs (omega arith)))
    (λ e. rw e (none_below j (suc k) bs (omega arith)))

none-held : (k n : ℕ) (bs : List ℕ) → count (towards (k + n)) (branches_from k (set bs n 0)) ≡ 0
unfolding branches_from count towards is_branch
none-held k n [] = refl
none-held k zero (b ∷ bs) = none_below (k + 0) (suc k) bs (omega arith)
none-held k (suc n) (b ∷ bs) =
    let later : count (towards (k + suc n)) (branches_from (suc k) (set bs n 0)) ≡ 0 = ap (λ (x : ℕ). count (towards x) (branches_from (suc k) (set bs n 0))) (omega arith) ∙ none-held (suc k) n bs in
    by-test (ltb 0 b)
    (λ e. rw (e, ne_eqb k (k + suc n) (λ z. omega arith)) later)
    (λ e. rw e later)

pub feed-leads-on : (u : ℕ) (t : Tree) → count (towards u) (feed_of u t).branches ≡ 0
unfolding feed_of not_held
feed-leads-on u t = ap (λ (x : ℕ). count (towards x) (branches_from 0 (set t.branches u 0))) (omega arith) ∙ none-held 0 u t.branches

-- by label
pub no_way_back : (c : Card) (l : ℕ) → count (towards (mapped_to (use_of l c))) (lookup_label l c).branches ≡ 0
unfolding lookup_label
no_way_back c l = of-use (use_of l c)
  where
    of-use : (u : Use) → count (towards (mapped_to u)) (feed_of_use l c u).branches ≡ 0
    of-use free = unfold feed_of_use nothing count in refl
    of-use (mapped n a) = unfold feed_of_use mapped_to in feed-leads-on n (carrier l c)
    of-use (awaiting n a) = unfold feed_of_use nothing count in refl

-- by name
pub no-way-back-named : (c : Card) (e : List ℕ) → count (towards (route_of (root_in e) c)) (lookup_name e c).branches ≡ 0
unfolding lookup_name
no-way-back-named c e =
    picked (λ (f : Feed). count (towards (route_of (root_in e) c)) f.branches ≡ 0) (eqb (element_refusal e) 0)
    (λ _. feed-leads-on (route_of (root_in e) c) (tree_of e c))
    (λ _. unfold nothing count in refl)
