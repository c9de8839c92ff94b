-- That a feed, which is sixteen labels and a leaf mark, tells its labels: what `proofs/One` needs for the lookups, where each public call is shown to have one outcome.
-- Assumes nothing.
use Rattle.std.specs.Prelude.{ℕ, zero, suc, ◌+◌, ◌<◌, ◌≡◌, refl, Bool, List, [], ◌∷◌, get_or, length, eqb, ltb}
use Rattle.std.proofs.Common.{arith, sym, ap, ◌∙◌, ext_get_or, eq-eqb, ne_eqb, ltb-false}
use Rattle.meaning.specs.Octets.{pick}
use Rattle.meaning.specs.Card.{Branch, Feed, is_branch, branches_from}
use Rattle.meaning.specs.Calls.{feed_in}
use Rattle.meaning.specs.Lists.{by-test}

-- ---- sixteen places are told by their feed

-- the label of the branch to neighbour j; 0 where there is none
unfoldable label_to : ℕ → List Branch → ℕ
label_to j [] = 0
label_to j (b ∷ bs) = let later = label_to j bs in pick (eqb b.neighbour j) b.label later

none_below : (j n : ℕ) (ls : List ℕ) → j < n → label_to j (branches_from n ls) ≡ 0
unfolding branches_from label_to
none_below j n [] h = refl
none_below j n (l ∷ ls) h =
    by-test (is_branch l)
    (λ e. rw (e, ne_eqb n j (λ z. omega arith)) (none_below j (suc n) ls (omega arith)))
    (λ e. rw e (none_below j (suc n) ls (omega arith)))

label_at : (n i : ℕ) (ls : List ℕ) → label_to (n + i) (branches_from n ls) ≡ get_or ls i 0
unfolding branches_from label_to is_branch
label_at n i [] = refl
label_at n zero (l ∷ ls) =
    by-test (ltb 0 l)
    (λ e. rw (e, eq-eqb n (n + 0) (omega arith)) refl)
    (λ e. rw e (none_below (n + 0) (suc n) ls (omega arith) ∙ (let z = ltb-false 0 l e in omega arith)))
label_at n (suc i) (l ∷ ls) =
    let later : label_to (n + suc i) (branches_from (suc n) ls) ≡ get_or ls i 0 = ap (λ (j : ℕ). label_to j (branches_from (suc n) ls)) (omega arith) ∙ label_at (suc n) i ls in
    by-test (ltb 0 l)
    (λ e. rw (e, ne_eqb n (n + suc i) (λ z. omega arith)) later)
    (λ e. rw e later)

-- The branches by rising neighbour number tell the places.
pub feed-one : (bs cs : List ℕ) (l m : Bool) → length bs ≡ 16 → length cs ≡ 16 → feed_in bs l ≡ feed_in cs m → (l ≡ m) × (bs ≡ cs)
feed-one bs cs l m sixteen also e = (
  ap (λ (f : Feed). f.leaf) e,
  ext_get_or 0 bs cs (sixteen ∙ sym also) (λ i _. sym (label_at 0 i bs) ∙ ap (λ (f : Feed). label_to (0 + i) f.branches) e ∙ label_at 0 i cs),
)
