-- The order of the planner's list: 4-octet roots before 16-octet ones, each by rising address.
-- Assumes nothing.
use Rattle.std.specs.Prelude.{ℕ, suc, ◌≤◌, ◌<◌, ◌≡◌, Bool, false, ◌&&◌, ◌||◌, List, [], ◌∷◌, ◌++◌, take, drop, length, eqb, ltb}
use Rattle.std.proofs.Common.{zero-le, le_trans, sym, ap, ◌∙◌, eqb-true, eq-eqb, ltb-true, ltb-false, lt-ltb}
use Rattle.std.proofs.Math.Nat.{le_refl}
use native.Mathlib.Omega.{arith}
use Rattle.std.proofs.Math.Path.{refl}
use Rattle.std.proofs.Math.Bool.{true}
use Rattle.std.proofs.lemmas.Bool.{eqb-false}
use Rattle.meaning.specs.Octets.{pick, place, count, all, same}
use Rattle.meaning.specs.Card.{Route, Card, is_for}
use Rattle.meaning.specs.Lists.{by-test, picked, same_refl, same-flip, no_way}
use Rattle.meaning_laws.specs.SaveFields.{all_cons}
use Rattle.meaning_plan.specs.Plan.{Move, move_for, Allowed, goes_by, choice, is_below, is_before, insert, as_move, through, chosen, proposal}

unfoldable pub comes_first : Move → Move → Bool
comes_first x y = is_before x.root y.root

-- every entry comes before all later ones
unfoldable pub rising : List Move → Bool
rising [] = true
rising (x ∷ xs) = let rest = rising xs in pick (all (comes_first x) xs) rest false

-- ---- addresses

below_less : (x y : ℕ) (xs ys : List ℕ) → x < y → is_below (x ∷ xs) (y ∷ ys) ≡ true
unfolding is_below
below_less x y xs ys h = rw (lt-ltb x y h) refl

below_next : (x y : ℕ) (xs ys : List ℕ) → x ≡ y → is_below xs ys ≡ true → is_below (x ∷ xs) (y ∷ ys) ≡ true
unfolding is_below
below_next x y xs ys e h = rw (eq-eqb x y e, h) (picked (λ (b : Bool). b ≡ true) (ltb x y) (λ _. refl) (λ _. refl))

below-cases : {X : Type 0} (x y : ℕ) (xs ys : List ℕ) → is_below (x ∷ xs) (y ∷ ys) ≡ true → (x < y → X) → (x ≡ y → is_below xs ys ≡ true → X) → X
unfolding is_below
below-cases x y xs ys h f g =
    by-test (ltb x y)
    (λ e. f (ltb-true x y e))
    (λ e. by-test (eqb x y)
    (λ k. g (eqb-true x y k) (rw (e, k) at h))
    (λ k. no_way (sym (rw (e, k) at h))))

below-trans : (r q p : List ℕ) → is_below r q ≡ true → is_below q p ≡ true → is_below r p ≡ true
below-trans [] [] p h k = no_way (sym (unfold is_below in h))
below-trans [] (y ∷ q) [] h k = no_way (sym (unfold is_below in k))
below-trans [] (y ∷ q) (z ∷ p) h k = unfold is_below in refl
below-trans (x ∷ r) [] p h k = no_way (sym (unfold is_below in h))
below-trans (x ∷ r) (y ∷ q) [] h k = no_way (sym (unfold is_below in k))
below-trans (x ∷ r) (y ∷ q) (z ∷ p) h k =
    below-cases x y r q h
    (λ lt. below-cases y z q p k (λ lt'. below_less x z r p (omega arith)) (λ eq _. below_less x z r p (omega arith)))
    (λ eq b. below-cases y z q p k (λ lt'. below_less x z r p (omega arith)) (λ eq' b'. below_next x z r p (eq ∙ eq') (below-trans r q p b b')))

below_total : (r q : List ℕ) → is_below r q ≡ false → same r q ≡ false → is_below q r ≡ true
unfolding is_below same
below_total [] [] h d = no_way d
below_total [] (y ∷ q) h d = no_way h
below_total (x ∷ r) [] h d = refl
below_total (x ∷ r) (y ∷ q) h d =
    by-test (ltb x y)
    (λ e. no_way (rw e at h))
    (λ e. by-test (eqb x y)
    (λ k. below_next y x q r (sym (eqb-true x y k)) (below_total r q (rw (e, k) at h) (rw k at d)))
    (λ k. below_less y x q r (less x y (ltb-false x y e) (eqb-false x y k))))
  where
    less : (x y : ℕ) → y ≤ x → (x ≡ y → ⊥) → y < x
    less x y h d = omega arith

-- ---- roots

before-short : (r q : List ℕ) → length r < length q → is_before r q ≡ true
unfolding is_before
before-short r q h = rw (lt-ltb (length r) (length q) h) refl

or-true : (b : Bool) → (b || true) ≡ true
or-true true = refl
or-true false = refl

before-below : (r q : List ℕ) → length r ≡ length q → is_below r q ≡ true → is_before r q ≡ true
unfolding is_before
before-below r q e h = rw (eq-eqb (length r) (length q) e, h) (or-true (ltb (length r) (length q)))

before-cases : {X : Type 0} (r q : List ℕ) → is_before r q ≡ true → (length r < length q → X) → (length r ≡ length q → is_below r q ≡ true → X) → X
unfolding is_before
before-cases r q h f g =
    by-test (ltb (length r) (length q))
    (λ e. f (ltb-true _ _ e))
    (λ e. by-test (eqb (length r) (length q))
    (λ k. g (eqb-true _ _ k) (rw (e, k) at h))
    (λ k. no_way (sym (rw (e, k) at h))))

pub before-trans : (r q p : List ℕ) → is_before r q ≡ true → is_before q p ≡ true → is_before r p ≡ true
before-trans r q p h k =
    before-cases r q h
    (λ lt. before-cases q p k (λ lt'. before-short r p (omega arith)) (λ eq _. before-short r p (omega arith)))
    (λ eq b. before-cases q p k (λ lt'. before-short r p (omega arith)) (λ eq' b'. before-below r p (eq ∙ eq') (below-trans r q p b b')))

pub before-total : (r q : List ℕ) → is_before r q ≡ false → same r q ≡ false → is_before q r ≡ true
unfolding is_before
before-total r q h d =
    by-test (ltb (length r) (length q))
    (λ e. no_way (rw e at h))
    (λ e. by-test (eqb (length r) (length q))
    (λ k. unfold is_before in before-below q r (sym (eqb-true _ _ k)) (below_total r q (rw (e, k) at h) d))
    (λ k. unfold is_before in before-short q r (less (length r) (length q) (ltb-false _ _ e) (eqb-false _ _ k))))
  where
    less : (x y : ℕ) → y ≤ x → (x ≡ y → ⊥) → y < x
    less x y h d = omega arith

-- ---- insertion

pub count-insert : (t : Move → Bool) (x : Move) (ys : List Move) → count t (insert x ys) ≡ count t (x ∷ ys)
unfolding insert count
count-insert t x [] = refl
count-insert t x (y ∷ ys) =
    by-test (is_before x.root y.root)
    (λ e. rw e refl)
    (λ e. rw (e, count-insert t x ys) (swap (t x) (t y) (count t ys)))
  where
    swap : (a b : Bool) (k : ℕ) → pick b (suc (pick a (suc k) k)) (pick a (suc k) k) ≡ pick a (suc (pick b (suc k) k)) (pick b (suc k) k)
    swap true true k = refl
    swap true false k = refl
    swap false true k = refl
    swap false false k = refl

-- where it comes to stand: before the first that it comes before
pub insert-place : (x : Move) (ys : List Move) → insert x ys ≡ take (place (comes_first x) ys) ys ++ (x ∷ drop (place (comes_first x) ys) ys)
unfolding insert place comes_first
insert-place x [] = refl
insert-place x (y ∷ ys) =
    by-test (is_before x.root y.root)
    (λ e. rw e refl)
    (λ e. rw e (ap (λ (l : List Move). y ∷ l) (insert-place x ys)))

all_insert : (t : Move → Bool) (x : Move) (ys : List Move) → t x ≡ true → all t ys ≡ true → all t (insert x ys) ≡ true
unfolding insert all
all_insert t x [] h k = rw h refl
all_insert t x (y ∷ ys) h k =
    let p = all_cons t y ys (unfold all in k) in
    by-test (is_before x.root y.root)
    (λ e. rw e (rw (h, p.0) p.1))
    (λ e. rw (e, p.0) (all_insert t x ys h p.1))

all-later : (x y : Move) (ys : List Move) → is_before x.root y.root ≡ true → all (comes_first y) ys ≡ true → all (comes_first x) ys ≡ true
unfolding all comes_first
all-later x y [] h k = refl
all-later x y (z ∷ ys) h k =
    let p = all_cons (comes_first y) z ys (unfold all in k) in
    rw (before-trans x.root y.root z.root h (unfold comes_first in p.0)) (all-later x y ys h p.1)

rising-cons : (x : Move) (xs : List Move) → rising (x ∷ xs) ≡ true → (all (comes_first x) xs ≡ true) × (rising xs ≡ true)
unfolding rising
rising-cons x xs h = by-test (all (comes_first x) xs) (λ e. (e, rw e at h)) (λ e. no_way (sym (rw e at h)))

risen : (x : Move) (xs : List Move) → all (comes_first x) xs ≡ true → rising xs ≡ true → rising (x ∷ xs) ≡ true
unfolding rising
risen x xs a r = rw a r

first_of : (x y : Move) (ys : List Move) → is_before x.root y.root ≡ true → all (comes_first x) ys ≡ true → all (comes_first x) (y ∷ ys) ≡ true
unfolding all comes_first
first_of x y ys e a = rw e a

-- its own root, once
pub own_first : (x : Move) (xs : List Move) → count (move_for x.root) (x ∷ xs) ≡ suc (count (move_for x.root) xs)
unfolding count move_for
own_first x xs = rw (same_refl x.root) refl

rising-insert : (x : Move) (ys : List Move) → count (move_for x.root) ys ≡ 0 → rising ys ≡ true → rising (insert x ys) ≡ true
unfolding insert count move_for
rising-insert x [] d h = unfold rising all in refl
rising-insert x (y ∷ ys) d h =
    let p = rising-cons y ys h in
    by-test (same y.root x.root)
    (λ k. absurd (let z : suc (count (move_for x.root) ys) ≡ 0 = unfold move_for in rw k at d in omega arith))
    (λ k. by-test (is_before x.root y.root)
    (λ e. rw e (front e p))
    (λ e. rw e (behind (before-total x.root y.root e (same-flip y.root x.root k)) p.0 (rising-insert x ys (rw k at d) p.1))))
  where
    front : is_before x.root y.root ≡ true → (all (comes_first y) ys ≡ true) × (rising ys ≡ true) → rising (x ∷ y ∷ ys) ≡ true
    front e p = risen x (y ∷ ys) (first_of x y ys e (all-later x y ys e p.0)) (risen y ys p.0 p.1)

    behind : is_before y.root x.root ≡ true → all (comes_first y) ys ≡ true → rising (insert x ys) ≡ true → rising (y ∷ insert x ys) ≡ true
    behind e a r = risen y (insert x ys) (all_insert (comes_first y) x ys (unfold comes_first in e) a) r

-- ---- the routes through n

pub count-through : (n : ℕ) (t : Move → Bool) (xs : List Route) → count t (through n xs) ≡ count (λ (x : Route). goes_by n x && t (as_move x)) xs
unfolding through count
count-through n t [] = refl
count-through n t (x ∷ xs) =
    by-test (goes_by n x)
    (λ e. rw e (count-insert t (as_move x) (through n xs) ∙ unfold count in rw (count-through n t xs) refl))
    (λ e. rw e (count-through n t xs))

-- an entry's root is its route's
pub as-of : (q : List ℕ) (x : Route) → move_for q (as_move x) ≡ is_for q x
unfolding move_for is_for as_move
as-of q x = refl

pub count-both : (n : ℕ) (q : List ℕ) (xs : List Route) → count (λ (x : Route). goes_by n x && move_for q (as_move x)) xs ≤ count (is_for q) xs
unfolding count
count-both n q [] = zero-le
count-both n q (x ∷ xs) =
    rw (as-of q x) (by-test (goes_by n x)
    (λ e. by-test (is_for q x) (λ k. rw (e, k) (omega (arith, count-both n q xs))) (λ k. rw (e, k) (count-both n q xs)))
    (λ e. by-test (is_for q x) (λ k. rw (e, k) (omega (arith, count-both n q xs))) (λ k. rw (e, k) (count-both n q xs))))

rising-through : (n : ℕ) (xs : List Route) → ((q : List ℕ) → count (is_for q) xs ≤ 1) → rising (through n xs) ≡ true
unfolding through
rising-through n [] h = unfold rising in refl
rising-through n (x ∷ xs) h =
    let rest = rising-through n xs (λ q. le_trans (tail-fewer q) (h q)) in
    by-test (goes_by n x)
    (λ e. rw e (rising-insert (as_move x) (through n xs) none-there rest))
    (λ e. rw e rest)
  where
    tail-fewer : (q : List ℕ) → count (is_for q) xs ≤ count (is_for q) (x ∷ xs)
    tail-fewer q = unfold count in picked (λ (k : ℕ). count (is_for q) xs ≤ k) (is_for q x) (λ _. omega arith) (λ _. le_refl _)

    own : count (is_for x.root) (x ∷ xs) ≡ suc (count (is_for x.root) xs)
    own = unfold count is_for in rw (same_refl x.root) refl

    none-there : count (move_for (as_move x).root) (through n xs) ≡ 0
    none-there = unfold as_move in
        omega (arith, own, h x.root, count-through n (move_for x.root) xs, count-both n x.root xs)

-- ---- the proposal has its roots

pub count-chosen : (c : Card) (n : ℕ) (ps : List Allowed) (q : List ℕ) (xs : List Move) → count (move_for q) (chosen c n ps xs) ≡ count (move_for q) xs
unfolding chosen count move_for
count-chosen c n ps q [] = refl
count-chosen c n ps q (x ∷ xs) = rw (count-chosen c n ps q xs) refl

all-chosen : (c : Card) (n : ℕ) (ps : List Allowed) (x y : Move) (xs : List Move) → x.root ≡ y.root → all (comes_first x) (chosen c n ps xs) ≡ all (comes_first y) xs
unfolding chosen all comes_first
all-chosen c n ps x y [] e = refl
all-chosen c n ps x y (z ∷ xs) e = rw (all-chosen c n ps x y xs e, e) refl

rising-chosen : (c : Card) (n : ℕ) (ps : List Allowed) (xs : List Move) → rising (chosen c n ps xs) ≡ rising xs
unfolding chosen rising
rising-chosen c n ps [] = refl
rising-chosen c n ps (x ∷ xs) = rw (rising-chosen c n ps xs, all-chosen c n ps (record { root = x.root; via = choice c n ps x.root }) x xs refl) refl

-- THE ORDER OF THE LIST: in a table with no root twice
pub proposal-rising : (c : Card) (n : ℕ) (ps : List Allowed) → ((q : List ℕ) → count (is_for q) c.routes ≤ 1) → rising (proposal c n ps) ≡ true
unfolding proposal
proposal-rising c n ps once = rising-chosen c n ps (through n c.routes) ∙ rising-through n c.routes once
