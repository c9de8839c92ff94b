-- The fields of a save's records, as the code reads them: octets in a space, numbers, names. Assumes nothing.
use Prim.Native.Nat.{ℕ, suc, ◌+◌, ◌*◌, ◌-◌, ◌/◌, ◌%◌, ◌≤◌, ◌<◌}
use native.Mathlib.Nat.{add-zero}
use native.Mathlib.Omega.{arith}
use mathlib.Core.Path.{◌≡◌, refl, sym, ap, ap₂, ◌∙◌}
use mathlib.Core.Bool.{Bool, true, false}
use mathlib.Core.List.{List, [], ◌∷◌, ◌++◌, append_assoc}
use lib.ListN.{length, take, drop, get_or, length-append, length-take, length-drop, drop_of_length-le}
use lib.Seq.{take-take, take_all, take-length, take_at, drop-drop, get_or-drop, length-take-le}
use lib.Dec.{eqb, ltb}
use borrow.Author.Tests.{ltb-true, ltb-false}
use Rattle.meaning.specs.Octets.{pick, two, two_at, four_at}
use Rattle.meaning.specs.Lists.{by-test, picked}
use Rattle.meaning.specs.Wire.{element, root_limit, name_limit}
use Rattle.meaning_save.specs.Save.{old, new, form_of, spaced_in, name_in, extent, saved_opaque, spaced_name}
use Rattle.meaning_laws.specs.SavePlaces.{extent-there}
use Rattle.octets.specs.Part.{mid}
use Rattle.octets.proofs.Parts.{mid-length}
use Rattle.memory.specs.Memory.{up_to}
use Rattle.meaning_laws.specs.WireLaws.{two-there}

-- ---- numbers behind what was dropped

module _ (o : List ℕ) (at : ℕ) where
  pub four-drop : (i : ℕ) → four_at (drop at o) i ≡ four_at o (at + i)
  unfolding four_at
  four-drop i =
      let e : at + (i + 2) ≡ at + i + 2 = omega arith in
      ap₂ (λ (x y : ℕ). x * 65536 + y) (two-there o at i) (two-there o at (i + 2) ∙ ap (two_at o) e)

-- ---- octets in a space

up_to-take : (n k : ℕ) (l : List ℕ) → take (up_to n k) l ≡ take k (take n l)
unfolding up_to
up_to-take n k l =
    by-test (ltb k n)
    (λ t. let h : k < n = ltb-true k n t in rw t (sym (take-take k n l (omega arith))))
    (λ t. let h : n ≤ k = ltb-false k n t in rw t (sym (take_all k (take n l) (simp length-take (omega arith)))))

pub spaced-at : (o : List ℕ) (at n k e m : ℕ) → at < length o → k ≡ get_or o at 0 → m ≡ up_to n k → e ≡ up_to (length o - (at + 1)) m
    → (take (at + 1 + e - (at + 1)) (drop (at + 1) o) ≡ spaced_in n (drop at o)) × (length (take (at + 1 + e - (at + 1)) (drop (at + 1) o)) ≤ n)
unfolding spaced_in
spaced-at o at n k e m h hk hm he =
    let size : at + 1 + e - (at + 1) ≡ e = omega arith in
    let rest : length (drop (at + 1) o) ≡ length o - (at + 1) = length-drop (at + 1) o in
    let cut : take e (drop (at + 1) o) ≡ take k (take n (drop (at + 1) o)) =
    rw (he, ← rest) (up_to-take (length (drop (at + 1) o)) m (drop (at + 1) o) ∙ ap (take m) (take-length (drop (at + 1) o)) ∙ rw hm (up_to-take n k (drop (at + 1) o))) in
    let first : get_or (drop at o) 0 0 ≡ k = get_or-drop at o 0 0 ∙ rw (add-zero at) (sym hk) in
    (rw (size, first, drop-drop 1 at o) cut, rw (size, cut) (simp length-take (omega arith)))

pub spaced-out : (o : List ℕ) (at n : ℕ) → length o ≤ at → (◌≡◌ {A = List ℕ} [] (spaced_in n (drop at o))) × (0 ≤ n)
unfolding spaced_in
spaced-out o at n h = (rw (drop_of_length-le o {i = at} h) refl, omega arith)

-- ---- a name

pub two-small : (n : ℕ) → n < 256 → two n ≡ 0 ∷ n ∷ []
unfolding two
two-small n h =
    let high : n / 256 % 256 ≡ 0 = omega arith in
    let low : n % 256 ≡ n = omega arith in
    cc

pub head-put : (out : List ℕ) (f k : ℕ) → out ≡ 6 ∷ 0 ∷ f ∷ k ∷ [] → f ≡ pick (eqb k 4) 1 2 → out ≡ 6 ∷ (two (pick (eqb k 4) 1 2) ++ (k ∷ []))
head-put out f k e h =
    let small : f < 256 = rw h (picked (λ (n : ℕ). n < 256) (eqb k 4) (λ _. omega arith) (λ _. omega arith)) in
    rw (← h, two-small f small) e

-- one part more at the front
take-mid : (a k e : ℕ) (xs p ys : List ℕ) → take a xs ≡ p → a ≤ length xs → length ys ≡ k → e ≡ a + k → take e (mid a k xs ys) ≡ p ++ ys
take-mid a k e xs p ys hp ha hy he =
    let l : length (take a xs ++ ys) ≡ e = length-append (take a xs) ys ∙ omega (arith, length-take-le a xs ha) in
    ap (take e) (sym (append_assoc (take a xs) ys (drop k (drop a xs)))) ∙ take_at (take a xs ++ ys) (drop k (drop a xs)) e l ∙ ap (λ (l : List ℕ). l ++ ys) hp

regroup : (us vs ws zs : List ℕ) → ((us ++ vs) ++ ws) ++ zs ≡ us ++ (vs ++ (ws ++ zs))
regroup us vs ws zs = simp append_assoc

-- the four parts of a name, each written behind the others
module _ (xs us vs ws zs root opaque : List ℕ) (a b e : ℕ) (hl : length xs ≡ name_limit) (hr : length root ≤ root_limit) (ho : length opaque ≤ saved_opaque) (ha : a ≡ 4 + length root) (hb : b ≡ a + 2) (he : e ≡ b + length opaque) where
  pub name-put : us ≡ 6 ∷ (two (pick (eqb (length root) 4) 1 2) ++ (length root ∷ [])) → vs ≡ root → ws ≡ two (length opaque) → zs ≡ opaque
      → take e (mid b (e - b) (mid a (b - a) (mid 4 (a - 4) (mid 0 4 xs us) vs) ws) zs) ≡ element (pick (eqb (length root) 4) 1 2) root opaque
  unfolding element two
  name-put hu hv hw hz =
      let p : take 4 (mid 0 4 xs us) ≡ us = take-mid 0 4 4 xs [] us refl (omega arith) (ap length hu) refl in
      let lp : length (mid 0 4 xs us) ≡ name_limit = mid-length 0 4 xs us (omega arith) (ap length hu) ∙ hl in
      let q : take a (mid 4 (a - 4) (mid 0 4 xs us) vs) ≡ us ++ vs = take-mid 4 (a - 4) a (mid 0 4 xs us) us vs p (omega arith) (ap length hv ∙ omega arith) (omega arith) in
      let lq : length (mid 4 (a - 4) (mid 0 4 xs us) vs) ≡ name_limit = mid-length 4 (a - 4) (mid 0 4 xs us) vs (omega arith) (ap length hv ∙ omega arith) ∙ lp in
      let r : take b (mid a (b - a) (mid 4 (a - 4) (mid 0 4 xs us) vs) ws) ≡ (us ++ vs) ++ ws = take-mid a (b - a) b (mid 4 (a - 4) (mid 0 4 xs us) vs) (us ++ vs) ws q (omega arith) (ap length hw ∙ omega arith) (omega arith) in
      let lr : length (mid a (b - a) (mid 4 (a - 4) (mid 0 4 xs us) vs) ws) ≡ name_limit = mid-length a (b - a) (mid 4 (a - 4) (mid 0 4 xs us) vs) ws (omega arith) (ap length hw ∙ omega arith) ∙ lq in
      take-mid b (e - b) e (mid a (b - a) (mid 4 (a - 4) (mid 0 4 xs us) vs) ws) ((us ++ vs) ++ ws) zs r (omega arith) (ap length hz ∙ omega arith) (omega arith)
      ∙ regroup us vs ws zs ∙ rw (hu, hv, hw, hz) refl

pub name_in_lem : (o root opaque : List ℕ) (at : ℕ) → root ≡ spaced_in root_limit (drop at o) → opaque ≡ spaced_in saved_opaque (drop (at + (1 + root_limit)) o) → element (pick (eqb (length root) 4) 1 2) root opaque ≡ name_in old (drop at o)
unfolding name_in
name_in_lem o root opaque at hr ho = rw (hr, ho, ← drop-drop (1 + root_limit) at o) refl

pub whole_in : (o name xs ys : List ℕ) (at : ℕ) → length xs ≡ name_limit → length name ≤ name_limit → ys ≡ name → name ≡ spaced_in name_limit (drop at o) → take (length name) (mid 0 (length name - 0) xs ys) ≡ name_in new (drop at o)
unfolding name_in
whole_in o name xs ys at l h e k =
    let z : length name - 0 ≡ length name = omega arith in
    rw (z, e) (take-mid 0 (length name) (length name) xs [] name refl (omega arith) refl (omega arith) ∙ k)

-- ---- by the form

pub name_new : (b : Bool) (o xs : List ℕ) → b ≡ true → xs ≡ name_in new o → xs ≡ name_in (form_of b) o
unfolding form_of
name_new b o xs e h = rw e h

pub name-old : (b : Bool) (o xs : List ℕ) → b ≡ false → xs ≡ name_in old o → xs ≡ name_in (form_of b) o
unfolding form_of
name-old b o xs e h = rw e h

pub extent-new : (b : Bool) (o : List ℕ) (at x : ℕ) → b ≡ true → x ≡ get_or o at 0 → x + 1 ≡ extent (form_of b) (drop at o)
unfolding form_of
extent-new b o at x e h = rw e (let one_on : x + 1 ≡ suc x = omega arith in one_on ∙ ap suc h ∙ sym (extent-there o at))

pub extent-old : (b : Bool) (o : List ℕ) → b ≡ false → spaced_name ≡ extent (form_of b) o
unfolding form_of
extent-old b o e = rw e refl
