-- Two lists compared part by part, from the end. Assumes nothing.
use Prim.Native.Nat.{ℕ, zero, suc, ◌+◌, ◌-◌, ◌≤◌, ◌<◌}
use native.Mathlib.Nat.{le_of_suc-le-suc, not-suc-le-zero, zero-add, suc-add}
use native.Mathlib.Numerals.{add-one}
use native.Mathlib.Omega.{arith}
use mathlib.Core.Path.{◌≡◌, refl, sym, ap, ap₂, ◌∙◌}
use mathlib.Core.List.{List, [], ◌∷◌, ◌++◌}
use lib.ListN.{length, take, drop, get_or, length-drop, take-append-drop}
use lib.Seq.{drop-drop, drop-cons, ext_get_or, get_or-take, get_or-drop, length-take-le}
use mathlib.Core.Bool.{true, false, ◌&&◌}
use lib.Dec.{eqb}
use Rattle.meaning.specs.Octets.{same}
use Rattle.meaning.specs.Lists.{by-test, same-eq, same-no, same_refl}

-- ---- a comparison from the end

not_same : (a b : List ℕ) → (a ≡ b → ⊥) → same a b ≡ false
not_same a b ne = by-test (same a b) (λ e. absurd (ne (same-eq a b e))) (λ e. e)

pub same_length : (a b : List ℕ) → (length a ≡ length b → ⊥) → same a b ≡ false
same_length a b ne = not_same a b (λ e. ne (ap length e))

pub same-differ : (a b : List ℕ) (i : ℕ) → (get_or a i 0 ≡ get_or b i 0 → ⊥) → same a b ≡ false
same-differ a b i ne = not_same a b (λ e. ne (ap (λ (l : List ℕ). get_or l i 0) e))

-- two octets
pub same-two : (a b : List ℕ) (i j : ℕ) → i + 2 ≤ length a → j + 2 ≤ length b → (eqb (get_or a i 0) (get_or b j 0) && eqb (get_or a (i + 1) 0) (get_or b (j + 1) 0)) ≡ same (take 2 (drop i a)) (take 2 (drop j b))
unfolding same
same-two a b i j h k =
    rw (drop-cons a i 0 (omega arith), drop-cons b j 0 (omega arith), drop-cons a (suc i) 0 (omega arith), drop-cons b (suc j) 0 (omega arith), add-one i, add-one j)
    (by-test (eqb (get_or a i 0) (get_or b j 0)) (λ t. rw t (by-test (eqb (get_or a (suc i) 0) (get_or b (suc j) 0)) (λ u. rw u refl) (λ u. rw u refl))) (λ t. rw t refl))

-- a part and the part behind it are one part
same-split : (k m : ℕ) (xs ys : List ℕ) → k ≤ length xs → k ≤ length ys → (same (take k xs) (take k ys) && same (take m (drop k xs)) (take m (drop k ys))) ≡ same (take (k + m) xs) (take (k + m) ys)
unfolding same
same-split zero m xs ys h l = rw (zero-add m) refl
same-split (suc k) m [] ys h l = absurd (not-suc-le-zero h)
same-split (suc k) m (x ∷ xs) [] h l = absurd (not-suc-le-zero l)
same-split (suc k) m (x ∷ xs) (y ∷ ys) h l =
    rw (suc-add k m) (by-test (eqb x y) (λ t. rw t (same-split k m xs ys (le_of_suc-le-suc h) (le_of_suc-le-suc l))) (λ t. rw t refl))

pub same-join : (k m n i j p q : ℕ) (a b : List ℕ) → n ≡ k + m → p ≡ i + k → q ≡ j + k → p ≤ length a → q ≤ length b → (same (take k (drop i a)) (take k (drop j b)) && same (take m (drop p a)) (take m (drop q b))) ≡ same (take n (drop i a)) (take n (drop j b))
same-join k m n i j p q a b e f g h l =
    rw (e, f, g, sym (drop-drop k i a), sym (drop-drop k j b)) (same-split k m (drop i a) (drop j b) (simp length-drop (omega arith)) (simp length-drop (omega arith)))

-- parts whose octets are the same
pub same_at : (k i j : ℕ) (a b : List ℕ) → i + k ≤ length a → j + k ≤ length b → ((m : ℕ) → m < k → get_or a (i + m) 0 ≡ get_or b (j + m) 0) → same (take k (drop i a)) (take k (drop j b)) ≡ true
same_at k i j a b h l p =
    let x : length (take k (drop i a)) ≡ k = length-take-le k (drop i a) (simp length-drop (omega arith)) in
    let y : length (take k (drop j b)) ≡ k = length-take-le k (drop j b) (simp length-drop (omega arith)) in
    let e : take k (drop i a) ≡ take k (drop j b) =
    ext_get_or 0 (take k (drop i a)) (take k (drop j b)) (x ∙ sym y) (λ m lt.
    let q : m < k = omega (arith, x) in
    get_or-take k (drop i a) m 0 q ∙ get_or-drop i a m 0 ∙ p m q ∙ sym (get_or-take k (drop j b) m 0 q ∙ get_or-drop j b m 0)) in
    ap (same (take k (drop i a))) (sym e) ∙ same_refl (take k (drop i a))

-- parts that differ
pub same-part : (k i : ℕ) (a b : List ℕ) → same (take k (drop i a)) (take k (drop i b)) ≡ false → same a b ≡ false
same-part k i a b n = not_same a b (λ e. same-no (take k (drop i a)) (take k (drop i b)) n (ap (λ (l : List ℕ). take k (drop i l)) e))

-- a part before what is the same already
pub same-before : (k i j : ℕ) (a b : List ℕ) → j ≡ i + k → same (take k (drop i a)) (take k (drop i b)) ≡ true → drop j a ≡ drop j b → drop i a ≡ drop i b
same-before k i j a b e t p =
    let q : drop k (drop i a) ≡ drop k (drop i b) = drop-drop k i a ∙ ap (λ (n : ℕ). drop n a) (sym e) ∙ p ∙ ap (λ (n : ℕ). drop n b) e ∙ sym (drop-drop k i b) in
    sym (take-append-drop k (drop i a)) ∙ ap₂ ◌++◌ (same-eq (take k (drop i a)) (take k (drop i b)) t) q ∙ take-append-drop k (drop i b)

pub same-before-at : (i : ℕ) (a b : List ℕ) → i < length a → i < length b → get_or a i 0 ≡ get_or b i 0 → drop (i + 1) a ≡ drop (i + 1) b → drop i a ≡ drop i b
same-before-at i a b h l e p = rw (drop-cons a i 0 h, drop-cons b i 0 l, e, sym (add-one i), p) refl

-- what is the same from place n on is the same where the first k are, which reach so far
pub same_first : (k n : ℕ) (a b : List ℕ) → n ≤ k → drop n a ≡ drop n b → same (take k (drop 0 a)) (take k (drop 0 b)) ≡ same a b
same_first k n a b h p =
    let m : n + (k - n) ≡ k = omega arith in
    let q : drop k a ≡ drop k b =
    ap (λ (j : ℕ). drop j a) (sym m) ∙ sym (drop-drop (k - n) n a) ∙ ap (drop (k - n)) p ∙ drop-drop (k - n) n b ∙ ap (λ (j : ℕ). drop j b) m in
    by-test (same (take k (drop 0 a)) (take k (drop 0 b)))
    (λ t. let e : a ≡ b = same-before k 0 k a b (omega arith) t q in t ∙ sym (ap (same a) (sym e) ∙ same_refl a))
    (λ t. t ∙ sym (same-part k 0 a b t))
