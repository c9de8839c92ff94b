-- The laws of a list written from the front, and of a list with a part anew. Assumes nothing.
use Prim.Native.Nat.{ℕ, zero, suc, ◌+◌, ◌-◌, ◌≤◌, ◌<◌}
use native.Mathlib.Nat.{le_of_suc-le-suc, not-suc-le-zero, zero-add, suc-add}
use native.Mathlib.Numerals.{add-one}
use native.Mathlib.Omega.{arith}
use mathlib.Core.Path.{◌≡◌, refl, sym, ap, ◌∙◌}
use mathlib.Core.List.{List, [], ◌∷◌, ◌++◌, append_assoc}
use lib.ListN.{length, take, drop, get_or, set, length-append, length-drop, get_or-append, drop_of_length-le}
use lib.Seq.{sets, sets-eq, take_at, drop_at, drop-drop, length-take-le, take_all, take-take, take-append-le, take-append-add, drop-append-add, get_or-take, get_or-drop, get_or-append-add, take-add, ext_get_or}
use lib.Dec.{ltb}
use borrow.Author.Tests.{ltb-true, ltb-false}
use Rattle.meaning.specs.Lists.{append-nil, by-test}
use Rattle.octets.specs.Part.{mid, shifted}

module _ {ℓ} {A : Type ℓ} where
  -- every element set, one after the other
  pub sets-all : (vs l : List A) → length l ≡ length vs → sets l 0 vs ≡ vs
  sets-all vs l e = sets-eq vs l 0 (omega arith) ∙ rw (drop_of_length-le l {i = 0 + length vs} (omega arith)) (append-nil vs)

  -- a list that was written from the front: i elements of src, and then its own
  abbrev pub front : ℕ → List A → List A → List A
  front i src d = take i src ++ drop i d

  store : (src d : List A) (z : A) (i : ℕ) → i < length src → i < length d → set (front i src d) i (get_or src i z) ≡ front (suc i) src d
  store [] d z i h k = absurd (not-suc-le-zero h)
  store (x ∷ xs) [] z i h k = absurd (not-suc-le-zero k)
  store (x ∷ xs) (y ∷ ys) z zero h k = refl
  store (x ∷ xs) (y ∷ ys) z (suc i) h k = ap (λ (l : List A). x ∷ l) (store xs ys z i (le_of_suc-le-suc h) (le_of_suc-le-suc k))

  -- a turn: the store of the next element
  pub front-more : (src d e : List A) (z v : A) (i : ℕ) → i < length src → i < length d → e ≡ front i src d → v ≡ get_or src i z → set e i v ≡ front (i + 1) src d
  front-more src d e z v i h k p q = rw (p, q, add-one i) (store src d z i h k)

  pub front_length : (src d e : List A) (i : ℕ) → i ≤ length src → i ≤ length d → e ≡ front i src d → length e ≡ length d
  front_length src d e i h k p = rw p (simp (length-append, length-drop, length-take-le i src h) (omega arith))

  -- what lies behind the place is as it was
  pub front-behind : (src d e : List A) (z : A) (i j : ℕ) → i ≤ length src → i ≤ length d → e ≡ front i src d → i ≤ j → get_or e j z ≡ get_or d j z
  front-behind src d e z i j h k p le =
      let t : length (take i src) ≡ i = length-take-le i src h in
      let q : j ≡ length (take i src) + (j - i) = omega (arith, t) in
      let q' : j ≡ i + (j - i) = omega arith in
      rw p (ap (λ (n : ℕ). get_or (front i src d) n z) q ∙ get_or-append-add (take i src) (drop i d) (j - i) z ∙ get_or-drop i d (j - i) z ∙ ap (λ (n : ℕ). get_or d n z) (sym q'))

  -- ---- a part anew

  pub mid-length : (a k : ℕ) (xs ys : List A) → a + k ≤ length xs → length ys ≡ k → length (mid a k xs ys) ≡ length xs
  mid-length a k xs ys h e = simp (length-append, length-drop, length-take-le a xs (omega arith)) (omega arith)

  pub mid-in : (a k : ℕ) (xs ys : List A) (z : A) (j : ℕ) → a ≤ length xs → j < length ys → get_or (mid a k xs ys) (a + j) z ≡ get_or ys j z
  mid-in a k xs ys z j h l =
      let t : length (take a xs) ≡ a = length-take-le a xs h in
      ap (λ (n : ℕ). get_or (mid a k xs ys) (n + j) z) (sym t) ∙ get_or-append-add (take a xs) (ys ++ drop k (drop a xs)) j z ∙ get_or-append ys (drop k (drop a xs)) z j l

  pub mid-before : (a k : ℕ) (xs ys : List A) (z : A) (j : ℕ) → a ≤ length xs → j < a → get_or (mid a k xs ys) j z ≡ get_or xs j z
  mid-before a k xs ys z j h l =
      let t : length (take a xs) ≡ a = length-take-le a xs h in
      get_or-append (take a xs) (ys ++ drop k (drop a xs)) z j (omega (arith, t)) ∙ get_or-take a xs j z l

  pub mid-after : (a k : ℕ) (xs ys : List A) (z : A) (j : ℕ) → a ≤ length xs → length ys ≡ k → a + k ≤ j → get_or (mid a k xs ys) j z ≡ get_or xs j z
  mid-after a k xs ys z j h e l =
      let t : length (take a xs) ≡ a = length-take-le a xs h in
      let q : j ≡ length (take a xs) + (length ys + (j - a - k)) = omega (arith, t) in
      let q' : a + (k + (j - a - k)) ≡ j = omega arith in
      ap (λ (n : ℕ). get_or (mid a k xs ys) n z) q
      ∙ get_or-append-add (take a xs) (ys ++ drop k (drop a xs)) (length ys + (j - a - k)) z
      ∙ get_or-append-add ys (drop k (drop a xs)) (j - a - k) z
      ∙ get_or-drop k (drop a xs) (j - a - k) z
      ∙ get_or-drop a xs (k + (j - a - k)) z
      ∙ ap (λ (n : ℕ). get_or xs n z) q'

  -- ---- moved down

  pub shifted-length : (w : ℕ) (l : List A) → w ≤ length l → length (shifted w l) ≡ length l
  unfolding shifted
  shifted-length w l h = simp (length-append, length-drop) (omega arith)

  pub shifted_in : (w : ℕ) (l : List A) (z : A) (j : ℕ) → j + w < length l → get_or (shifted w l) j z ≡ get_or l (j + w) z
  unfolding shifted
  shifted_in w l z j h =
      let q : w + j ≡ j + w = omega arith in
      get_or-append (drop w l) (drop (length l - w) l) z j (simp length-drop (omega arith)) ∙ get_or-drop w l j z ∙ ap (λ (n : ℕ). get_or l n z) q

  -- a part of a list moved down: `moved a k w xs` is what `shift(&mut xs[a..a + k], w)` leaves
  abbrev pub moved : ℕ → ℕ → ℕ → List A → List A
  moved a k w xs = mid a k xs (shifted w (take k (drop a xs)))

  part_length : (a k : ℕ) (xs : List A) → a + k ≤ length xs → length (take k (drop a xs)) ≡ k
  part_length a k xs h = length-take-le k (drop a xs) (simp length-drop (omega arith))

  pub moved_length : (a k w : ℕ) (xs : List A) → a + k ≤ length xs → w ≤ k → length (moved a k w xs) ≡ length xs
  moved_length a k w xs h l =
      let p = part_length a k xs h in
      mid-length a k xs (shifted w (take k (drop a xs))) h (shifted-length w (take k (drop a xs)) (omega (arith, p)) ∙ p)

  pub moved_before : (a k w : ℕ) (xs : List A) (z : A) (j : ℕ) → a ≤ length xs → j < a → get_or (moved a k w xs) j z ≡ get_or xs j z
  moved_before a k w xs z j h l = mid-before a k xs (shifted w (take k (drop a xs))) z j h l

  pub moved_in : (a k w : ℕ) (xs : List A) (z : A) (j : ℕ) → a + k ≤ length xs → w ≤ k → a ≤ j → j + w < a + k → get_or (moved a k w xs) j z ≡ get_or xs (j + w) z
  moved_in a k w xs z j h wk l m =
      let p = part_length a k xs h in
      let sl = shifted-length w (take k (drop a xs)) (omega (arith, p)) in
      let q : j ≡ a + (j - a) = omega arith in
      let q' : a + (j - a + w) ≡ j + w = omega arith in
      ap (λ (n : ℕ). get_or (moved a k w xs) n z) q
      ∙ mid-in a k xs (shifted w (take k (drop a xs))) z (j - a) (omega arith) (omega (arith, p, sl))
      ∙ shifted_in w (take k (drop a xs)) z (j - a) (omega (arith, p))
      ∙ get_or-take k (drop a xs) (j - a + w) z (omega arith)
      ∙ get_or-drop a xs (j - a + w) z
      ∙ ap (λ (n : ℕ). get_or xs n z) q'

  -- the whole of the loop
  pub shifted-done : (w : ℕ) (l e : List A) (i : ℕ) → w ≤ length l → length l - w ≤ i → i ≤ length l - w → e ≡ front i (drop w l) l → e ≡ shifted w l
  unfolding shifted
  shifted-done w l e i h k le p =
      let q : i ≡ length l - w = omega arith in
      rw p (rw (take_all i (drop w l) (simp length-drop (omega arith)), q))

  pub copy_done : (src d e : List A) (i : ℕ) → length src ≤ i → length src ≡ length d → e ≡ front i src d → e ≡ src
  copy_done src d e i k le p = rw p (rw (take_all i src k, drop_of_length-le d {i = i} (omega arith)) (append-nil src))

  -- two parts one after the other are one part
  pub mid-mid : (a p q h k : ℕ) (xs ys zs : List A) → a + p ≤ length xs → length ys ≡ p → h ≡ a + p → k ≡ p + q → mid h q (mid a p xs ys) zs ≡ mid a k xs (ys ++ zs)
  mid-mid a p q h k xs ys zs ha hy hh hk =
      let t : length (take a xs ++ ys) ≡ h = length-append (take a xs) ys ∙ omega (arith, length-take-le a xs (omega arith)) in
      let rest : List A = drop p (drop a xs) in
      let s : mid a p xs ys ≡ (take a xs ++ ys) ++ rest = sym (append_assoc (take a xs) ys rest) in
      let t1 : take h (mid a p xs ys) ≡ take a xs ++ ys = ap (take h) s ∙ take_at (take a xs ++ ys) rest h t in
      let t2 : drop h (mid a p xs ys) ≡ rest = ap (drop h) s ∙ drop_at (take a xs ++ ys) rest h t in
      let t3 : drop q rest ≡ drop k (drop a xs) = drop-drop q p (drop a xs) ∙ ap (λ (n : ℕ). drop n (drop a xs)) (sym hk) in
      rw (t1, t2, t3) (append_assoc (take a xs) ys (zs ++ drop k (drop a xs)) ∙ ap (λ (l : List A). take a xs ++ l) (sym (append_assoc ys zs (drop k (drop a xs)))))

  -- a part that goes over the last of the part before it
  pub mid-over : (a p q k : ℕ) (xs ys zs : List A) → a + p ≤ length xs → length ys ≡ p → k ≤ p → p ≤ k + q → mid (a + k) q (mid a p xs ys) zs ≡ mid a (k + q) xs (take k ys ++ zs)
  mid-over a p q k xs ys zs ha hy kp pq =
      let t : length (take a xs) ≡ a = length-take-le a xs (omega arith) in
      let rest : List A = drop p (drop a xs) in
      let t1 : take (a + k) (mid a p xs ys) ≡ take a xs ++ take k ys =
      ap (λ (n : ℕ). take (n + k) (mid a p xs ys)) (sym t) ∙ take-append-add (take a xs) (ys ++ rest) k ∙ ap (λ (l : List A). take a xs ++ l) (take-append-le k ys rest (omega arith)) in
      let t2 : drop (a + k) (mid a p xs ys) ≡ drop k (ys ++ rest) =
      ap (λ (n : ℕ). drop (n + k) (mid a p xs ys)) (sym t) ∙ drop-append-add (take a xs) (ys ++ rest) k in
      let all : k + q ≡ length ys + (k + q - p) = omega arith in
      let back : p + (k + q - p) ≡ k + q = omega arith in
      let t3 : drop q (drop k (ys ++ rest)) ≡ drop (k + q) (drop a xs) =
      drop-drop q k (ys ++ rest)
      ∙ ap (λ (n : ℕ). drop n (ys ++ rest)) all
      ∙ drop-append-add ys rest (k + q - p)
      ∙ drop-drop (k + q - p) p (drop a xs)
      ∙ ap (λ (n : ℕ). drop n (drop a xs)) back in
      rw (t1, t2, t3) (append_assoc (take a xs) (take k ys) (zs ++ drop (k + q) (drop a xs)) ∙ ap (λ (l : List A). take a xs ++ l) (sym (append_assoc (take k ys) zs (drop (k + q) (drop a xs)))))

  -- ---- a part that is written from its front

  mid-store : (src : List A) (z : A) (a i : ℕ) (xs : List A) → i < length src → a + i < length xs → set (mid a i xs (take i src)) (a + i) (get_or src i z) ≡ mid a (suc i) xs (take (suc i) src)
  mid-store src z zero i xs h k = rw (zero-add i) (store src xs z i h (rw (zero-add i) at k))
  mid-store src z (suc a) i [] h k = absurd (not-suc-le-zero k)
  mid-store src z (suc a) i (x ∷ xs) h k = rw (suc-add a i) (ap (λ (l : List A). x ∷ l) (mid-store src z a i xs h (le_of_suc-le-suc (rw (suc-add a i) at k))))

  pub mid-more : (src xs e : List A) (z v : A) (a i : ℕ) → i < length src → a + i < length xs → e ≡ mid a i xs (take i src) → v ≡ get_or src i z → set e (a + i) v ≡ mid a (i + 1) xs (take (i + 1) src)
  mid-more src xs e z v a i h k p q = rw (p, q, add-one i) (mid-store src z a i xs h k)

  pub mid_none : (a : ℕ) (xs : List A) → xs ≡ mid a 0 xs []
  mid_none zero xs = refl
  mid_none (suc a) [] = refl
  mid_none (suc a) (x ∷ xs) = ap (λ (l : List A). x ∷ l) (mid_none a xs)

-- ---- a part copied to another place

-- a part behind one that was copied: what it is copied from stands as it was
unmoved : (s ys : List ℕ) (to i from k : ℕ) → from + k ≤ to → to + i ≤ length s → length ys ≡ i → take k (drop from (mid to i s ys)) ≡ take k (drop from s)
unmoved s ys to i from k h l e =
    let n = mid-length to i s ys l e in
    ext_get_or 0 (take k (drop from (mid to i s ys))) (take k (drop from s)) (length-take-le k (drop from (mid to i s ys)) (simp length-drop (omega (arith, n))) ∙ sym (length-take-le k (drop from s) (simp length-drop (omega arith)))) (λ j m. at j (rw (length-take-le k (drop from (mid to i s ys)) (simp length-drop (omega (arith, n)))) at m))
  where
    at : (j : ℕ) → j < k → get_or (take k (drop from (mid to i s ys))) j 0 ≡ get_or (take k (drop from s)) j 0
    at j m =
        get_or-take k (drop from (mid to i s ys)) j 0 m ∙ get_or-drop from (mid to i s ys) j 0 ∙ mid-before to i s ys 0 (from + j) (omega arith) (omega arith)
        ∙ sym (get_or-take k (drop from s) j 0 m ∙ get_or-drop from s j 0)

-- k more from place i on, which is no place behind the m that are there
pub copied_more : (s e : List ℕ) (from to m i k : ℕ) → i ≤ m → m ≤ i + k → from + i + k ≤ to → to + i + k ≤ length s → e ≡ mid to m s (take m (drop from s))
    → mid (to + i) k e (take k (drop (from + i) e)) ≡ mid to (i + k) s (take (i + k) (drop from s))
copied_more s e from to m i k le lk h l p =
    let ys = take m (drop from s) in
    let y : length ys ≡ m = length-take-le m (drop from s) (simp length-drop (omega arith)) in
    let z : take k (drop (from + i) (mid to m s ys)) ≡ take k (drop i (drop from s)) =
    unmoved s ys to m (from + i) k (omega arith) (omega arith) y ∙ ap (take k) (sym (drop-drop i from s)) in
    let w : take i ys ++ take k (drop (from + i) (mid to m s ys)) ≡ take (i + k) (drop from s) =
    rw (take-take i m (drop from s) le, z) (sym (take-add i k (drop from s))) in
    ap (λ (x : List ℕ). mid (to + i) k x (take k (drop (from + i) x))) p
    ∙ mid-over to m k i s ys (take k (drop (from + i) (mid to m s ys))) (omega arith) y le lk
    ∙ ap (mid to (i + k) s) w

-- ---- a text by eights and by fours

-- d is src as far as place m
pub record Laid (m : ℕ) (src d : List ℕ) : Type 0 where
  pub long : length d ≡ length src
  pub at : (j : ℕ) → j < m → get_or d j 0 ≡ get_or src j 0

pub laid_none : (src d : List ℕ) → length src ≡ length d → Laid 0 src d
laid_none src d e = record { long = sym e; at = λ j h. absurd (not-suc-le-zero h) }

-- k more from place i on, which is no place behind m
pub laid_more : (k m i : ℕ) (src d e : List ℕ) → Laid m src d → i ≤ m → i + k ≤ length src → e ≡ mid i k d (take k (drop i src)) → Laid (i + k) src e
laid_more k m i src d e l le h is =
    let long : length (take k (drop i src)) ≡ k = length-take-le k (drop i src) (simp length-drop (omega arith)) in
    let near : i + k ≤ length d = omega (arith, l.long) in
    record {
      long = ap length is ∙ mid-length i k d (take k (drop i src)) near long ∙ l.long;
      at = λ j b. by-test (ltb j i)
          (λ t. let b' = ltb-true j i t in ap (λ (x : List ℕ). get_or x j 0) is ∙ mid-before i k d (take k (drop i src)) 0 j (omega arith) b' ∙ l.at j (omega arith))
          (λ t.
          let b' = ltb-false j i t in
          let q : j ≡ i + (j - i) = omega arith in
          ap (λ (x : List ℕ). get_or x j 0) is
          ∙ ap (λ (n : ℕ). get_or (mid i k d (take k (drop i src))) n 0) q
          ∙ mid-in i k d (take k (drop i src)) 0 (j - i) (omega arith) (omega (arith, long))
          ∙ get_or-take k (drop i src) (j - i) 0 (omega arith)
          ∙ get_or-drop i src (j - i) 0
          ∙ ap (λ (n : ℕ). get_or src n 0) (sym q));
    }

pub laid-all : (m : ℕ) (src d : List ℕ) → Laid m src d → length src ≤ m → d ≡ src
laid-all m src d l h = ext_get_or 0 d src l.long (λ j k. l.at j (omega (arith, l.long)))
