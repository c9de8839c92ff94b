-- The laws of a part written and of a gap closed, and of a text in a slot. Assumes nothing.
use Prim.Native.Nat.{ℕ, zero, suc, ◌+◌, ◌-◌, ◌≤◌, ◌<◌}
use native.Mathlib.Nat.{add-zero}
use native.Mathlib.Omega.{arith}
use mathlib.Core.Path.{◌≡◌, refl, sym, ap, ◌∙◌}
use mathlib.Core.List.{List, ◌∷◌}
use lib.ListN.{length, take, drop, get_or, set, replicate, length-set, length-drop, length-replicate}
use lib.Seq.{get_or-set_same, get_or-set_other, get_or-take, length-take-le}
use lib.Dec.{ltb}
use borrow.Author.Tests.{ltb-true, ltb-false}
use mathlib.Core.Bool.{true, false}
use Rattle.meaning.specs.Octets.{same}
use Rattle.meaning.specs.Lists.{by-test, same-eq}
use Rattle.octets.specs.Part.{mid, shifted}
use Rattle.octets.proofs.Parts.{mid-length, mid-in, mid-before, mid-after, moved_length, moved_in, shifted-length}
use Rattle.octets.proofs.Same.{same_at}
use Rattle.octets.proofs.Tab.{tab-length, tab-get, tab-ext, tab-is}
use Rattle.memory.specs.Memory.{up_to, text_at, Placed}
use Rattle.memory.proofs.Memory.{up_to-le, up_to-in}
use Rattle.memory.specs.Parts.{Written, Closed}

-- outside the part
mid-out : (a k : ℕ) (xs ys : List ℕ) (j : ℕ) → a ≤ length xs → length ys ≡ k → (a ≤ j → j < a + k → ⊥) → get_or (mid a k xs ys) j 0 ≡ get_or xs j 0
mid-out a k xs ys j h e out =
    by-test (ltb j a)
    (λ t. mid-before a k xs ys 0 j h (ltb-true j a t))
    (λ t. let le = ltb-false j a t in mid-after a k xs ys 0 j h e (by-test (ltb j (a + k)) (λ t. absurd (out le (ltb-true j (a + k) t))) (λ t. ltb-false j (a + k) t)))

pub written : (a k : ℕ) (xs vs : List ℕ) → a + k ≤ length xs → length vs ≡ k → Written a vs xs (mid a k xs vs)
written a k xs vs h e = record {
  long = mid-length a k xs vs h e;
  here = λ j lt. mid-in a k xs vs 0 j (omega arith) lt;
  rest = λ j out. mid-out a k xs vs j (omega arith) e (λ l m. out l (omega arith));
}

-- what `zero(&mut xs[a..a + k])` leaves behind
pub cleared : (a k q : ℕ) (xs ys : List ℕ) → a + k ≤ length xs → q ≡ k → ys ≡ replicate (length (take q (drop a xs))) 0 → Written a (replicate k 0) xs (mid a q xs ys)
cleared a k q xs ys h hq hy =
    let part : length (take q (drop a xs)) ≡ k = length-take-le q (drop a xs) (simp length-drop (omega arith)) ∙ hq in
    let e : ys ≡ replicate k 0 = hy ∙ ap (λ (n : ℕ). replicate n 0) part in
    rw e (written a q xs (replicate k 0) (omega arith) (length-replicate k 0 ∙ sym hq))

-- what `shift(&mut xs[a..e], w)` leaves behind
pub closed : (a e w : ℕ) (xs ys : List ℕ) → a + w ≤ e → e ≤ length xs → ys ≡ shifted w (take (e - a) (drop a xs)) → Closed a e w xs (mid a (e - a) xs ys)
closed a e w xs ys h l hy =
    let part : length (take (e - a) (drop a xs)) ≡ e - a = length-take-le (e - a) (drop a xs) (simp length-drop (omega arith)) in
    let long : length (shifted w (take (e - a) (drop a xs))) ≡ e - a = shifted-length w (take (e - a) (drop a xs)) (omega (arith, part)) ∙ part in
    rw hy (record {
      long = moved_length a (e - a) w xs (omega arith) (omega arith);
      down = λ j x y. moved_in a (e - a) w xs 0 j (omega arith) (omega arith) x (omega arith);
      rest = λ j out. mid-out a (e - a) xs (shifted w (take (e - a) (drop a xs))) j (omega arith) long (λ x y. out x (omega arith));
    })

-- a text's length, and then its octets
pub text-written : (at k : ℕ) (os qs o : List ℕ) → at + 1 + length o ≤ length os → k ≡ length o → qs ≡ o → Written at (length o ∷ o) os (mid (at + 1) k (set os at (length o)) qs)
text-written at k os qs o h hk hq = rw hq (record {
  long = mid-length (at + 1) k os' o (omega (arith, l')) (sym hk) ∙ l';
  here = places;
  rest = λ j out. mid-out (at + 1) k os' o j (omega (arith, l')) (sym hk) (λ x y. out (omega arith) (omega arith)) ∙ get_or-set_other os at j (length o) 0 (λ e. out (omega arith) (omega arith));
})
  where
    os' : List ℕ
    os' = set os at (length o)

    l' : length os' ≡ length os
    l' = length-set os at (length o)

    places : (j : ℕ) → j < suc (length o) → get_or (mid (at + 1) k os' o) (at + j) 0 ≡ get_or (length o ∷ o) j 0
    places zero lt = rw (add-zero at) (mid-before (at + 1) k os' o 0 at (omega (arith, l')) (omega arith) ∙ get_or-set_same os at (length o) 0 (omega arith))
    places (suc j) lt =
        let e : at + suc j ≡ at + 1 + j = omega arith in
        rw e (mid-in (at + 1) k os' o 0 j (omega (arith, l')) (omega arith))

-- ---- what stands at another place, and texts

-- the k places of ys from q on hold what those of xs from p on do
abbrev pub Carries : ℕ → ℕ → ℕ → List ℕ → List ℕ → Type 0
Carries p q k xs ys = (j : ℕ) → j < k → get_or ys (q + j) 0 ≡ get_or xs (p + j) 0

-- a row that stands lower
pub lower : (a e w p q k : ℕ) (xs ys : List ℕ) → Closed a e w xs ys → p ≡ q + w → a ≤ q → p + k ≤ e → Carries p q k xs ys
lower a e w p q k xs ys cl hp hq he j lt =
    let i : q + j + w ≡ p + j = omega arith in
    cl.down (q + j) (omega arith) (omega arith) ∙ ap (λ (n : ℕ). get_or xs n 0) i

-- the text goes with its own octets
pub text-brought : (k p q : ℕ) (os os' : List ℕ) → Carries p q (1 + length (text_at k os p)) os os' → text_at k os' q ≡ text_at k os p
unfolding text_at
text-brought k p q os os' h =
    let z : get_or os' q 0 ≡ get_or os p 0 = simp add-zero at (h 0 (omega arith)) in
    let l : length (text_at k os p) ≡ up_to k (get_or os p 0) = tab-length (up_to k (get_or os p 0)) (λ j. get_or os (p + 1 + j) 0) in
    rw z (tab-ext (up_to k (get_or os p 0)) _ _ (λ j lt.
    let x : q + 1 + j ≡ q + (1 + j) = omega arith in
    let y : p + (1 + j) ≡ p + 1 + j = omega arith in
    ap (λ (n : ℕ). get_or os' n 0) x ∙ h (1 + j) (omega (arith, l)) ∙ ap (λ (n : ℕ). get_or os n 0) y))

-- and so with its slot
pub text-carried : (k p q : ℕ) (os os' : List ℕ) → Carries p q (k + 1) os os' → text_at k os' q ≡ text_at k os p
unfolding text_at
text-carried k p q os os' h =
    let l : length (text_at k os p) ≡ up_to k (get_or os p 0) = tab-length (up_to k (get_or os p 0)) (λ j. get_or os (p + 1 + j) 0) in
    text-brought k p q os os' (λ j lt. h j (omega (arith, l, up_to-le k (get_or os p 0))))

-- the text that was put in
pub text-put : (k at : ℕ) (o os os' : List ℕ) → length o ≤ k → Written at (length o ∷ o) os os' → text_at k os' at ≡ o
unfolding text_at
text-put k at o os os' h w =
    let z : get_or os' at 0 ≡ length o = simp add-zero at (w.here 0 (omega arith)) in
    rw (z, up_to-in k (length o) h) (sym (tab-is o (length o) _ 0 refl (λ j lt.
    let x : at + suc j ≡ at + 1 + j = omega arith in
    sym (w.here (suc j) (omega arith)) ∙ ap (λ (n : ℕ). get_or os' n 0) x)))

-- and so it stands in its space
pub placed : (k at : ℕ) (o os os' : List ℕ) → length o ≤ k → Written at (length o ∷ o) os os' → Placed k at o os os'
placed k at o os os' h w = record { reads = text-put k at o os os' h w; rest = λ j out. w.rest j (λ x y. out x (omega arith)) }

-- a text that was laid in its space, and its length then put before it
pub text-laid : (k at q n : ℕ) (o os qs : List ℕ) → at + 1 + k ≤ length os → q ≡ k → length qs ≡ k → n ≤ k → take n qs ≡ o → Placed k at o os (set (mid (at + 1) q os qs) at n)
text-laid k at q n o os qs h hq lq hn ho = record {
  reads = unfold text_at in rw (first, up_to-in k n hn) (sym (tab-is o n _ 0 long octet));
  rest = λ j out. get_or-set_other ls at j n 0 (λ e. out (omega arith) (omega arith)) ∙ mid-out (at + 1) q os qs j (omega arith) (omega arith) (λ x y. out (omega arith) (omega arith));
}
  where
    ls : List ℕ
    ls = mid (at + 1) q os qs

    l' : length ls ≡ length os
    l' = mid-length (at + 1) q os qs (omega arith) (omega arith)

    first : get_or (set ls at n) at 0 ≡ n
    first = get_or-set_same ls at n 0 (omega (arith, l'))

    long : length o ≡ n
    long = ap length (sym ho) ∙ length-take-le n qs (omega arith)

    octet : (j : ℕ) → j < n → get_or o j 0 ≡ get_or (set ls at n) (at + 1 + j) 0
    octet j lt =
        ap (λ (l : List ℕ). get_or l j 0) (sym ho)
        ∙ get_or-take n qs j 0 lt
        ∙ sym (get_or-set_other ls at (at + 1 + j) n 0 (λ e. omega arith) ∙ mid-in (at + 1) q os qs 0 j (omega arith) (omega arith))

-- where the text is s, its octets stand behind its length
text-octet : (k at j : ℕ) (os s : List ℕ) → text_at k os at ≡ s → j < length s → get_or os (at + 1 + j) 0 ≡ get_or s j 0
unfolding text_at
text-octet k at j os s e h =
    let l : up_to k (get_or os at 0) ≡ length s = sym (tab-length (up_to k (get_or os at 0)) (λ j. get_or os (at + 1 + j) 0)) ∙ ap length e in
    sym (tab-get (up_to k (get_or os at 0)) (λ j. get_or os (at + 1 + j) 0) j 0 (omega arith)) ∙ ap (λ (l : List ℕ). get_or l j 0) e

-- it is not s where the last four octets of s do not stand there
pub may-not : (k at n f : ℕ) (os s : List ℕ) → n ≡ length s → 4 ≤ n → f ≡ at + n - 3 → f + 4 ≤ length os → same (take 4 (drop f os)) (take 4 (drop (n - 4) s)) ≡ false → same (text_at k os at) s ≡ false
may-not k at n f os s hn h4 hf h differ =
    by-test (same (text_at k os at) s)
    (λ t.
    let all : same (take 4 (drop f os)) (take 4 (drop (n - 4) s)) ≡ true =
    same_at 4 f (n - 4) os s h (omega arith) (λ m lt.
    let q : f + m ≡ at + 1 + (n - 4 + m) = omega arith in
    ap (λ (x : ℕ). get_or os x 0) q ∙ text-octet k at (n - 4 + m) os s (same-eq (text_at k os at) s t) (omega arith)) in
    let z : true ≡ false = sym all ∙ differ in
    absurd (let o : ◌≡◌ {A = ℕ} 0 1 = cc in omega arith))
    (λ t. t)
