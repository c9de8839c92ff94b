-- What is spelt out reads back. Assumes nothing.
use Prim.Native.Nat.{ℕ, zero, suc, ◌+◌, ◌-◌, ◌*◌, ◌/◌, ◌%◌, ◌≤◌, ◌<◌}
use native.Mathlib.Nat.{not-suc-le-zero}
use native.Mathlib.Omega.{arith}
use mathlib.Core.Path.{◌≡◌, refl, ap₂, ◌∙◌}
use mathlib.Core.Bool.{Bool, true, false}
use mathlib.Core.List.{List, [], ◌∷◌, ◌++◌}
use lib.Dec.{ltb}
use borrow.Author.Tests.{ltb-true, ltb-false, lt-ltb, le-leb, lt-leb}
use Rattle.meaning.specs.Octets.{all}
use Rattle.meaning.specs.Lists.{by-test}
use Rattle.bench_words.specs.Words.{is_digit, value_from, value, is_number, digit, octets_of, spell, numeral, glyph, hex_of}

-- ---- numbers

value-snoc : (w : List ℕ) (v c : ℕ) → value_from v (w ++ (c ∷ [])) ≡ value_from v w * 10 + (c - 48)
unfolding value_from
value-snoc [] v c = refl
value-snoc (d ∷ w) v c = value-snoc w (v * 10 + (d - 48)) c

spell-value : (k n : ℕ) → n < k → value_from 0 (spell k n) ≡ n
unfolding spell value_from
spell-value zero n h = absurd (not-suc-le-zero h)
spell-value (suc k) n h =
    by-test (ltb n 10)
    (λ t. rw t (omega arith))
    (λ t.
    let g : 10 ≤ n = ltb-false n 10 t in
    let e = spell-value k (n / 10) (omega arith) in
    rw t (value-snoc (spell k (n / 10)) 0 (48 + n % 10) ∙ omega arith))

pub numeral-value : (n : ℕ) → value (numeral n) ≡ n
unfolding value numeral
numeral-value n = spell-value (suc n) n (omega arith)

all_snoc : (t : ℕ → Bool) (w : List ℕ) (c : ℕ) → all t w ≡ true → t c ≡ true → all t (w ++ (c ∷ [])) ≡ true
unfolding all
all_snoc t [] c e h = rw h
all_snoc t (d ∷ w) c e h = by-test (t d) (λ k. rw k (all_snoc t w c (rw k at e) h)) (λ k. rw k (rw k at e))

spell-digits : (k n : ℕ) → all is_digit (spell k n) ≡ true
unfolding spell all
spell-digits zero n = refl
spell-digits (suc k) n =
    by-test (ltb n 10)
    (λ t.
    let h = ltb-true n 10 t in
    rw (t, le-leb 48 (48 + n) (omega arith), le-leb (48 + n) 57 (omega arith)))
    (λ t. rw t (all_snoc is_digit (spell k (n / 10)) (48 + n % 10) (spell-digits k (n / 10)) (rw (le-leb 48 (48 + n % 10) (omega arith), le-leb (48 + n % 10) 57 (omega arith)))))

pub numeral-number : (n : ℕ) → n < 4294967296 → is_number (numeral n) ≡ true
unfolding is_number numeral value
numeral-number n h = rw (spell-digits (suc n) n, spell-value (suc n) n (omega arith), lt-ltb n 4294967296 h)

-- ---- octets

glyph-digit : (d : ℕ) → d < 16 → digit (glyph d) ≡ d
unfolding digit glyph
glyph-digit d h =
    by-test (ltb d 10)
    (λ t.
    let l = ltb-true d 10 t in
    rw (t, le-leb 48 (48 + d) (omega arith), le-leb (48 + d) 57 (omega arith)) (omega arith))
    (λ t.
    let l = ltb-false d 10 t in
    rw (t, le-leb 48 (87 + d) (omega arith), lt-leb (87 + d) 57 (omega arith), le-leb 65 (87 + d) (omega arith), lt-leb (87 + d) 70 (omega arith), le-leb 97 (87 + d) (omega arith), le-leb (87 + d) 102 (omega arith)) (omega arith))

pub hex-octets : (os : List ℕ) → all (λ o. ltb o 256) os ≡ true → octets_of (hex_of os) ≡ os
unfolding octets_of hex_of all
hex-octets [] e = refl
hex-octets (o ∷ os) e =
    by-test (ltb o 256)
    (λ t.
    let h = ltb-true o 256 t in
    let high = glyph-digit (o / 16) (omega arith) in
    let low = glyph-digit (o % 16) (omega arith) in
    let q : digit (glyph (o / 16)) * 16 + digit (glyph (o % 16)) ≡ o = omega arith in
    ap₂ ◌∷◌ q (hex-octets os (rw t at e)))
    (λ t. let z : false ≡ true = rw t at e in cc)
