-- Laws of words, numbers and octets, in the forms in which loops over a line meet them. Assumes nothing.
use Prim.Native.Nat.{ℕ, zero, suc, ◌+◌, ◌-◌, ◌*◌, ◌/◌, ◌%◌, ◌^◌, ◌≤◌, ◌<◌}
use native.Mathlib.Nat.{le_of_suc-le-suc, not-suc-le-zero, pos_of_ne-zero, add-zero, pow-suc}
use native.Mathlib.Numerals.{add-one}
use native.Mathlib.Omega.{arith}
use mathlib.Core.Path.{◌≡◌, refl, sym, ap, ◌∙◌}
use mathlib.Core.Bool.{Bool, true, false, ◌&&◌, ◌||◌}
use mathlib.Core.List.{List, [], ◌∷◌, ◌++◌, append_assoc}
use lib.ListN.{length, take, drop, get_or, set, length-append, length-drop, drop_of_length-le}
use lib.Seq.{drop-cons, drop-drop, get_or-drop, length-take-le, take_all, set_at, take_at}
use lib.Dec.{eqb, leb, ltb}
use borrow.Author.Tests.{eqb-true, eqb-false, eq-eqb, ne_eqb, leb-true, ltb-true, ltb-false, lt-ltb, le-ltb, lt-leb, not-true, not-false}
use Rattle.meaning.specs.Octets.{pick, same, all}
use Rattle.meaning.specs.Lists.{by-test, same-eq, never}
use Rattle.octets.proofs.Parts.{front, front-more}
use Rattle.bench_words.specs.Words.{ascii, part, LiesTo, NextWord, Puts, is_gap, uncommented, lengthen, pieces, filled, words, is_digit, is_upper, is_lower, value_from, value, is_number, is_hex_digit, digit, is_hex_to, octets_of, glyph, hex_of, spell, numeral}
use Rattle.bench_words.specs.Scan.{is_letter, letters, number_in}
use Rattle.std.specs.Prelude.{Option, None, Some}
use Rattle.std.specs.Char.{is_ascii_hexdigit}
use Rattle.std.specs.List.{list_all, prefix_len, take_while}
use Rattle.std.proofs.lemmas.List.Folds.{length-prefix_len}
use Rattle.std.proofs.lemmas.List.Sums.{prefix_len-le-length}

-- what a call found, and how it was tested
pub so : {r a b : Bool} → r ≡ a → r ≡ b → a ≡ b
so e f = sym e ∙ f

-- ---- words

or_right : (a b : Bool) → (a || b) ≡ false → b ≡ false
or_right true b e = cc
or_right false b e = e

or_left : (a b : Bool) → (a || b) ≡ false → a ≡ false
or_left true b e = e
or_left false b e = refl

pub words-gap : (c : ℕ) (cs : List ℕ) → is_gap c ≡ true → words (c ∷ cs) ≡ words cs
unfolding words filled pieces uncommented
words-gap c cs e =
    by-test (eqb c 32)
    (λ h. let q : c ≡ 32 = eqb-true c 32 h in rw q refl)
    (λ h. let q : c ≡ 9 = eqb-true c 9 (rw h at e) in rw q refl)

letter-hash : (c : ℕ) → is_letter c ≡ true → eqb c 35 ≡ false
letter-hash c e = or_left (eqb c 35) (is_gap c) (not-true (eqb c 35 || is_gap c) e)

letter-gap : (c : ℕ) → is_letter c ≡ true → is_gap c ≡ false
letter-gap c e = or_right (eqb c 35) (is_gap c) (not-true (eqb c 35 || is_gap c) e)

later : List (List ℕ) → List (List ℕ)
later [] = []
later (p ∷ ps) = ps

-- the first piece is the letters at the front
pieces-first : (l : List ℕ) → pieces (uncommented l) ≡ take (letters l) l ∷ later (pieces (uncommented (drop (letters l) l)))
unfolding pieces uncommented lengthen letters later
pieces-first [] = refl
pieces-first (c ∷ cs) =
    by-test (is_letter c)
    (λ h. rw (h, letter-hash c h, letter-gap c h, pieces-first cs))
    (λ h.
    by-test (eqb c 35)
    (λ t. rw (h, t))
    (λ t. let g : is_gap c ≡ true = rw t at (not-false (eqb c 35 || is_gap c) h) in rw (h, t, g)))

letters-after : (l : List ℕ) → letters (drop (letters l) l) ≡ 0
unfolding letters
letters-after [] = refl
letters-after (c ∷ cs) = by-test (is_letter c) (λ h. rw h (letters-after cs)) (λ h. rw (h, h))

filled-first : (l : List ℕ) (k : ℕ) (ps : List (List ℕ)) → 0 < k → k ≤ length l → filled (take k l ∷ ps) ≡ take k l ∷ filled ps
unfolding filled
filled-first l zero ps h m = absurd (not-suc-le-zero h)
filled-first [] (suc k) ps h m = absurd (not-suc-le-zero m)
filled-first (c ∷ cs) (suc k) ps h m = refl

pub letters-within : (l : List ℕ) → letters l ≤ length l
unfolding letters
letters-within [] = omega arith
letters-within (c ∷ cs) = by-test (is_letter c) (λ h. rw h (omega (arith, letters-within cs))) (λ h. rw h (omega arith))

-- what stands behind no letters
words-behind : (l : List ℕ) → letters l ≡ 0 → filled (later (pieces (uncommented l))) ≡ words l
unfolding words filled
words-behind l e = sym (ap filled (pieces-first l) ∙ rw e)

pub words-first : (l : List ℕ) → 0 < letters l → words l ≡ take (letters l) l ∷ words (drop (letters l) l)
unfolding words
words-first l h =
    ap filled (pieces-first l)
    ∙ filled-first l (letters l) (later (pieces (uncommented (drop (letters l) l)))) h (letters-within l)
    ∙ ap (λ (ws : List (List ℕ)). take (letters l) l ∷ ws) (words-behind (drop (letters l) l) (letters-after l))

pub words-none : (l : List ℕ) → letters l ≡ 0 → is_gap (get_or l 0 0) ≡ false → words l ≡ []
unfolding words filled pieces uncommented letters
words-none [] e g = refl
words-none (c ∷ cs) e g =
    by-test (is_letter c)
    (λ h. let z : suc (letters cs) ≡ 0 = rw h at e in absurd (omega arith))
    (λ h. by-test (eqb c 35) (λ t. rw t) (λ t. let y : is_gap c ≡ true = rw t at (not-false (eqb c 35 || is_gap c) h) in let z : true ≡ false = sym y ∙ g in cc))

pub next_word : (l : List ℕ) (from s e : ℕ) → from ≤ s → s ≤ length l → words (drop from l) ≡ words (drop s l) → is_gap (get_or l s 0) ≡ false → e ≡ s + letters (drop s l) → e ≤ length l → NextWord l from s e
next_word l from s e h k p g q m = record {
  after = h;
  order = omega arith;
  within = m;
  found = p ∙ by-test (eqb s e) none some;
}
  where
    none : eqb s e ≡ true → words (drop s l) ≡ pick (eqb s e) [] (part s e l ∷ words (drop e l))
    none t =
        let z : s ≡ e = eqb-true s e t in
        let head : is_gap (get_or (drop s l) 0 0) ≡ false = rw (get_or-drop s l 0 0, add-zero s) g in
        rw t (words-none (drop s l) (omega arith) head)

    some : eqb s e ≡ false → words (drop s l) ≡ pick (eqb s e) [] (part s e l ∷ words (drop e l))
    some t =
        let ne = eqb-false s e t in
        let n : letters (drop s l) ≡ e - s = omega arith in
        let pos : 0 < letters (drop s l) = pos_of_ne-zero (λ z. ne (omega arith)) in
        let w : s + (e - s) ≡ e = omega arith in
        rw t (words-first (drop s l) pos ∙ rw (n, drop-drop (e - s) s l, w))

-- ---- what stands at the front of a line

letters_is : (l : List ℕ) → prefix_len is_letter l ≡ letters l
unfolding letters
letters_is [] = refl
letters_is (c ∷ cs) =
    let more : 1 + letters cs ≡ suc (letters cs) = omega arith in
    by-test (is_letter c) (λ h. rw (h, letters_is cs) more) (λ h. rw h refl)

gaps-words : (l : List ℕ) → words l ≡ words (drop (prefix_len is_gap l) l)
gaps-words [] = refl
gaps-words (c ∷ cs) =
    let more : 1 + prefix_len is_gap cs ≡ suc (prefix_len is_gap cs) = omega arith in
    by-test (is_gap c) (λ h. rw (h, more) (words-gap c cs h ∙ gaps-words cs)) (λ h. rw h refl)

gaps_end : (l : List ℕ) → is_gap (get_or (drop (prefix_len is_gap l) l) 0 0) ≡ false
gaps_end [] = refl
gaps_end (c ∷ cs) =
    let more : 1 + prefix_len is_gap cs ≡ suc (prefix_len is_gap cs) = omega arith in
    by-test (is_gap c) (λ h. rw (h, more) (gaps_end cs)) (λ h. rw h h)

-- so many of them stand at the front of a line's rest, and no more than it has
front_of : (t : ℕ → Bool) (l : List ℕ) (n k : ℕ) → k ≡ length (take_while t (take (length l - n) (drop n l))) → (k ≡ prefix_len t (drop n l)) × (k ≤ length (drop n l))
front_of t l n k e =
    let all : take (length l - n) (drop n l) ≡ drop n l = take_all (length l - n) (drop n l) (rw length-drop (omega arith)) in
    let q : k ≡ prefix_len t (drop n l) = rw (all, length-prefix_len t (drop n l)) at e in
    (q, omega (arith, prefix_len-le-length t (drop n l)))

pub next_word_at : (l : List ℕ) (from g e : ℕ) → from ≤ length l → g ≡ length (take_while is_gap (take (length l - from) (drop from l)))
    → e ≡ length (take_while is_letter (take (length l - (from + g)) (drop (from + g) l))) → NextWord l from (from + g) (from + g + e)
next_word_at l from g e h a b =
    let p = front_of is_gap l from g a in
    let q = front_of is_letter l (from + g) e b in
    let d = length-drop from l in
    let k = length-drop (from + g) l in
    let behind : drop (prefix_len is_gap (drop from l)) (drop from l) ≡ drop (from + g) l = rw (← p.0) (drop-drop g from l) in
    let w : words (drop from l) ≡ words (drop (from + g) l) = rw behind at (gaps-words (drop from l)) in
    let s : is_gap (get_or (drop (from + g) l) 0 0) ≡ false = rw behind at (gaps_end (drop from l)) in
    let s2 : is_gap (get_or l (from + g) 0) ≡ false = rw (get_or-drop (from + g) l 0 0, add-zero (from + g)) at s in
    let f : e ≡ letters (drop (from + g) l) = q.0 ∙ letters_is (drop (from + g) l) in
    next_word l from (from + g) (from + g + e) (omega arith) (omega arith) w s2 (rw f refl) (omega arith)

-- ---- turns of a loop over a line

pub all_more : (t : ℕ → Bool) (l : List ℕ) (i : ℕ) → i < length l → t (get_or l i 0) ≡ true → all t (drop i l) ≡ all t (drop (i + 1) l)
unfolding all
all_more t l i h g = rw (drop-cons l i 0 h, add-one i, g)

pub all-stop : (t : ℕ → Bool) (l : List ℕ) (i : ℕ) → i < length l → t (get_or l i 0) ≡ false → all t (drop i l) ≡ false
unfolding all
all-stop t l i h g = rw (drop-cons l i 0 h, g)

pub all_end : (t : ℕ → Bool) (l : List ℕ) (i : ℕ) → length l ≤ i → all t (drop i l) ≡ true
unfolding all
all_end t l i h = rw (drop_of_length-le l {i = i} h)

pub value-more : (l : List ℕ) (i v : ℕ) → i < length l → value_from v (drop i l) ≡ value_from (v * 10 + (get_or l i 0 - 48)) (drop (i + 1) l)
unfolding value_from
value-more l i v h = rw (drop-cons l i 0 h, add-one i)

pub value-end : (l : List ℕ) (i v : ℕ) → length l ≤ i → value_from v (drop i l) ≡ v
unfolding value_from
value-end l i v h = rw (drop_of_length-le l {i = i} h)

pub value_grows : (l : List ℕ) (v : ℕ) → v ≤ value_from v l
unfolding value_from
value_grows [] v = omega arith
value_grows (c ∷ cs) v = omega (arith, value_grows cs (v * 10 + (c - 48)))

-- ---- octets

pub octets-length : (w : List ℕ) → length (octets_of w) ≡ length w / 2
unfolding octets_of
octets-length [] = refl
octets-length (h ∷ []) = refl
octets-length (h ∷ l ∷ w) = omega (arith, octets-length w)

pub octets-at : (w : List ℕ) (i : ℕ) → i < length w / 2 → get_or (octets_of w) i 0 ≡ digit (get_or w (i * 2) 0) * 16 + digit (get_or w (i * 2 + 1) 0)
unfolding octets_of
octets-at [] i h = absurd (omega arith)
octets-at (a ∷ []) i h = absurd (omega arith)
octets-at (a ∷ b ∷ w) zero h = refl
octets-at (a ∷ b ∷ w) (suc i) h =
    let p : suc i * 2 ≡ suc (suc (i * 2)) = omega arith in
    let q : suc (suc (i * 2)) + 1 ≡ suc (suc (i * 2 + 1)) = omega arith in
    rw (p, q) (octets-at w i (omega arith))

pub hex-length : (os : List ℕ) → length (hex_of os) ≡ length os * 2
unfolding hex_of
hex-length [] = refl
hex-length (o ∷ os) = omega (arith, hex-length os)

pub hex-high : (os : List ℕ) (i : ℕ) → i < length os → get_or (hex_of os) (i * 2) 0 ≡ glyph (get_or os i 0 / 16)
unfolding hex_of
hex-high [] i h = absurd (not-suc-le-zero h)
hex-high (o ∷ os) zero h = refl
hex-high (o ∷ os) (suc i) h =
    let p : suc i * 2 ≡ suc (suc (i * 2)) = omega arith in
    rw p (hex-high os i (le_of_suc-le-suc h))

pub hex-low : (os : List ℕ) (i : ℕ) → i < length os → get_or (hex_of os) (i * 2 + 1) 0 ≡ glyph (get_or os i 0 % 16)
unfolding hex_of
hex-low [] i h = absurd (not-suc-le-zero h)
hex-low (o ∷ os) zero h = refl
hex-low (o ∷ os) (suc i) h =
    let p : suc i * 2 + 1 ≡ suc (suc (i * 2 + 1)) = omega arith in
    rw p (hex-low os i (le_of_suc-le-suc h))

-- ---- numerals

-- more fuel changes nothing
spell-fuel : (j k n : ℕ) → n < j → n < k → spell j n ≡ spell k n
unfolding spell
spell-fuel zero k n h m = absurd (not-suc-le-zero h)
spell-fuel (suc j) zero n h m = absurd (not-suc-le-zero m)
spell-fuel (suc j) (suc k) n h m =
    by-test (ltb n 10)
    (λ t. rw t)
    (λ t.
    let g : 10 ≤ n = ltb-false n 10 t in
    rw (t, spell-fuel j k (n / 10) (omega arith) (omega arith)))

pub numeral-one : (n : ℕ) → n < 10 → numeral n ≡ (48 + n) ∷ []
unfolding numeral spell
numeral-one n h = rw (lt-ltb n 10 h)

pub numeral-more : (n : ℕ) → 10 ≤ n → numeral n ≡ numeral (n / 10) ++ ((48 + n % 10) ∷ [])
unfolding numeral spell
numeral-more n h = rw (le-ltb n 10 h, spell-fuel n (suc (n / 10)) (n / 10) (omega arith) (omega arith))

-- ---- digits

pub between : (a c b : ℕ) → (leb a c && leb c b) ≡ true → (a ≤ c) × (c ≤ b)
between a c b e =
    by-test (leb a c)
    (λ h. (leb-true a c h, leb-true c b (rw h at e)))
    (λ h. let z : false ≡ true = rw h at e in absurd (never z))

beyond : (a c b : ℕ) → (a ≤ c → b < c) → (leb a c && leb c b) ≡ false
beyond a c b f = by-test (leb a c) (λ h. rw (h, lt-leb c b (f (leb-true a c h)))) (λ h. rw h refl)

pub no_digit : (c : ℕ) → (48 ≤ c → 57 < c) → (65 ≤ c → 70 < c) → (97 ≤ c → 102 < c) → (0 ≡ digit c) × (0 < 16)
unfolding digit
no_digit c f g h = (rw (beyond 48 c 57 f, beyond 65 c 70 g, beyond 97 c 102 h) refl, omega arith)

-- ---- what was written to the front

pub puts-front : (ys before after : List ℕ) (r i : ℕ) → r ≡ length ys → r ≤ length before → i ≡ r → after ≡ front i ys before → Puts ys before after r
puts-front ys before after r i e h p q = record {
  count = e;
  within = h;
  whole = q ∙ rw (p, take_all r ys (omega arith));
}

pub front-is : {ys before after : List ℕ} {r : ℕ} → Puts ys before after r → take r after ≡ ys
front-is {ys} {before} {r = r} p = rw p.whole (take_at ys (drop r before) r (sym p.count))

-- a turn that stores two
pub front-two : (src d e : List ℕ) (u v i : ℕ) → i * 2 + 1 < length src → i * 2 + 1 < length d → e ≡ front (i * 2) src d → u ≡ get_or src (i * 2) 0 → v ≡ get_or src (i * 2 + 1) 0 → set (set e (i * 2) u) (i * 2 + 1) v ≡ front ((i + 1) * 2) src d
front-two src d e u v i h k p q r =
    let n : i * 2 + 1 + 1 ≡ (i + 1) * 2 = omega arith in
    front-more src d (set e (i * 2) u) 0 v (i * 2 + 1) h k (front-more src d e 0 u (i * 2) (omega arith) (omega arith) p q) r
    ∙ ap (λ (m : ℕ). front m src d) n

-- ---- numbers

pub number-letter : (w : List ℕ) → all is_digit w ≡ false → number_in w ≡ None
unfolding number_in is_number
number-letter w e = rw e

pub number-large : (w : List ℕ) → 4294967296 ≤ value_from 0 w → number_in w ≡ None
unfolding number_in is_number value
number-large w h = by-test (all is_digit w) (λ t. rw (t, le-ltb (value_from 0 w) 4294967296 h)) (λ t. rw t)

pub number_is : (w : List ℕ) (v : ℕ) → all is_digit w ≡ true → value_from 0 w ≡ v → v < 4294967296 → number_in w ≡ Some v
unfolding number_in is_number value
number_is w v e q h = rw (e, q, lt-ltb v 4294967296 h)

pub number-value : (w : List ℕ) (n : ℕ) → number_in w ≡ Some n → (is_number w ≡ true) × (value w ≡ n)
unfolding number_in
number-value w n e =
    by-test (is_number w)
    (λ t. (t, let q : Some (value w) ≡ Some n = rw t at e in cc))
    (λ t. let q : None ≡ Some n = rw t at e in cc)

pub number-none : (w : List ℕ) → number_in w ≡ None → is_number w ≡ false
unfolding number_in
number-none w e = by-test (is_number w) (λ t. let q : Some (value w) ≡ None = rw t at e in cc) (λ t. t)

-- ---- HEX

pub hex-all : (w : List ℕ) → list_all is_ascii_hexdigit w ≡ all is_hex_digit w
unfolding all
hex-all [] = refl
hex-all (c ∷ cs) = by-test (is_digit c) (λ h. rw (h, hex-all cs) refl) (λ h. by-test (is_upper c) (λ u. rw (h, u, hex-all cs) refl) (λ u. by-test (is_lower c) (λ w. rw (h, u, w, hex-all cs) refl) (λ w. rw (h, u, w) refl)))

and_left : (a b : Bool) → (a && b) ≡ true → a ≡ true
and_left true b e = refl
and_left false b e = e

pub hex-short : (most : ℕ) (w : List ℕ) → 1 ≤ most → is_hex_to most w ≡ true → length w ≤ most
unfolding is_hex_to ascii
hex-short most w h e =
    by-test (same w (45 ∷ []))
    (λ t. rw (same-eq w (45 ∷ []) t) (omega arith))
    (λ t.
    let both = and_left (leb (length w) most && eqb (length w % 2) 0) (all is_hex_digit w) (rw t at e) in
    leb-true (length w) most (and_left (leb (length w) most) (eqb (length w % 2) 0) both))

-- a part of a line, and how long it is

pub part-short : (n : ℕ) (l : List ℕ) (s e : ℕ) → LiesTo n l s e → length (part s e l) ≤ n
part-short n l s e h = let m = length-take-le (e - s) (drop s l) (simp length-drop (omega arith)) in let k = h.2 in omega (arith, m, k)

pub hex-lies : (n : ℕ) (l : List ℕ) (s e : ℕ) → 1 ≤ n → s ≤ e → e ≤ length l → is_hex_to n (part s e l) ≡ true → LiesTo n l s e
hex-lies n l s e one h k t =
    let m = length-take-le (e - s) (drop s l) (simp length-drop (omega arith)) in
    let short = hex-short n (part s e l) one t in
    (h, k, omega (arith, m, short))

-- ---- numbers and texts, octet by octet

pub puts_none : (before : List ℕ) → Puts [] before before 0
puts_none before = record { count = refl; within = omega arith; whole = refl }

-- one octet more
pub puts-more : (ys before mid : List ℕ) (k v : ℕ) → Puts ys before mid k → k < length before → Puts (ys ++ (v ∷ [])) before (set mid k v) (k + 1)
puts-more ys before mid k v p h =
    let split : mid ≡ ys ++ get_or before k 0 ∷ drop (suc k) before = p.whole ∙ rw (drop-cons before k 0 h) in
    let joined : (ys ++ (v ∷ [])) ++ drop (k + 1) before ≡ ys ++ v ∷ drop (suc k) before = rw (add-one k) (append_assoc ys (v ∷ []) (drop (suc k) before)) in
    record {
      count = sym (length-append ys (v ∷ []) ∙ rw p.count refl);
      within = omega arith;
      whole = ap (λ (l : List ℕ). set l k v) split ∙ set_at ys (get_or before k 0) (drop (suc k) before) v k (sym p.count) ∙ sym joined;
    }

pub puts-digit : (n : ℕ) (before : List ℕ) → n < 10 → 0 < length before → Puts (numeral n) before (set before 0 (48 + n)) 1
puts-digit n before h k = rw (numeral-one n h) (puts-more [] before before 0 (48 + n) (puts_none before) k)

pub puts-digits : (n : ℕ) (before mid : List ℕ) (k : ℕ) → 10 ≤ n → Puts (numeral (n / 10)) before mid k → k < length before → Puts (numeral n) before (set mid k (48 + n % 10)) (k + 1)
puts-digits n before mid k h p l = rw (numeral-more n h) (puts-more (numeral (n / 10)) before mid k (48 + n % 10) p l)

-- a number below a power of ten has so few digits
pub numeral-short : (j n : ℕ) → n < 10 ^ suc j → length (numeral n) ≤ suc j
numeral-short zero n h = rw (numeral-one n (omega arith)) (omega arith)
numeral-short (suc j) n h =
    by-test (ltb n 10)
    (λ t. rw (numeral-one n (ltb-true n 10 t)) (omega arith))
    (λ t.
    let g : 10 ≤ n = ltb-false n 10 t in
    let few = numeral-short j (n / 10) (omega (arith, pow-suc 10 (suc j))) in
    rw (numeral-more n g, length-append (numeral (n / 10)) ((48 + n % 10) ∷ [])) (omega arith))

-- ---- the next word, by its two ends

pub word_none : {l : List ℕ} {from s e : ℕ} {b : Bool} → NextWord l from s e → b ≡ eqb s e → b ≡ true → words (drop from l) ≡ []
word_none w p q = w.found ∙ rw (sym p ∙ q)

pub word_some : {l : List ℕ} {from s e : ℕ} {b : Bool} → NextWord l from s e → b ≡ eqb s e → b ≡ false → words (drop from l) ≡ part s e l ∷ words (drop e l)
word_some w p q = w.found ∙ rw (sym p ∙ q)
