-- Lines of one octet over and over, of any length: what the longest say, and one more, without working them out. Assumes nothing.
use Rattle.std.specs.Prelude.{ℕ, zero, suc, ◌+◌, ◌-◌, ◌*◌, ◌%◌, ◌≤◌, ◌<◌, ◌≡◌, refl, true, false, List, [], ◌∷◌, ◌++◌, length, replicate}
use Rattle.std.proofs.Common.{arith, ap, ◌∙◌, length-append, le-leb}
use Rattle.std.proofs.lemmas.List.{length-replicate}
use Rattle.std.proofs.lemmas.Bool.{lt-leb}
use Rattle.meaning.specs.Octets.{same, all}
use Rattle.meaning_save.specs.Save.{Form, old, new, form_of, save_limit}
use Rattle.bench_words.specs.Words.{ascii, is_hex_digit, uncommented, lengthen, pieces, filled, words, digit, is_hex_to, is_hex, octets_of, hex_limit}
use Rattle.bench_verbs.specs.Line.{Said, save_verb, requested_verb, verb_of, is_save_hex, with_hex, with_save, does, said_by, line_limit, order_of}

-- ---- a line by its length

pub order-short : (l : List ℕ) → length l ≤ line_limit → order_of l ≡ said_by (words l)
unfolding order_of
order-short l h = rw (le-leb (length l) line_limit h) refl

pub order-long : (l : List ℕ) → line_limit < length l → order_of l ≡ Said.bad
unfolding order_of
order-long l h = rw (lt-leb (length l) line_limit h) refl

pub line-length : (w : List ℕ) (n c : ℕ) → length (w ++ replicate n c) ≡ length w + n
line-length w n c = rw (length-append, length-replicate) refl

-- ---- spaces

spaces-all : (n : ℕ) → uncommented (replicate n 32) ≡ replicate n 32
unfolding uncommented
spaces-all zero = refl
spaces-all (suc n) = ap (λ (l : List ℕ). 32 ∷ l) (spaces-all n)

spaces-none : (n : ℕ) → filled (pieces (replicate n 32)) ≡ []
unfolding pieces filled
spaces-none zero = refl
spaces-none (suc n) = spaces-none n

pub spaces-short : (n : ℕ) → n ≤ line_limit → order_of (replicate n 32) ≡ Said.nothing
unfolding words said_by
spaces-short n h = order-short (replicate n 32) (rw length-replicate h) ∙ rw (spaces-all n, spaces-none n) refl

pub spaces-long : (n : ℕ) → line_limit < n → order_of (replicate n 32) ≡ Said.bad
spaces-long n h = order-long (replicate n 32) (rw length-replicate h)

-- ---- zeros, behind a word or as HEX

pub zeros-all : (n : ℕ) → uncommented (replicate n 48) ≡ replicate n 48
unfolding uncommented
zeros-all zero = refl
zeros-all (suc n) = ap (λ (l : List ℕ). 48 ∷ l) (zeros-all n)

pub zeros-one : (n : ℕ) → pieces (replicate n 48) ≡ replicate n 48 ∷ []
unfolding pieces lengthen
zeros-one zero = refl
zeros-one (suc n) = rw (zeros-one n) refl

zeros-digits : (n : ℕ) → all is_hex_digit (replicate n 48) ≡ true
unfolding all
zeros-digits zero = refl
zeros-digits (suc n) = zeros-digits n

zeros-hex : (most n : ℕ) → suc n ≤ most → suc n % 2 ≡ 0 → is_hex_to most (replicate (suc n) 48) ≡ true
unfolding is_hex_to same ascii
zeros-hex most n h e = rw (length-replicate {A = ℕ} n 48, le-leb (suc n) most h, e, zeros-digits (suc n)) refl

zeros-over : (most n : ℕ) → most < suc n → is_hex_to most (replicate (suc n) 48) ≡ false
unfolding is_hex_to same ascii
zeros-over most n h = rw (length-replicate {A = ℕ} n 48, lt-leb (suc n) most h) refl

twice : ℕ → ℕ
twice zero = zero
twice (suc k) = suc (suc (twice k))

twice-is : (k : ℕ) → twice k ≡ k + k
unfolding twice
twice-is zero = refl
twice-is (suc k) = let e = twice-is k in omega arith

zeros-octets : (k : ℕ) → octets_of (replicate (twice k) 48) ≡ replicate k 0
unfolding octets_of digit twice
zeros-octets zero = refl
zeros-octets (suc k) = ap (λ (l : List ℕ). 0 ∷ l) (zeros-octets k)

zeros-said : (k n : ℕ) → n ≡ k + k → octets_of (replicate n 48) ≡ replicate k 0
zeros-said k n e = rw (e, ← twice-is k) (zeros-octets k)

pub hex-taken : (f : List ℕ → Said) (k n : ℕ) → suc n ≡ k + k → suc n % 2 ≡ 0 → suc n ≤ hex_limit → with_hex f (replicate (suc n) 48 ∷ []) ≡ f (replicate k 0)
unfolding with_hex is_hex
hex-taken f k n e m h = rw (zeros-hex hex_limit n h m, zeros-said k (suc n) e) refl

pub hex-refused : (f : List ℕ → Said) (n : ℕ) → hex_limit < suc n → with_hex f (replicate (suc n) 48 ∷ []) ≡ Said.bad
unfolding with_hex is_hex
hex-refused f n h = rw (zeros-over hex_limit n h) refl

pub save-taken : (g : Form → List ℕ → Said) (f : Form) (k n : ℕ) → suc n ≡ k + k → suc n % 2 ≡ 0 → suc n ≤ 2 * save_limit f → with_save g f (replicate (suc n) 48 ∷ []) ≡ g f (replicate k 0)
unfolding with_save is_save_hex
save-taken g f k n e m h = rw (zeros-hex (2 * save_limit f) n h m, zeros-said k (suc n) e) refl

pub save-refused : (g : Form → List ℕ → Said) (f : Form) (n : ℕ) → 2 * save_limit f < suc n → with_save g f (replicate (suc n) 48 ∷ []) ≡ Said.bad
unfolding with_save is_save_hex
save-refused g f n h = rw (zeros-over (2 * save_limit f) n h) refl

-- ---- a word and zeros

pub join-order : (n : ℕ) → n < line_limit - 16 → order_of (ascii "join " ++ replicate (suc n) 48) ≡ with_hex Said.join (replicate (suc n) 48 ∷ [])
unfolding ascii words uncommented pieces lengthen filled said_by verb_of does same
join-order n h = order-short (ascii "join " ++ replicate (suc n) 48) (rw (line-length (ascii "join ") (suc n) 48) (omega arith)) ∙ rw (zeros-all n, zeros-one n) refl

pub restore-order : (n : ℕ) → n < line_limit - 16 → order_of (ascii "restore " ++ replicate (suc n) 48) ≡ with_save Said.restore old (replicate (suc n) 48 ∷ [])
unfolding ascii words uncommented pieces lengthen filled said_by verb_of does same requested_verb save_verb form_of
restore-order n h = order-short (ascii "restore " ++ replicate (suc n) 48) (rw (line-length (ascii "restore ") (suc n) 48) (omega arith)) ∙ rw (zeros-all n, zeros-one n) refl

pub second-order : (n : ℕ) → n < line_limit - 16 → order_of (ascii "restore2 " ++ replicate (suc n) 48) ≡ with_save Said.restore new (replicate (suc n) 48 ∷ [])
unfolding ascii words uncommented pieces lengthen filled said_by verb_of does same requested_verb save_verb form_of
second-order n h = order-short (ascii "restore2 " ++ replicate (suc n) 48) (rw (line-length (ascii "restore2 ") (suc n) 48) (omega arith)) ∙ rw (zeros-all n, zeros-one n) refl

pub older-order : (n : ℕ) → n < line_limit - 16 → order_of (ascii "older " ++ replicate (suc n) 48) ≡ with_save Said.moves new (replicate (suc n) 48 ∷ [])
unfolding ascii words uncommented pieces lengthen filled said_by verb_of does same requested_verb save_verb form_of
older-order n h = order-short (ascii "older " ++ replicate (suc n) 48) (rw (line-length (ascii "older ") (suc n) 48) (omega arith)) ∙ rw (zeros-all n, zeros-one n) refl
