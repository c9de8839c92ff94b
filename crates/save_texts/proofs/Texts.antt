-- The laws by which the writer of texts and names follows the definitions. Assumes nothing.
use Prim.Native.Nat.{ℕ, zero, suc, ◌+◌, ◌-◌, ◌≤◌, ◌<◌}
use native.Mathlib.Omega.{arith}
use mathlib.Core.Path.{◌≡◌, refl, sym, ap, ◌∙◌}
use mathlib.Core.Bool.{Bool, true, false}
use mathlib.Core.List.{List, [], ◌∷◌}
use lib.ListN.{length, take, drop, replicate, length-drop, drop_of_length-le}
use lib.Seq.{take_all, take-take, drop-nil}
use lib.Dec.{leb}
use borrow.Author.Tests.{le-leb}
use Rattle.meaning.specs.Wire.{root_length, root_in, opaque_in, root_limit, name_limit}
use Rattle.meaning_save.specs.Save.{padded, spaced, old, form_of, name_saved, name_most, is_short, saved_opaque, spaced_name}
use Rattle.meaning_laws.specs.SaveFields.{name_size}
use Rattle.meaning.specs.Lists.{append-nil}
use Rattle.octets.specs.Part.{mid}
use Rattle.save_texts.proofs.Parts.{two-parts}
use Rattle.save_texts.proofs.Sizes.{taken-le, padded-length, space-length}

-- ---- a text in its space: the octets written from the front, and their number before them

zeros-behind : (n m : ℕ) → drop {A = ℕ} m (replicate n 0) ≡ replicate (n - m) 0
zeros-behind zero m = let z : 0 - m ≡ 0 = omega arith in rw (z, drop-nil m) refl
zeros-behind (suc n) zero = let z : suc n - 0 ≡ suc n = omega arith in rw z refl
zeros-behind (suc n) (suc m) = let z : suc n - suc m ≡ n - m = omega arith in rw z (zeros-behind n m)

-- as much of a text as finds room
take-fitting : (room n : ℕ) (o : List ℕ) → n ≡ length (take room o) → take n o ≡ take room o
take-fitting room n o e =
    let t : List ℕ = take room o in
    rw e (sym (take-take (length t) room o (taken-le room o)) ∙ take_all (length t) t (omega arith))

pub padded-put : (xs zs ys o : List ℕ) (room n : ℕ) → length xs ≡ room → zs ≡ replicate (length xs) 0 → n ≡ length (take room o) → ys ≡ take (n - 0) o → mid 0 (n - 0) zs ys ≡ padded room (take room o)
unfolding padded
padded-put xs zs ys o room n l ez en ey =
    let z : n - 0 ≡ n = omega arith in
    rw (ey, z, take-fitting room n o en, ez, l, zeros-behind room n, en) refl

pub space-put : (xs us vs o : List ℕ) (n v : ℕ) → length xs ≡ 1 + n → v ≡ length (take n o) → us ≡ v ∷ [] → vs ≡ padded n (take n o) → mid 1 (1 + n - 1) (mid 0 1 xs us) vs ≡ spaced n o
unfolding spaced
space-put xs us vs o n v l ev eu es =
    let q : 1 + n - 1 ≡ n = omega arith in
    rw (q, eu, es, ev) (two-parts 1 n xs (length (take n o) ∷ []) (padded n (take n o)) l refl (padded-length n o))

-- ---- a name

pub name-put : (a xs us vs r o : List ℕ) → length xs ≡ spaced_name → r ≡ root_in a → o ≡ opaque_in a → us ≡ spaced root_limit r → vs ≡ spaced saved_opaque o → mid (1 + root_limit) (1 + saved_opaque) (mid 0 (1 + root_limit) xs us) vs ≡ name_saved old a
unfolding name_saved
name-put a xs us vs r o l er eo eu es =
    rw (eu, es, er, eo) (two-parts (1 + root_limit) (1 + saved_opaque) xs (spaced root_limit (root_in a)) (spaced saved_opaque (opaque_in a)) l (space-length root_limit (root_in a)) (space-length saved_opaque (opaque_in a)))

-- ---- the opaque value

module _ (a : List ℕ) (n : ℕ) (e : n ≡ root_length a) where
  pub opaque-none : length a < 6 + n → [] ≡ opaque_in a
  unfolding opaque_in
  opaque-none h = sym (drop_of_length-le a {i = 6 + root_length a} (omega arith))

  pub opaque-all : take (length a - (6 + n)) (drop (6 + n) a) ≡ opaque_in a
  unfolding opaque_in
  opaque-all = take_all (length a - (6 + n)) (drop (6 + n) a) (simp length-drop (omega arith)) ∙ ap (λ (k : ℕ). drop (6 + k) a) e

-- ---- by the form

pub short-new : (b : Bool) (a : List ℕ) → b ≡ true → true ≡ is_short (form_of b) a
unfolding form_of is_short
short-new b a e = rw e refl

-- the opaque value is at least 6 octets shorter than the name
pub short-whole : (b : Bool) (a : List ℕ) → b ≡ false → length a ≤ 6 + saved_opaque → true ≡ is_short (form_of b) a
unfolding form_of is_short opaque_in
short-whole b a e h = rw (e, length-drop, le-leb (length a - (6 + root_length a)) saved_opaque (omega arith)) refl

pub short-old : (b : Bool) (a o : List ℕ) → b ≡ false → o ≡ opaque_in a → leb (length o) saved_opaque ≡ is_short (form_of b) a
unfolding form_of is_short
short-old b a o e h = rw (e, h) refl

pub size-new : (b : Bool) (a : List ℕ) (n : ℕ) → b ≡ true → n ≡ length (take name_limit a) → n ≤ name_limit → (1 + n ≡ name_size (form_of b) a) × (1 ≤ 1 + n) × (1 + n ≤ name_most (form_of b)) × (1 + n ≤ 1 + name_limit)
unfolding form_of name_size
size-new b a n e h k = rw e (omega arith, omega arith, omega arith, omega arith)

pub size-old : (b : Bool) (a : List ℕ) → b ≡ false → (spaced_name ≡ name_size (form_of b) a) × (1 ≤ spaced_name) × (spaced_name ≤ name_most (form_of b)) × (spaced_name ≤ 1 + name_limit)
unfolding form_of name_size
size-old b a e = rw e (refl, omega arith, omega arith, omega arith)

-- in the new form a name is a text whose space is as long as the text
space-new : (t : List ℕ) → length t ∷ padded (length t) t ≡ length t ∷ t
unfolding padded
space-new t = let z : length t - length t ≡ 0 = omega arith in rw z (ap (λ (l : List ℕ). length t ∷ l) (append-nil t))

pub name_new : (b : Bool) (a xs : List ℕ) (n : ℕ) → b ≡ true → n ≡ length (take name_limit a) → xs ≡ spaced n a → xs ≡ name_saved (form_of b) a
unfolding form_of name_saved spaced
name_new b a xs n e h k =
    let t : List ℕ = take name_limit a in
    let s : take n a ≡ t = take-fitting name_limit n a h in
    rw e (k ∙ rw (s, h) (space-new t))

pub name-old : (b : Bool) (a xs : List ℕ) → b ≡ false → xs ≡ name_saved old a → xs ≡ name_saved (form_of b) a
unfolding form_of
name-old b a xs e h = rw e h

pub room-new : (b : Bool) (a : List ℕ) (m n : ℕ) → b ≡ true → n ≡ length (take name_limit a) → m ≡ name_size (form_of b) a → m ≡ 1 + n
unfolding form_of name_size
room-new b a m n e h k = let z : m ≡ suc (length (take name_limit a)) = rw e at k in omega arith

pub room-old : (b : Bool) (a : List ℕ) (m : ℕ) → b ≡ false → m ≡ name_size (form_of b) a → m ≡ spaced_name
unfolding form_of name_size
room-old b a m e k = rw e at k
