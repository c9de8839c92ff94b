-- What the tests at a place of the octets tell of what stands from there on.
-- Assumes nothing.
use Prim.Native.Nat.{ℕ, suc, ◌+◌, ◌-◌, ◌≤◌, ◌<◌}
use native.Mathlib.Omega.{arith}
use mathlib.Core.Path.{◌≡◌, refl, sym, ap, ◌∙◌}
use mathlib.Core.Bool.{Bool, true, false, not, ◌&&◌, ◌||◌}
use mathlib.Core.List.{List, [], ◌∷◌}
use lib.ListN.{take, drop, get_or, length, replicate, length-drop}
use lib.Seq.{drop-drop, get_or-drop, length-take-le}
use lib.Dec.{eqb, leb}
use borrow.Author.Tests.{eqb-true, eq-eqb, le-leb, lt-leb}
use Rattle.meaning.specs.Octets.{pick, same}
use Rattle.meaning.specs.Wire.{root_limit, name_limit}
use Rattle.meaning_save.specs.Save.{old, form_of, marked, saved_opaque, spaced_name, extent}
use Rattle.octets.specs.Part.{tab}
use Rattle.save_written.specs.Written.{marked_as, space_written, name_written}
use Rattle.save_written.proofs.Fields.{alike, front-spelt, space-tests, is_root_length, old-tests, new-tests}

eqb-flip : (a b : ℕ) → eqb a b ≡ eqb b a
eqb-flip a b = alike (eqb a b) (eqb b a) (λ e. eq-eqb b a (sym (eqb-true a b e))) (λ e. eq-eqb a b (sym (eqb-true b a e)))

three : (a b c : Bool) → (a && (b && c)) ≡ pick a (pick b (pick c true false) false) false
three true true true = refl
three true true false = refl
three true false c = refl
three false b c = refl

-- `neither` of two tests, and that one of them passes
pub neither-not : (a b : Bool) → (not a && not b) ≡ true → (a || b) ≡ false
neither-not true b e = sym e
neither-not false true e = sym e
neither-not false false e = refl

pub neither-false : (a b : Bool) → (not a && not b) ≡ false → (a || b) ≡ true
neither-false true b e = refl
neither-false false true e = refl
neither-false false false e = sym e

module _ (o : List ℕ) (at : ℕ) where
  -- the octet at the place
  first-there : get_or (drop at o) 0 0 ≡ get_or o at 0
  first-there = let here : at + 0 ≡ at = omega arith in get_or-drop at o 0 0 ∙ ap (λ (k : ℕ). get_or o k 0) here

  there-long : (n : ℕ) → at + n ≤ length o → n ≤ length (drop at o)
  there-long n h = simp length-drop (omega arith)

  -- ---- the mark

  pub mark-there : (kind : ℕ) → at + 3 ≤ length o → (eqb (get_or o at 0) 0x4C && (eqb (get_or o (at + 1) 0) 0x53 && eqb (get_or o (at + 2) 0) kind)) ≡ marked_as kind (drop at o)
  unfolding marked_as marked same tab
  mark-there kind long =
      let s : List ℕ = drop at o in
      rw (← first-there, ← get_or-drop at o 1 0, ← get_or-drop at o 2 0, eqb-flip (get_or s 0 0) 0x4C, eqb-flip (get_or s 1 0) 0x53, eqb-flip (get_or s 2 0) kind)
      (tested (get_or s 0 0) (get_or s 1 0) (get_or s 2 0) (drop 3 s) ∙ ap (λ (l : List ℕ). same (0x4C ∷ 0x53 ∷ kind ∷ []) (take 3 l)) (sym (front-spelt 3 s (there-long 3 long))))
    where
      tested : (x y z : ℕ) (rest : List ℕ) → (eqb 0x4C x && (eqb 0x53 y && eqb kind z)) ≡ same (0x4C ∷ 0x53 ∷ kind ∷ []) (take 3 (x ∷ y ∷ z ∷ rest))
      tested x y z rest = three (eqb 0x4C x) (eqb 0x53 y) (eqb kind z)

  -- of the kind that is known
  pub marked-so : (k kind : ℕ) (r b : Bool) → k ≡ kind → r ≡ marked_as k (drop at o) → r ≡ b → marked_as kind (drop at o) ≡ b
  marked-so k kind r b e h t = ap (λ (j : ℕ). marked_as j (drop at o)) (sym e) ∙ sym h ∙ t

  -- ---- a text in its space

  module _ (n k : ℕ) (long : at + (1 + n) ≤ length o) (ek : k ≡ get_or o at 0) where
    space-long : suc n ≤ length (drop at o)
    space-long = there-long (suc n) (omega arith)

    pub space-full : n < k → false ≡ space_written n (drop at o)
    space-full h = sym (sym (space-tests n (drop at o) space-long) ∙ rw (first-there, ← ek, lt-leb k n h) refl)

    pub space-zeros : (r : Bool) (size : ℕ) → (let part = take size (drop (at + (1 + k)) o) in r ≡ same part (replicate (length part) 0)) → k ≤ n → size ≡ n - k → r ≡ space_written n (drop at o)
    space-zeros r size h fits es =
        let all : length (take size (drop (at + (1 + k)) o)) ≡ n - k = length-take-le size (drop (at + (1 + k)) o) (simp length-drop (omega arith)) ∙ es in
        let there : at + suc k ≡ at + (1 + k) = omega arith in
        let behind : drop (suc k) (drop at o) ≡ drop (at + (1 + k)) o = drop-drop (suc k) at o ∙ ap (λ (j : ℕ). drop j o) there in
        let test : (leb k n && same (take (n - k) (drop (suc k) (drop at o))) (replicate (n - k) 0)) ≡ space_written n (drop at o) = ap (λ (j : ℕ). leb j n && same (take (n - j) (drop (suc j) (drop at o))) (replicate (n - j) 0)) (ek ∙ sym first-there) ∙ space-tests n (drop at o) space-long in
        h ∙ rw (all, es, ← behind) (sym (rw (le-leb k n fits) refl) ∙ test)

  -- ---- a name: in the old form, and in the new one

  module _ (k : ℕ) (long : at + spaced_name ≤ length o) (ek : k ≡ get_or o at 0) where
    spaces-long : spaced_name ≤ length (drop at o)
    spaces-long = there-long spaced_name long

    abbrev value-at : List ℕ
    value-at = drop (at + (1 + root_limit)) o

    spaces-test : (is_root_length k && (space_written root_limit (drop at o) && space_written saved_opaque value-at)) ≡ name_written old (drop at o)
    spaces-test = rw (ek, ← first-there, ← drop-drop (1 + root_limit) at o) (old-tests (drop at o) spaces-long)

    -- neither length
    abbrev Neither : Bool → Type 0
    Neither b = (not (eqb k 4) && not (eqb k root_limit)) ≡ b

    pub no_address : Neither true → false ≡ name_written old (drop at o)
    no_address e = sym (rw (neither-not (eqb k 4) (eqb k root_limit) e) refl) ∙ spaces-test

    pub no-root : Neither false → space_written root_limit (drop at o) ≡ false → false ≡ name_written old (drop at o)
    no-root e h = sym (rw (neither-false (eqb k 4) (eqb k root_limit) e, h) refl) ∙ spaces-test

    pub root-and-value : Neither false → space_written root_limit (drop at o) ≡ true → (r : Bool) → r ≡ space_written saved_opaque value-at → r ≡ name_written old (drop at o)
    root-and-value e h r er = er ∙ sym (rw (neither-false (eqb k 4) (eqb k root_limit) e, h) refl) ∙ spaces-test

  pub name-there : (k : ℕ) (b : Bool) → b ≡ true → at + extent (form_of b) (drop at o) ≤ length o → k ≡ get_or o at 0 → leb k name_limit ≡ name_written (form_of b) (drop at o)
  unfolding form_of
  name-there k b e long ek = rw (ek, ← first-there, e) (new-tests (drop at o) (there-long (suc (get_or (drop at o) 0 0)) (rw e at long)))

  pub old-there : (r b : Bool) → b ≡ false → r ≡ name_written old (drop at o) → r ≡ name_written (form_of b) (drop at o)
  unfolding form_of
  old-there r b e h = rw e h

  -- how many octets a name takes, and that it takes one at least
  pub takes-spaces : (b : Bool) → b ≡ false → at + extent (form_of b) (drop at o) ≤ length o → at + spaced_name ≤ length o
  unfolding form_of
  takes-spaces b e h = rw e at h

  pub takes_one : (b : Bool) → b ≡ true → at + extent (form_of b) (drop at o) ≤ length o → at < length o
  unfolding form_of
  takes_one b e h = let long : at + suc (get_or (drop at o) 0 0) ≤ length o = rw e at h in omega arith
