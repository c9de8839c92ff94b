-- The laws by which the record of a notice follows the definitions. Assumes nothing.
use Prim.Native.Nat.{ℕ, ◌≤◌}
use native.Mathlib.Omega.{arith}
use mathlib.Core.Path.{◌≡◌, refl, sym, ◌∙◌}
use mathlib.Core.Bool.{true, false}
use mathlib.Core.List.{List, ◌∷◌, ◌++◌}
use lib.ListN.{drop, length}
use lib.Dec.{eqb, ltb}
use borrow.Author.Tests.{eq-eqb, ne_eqb}
use Rattle.meaning.specs.Octets.{two, four}
use Rattle.meaning.specs.Wire.{tlv}
use Rattle.meaning.specs.Calls.{over}
use Rattle.meaning.specs.Notice.{status_of, status_code, copied_id, copied_type, notice_due, status_value, notice_octets, notice_record}
use Rattle.octets.specs.Part.{mid}
use Rattle.octets.proofs.Parts.{mid-mid}
use Rattle.notice_status.proofs.Status.{heeded}

-- ---- whether a record is due

module _ (n : ℕ) (s : List ℕ) (d : ℕ) (ed : d ≡ status_of n) where
  pub due-none : d ≡ 0 → false ≡ notice_due n s
  unfolding notice_due
  due-none e = rw (eq-eqb (status_of n) 0 (sym ed ∙ e)) refl

  some : (d ≡ 0 → ⊥) → eqb (status_of n) 0 ≡ false
  some h = ne_eqb (status_of n) 0 (λ e. h (ed ∙ e))

  pub due-three : (t : ℕ) → (d ≡ 0 → ⊥) → n ≡ 3 → t ≡ copied_type s → ltb t 0x8000 ≡ notice_due n s
  unfolding notice_due
  due-three t h e q = rw (some h, eq-eqb n 3 e, ← q) (heeded t)

  pub due-other : (d ≡ 0 → ⊥) → (n ≡ 3 → ⊥) → true ≡ notice_due n s
  unfolding notice_due
  due-other h e = rw (some h, ne_eqb n 3 e) refl

-- ---- the record, written part by part

abbrev pub head_of : ℕ → ℕ → List ℕ
head_of to id = 0x4C ∷ 0x44 ∷ (two to ++ (two 0x0001 ++ (two 18 ++ (four id ++ (two 0x0300 ++ two 10)))))

abbrev pub value_of : ℕ → ℕ → ℕ → List ℕ
value_of code id kind = four code ++ (four id ++ two kind)

record-parts : (id to number : ℕ) (s xs : List ℕ) → (head_of to id ++ value_of (status_code (status_of number)) (copied_id s) (copied_type s)) ++ drop 26 xs ≡ over (notice_record id to number s) xs
unfolding over notice_record notice_octets status_value tlv two four
record-parts id to number s xs = refl

head-length : (to id : ℕ) → length (head_of to id) ≡ 16
unfolding two four
head-length to id = refl

-- the two calls of `put_notice`, each on the part that it is lent
pub put_two : (id to number d code refused kind : ℕ) (s xs us vs : List ℕ) → 26 ≤ length xs → d ≡ status_of number → code ≡ status_code d → refused ≡ copied_id s → kind ≡ copied_type s
    → us ≡ head_of to id → vs ≡ value_of code refused kind → mid 16 10 (mid 0 16 xs us) vs ≡ over (notice_record id to number s) xs
put_two id to number d code refused kind s xs us vs fits ed ec er ek hu hv =
    rw (hu, hv, er, ek, ec, ed) (mid-mid 0 16 10 16 26 xs (head_of to id) (value_of (status_code (status_of number)) (copied_id s) (copied_type s)) (omega arith) (head-length to id) refl refl ∙ record-parts id to number s xs)
