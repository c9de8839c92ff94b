-- Whether a call was refused, by the number that its caller is told. Assumes nothing.
use Rattle.std.specs.Prelude.{◌≡◌, true, false, eqb}
use mathlib.Core.Path.{refl, sym}
use borrow.Author.Tests.{ne_eqb}
use Rattle.std.specs.Result.{is_ok, is_err}
use Rattle.std.specs.declared.result.Result.{Result}
use Rattle.std.specs.declared.result.Result.TheVariants.{Ok, Err}
use Rattle.refusals.specs.declared.Refusal.{Refusal}
use Rattle.refusals.specs.Refusals.{answer_of, number_of}
use Rattle.refusals.proofs.Numbers.{number-not-0}

pub refused : {A : Type 0} (r : Result A Refusal) → is_err r ≡ true → answer_of r ≡ 0 → ⊥
refused (Ok a) e = cc
refused (Err refusal) e = number-not-0 refusal

pub accepted : {A : Type 0} (r : Result A Refusal) → is_err r ≡ false → answer_of r ≡ 0
accepted (Ok a) e = refl
accepted (Err refusal) e = cc

-- accepted is the same as told 0
pub ok-0 : {A : Type 0} (r : Result A Refusal) → is_ok r ≡ eqb (answer_of r) 0
ok-0 (Ok a) = refl
ok-0 (Err refusal) = sym (ne_eqb (number_of refusal) 0 (number-not-0 refusal))
