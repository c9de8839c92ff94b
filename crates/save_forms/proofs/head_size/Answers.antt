use native.Mathlib.Omega.{arith}
use mathlib.Core.Path.{refl}
use Rattle.meaning_save.specs.Save.{form_of}
use Rattle.save_forms.proofs.head_size.Goals as goal

pub returns-then-second : goal.returns-then-second
unfolding form_of
returns-then-second c = rw c.if-second.true (refl, omega arith, omega arith)

pub returns-else-second : goal.returns-else-second
unfolding form_of
returns-else-second c = rw c.if-second.false (refl, omega arith, omega arith)
