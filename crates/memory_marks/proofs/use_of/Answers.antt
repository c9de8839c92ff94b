use mathlib.Core.Path.{refl}
use native.Mathlib.Omega.{arith}
use borrow.Author.Rules.{rules}
use Rattle.memory_marks.proofs.use_of.Goals as goal

pub returns-then-held : goal.returns-then-held
returns-then-held c = let t = c.if-held.true in (rw t refl, omega arith)

pub returns-else-held : goal.returns-else-held
returns-else-held c = let t = c.if-held.false in (rw t refl, omega arith)
