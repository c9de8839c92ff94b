use native.Mathlib.Omega.{arith}
use mathlib.Core.Path.{refl}
use borrow.Author.Rules.{rules}
use Rattle.session_replies.proofs.left_after.Goals as goal

pub returns-then-last : goal.returns-then-last
returns-then-last c = (rw c.if-last.true refl, omega arith)

pub returns : goal.returns
returns c = (rw c.if-last.false refl, omega arith)
