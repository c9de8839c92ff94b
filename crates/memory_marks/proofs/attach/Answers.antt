use Rattle.memory_marks.proofs.Marks.{attach}
use lib.ListN.{length-set}
use native.Mathlib.Omega.{arith}
use borrow.Author.Rules.{rules}
use Rattle.memory_marks.proofs.attach.Goals as goal

pub bounds-numbers-i : goal.bounds-numbers-i
bounds-numbers-i c = simp length-set (omega arith)

pub returns : goal.returns
returns c =
    λ os. attach c.args.numbers.now os c.args.p c.args.i c.requires.0 c.requires.1 c.requires.4.0 c.requires.4.1 c.requires.2 (c.requires.3 os)
