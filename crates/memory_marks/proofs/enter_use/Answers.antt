use Rattle.memory_marks.proofs.Marks.{enter-use}
use native.Mathlib.Omega.{arith}
use borrow.Author.Rules.{rules}
use Rattle.memory_marks.proofs.enter_use.Goals as goal

pub overflow_add-numbers : goal.overflow_add-numbers
overflow_add-numbers c = omega (arith, c.use_of.ensures.1)

pub returns : goal.returns
returns c os qs name at_place none-carries =
    let t = c.set_taken.ensures in
    enter-use c.args.numbers.now _ os qs name c.args.place c.args.n _ c.args.held c.requires.1 c.requires.2 at_place t.0 t.1 c.requires.0 none-carries c.use_of.ensures.0
