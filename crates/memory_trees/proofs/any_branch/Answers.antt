use mathlib.Core.Path.{sym, ap, ◌∙◌}
use mathlib.Core.Logic.{inl, inr}
use native.Mathlib.Omega.{arith}
use Rattle.meaning.specs.Octets.{any}
use Rattle.meaning.specs.Card.{is_branch, tree_at}
use Rattle.memory.specs.Memory.{card_of}
use Rattle.memory.proofs.Trees.{branches-length}
use Rattle.memory_trees.proofs.Others.{one-leads, one-not}
use Rattle.memory_trees.proofs.any_branch.Goals as goal
use Rattle.memory_trees.proofs.any_branch.Goals.{else-x-ne0-via-then-x-ne0+then-n-lt-NEIGHBOUR_COUNT+else-n-but, else-x-ne0-via-then-x-ne0+else-n-lt-NEIGHBOUR_COUNT, else-x-ne0-via-else-x-ne0}

pub returns-then-n-but : goal.returns-then-n-but
returns-then-n-but c = λ os.
    let a = c.args in
    let n16 = branches-length a.numbers.now os a.i c.requires.1.0 in
    sym (one-leads (tree_at a.i (card_of a.numbers.now os)).branches a.n a.but a.x c.if-x-ne0.true (omega arith) c.if-n-but.true)

pub returns : goal.returns
returns c = λ os.
    let a = c.args in
    let n16 = branches-length a.numbers.now os a.i c.requires.1.0 in
    let bs = (tree_at a.i (card_of a.numbers.now os)).branches in
    c.any_other.ensures os
    ∙ ap (any is_branch) (one-not bs a.n a.but a.x (elim c.else-x-ne0.branch [
      | else-x-ne0-via-then-x-ne0+then-n-lt-NEIGHBOUR_COUNT+else-n-but w ↦ inr (inr w.if-n-but.false)
      | else-x-ne0-via-then-x-ne0+else-n-lt-NEIGHBOUR_COUNT w ↦ inr (inl (omega arith))
      | else-x-ne0-via-else-x-ne0 w ↦ inl w.if-x-ne0.false
    ]))
