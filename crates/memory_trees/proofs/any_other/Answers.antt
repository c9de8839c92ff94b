use native.Mathlib.Omega.{arith}
use mathlib.Core.Path.{refl, sym, ◌∙◌}
use lib.ListN.{set, length-set}
use Rattle.meaning.specs.Card.{tree_at}
use Rattle.memory.specs.Memory.{card_of}
use Rattle.memory.proofs.Trees.{branches-length}
use Rattle.memory_trees.proofs.Others.{others-none, other-hit, other-zero, other-not}
use Rattle.memory_trees.proofs.any_other.Goals as goal
use Rattle.memory_trees.proofs.any_other.Goals.{else-branch-ne0-via-then-branch-ne0+else-is_other, else-branch-ne0-via-else-branch-ne0}

pub loop-k-init : goal.loop-k-init
loop-k-init c = λ os. refl

pub returns-then-is_other : goal.returns-then-is_other
returns-then-is_other c = λ os.
    let bs = (tree_at c.args.i (card_of c.args.numbers.now os)).branches in
    let n16 = branches-length c.args.numbers.now os c.args.i c.requires.1.0 in
    let other = c.is_other.ensures.0 c.if-is_other.true in
    sym (c.loop-k.invariant os ∙ other-hit bs c.args.n c.args.but c.loop-k.k _ (omega arith) (c.branch-numbers.ensures os) c.if-branch-ne0.true other.0 other.1)

pub loop-k-preserved : goal.loop-k-preserved
loop-k-preserved c = λ os.
    let bs = (tree_at c.args.i (card_of c.args.numbers.now os)).branches in
    let n16 = branches-length c.args.numbers.now os c.args.i c.requires.1.0 in
    c.loop-k.invariant os
    ∙ elim c.else-branch-ne0.branch [
      | else-branch-ne0-via-then-branch-ne0+else-is_other w ↦ other-not bs c.args.n c.args.but c.loop-k.k (omega arith) (w.is_other.ensures.1 w.if-is_other.false)
      | else-branch-ne0-via-else-branch-ne0 w ↦ other-zero bs c.args.n c.args.but c.loop-k.k _ (omega arith) (c.branch-numbers.ensures os) w.if-branch-ne0.false
    ]

pub returns : goal.returns
returns c = λ os.
    let bs = set (tree_at c.args.i (card_of c.args.numbers.now os)).branches c.args.n 0 in
    let n16 = length-set (tree_at c.args.i (card_of c.args.numbers.now os)).branches c.args.n 0 ∙ branches-length c.args.numbers.now os c.args.i c.requires.1.0 in
    sym (c.loop-k.invariant os ∙ others-none bs c.args.but c.loop-k.k (omega arith))
