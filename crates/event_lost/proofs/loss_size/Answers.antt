use native.Mathlib.Omega.{arith}
use mathlib.Core.Path.{sym}
use Rattle.event_move.proofs.Trees.{sum-none}
use Rattle.event_roots.proofs.Roots.{sum-next, sum_done}
use Rattle.event_lost.specs.Lost.{loss_all}
use Rattle.event_lost.proofs.loss_size.Goals as goal

pub loop-i-init : goal.loop-i-init
loop-i-init c = (omega arith, sym (sum-none _ _))

pub loss_of-sum-requires : goal.loss_of-sum-requires
loss_of-sum-requires c =
    (c.requires.0, c.requires.1, c.requires.2, (omega (arith, c.tree_count-k.ensures.0), omega arith))

pub loop-i-preserved : goal.loop-i-preserved
loop-i-preserved c = (omega arith, sum-next _ _ _ _ _ c.loop-i.invariant.1 c.loss_of-sum.ensures.0)

pub returns : goal.returns
unfolding loss_all
returns c =
    let v = c.loop-i.invariant in
    (sum_done _ _ _ _ _ _ c.tree_count-k.ensures.0 c.loop-i.auto.i-end c.loop-i-test.false v.1, omega arith)
