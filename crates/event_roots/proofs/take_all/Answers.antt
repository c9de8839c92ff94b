use Rattle.event_roots.proofs.Roots.{sum-next, sum_done}
use Rattle.event_move.proofs.Trees.{sum-none}
use Rattle.event_holder.specs.Move.{size_all}
use Rattle.meaning.specs.Events.{need_all}
use mathlib.Core.Path.{sym}
use native.Mathlib.Omega.{arith}
use Rattle.event_roots.proofs.take_all.Goals as goal

pub loop-i-init : goal.loop-i-init
loop-i-init c = (omega arith, omega arith, sym (sum-none _ _), sym (sum-none _ _))

pub take_one-t-requires : goal.take_one-t-requires
take_one-t-requires c =
    (c.requires.0, c.requires.1, (omega (arith, c.tree_count-n.ensures.0), omega arith))

pub loop-i-preserved : goal.loop-i-preserved
loop-i-preserved c =
    let the-loop = c.loop-i in
    let t = c.take_one-t.ensures in
    let v = the-loop.invariant in
    (omega (arith, t.2), omega (arith, t.3), sum-next _ _ _ _ _ v.2 t.0, sum-next _ _ _ _ _ v.3 t.1)

pub returns : goal.returns
unfolding need_all size_all
returns c =
    let v = c.loop-i.invariant in
    let many = c.tree_count-n.ensures.0 in
    (sum_done _ _ _ _ _ _ many c.loop-i.auto.i-end c.loop-i-test.false v.2, sum_done _ _ _ _ _ _ many c.loop-i.auto.i-end c.loop-i-test.false v.3, omega (arith, v.0), omega (arith, v.1))
