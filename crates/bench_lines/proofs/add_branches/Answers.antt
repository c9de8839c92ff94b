use Rattle.std.proofs.Common.{arith, sym, take_all}
use Rattle.bench_lines.proofs.Text.{adds_none, adds_then, branches-more}
use Rattle.bench_lines.specs.Text.{branches_as}
use Rattle.meaning.specs.Card.{branches_from}
use Rattle.bench_lines.proofs.add_branches.Goals as goal

pub loop-i-init : goal.loop-i-init
loop-i-init c =
    (omega arith, unfold branches_from branches_as in (adds_none c.args.text.now c.args.from))

pub loop-i-preserved : goal.loop-i-preserved
loop-i-preserved c =
    (omega arith, rw (sym (branches-more c.args.before.now c.args.between.now c.args.branches.now c.loop-i.i c.loop-i-test.true)) (adds_then c.loop-i.invariant.1 c.add_branch-at.ensures.adds))

pub returns : goal.returns
returns c =
    let e = take_all c.loop-i.i c.args.branches.now c.loop-i-test.false in
    record { adds = rw e at c.loop-i.invariant.1; upper_bound = omega arith }
