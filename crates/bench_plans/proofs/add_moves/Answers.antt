use native.Mathlib.Omega.{arith}
use mathlib.Core.Path.{refl, sym}
use lib.Seq.{take_all}
use Rattle.meaning_plan.specs.PlanOctets.{list_in}
use Rattle.bench_lines.proofs.Text.{adds_none, adds_then}
use Rattle.plan_check.proofs.Checking.{entry-there, entries-end}
use Rattle.bench_plans.proofs.Telling.{moves-none, moves_more}
use Rattle.bench_plans.proofs.add_moves.Goals as goal

pub loop-i-init : goal.loop-i-init
loop-i-init c = (refl, omega arith, rw (moves-none (list_in c.args.list.now)) (adds_none _ _))

pub loop-i-preserved : goal.loop-i-preserved
loop-i-preserved c =
    let o = c.args.list.now in
    let i = c.loop-i.i in
    (omega arith, omega arith, rw (sym (moves_more (list_in o) i _ (entry-there o i (omega arith)))) (adds_then c.loop-i.invariant.2 c.add_move-at.ensures.adds))

pub shape_of-text : goal.shape_of-text
shape_of-text c = c.loop-i.invariant.0

pub returns : goal.returns
returns c =
    let e = take_all c.loop-i.i (list_in c.args.list.now) (entries-end c.args.list.now c.loop-i.i (omega arith)) in
    record { adds = rw e at c.loop-i.invariant.2; upper_bound = omega arith }
