use native.Mathlib.Omega.{arith}
use Rattle.bench_lines.proofs.Text.{adds_then}
use Rattle.bench_replies.specs.PlanText.{said_line}
use Rattle.bench_plans.proofs.put_said.Goals as goal

pub returns : goal.returns
unfolding said_line
returns c =
    let the-add3 = c.add-at-3 in
    let the-add2 = c.add-at-2 in
    let the-add = c.add-at in
    let z = the-add3.ensures in
    let y = the-add2.ensures in
    let x = the-add.ensures in
    let w = c.add.ensures in
    record { text_after = (adds_then x (adds_then y (adds_then z w))).text; upper_bound = omega (arith, x.count, y.count, z.count, w.count) }
