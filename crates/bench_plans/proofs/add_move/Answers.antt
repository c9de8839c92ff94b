use native.Mathlib.Omega.{arith}
use Rattle.bench_lines.proofs.Text.{adds_then}
use Rattle.plan_check.proofs.Checking.{entry-root, entry-via}
use Rattle.bench_plans.proofs.Telling.{move-told}
use Rattle.bench_plans.proofs.add_move.Goals as goal

pub returns : goal.returns
returns c =
    let o = c.args.list.now in
    let p = c.args.place in
    record { adds = rw (move-told _ _ _ (entry-root o p _ c.root_at-root.ensures.0) (entry-via o p _ c.at.ensures.0)) (adds_then c.add-at.ensures (adds_then c.add_hex-at.ensures.adds (adds_then c.add-at-2.ensures c.add_number.ensures.adds))); upper_bound = omega (arith, c.add-at.ensures.count, c.add_hex-at.ensures.value, c.add-at-2.ensures.count, c.add_number.ensures.upper_bound, c.root_at-root.ensures.1) }
