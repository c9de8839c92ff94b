use Prim.Native.Nat.{◌*◌}
use native.Mathlib.Omega.{arith}
use mathlib.Core.Path.{◌∙◌}
use Rattle.meaning_plan.specs.PlanOctets.{entry_size}
use Rattle.plan_make.proofs.Rows.{opened-moved, inserted, put-long}
use Rattle.plan_make.proofs.Proposing.{row_fits}
use Rattle.plan_make.proofs.insert_row.Goals as goal

pub returns : goal.returns
returns c =
    let q = c.row_place-at in
    let p = q.ensures in
    let w = c.copy_within.ensures in
    let O = opened-moved (q.result * entry_size) (c.args.k * entry_size) c.args.rows.now _ w.len (w.by_index.0, w.by_index.1) in
    let u = c.put_row.ensures in
    (put-long (q.result * entry_size) _ _ _ _ u (w.len ∙ c.requires.0) (omega arith), λ ms H. inserted c.args.rows.now _ _ _ q.result _ c.requires.0 c.requires.1 p.0 (row_fits _ _ c.requires.2 c.requires.3) O u ms p.1 H)
