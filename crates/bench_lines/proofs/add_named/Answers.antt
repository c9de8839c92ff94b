use native.Mathlib.Omega.{arith}
use Rattle.bench_lines.proofs.Text.{adds_then}
use borrow.Author.Rules.{rules}
use Rattle.bench_lines.proofs.add_named.Goals as goal

pub returns : goal.returns
returns c =
    let the-add = c.add-at in
    record { adds = adds_then the-add.ensures c.add_number.ensures.adds; upper_bound = omega (arith, the-add.ensures.count) }
