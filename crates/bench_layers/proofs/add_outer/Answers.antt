use native.Mathlib.Omega.{arith}
use Rattle.bench_lines.proofs.Text.{adds_then}
use borrow.Author.Rules.{rules}
use Rattle.bench_layers.proofs.add_outer.Goals as goal

pub returns : goal.returns
returns c =
    let the-add = c.add-at in
    let the-add-or-dash = c.add_or_dash in record { adds = adds_then (adds_then the-add.ensures c.add_hex-at.ensures.adds) (adds_then c.add-at-2.ensures the-add-or-dash.ensures.adds); upper_bound = omega (arith, the-add.ensures.count, c.add_hex-at.ensures.value, c.add-at-2.ensures.count, the-add-or-dash.ensures.upper_bound) }
