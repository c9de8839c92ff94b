use native.Mathlib.Omega.{arith}
use Rattle.bench_layers.proofs.Shown.{dash-none, dash-some}
use borrow.Author.Rules.{rules}
use Rattle.bench_layers.proofs.add_or_dash.Goals as goal

pub returns-then-octets-eq0 : goal.returns-then-octets-eq0
returns-then-octets-eq0 c =
    let the-if1 = c.if-octets-eq0 in
    let the-add = c.add in record { adds = rw (dash-none _ the-if1.true) the-add.ensures; upper_bound = omega (arith, the-add.ensures.count) }

pub returns : goal.returns
returns c =
    let the-if1 = c.if-octets-eq0 in
    let the-add-hex = c.add_hex in record { adds = rw (dash-some _ the-if1.false) the-add-hex.ensures.adds; upper_bound = omega (arith, the-add-hex.ensures.value) }
