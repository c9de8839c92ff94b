use native.Mathlib.Omega.{arith}
use Rattle.bench_lines.proofs.Text.{adds_none, adds_then}
use Rattle.bench_layers.proofs.Shown.{eight-none, eight-some}
use borrow.Author.Rules.{rules}
use Rattle.bench_layers.proofs.add_eight.Goals as goal

pub returns-then-eight-eq0 : goal.returns-then-eight-eq0
returns-then-eight-eq0 c = record { adds = rw (eight-none _ c.if-eight-eq0.true) (adds_none _ _); upper_bound = omega arith }

pub returns : goal.returns
returns c =
    let the-if1 = c.if-eight-eq0 in
    let the-add = c.add-at in
    let the-add-hex = c.add_hex in
    record { adds = rw (eight-some _ the-if1.false) (adds_then the-add.ensures the-add-hex.ensures.adds); upper_bound = omega (arith, the-add.ensures.count, the-add-hex.ensures.value) }
