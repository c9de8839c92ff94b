use native.Mathlib.Omega.{arith}
use Rattle.bench_lines.proofs.Text.{adds_none, adds_then, records-none, records-some}
use borrow.Author.Rules.{rules}
use Rattle.bench_lines.proofs.add_records.Goals as goal

pub returns-then-records-eq0 : goal.returns-then-records-eq0
returns-then-records-eq0 c =
    record { adds = rw (records-none _ c.args.records.now c.if-records-eq0.true) (adds_none _ _); upper_bound = omega arith }

pub returns : goal.returns
returns c =
    let the-if1 = c.if-records-eq0 in
    let the-add = c.add-at in
    record { adds = rw (records-some _ c.args.records.now the-if1.false) (adds_then the-add.ensures c.add_hex.ensures.adds); upper_bound = omega (arith, the-add.ensures.count) }
