use native.Mathlib.Omega.{arith}
use Rattle.bench_lines.proofs.Text.{adds_none}
use borrow.Author.Rules.{rules}
use Rattle.bench_lines.proofs.add_if.Goals as goal

pub returns-then-wanted : goal.returns-then-wanted
returns-then-wanted c =
    let the-if1 = c.if-wanted in
    record { adds = rw the-if1.true c.add.ensures; upper_bound = omega (arith, c.add.ensures.count) }

pub returns : goal.returns
returns c = record { adds = rw c.if-wanted.false (adds_none _ _); upper_bound = omega arith }
