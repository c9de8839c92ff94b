use native.Mathlib.Omega.{arith}
use Rattle.bench_lines.proofs.Text.{adds_none, adds_then, branch-none, branch_one}
use borrow.Author.Rules.{rules}
use Rattle.bench_lines.proofs.add_branch.Goals as goal

pub returns-then-label-eq0 : goal.returns-then-label-eq0
returns-then-label-eq0 c = record { adds = rw (branch-none _ _ _ _ c.if-label-eq0.true) (adds_none _ _); upper_bound = omega arith }

pub returns : goal.returns
returns c =
    let the-if1 = c.if-label-eq0 in
    let the-add-named = c.add_named-at in
    record { adds = rw (branch_one _ _ _ _ the-if1.false) (adds_then the-add-named.ensures.adds c.add_named.ensures.adds); upper_bound = omega arith }
