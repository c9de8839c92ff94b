use native.Mathlib.Omega.{arith}
use Rattle.bench_lines.proofs.Text.{adds_then}
use Rattle.bench_lines.specs.Text.{count_line}
use borrow.Author.Rules.{rules}
use Rattle.bench_lines.proofs.put_count.Goals as goal

pub returns : goal.returns
unfolding count_line
returns c =
    let the-add = c.add-at in
    let the-add-named = c.add_named-at in
    record { text_after = (adds_then the-add.ensures (adds_then the-add-named.ensures.adds c.add.ensures)).text; upper_bound = omega (arith, the-add.ensures.count) }
