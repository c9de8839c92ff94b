use native.Mathlib.Omega.{arith}
use Rattle.bench_lines.proofs.Text.{adds_then}
use Rattle.bench_lines.specs.Text.{feed_line}
use borrow.Author.Rules.{rules}
use Rattle.bench_lines.proofs.put_feed.Goals as goal

pub returns : goal.returns
unfolding feed_line
returns c =
    let the-add = c.add-at in
    let the-add-feed = c.add_feed-at in
    record { text_after = (adds_then the-add.ensures (adds_then the-add-feed.ensures.adds c.add.ensures)).text; upper_bound = omega (arith, the-add.ensures.count, the-add-feed.ensures.upper_bound, c.requires) }
