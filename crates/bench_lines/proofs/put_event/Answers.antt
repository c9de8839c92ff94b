use native.Mathlib.Omega.{arith}
use Rattle.bench_words.specs.Words.{ascii}
use Rattle.bench_lines.proofs.Text.{adds_then}
use Rattle.bench_lines.specs.Text.{event_line}
use borrow.Author.Rules.{rules}
use Rattle.bench_lines.proofs.put_event.Goals as goal

pub returns : goal.returns
unfolding event_line ascii
returns c =
    let the-add = c.add-at in
    let the-add-named = c.add_named-at in
    let the-add-records = c.add_records-at in
    record { text_after = (adds_then the-add.ensures (adds_then the-add-named.ensures.adds (adds_then the-add-records.ensures.adds c.add.ensures))).text; upper_bound = omega (arith, the-add.ensures.count, the-add-records.ensures.upper_bound, c.requires) }
