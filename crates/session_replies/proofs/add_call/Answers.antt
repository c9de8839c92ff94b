use native.Mathlib.Omega.{arith}
use Rattle.bench_words.specs.Words.{ascii}
use Rattle.bench_lines.proofs.Text.{adds_then}
use Rattle.session_replies.specs.Turns.{call_text}
use borrow.Author.Rules.{rules}
use Rattle.session_replies.proofs.add_call.Goals as goal

pub returns : goal.returns
unfolding call_text ascii
returns c =
    let the-add-named = c.add_named-at in
    let the-add-named2 = c.add_named-at-2 in
    record { adds = adds_then the-add-named.ensures.adds (adds_then the-add-named2.ensures.adds c.add_records.ensures.adds); upper_bound = omega arith }
