use mathlib.Core.Path.{sym, ◌∙◌}
use borrow.Author.Tests.{ltb-false}
use Rattle.event_lost.proofs.Shed.{lost-short, lost-done}
use Rattle.event_lost.proofs.lose.Goals as goal

pub returns-then-is_short : goal.returns-then-is_short
returns-then-is_short c =
    let the-is-short = c.is_short in
    lost-short _ _ _ _ (sym the-is-short.ensures ∙ c.if-is_short.true)

pub part-requires : goal.part-requires
part-requires c =
    let the-is-short = c.is_short in
    let the-if1 = c.if-is_short in
    (c.requires.0, c.requires.1, c.requires.2, ltb-false _ _ (sym the-is-short.ensures ∙ the-if1.false))

pub returns : goal.returns
returns c =
    let the-is-short = c.is_short in
    let the-if1 = c.if-is_short in
    let the-part = c.part in
    lost-done _ _ _ _ (sym the-is-short.ensures ∙ the-if1.false) _ _ _ the-part.ensures
