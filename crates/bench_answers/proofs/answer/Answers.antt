use mathlib.Core.Path.{sym}
use borrow.Author.Rules.{rules}
use Rattle.bench_answers.proofs.answer.Goals as goal

pub obey-requires : goal.obey-requires
obey-requires c =
    (c.read_order-order.ensures.lies, c.requires)

pub returns : goal.returns
returns c =
    let the-read-order = c.read_order-order in
    rw (sym the-read-order.ensures.means)
    (record { says = c.obey.ensures; next = c.next_room.ensures _ _ _ })
