-- `bench_saves::on_saved` meets its contract, by the order's variant. Assumes nothing.
use Rattle.bench_orders.specs.Tells.{meant}
use Rattle.bench_replies.specs.Kinds.{Kind}
use Rattle.bench_replies.proofs.Arms.{of_others}
use Rattle.bench_replies.proofs.Reply.{lies}
use Rattle.memory.specs.Memory.{card_of}
use Rattle.bench_saves.proofs.Saves.{lies-most}
use borrow.Enum.Refused.{opened}
use Rattle.bench_saves.proofs.on_saved.Goals as goal

pub of-requires : goal.of-requires
of-requires c =
    let word = lies _ _ _ c.requires.0 c.in-Restore.is in
    (word.0, word.1)

pub on_restore-requires : goal.on_restore-requires
on_restore-requires c = (rw c.of.ensures (lies-most _ _ _ _ (lies _ _ _ c.requires.0 c.in-Restore.is)), c.requires.2)

pub of-requires-in-Move : goal.of-requires-in-Move
of-requires-in-Move c =
    let word = lies _ _ _ c.requires.0 c.in-Move.is in
    (word.0, word.1)

pub on_move-requires : goal.on_move-requires
on_move-requires c = (rw c.of-in-Move.ensures (lies-most _ _ _ _ (lies _ _ _ c.requires.0 c.in-Move.is)), c.requires.2)

pub returns-in-Save : goal.returns-in-Save
unfolding meant
returns-in-Save c = λ number. rw c.in-Save.is (c.on_save.ensures number)

pub returns-in-Restore : goal.returns-in-Restore
unfolding meant
returns-in-Restore c = λ number. rw c.in-Restore.is (rw c.of.ensures at (c.on_restore.ensures number c.args.room))

pub returns-in-Move : goal.returns-in-Move
unfolding meant
returns-in-Move c = λ number. rw c.in-Move.is (rw c.of-in-Move.ensures at (c.on_move.ensures number (card_of c.args.numbers.now c.args.names.now)))

pub returns-in_default : goal.returns-in_default
returns-in_default c = λ number. absurd (of_others Kind.saves c.args.order (opened c.in_default.in_default-own.keys4) c.requires.1)
