use mathlib.Core.Path.{refl, sym, ◌∙◌}
use native.Mathlib.Omega.{arith}
use Rattle.memory.specs.Memory.{card_of}
use Rattle.memory.proofs.Memory.{trees-length}
use Rattle.event_tree.proofs.Found.{zero-free}
use Rattle.event_withdraw.proofs.Withdrawn.{unknown-room, unknown-done}
use Rattle.event_withdraw.proofs.withdraw_unknown.Goals as goal

pub returns-then-out-size : goal.returns-then-out-size
returns-then-out-size c =
    unknown-room (card_of c.args.numbers.now c.args.names.now) c.args.name.now _ _ _ refl (c.requires.5 ∙ sym (trees-length _ _)) (zero-free _ _) (omega (arith, c.requires.3)) _ (rw c.record_size-size.ensures at c.if-out-size.true)

pub returns : goal.returns
returns c =
    let the-record-size = c.record_size-size in
    let the-if1 = c.if-out-size in
    let the-next-id = c.next_id in
    let the_send = c.send-next in
    let the-set-next-id = c.set_next_id in
    rw the-record-size.ensures (unknown-done (card_of c.args.numbers.now c.args.names.now) c.args.name.now _ _ _ refl (c.requires.5 ∙ sym (trees-length _ _)) (zero-free _ _) (omega (arith, c.requires.3)) _ (rw the-record-size.ensures at the-if1.false) _ _ _ _ (the-next-id.ensures _) the_send.ensures.0 the_send.ensures.1 (the-set-next-id.ensures _))
