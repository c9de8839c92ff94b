use mathlib.Core.Path.{◌∙◌}
use Rattle.meaning.specs.Events.{let_go, take_up, move_label}
use Rattle.memory.specs.Memory.{card_of}
use Rattle.event_move.proofs.Records.{wrote_then}
use Rattle.event_move.proofs.Steps.{room-first, room-then, let-go-many}
use borrow.Author.Rules.{rules}
use Rattle.event_move.proofs.move_label.Goals as goal

pub let_go-w-requires : goal.let_go-w-requires
let_go-w-requires c =
    (c.requires.0, c.requires.1, room-first c.args.i c.args.u c.args.numbers.now c.args.numbers.now c.args.names.now c.args.id c.args.at c.args.out.now c.args.out.now 0 0 c.requires.6.0 c.requires.5, c.requires.6)

pub take_up-v-requires : goal.take_up-v-requires
take_up-v-requires c =
    let the-let-go = c.let_go-w in
    let the_out = c.out-1 in
    let w = the-let-go.ensures in (search rules, search rules, c.requires.2, c.requires.3, rw w.1 c.requires.4, rw the_out.given (room-then c.args.i c.args.u _ _ c.args.names.now _ _ _ _ _ _ c.requires.6.0 c.requires.5 _ w.0), (rw (let-go-many c.args.i c.args.u _ _ c.args.names.now _ _ _ _ _ _ c.requires.6.0 c.requires.5 w.0) c.requires.6.0, c.requires.6.1))

pub returns : goal.returns
unfolding move_label
returns c =
    let the-let-go = c.let_go-w in
    let the-take-up = c.take_up-v in
    let w = the-let-go.ensures in
    let v = the-take-up.ensures in (
      wrote_then (let_go c.args.i (card_of c.args.numbers.now c.args.names.now)) (take_up c.args.i c.args.u) _ _ _ _ _ _ _ _ _ _ _
          (room-first c.args.i c.args.u c.args.numbers.now c.args.numbers.now c.args.names.now c.args.id c.args.at c.args.out.now c.args.out.now 0 0 c.requires.6.0 c.requires.5)
          w.0 v.0,
      v.1 ∙ w.1,
    )
