use Rattle.event_route.proofs.Route.{moved-room, moved-place, moved_ends}
use Rattle.memory.specs.Memory.{card_of}
use Rattle.meaning.specs.Card.{with_next}
use mathlib.Core.Path.{ap, ◌∙◌}
use borrow.Author.Rules.{rules}
use Rattle.event_route.proofs.re_route.Goals as goal

pub set_route-requires : goal.set_route-requires
set_route-requires c =
    let the-move-all = c.move_all-w in
    let moved = moved-place (card_of c.args.numbers.now c.args.names.now) _ _ _ _ the-move-all.ensures.leaves c.requires.14 c.requires.15 in
    (search rules, search rules, search rules, moved-room (card_of c.args.numbers.now c.args.names.now) _ _ _ _ the-move-all.ensures.leaves c.requires.6, c.requires.9, c.requires.12, c.requires.13, moved.0, moved.1)

pub returns : goal.returns
returns c =
    let the-next-id = c.next_id in
    let the-move-all = c.move_all-w in
    let the-set-route = c.set_route in
    moved_ends (card_of c.args.numbers.now c.args.names.now) _ _ _ _ _ _ _ _ _ _ _ _ (the-next-id.ensures _) c.requires.3 c.requires.10 c.requires.11 the-move-all.ensures (c.set_next_id.ensures _ ∙ ap (with_next _) the-set-route.ensures)
