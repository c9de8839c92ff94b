use native.Mathlib.Omega.{arith}
use Rattle.meaning.specs.Card.{Card}
use Rattle.memory.specs.Memory.{card_of}
use Rattle.event_holder.proofs.Sizes.{need-one}
use Rattle.event_move.proofs.Steps.{take-nothing, take-up-some, take-up-room}
use Rattle.event_move.proofs.take_up.Goals as goal

pub returns-then-u-eq-NOBODY : goal.returns-then-u-eq-NOBODY
returns-then-u-eq-NOBODY c =
    take-nothing c.args.i c.args.u (card_of c.args.numbers.now c.args.names.now) c.args.id c.args.at c.args.out.now c.if-u-eq-NOBODY.true

pub give-requires : goal.give-requires
give-requires c =
    let ne = c.if-u-eq-NOBODY.false in
    let card : Card = card_of c.args.numbers.now c.args.names.now in
    (c.requires.0, c.requires.1, omega (arith, c.requires.2, c.requires.3, ne), omega (arith, c.requires.4, need-one c.args.u ne), omega (arith, c.requires.5, take-up-room c.args.i c.args.u card c.args.id ne), c.requires.6)

pub returns-else-u-eq-NOBODY : goal.returns-else-u-eq-NOBODY
returns-else-u-eq-NOBODY c =
    let the-if1 = c.if-u-eq-NOBODY in
    let the-give = c.give in
    let ne = the-if1.false in
    rw (take-up-some c.args.i c.args.u (card_of c.args.numbers.now c.args.names.now) ne, need-one c.args.u ne) the-give.ensures
