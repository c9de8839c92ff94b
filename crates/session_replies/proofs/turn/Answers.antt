use Rattle.card.specs.Table.{card_of}
use Rattle.session.specs.Lent.{stream_of}
use Rattle.session_replies.specs.Less.{called-leaves}
use Rattle.session_replies.proofs.Telling.{turn-hands, turn-text, turn-within, turn-did}
use borrow.Author.Rules.{rules}
use Rattle.session_replies.proofs.turn.Goals as goal

-- `session_replies::turn` meets its contract: one call, and its text. Assumes nothing.

pub add_call-end-requires : goal.add_call-end-requires
add_call-end-requires c =
    let the-identifier = c.identifier-expected in
    let the_lent = c.lent in
    let the-output = c.output-out in
    let the-serve = c.serve-records in
    let o = c.args.octets.now in
    let card = card_of c.args.numbers.now c.args.names.now in
    let stream = stream_of c.args.stream.now c.args.buffer.now in
    let h = turn-hands c.args.neighbour c.args.room card stream o c.args.from the-identifier.ensures the_lent.ensures.1 the-output.ensures c.requires.0 the-serve.ensures.0 in
    turn-text _ stream o c.args.from c.args.at (called-leaves _ _ _ _ _) h _ c.requires.2

pub overflow_add-next : goal.overflow_add-next
overflow_add-next c =
    let the-identifier = c.identifier-expected in
    let the_lent = c.lent in
    let the-output = c.output-out in
    let the-serve = c.serve-records in
    let o = c.args.octets.now in
    let card = card_of c.args.numbers.now c.args.names.now in
    let stream = stream_of c.args.stream.now c.args.buffer.now in
    let h = turn-hands c.args.neighbour c.args.room card stream o c.args.from the-identifier.ensures the_lent.ensures.1 the-output.ensures c.requires.0 the-serve.ensures.0 in
    let w = turn-within _ stream o c.args.from c.args.at (called-leaves _ _ _ _ _) h c.requires.1 in
    search rules

pub overflow_sub-octets : goal.overflow_sub-octets
overflow_sub-octets c =
    let the-identifier = c.identifier-expected in
    let the_lent = c.lent in
    let the-output = c.output-out in
    let the-serve = c.serve-records in
    let o = c.args.octets.now in
    let card = card_of c.args.numbers.now c.args.names.now in
    let stream = stream_of c.args.stream.now c.args.buffer.now in
    let h = turn-hands c.args.neighbour c.args.room card stream o c.args.from the-identifier.ensures the_lent.ensures.1 the-output.ensures c.requires.0 the-serve.ensures.0 in
    turn-within _ stream o c.args.from c.args.at (called-leaves _ _ _ _ _) h c.requires.1

pub returns : goal.returns
returns c =
    let the-identifier = c.identifier-expected in
    let the_lent = c.lent in
    let the-output = c.output-out in
    let the-serve = c.serve-records in
    let the-add-call = c.add_call-end in
    let o = c.args.octets.now in
    let card = card_of c.args.numbers.now c.args.names.now in
    let stream = stream_of c.args.stream.now c.args.buffer.now in
    let h = turn-hands c.args.neighbour c.args.room card stream o c.args.from the-identifier.ensures the_lent.ensures.1 the-output.ensures c.requires.0 the-serve.ensures.0 in
    turn-did _ stream o c.args.from c.args.at (called-leaves _ _ _ _ _) h c.requires.1 the-add-call.ensures.adds the-add-call.ensures.upper_bound c.is_last.ensures
