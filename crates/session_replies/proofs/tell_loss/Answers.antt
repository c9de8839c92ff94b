-- `session_replies::tell_loss` meets its contract: told as on the bench, and the stream. Assumes nothing.
use native.Mathlib.Omega.{arith}
use Rattle.meaning_save.specs.Save.{new, save_limit}
use Rattle.meaning.specs.Events.{event, lost}
use Rattle.card.specs.Table.{card_of}
use Rattle.bench_words.specs.Words.{ascii}
use Rattle.bench_replies.specs.Reply.{reply_to}
use Rattle.bench_replies.proofs.Reply.{part-fits, event-fits, says-told}
use Rattle.session_replies.proofs.Obeying.{loss-left}
use borrow.Author.Rules.{rules}
use Rattle.session_replies.proofs.tell_loss.Goals as goal

pub put_event-requires : goal.put_event-requires
put_event-requires c =
    let the-records = c.records-out in
    let the_lent = c.lent in
    let all = the-records.ensures in
    let given = the_lent.ensures.1 in
    (omega arith, part-fits _ (save_limit new) c.lose-written.ensures.0 (event-fits _ _ _) (omega arith), c.requires)

pub returns : goal.returns
unfolding reply_to ascii
returns c =
    let the-lose = c.lose-written in
    let the-records = c.records-out in
    let the_lent = c.lent in
    let told = c.put_event.ensures in
    let call = the-lose.ensures in
    let all = the-records.ensures in
    let given = the_lent.ensures.1 in record { by_index = λ number. says-told (λ m. event m (card_of c.args.numbers.now c.args.names.now) (lost c.args.neighbour)) _ _ _ _ (omega arith) call.0 told.upper_bound told.text_after; by_index_2 = λ buffer. loss-left (λ m. event m (card_of c.args.numbers.now c.args.names.now) (lost c.args.neighbour)) _ _ (omega arith) call.0 (call.1 buffer) }
