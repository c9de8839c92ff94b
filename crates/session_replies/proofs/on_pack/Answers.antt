-- `session_replies::on_pack` meets its contract. Assumes nothing.
use native.Mathlib.Omega.{arith}
use Rattle.bench_words.specs.Words.{ascii}
use Rattle.session_replies.proofs.Obeying.{pack-short, pack-told}
use borrow.Author.Rules.{rules}
use Rattle.session_replies.proofs.on_pack.Goals as goal

pub put_event-requires : goal.put_event-requires
put_event-requires c =
    let the-pdus = c.pdus-out in
    let the_lent = c.lent in
    let the-decode-hex = c.decode_hex-n in
    let the-identifier = c.identifier-own in
    let made = c.pack-written.ensures in
    (omega arith, pack-short c.args.neighbour c.args.room the-pdus.ensures the_lent.ensures.1 the-decode-hex.ensures.puts the-identifier.ensures made.0 made.1, c.requires.1)

pub returns : goal.returns
unfolding ascii
returns c =
    let the-pack = c.pack-written in
    let the-pdus = c.pdus-out in
    let the_lent = c.lent in
    let the-decode-hex = c.decode_hex-n in
    let the-identifier = c.identifier-own in
    let made = the-pack.ensures in
    let told = c.put_event.ensures in
    record { upper_bound = told.upper_bound; text_after = pack-told c.args.neighbour c.args.room the-pdus.ensures the_lent.ensures.1 the-decode-hex.ensures.puts the-identifier.ensures made.0 made.1 _ told.text_after }
