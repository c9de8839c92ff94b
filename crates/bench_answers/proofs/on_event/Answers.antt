-- `bench_answers::on_event` meets its contract: the octets of the HEX, and the output as long as the room says, go to the order's call. Assumes nothing.
use native.Mathlib.Omega.{arith}
use Rattle.bench_words.proofs.Words.{part-short}
use Rattle.bench_answers.proofs.Held.{word-lies, word_held}
use borrow.Author.Rules.{rules}
use Rattle.bench_words.proofs.Words.{front-is}
use Rattle.bench_answers.proofs.on_event.Goals as goal

pub of-requires : goal.of-requires
of-requires c =
    let word = word-lies _ c.args.order _ c.hex_in-hex.ensures c.requires.0 in
    (word.0, word.1)

pub decode_hex-n-requires : goal.decode_hex-n-requires
decode_hex-n-requires c =
    let word = c.hex_in-hex.result in
    rw c.of.ensures (omega (arith, part-short _ c.args.line.now word.start word.end (word-lies _ c.args.order _ c.hex_in-hex.ensures c.requires.0), c.input-octets.ensures))

pub returns : goal.returns
returns c =
    let the-output = c.output-out in
    let the_lent = c.lent in
    let the-hex-in = c.hex_in-hex in
    let the-decode-hex = c.decode_hex-n in
    let all = the-output.ensures in
    let given = the_lent.ensures.1 in
    λ number. c.tell_call.ensures number _ _ (omega arith) (word_held _ _ _ _ the-hex-in.ensures (rw c.of.ensures at (front-is the-decode-hex.ensures.puts)))
