-- `session_replies::answer` meets its contract, order by order. Assumes nothing.
use Rattle.std.proofs.Common.{◌<◌, length, arith, rules}
use Rattle.card.specs.Table.{card_of}
use Rattle.bench_words.proofs.Words.{part-short}
use Rattle.session_replies.proofs.Obeying.{lies, own-octets, own-pack, own-lost, says-turns, says-loss, bench-not}
use Rattle.session_replies.proofs.answer.Goals as goal

pub of-requires : goal.of-requires
of-requires c =
    let lie = lies _ _ _ c.requires.0 c.in-Octets.is in
    (lie.0, lie.1)

pub on_octets-requires : goal.on_octets-requires
on_octets-requires c =
    let lie = lies _ _ _ c.requires.0 c.in-Octets.is in
    (rw c.of.ensures (part-short _ _ _ _ lie), c.requires.1)

pub of-requires-in-Pack : goal.of-requires-in-Pack
of-requires-in-Pack c =
    let lie = lies _ _ _ c.requires.0 c.in-Pack.is in
    (lie.0, lie.1)

pub on_pack-requires : goal.on_pack-requires
on_pack-requires c =
    (rw c.of-in-Pack.ensures (part-short _ _ _ _ (lies _ _ _ c.requires.0 c.in-Pack.is)), omega (arith, c.requires.1))

pub returns-in-Bench : goal.returns-in-Bench
returns-in-Bench c = bench-not _ _ _ c.in-Bench.is

pub returns-in-Pack : goal.returns-in-Pack
returns-in-Pack c =
    λ _. own-pack _ _ _ _ _ _ _ c.in-Pack.is c.on_pack.ensures.upper_bound (rw c.of-in-Pack.ensures at c.on_pack.ensures.text_after)

pub returns-in-Octets : goal.returns-in-Octets
returns-in-Octets c =
    let h : c.stream_of-n.result < 4 = c.stream_of-n.ensures.by_index_2 c.args.line.now (lies _ _ _ c.requires.0 c.in-Octets.is) in
    let p : c.stream_of-n.result < length c.args.streams.now = search rules in
    let q : c.stream_of-n.result < length c.args.buffers.now = search rules in
    λ _. own-octets _ _ _ _ _ _ _ c.in-Octets.is (c.stream_of-n.ensures.by_index _)
    (says-turns c.stream_of-n.result _ _ (card_of c.args.numbers.now c.args.names.now) c.args.streams.now c.args.buffers.now _ _ _ h p q (rw c.of.ensures at c.on_octets.ensures))

pub returns-in-Lost : goal.returns-in-Lost
returns-in-Lost c =
    let h : c.in-Lost.neighbour < 4 = lies _ _ _ c.requires.0 c.in-Lost.is in
    let p : c.in-Lost.neighbour < length c.args.streams.now = search rules in
    λ _. own-lost _ _ _ _ _ _ c.in-Lost.is
    (says-loss c.in-Lost.neighbour _ (card_of c.args.numbers.now c.args.names.now) c.args.streams.now c.args.buffers.now _ h p c.tell_loss.ensures.by_index (c.tell_loss.ensures.by_index_2 _))
