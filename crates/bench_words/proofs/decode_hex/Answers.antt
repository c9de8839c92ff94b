use Rattle.std.proofs.Common.{◌≡◌, ◌<◌, ◌≤◌, ◌/◌, sym, length, arith}
use Rattle.std.proofs.lemmas.List.{length-take-le}
use Rattle.octets.proofs.Parts.{front-more}
use Rattle.bench_words.specs.Words.{octets_of}
use Rattle.bench_words.proofs.Words.{octets-length, octets-at, puts-front}
use Rattle.bench_words.proofs.decode_hex.Goals as goal

pub loop-i-preserved : goal.loop-i-preserved
loop-i-preserved c =
    let the-loop = c.loop-i in
    let h : the-loop.i < length c.args.hex.now / 2 = omega arith in
    let k : the-loop.i < length (octets_of c.args.hex.now) = omega (arith, octets-length c.args.hex.now) in
    let d = c.digit_of.ensures.0 in
    let e = c.digit_of-in-loop-i.ensures.0 in
    front-more (octets_of c.args.hex.now) c.args.out.now the-loop.out 0 _ the-loop.i k (omega arith) the-loop.invariant (rw (d, e) (sym (octets-at c.args.hex.now the-loop.i h)))

pub returns : goal.returns
returns c =
    let a = c.args in
    let n = length a.hex.now / 2 in
    let w : n ≤ length c.loop-i.out = omega arith in
    record {
      puts = puts-front (octets_of a.hex.now) a.out.now c.loop-i.out n c.loop-i.i (sym (octets-length a.hex.now)) (omega arith) (omega arith) c.loop-i.invariant;
      upper_bound = (w, sym (length-take-le n c.loop-i.out w));
    }
