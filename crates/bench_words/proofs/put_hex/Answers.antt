use Rattle.std.proofs.Common.{◌≡◌, ◌<◌, ◌*◌, ◌∙◌, refl, sym, length, arith}
use Rattle.bench_words.specs.Words.{hex_of}
use Rattle.bench_words.proofs.Words.{hex-length, hex-high, hex-low, front-two, puts-front}
use Rattle.bench_words.proofs.put_hex.Goals as goal

pub loop-i-preserved : goal.loop-i-preserved
loop-i-preserved c =
    let the-loop = c.loop-i in
    let os = c.args.octets.now in
    let i = the-loop.i in
    let h : i < length os = omega arith in
    let n = hex-length os in
    front-two (hex_of os) c.args.out.now the-loop.out _ _ i (omega arith) (omega arith) the-loop.invariant
    (c.glyph.ensures ∙ sym (hex-high os i h)) (c.glyph-in-loop-i.ensures ∙ sym (hex-low os i h))

pub returns : goal.returns
returns c =
    let os = c.args.octets.now in
    let n = hex-length os in
    record { puts = puts-front (hex_of os) c.args.out.now c.loop-i.out (length os * 2) (c.loop-i.i * 2) (sym n) (omega arith) (omega arith) c.loop-i.invariant; value = refl }
