use Rattle.std.proofs.Common.{◌≡◌, false, true, length, sym, ◌∙◌}
use borrow.Author.Tests.{le-leb, lt-leb}
use Rattle.bench_words.specs.Words.{ascii, is_hex_to}
use Rattle.bench_words.proofs.Words.{so, hex-all}
use Rattle.bench_words.proofs.is_hex_to.Goals as goal
use Rattle.bench_words.proofs.is_hex_to.Goals.{then-word-most, else-word-most}

pub returns-then-equal : goal.returns-then-equal
unfolding is_hex_to ascii
returns-then-equal c = rw (so c.equal.ensures c.if-equal.true) c.if-equal.true

pub returns-then-word-eq0 : goal.returns-then-word-eq0
unfolding is_hex_to ascii
returns-then-word-eq0 c =
    let n = length c.args.word.now in
    elim c.if-word-most.branch [
      | then-word-most w ↦ rw (so c.equal.ensures c.if-equal.false, le-leb n c.args.most w.if-word-most.true, sym w.value-is ∙ c.if-word-eq0.true) (c.all_hex_digits.ensures ∙ hex-all c.args.word.now)
      | else-word-most w ↦ let z : false ≡ true = sym (lt-leb n c.args.most w.if-word-most.false) ∙ sym w.value-is ∙ c.if-word-eq0.true in cc
    ]

pub returns-else-word-eq0 : goal.returns-else-word-eq0
unfolding is_hex_to ascii
returns-else-word-eq0 c =
    let n = length c.args.word.now in
    elim c.if-word-most.branch [
      | then-word-most w ↦ rw (so c.equal.ensures c.if-equal.false, le-leb n c.args.most w.if-word-most.true, sym w.value-is ∙ c.if-word-eq0.false) c.if-word-eq0.false
      | else-word-most w ↦ rw (so c.equal.ensures c.if-equal.false, lt-leb n c.args.most w.if-word-most.false) c.if-word-eq0.false
    ]
