-- `bench_verbs::requested_verb` meets its contract: the words in turn. Assumes nothing.
use Rattle.bench_words.specs.Words.{ascii}
use Rattle.bench_verbs.specs.Line.{requested_verb}
use Rattle.bench_verbs.proofs.Chain.{found, passed}
use borrow.Author.Rules.{rules}
use Rattle.bench_verbs.proofs.requested_verb.Goals as goal

pub returns-then-equal : goal.returns-then-equal
unfolding requested_verb ascii
returns-then-equal c = found _ _ c.equal.ensures c.if-equal.true

pub returns-then-equal-2 : goal.returns-then-equal-2
unfolding requested_verb ascii
returns-then-equal-2 c =
    let the-equal = c.equal in
    passed _ the-equal.ensures c.if-equal.false (found _ _ c.equal-2.ensures c.if-equal-2.true)

pub returns : goal.returns
unfolding requested_verb ascii
returns c =
    let the-equal = c.equal in
    let the-if1 = c.if-equal in
    passed _ the-equal.ensures the-if1.false (passed _ c.equal-2.ensures c.if-equal-2.false c.save_verb.ensures)
