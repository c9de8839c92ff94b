use Rattle.bench_words.specs.Words.{ascii}
use Rattle.bench_verbs.specs.Line.{layer_verb}
use Rattle.bench_verbs.proofs.Chain.{found, passed}
use borrow.Author.Rules.{rules}
use Rattle.bench_verbs.proofs.layer_verb.Goals as goal

pub returns-then-equal : goal.returns-then-equal
unfolding layer_verb ascii
returns-then-equal c = found _ _ c.equal.ensures c.if-equal.true

pub returns-then-equal-2 : goal.returns-then-equal-2
unfolding layer_verb ascii
returns-then-equal-2 c = passed _ c.equal.ensures c.if-equal.false (found _ _ c.equal-2.ensures c.if-equal-2.true)

pub returns-then-equal-3 : goal.returns-then-equal-3
unfolding layer_verb ascii
returns-then-equal-3 c =
    passed _ c.equal.ensures c.if-equal.false (passed _ c.equal-2.ensures c.if-equal-2.false (found _ _ c.equal-3.ensures c.if-equal-3.true))

pub returns : goal.returns
unfolding layer_verb ascii
returns c =
    passed _ c.equal.ensures c.if-equal.false (passed _ c.equal-2.ensures c.if-equal-2.false (passed _ c.equal-3.ensures c.if-equal-3.false c.plan_verb.ensures))
