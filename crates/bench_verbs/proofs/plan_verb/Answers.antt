use mathlib.Core.Path.{refl}
use Rattle.bench_words.specs.Words.{ascii}
use Rattle.bench_verbs.specs.Line.{plan_verb}
use Rattle.bench_verbs.proofs.Chain.{found, passed}
use borrow.Author.Rules.{rules}
use Rattle.bench_verbs.proofs.plan_verb.Goals as goal

pub returns-then-equal : goal.returns-then-equal
unfolding plan_verb ascii
returns-then-equal c = found _ _ c.equal.ensures c.if-equal.true

pub returns-then-equal-2 : goal.returns-then-equal-2
unfolding plan_verb ascii
returns-then-equal-2 c =
    let the-equal = c.equal in
    passed _ the-equal.ensures c.if-equal.false (found _ _ c.equal-2.ensures c.if-equal-2.true)

pub returns : goal.returns
unfolding plan_verb ascii
returns c =
    let the-equal = c.equal in
    passed _ the-equal.ensures c.if-equal.false (passed _ c.equal-2.ensures c.if-equal-2.false refl)
