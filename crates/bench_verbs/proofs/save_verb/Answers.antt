-- `bench_verbs::save_verb` meets its contract: the words in turn. Assumes nothing.
use Rattle.bench_words.specs.Words.{ascii}
use Rattle.bench_verbs.specs.Line.{save_verb}
use Rattle.bench_verbs.proofs.Chain.{found, passed}
use borrow.Author.Rules.{rules}
use Rattle.bench_verbs.proofs.save_verb.Goals as goal

pub returns-then-equal : goal.returns-then-equal
unfolding save_verb ascii
returns-then-equal c = found _ _ c.equal.ensures c.if-equal.true

pub returns-then-equal-2 : goal.returns-then-equal-2
unfolding save_verb ascii
returns-then-equal-2 c =
    let the-equal = c.equal in
    passed _ the-equal.ensures c.if-equal.false (found _ _ c.equal-2.ensures c.if-equal-2.true)

pub returns-then-equal-3 : goal.returns-then-equal-3
unfolding save_verb ascii
returns-then-equal-3 c =
    let the-equal = c.equal in
    let the-if1 = c.if-equal in
    let the-equal2 = c.equal-2 in
    passed _ the-equal.ensures the-if1.false (passed _ the-equal2.ensures c.if-equal-2.false (found _ _ c.equal-3.ensures c.if-equal-3.true))

pub returns-then-equal-4 : goal.returns-then-equal-4
unfolding save_verb ascii
returns-then-equal-4 c =
    let the-equal = c.equal in
    let the-if1 = c.if-equal in
    let the-equal2 = c.equal-2 in
    let the-if2 = c.if-equal-2 in
    let the-equal3 = c.equal-3 in
    passed _ the-equal.ensures the-if1.false (passed _ the-equal2.ensures the-if2.false (passed _ the-equal3.ensures c.if-equal-3.false (found _ _ c.equal-4.ensures c.if-equal-4.true)))

pub returns-then-equal-5 : goal.returns-then-equal-5
unfolding save_verb ascii
returns-then-equal-5 c =
    let the-equal = c.equal in
    let the-if1 = c.if-equal in
    let the-equal2 = c.equal-2 in
    let the-if2 = c.if-equal-2 in
    let the-equal3 = c.equal-3 in
    let the-if3 = c.if-equal-3 in
    let the-equal4 = c.equal-4 in
    passed _ the-equal.ensures the-if1.false (passed _ the-equal2.ensures the-if2.false (passed _ the-equal3.ensures the-if3.false (passed _ the-equal4.ensures c.if-equal-4.false (found _ _ c.equal-5.ensures c.if-equal-5.true))))

pub returns-then-equal-6 : goal.returns-then-equal-6
unfolding save_verb ascii
returns-then-equal-6 c =
    let the-equal = c.equal in
    let the-if1 = c.if-equal in
    let the-equal2 = c.equal-2 in
    let the-if2 = c.if-equal-2 in
    let the-equal3 = c.equal-3 in
    let the-if3 = c.if-equal-3 in
    let the-equal4 = c.equal-4 in
    let the-if4 = c.if-equal-4 in
    let the-equal5 = c.equal-5 in
    passed _ the-equal.ensures the-if1.false (passed _ the-equal2.ensures the-if2.false (passed _ the-equal3.ensures the-if3.false (passed _ the-equal4.ensures the-if4.false (passed _ the-equal5.ensures c.if-equal-5.false (found _ _ c.equal-6.ensures c.if-equal-6.true)))))

pub returns : goal.returns
unfolding save_verb ascii
returns c =
    let the-equal = c.equal in
    let the-if1 = c.if-equal in
    let the-equal2 = c.equal-2 in
    let the-if2 = c.if-equal-2 in
    let the-equal3 = c.equal-3 in
    let the-if3 = c.if-equal-3 in
    let the-equal4 = c.equal-4 in
    let the-if4 = c.if-equal-4 in
    let the-equal5 = c.equal-5 in
    let the-if5 = c.if-equal-5 in
    passed _ the-equal.ensures the-if1.false (passed _ the-equal2.ensures the-if2.false (passed _ the-equal3.ensures the-if3.false (passed _ the-equal4.ensures the-if4.false (passed _ the-equal5.ensures the-if5.false (passed _ c.equal-6.ensures c.if-equal-6.false c.layer_verb.ensures)))))
