use native.Mathlib.Omega.{arith}
use borrow.Author.Tests.{eq-eqb, ne_eqb}
use Rattle.bench_words.specs.Words.{ascii}
use Rattle.layers.specs.TreeText.{label_words}
use Rattle.layers.proofs.add_label.Goals as goal

pub returns-then-label-eq0 : goal.returns-then-label-eq0
unfolding label_words ascii
returns-then-label-eq0 c =
    let the-if1 = c.if-label-eq0 in
    record { adds = rw (eq-eqb _ _ the-if1.true) c.add.ensures; upper_bound = omega (arith, c.add.ensures.count) }

pub returns : goal.returns
unfolding label_words ascii
returns c =
    let the-if1 = c.if-label-eq0 in
    record { adds = rw (ne_eqb _ _ the-if1.false) c.add_named.ensures.adds; upper_bound = omega (arith, c.add_named.ensures.upper_bound) }
