-- `save_tags::names_once` meets its contract: the invariant is that the first i trees are told from the others. Assumes nothing.
use native.Mathlib.Nat.{not-suc-le-zero}
use native.Mathlib.Omega.{arith}
use mathlib.Core.Path.{sym}
use borrow.Author.Rules.{rules}
use Rattle.save_tags.proofs.Tags.{told_more, all_told}
use Rattle.save_tags.proofs.names_once.Goals as goal

pub loop-i-init : goal.loop-i-init
loop-i-init c = λ k h. absurd (not-suc-le-zero h)

pub is_told-requires : goal.is_told-requires
is_told-requires c =
    let the-tree-count = c.tree_count-n in
    let the-tree-tags = c.tree_tags in
    let n = the-tree-count.ensures in
    let h = c.loop-i-test.true in
    (c.requires.0, c.requires.1, search rules, the-tree-tags.ensures, search rules, omega (arith, n, h))

pub returns-then-not-is_told : goal.returns-then-not-is_told
returns-then-not-is_told c = sym (c.is_told.ensures.1 c.if-not-is_told.true)

pub loop-i-preserved : goal.loop-i-preserved
loop-i-preserved c =
    let the-loop = c.loop-i in
    told_more _ _ _ _ _ the-loop.invariant (c.is_told.ensures.0 c.if-not-is_told.false)

pub returns : goal.returns
returns c =
    let the-tree-tags = c.tree_tags in
    let the-loop = c.loop-i in
    let n = c.tree_count-n.ensures.0 in
    sym (all_told _ _ _ _ the-tree-tags.ensures (λ k lt. the-loop.invariant k (omega (arith, n, c.loop-i-test.false))))
