use native.Mathlib.Omega.{arith}
use mathlib.Core.Path.{refl, ap, ◌∙◌}
use mathlib.Core.List.{[]}
use Rattle.meaning.specs.Card.{tree_at, with_branch}
use Rattle.meaning.specs.Events.{recounted}
use Rattle.memory.specs.Memory.{card_of}
use Rattle.memory.proofs.Trees.{branches-length}
use Rattle.memory_trees.proofs.Others.{one-within}
use Rattle.memory_counts.proofs.Counting.{count-then, place_kept}
use Rattle.memory_counts.proofs.change_branch.Goals as goal

pub overflow_sub-others : goal.overflow_sub-others
overflow_sub-others c =
    let bs = (tree_at c.args.i (card_of c.args.numbers.now [])).branches in
    omega (arith, c.count_of.ensures.0 [], c.branch_count-branches.ensures.0 [], one-within bs c.args.n)

pub returns : goal.returns
unfolding with_branch
returns c =
    λ os k.
    let card = card_of c.args.numbers.now os in
    let old = tree_at c.args.i card in
    let new = with_branch c.args.n c.args.label old in
    let long = branches-length c.args.numbers.now os c.args.i c.requires.2.0 in
    let leaf = c.is_leaf-leaf.ensures os in
    let was = c.counts_of.ensures.0 old leaf (c.branch_count-branches.ensures.0 os) in
    let is = c.counts_of-2.ensures.0 new leaf (count-then old.branches c.args.n c.args.label _ _ _ (omega arith) (c.branch_count-branches.ensures.0 os) (c.count_of.ensures.0 os) c.one.ensures.0) in
    c.recount.ensures os old new (place_kept card _ _ _ new (c.set_branch.ensures os) refl k) was.0 was.1 is.0 is.1
    ∙ ap (recounted old new) (c.set_branch.ensures os)
