use mathlib.Core.Path.{refl, ap, ◌∙◌}
use Rattle.meaning.specs.Card.{tree_at, with_leaf}
use Rattle.meaning.specs.Events.{recounted}
use Rattle.memory.specs.Memory.{card_of}
use Rattle.memory_counts.proofs.Counting.{place_kept}
use Rattle.memory_counts.proofs.change_leaf.Goals as goal

pub returns : goal.returns
unfolding with_leaf
returns c =
    λ os k.
    let card = card_of c.args.numbers.now os in
    let old = tree_at c.args.i card in
    let new = with_leaf c.args.leaf old in
    let was = c.counts_of-before.ensures.0 old (c.is_leaf.ensures os) (c.branch_count-branches.ensures.0 os) in
    let is = c.counts_of.ensures.0 new refl (c.branch_count-branches.ensures.0 os) in
    c.recount.ensures os old new (place_kept card _ _ _ new (c.set_leaf.ensures os) refl k) was.0 was.1 is.0 is.1
    ∙ ap (recounted old new) (c.set_leaf.ensures os)
