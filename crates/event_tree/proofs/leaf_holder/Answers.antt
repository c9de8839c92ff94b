use mathlib.Core.List.{[]}
use Rattle.meaning.specs.Card.{tree_at}
use Rattle.memory.specs.Memory.{card_of}
use Rattle.memory.proofs.Trees.{branches-length}
use Rattle.event_tree.proofs.Upstream.{leaf-held, held-range}
use Rattle.event_tree.proofs.leaf_holder.Goals as goal

pub returns : goal.returns
returns c =
    let up = c.upstream_at-u.ensures in
    let range = held-range _ _ _ up.1 up.2 (c.holder_then.ensures []) in
    ((λ os e. let card = card_of c.args.numbers.now os in leaf-held card (tree_at c.args.i card) c.args.leaf _ _ (branches-length _ os _ c.requires.1.0) (up.0 os _ e) (c.holder_then.ensures os)), range.0, range.1)
