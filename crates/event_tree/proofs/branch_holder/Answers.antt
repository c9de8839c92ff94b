use mathlib.Core.List.{[]}
use Rattle.meaning.specs.Card.{tree_at}
use Rattle.memory.specs.Memory.{card_of}
use Rattle.event_tree.proofs.Upstream.{branch_held, held-range}
use Rattle.event_tree.proofs.branch_holder.Goals as goal

pub returns : goal.returns
returns c =
    let up = c.upstream_at-u.ensures in
    let range = held-range _ _ _ up.1 up.2 (c.holder_then.ensures []) in
    ((λ os e. let card = card_of c.args.numbers.now os in branch_held card (tree_at c.args.i card) c.args.n c.args.x _ _ _ (c.is_leaf.ensures os) (up.0 os _ e) (c.holder_then.ensures os)), range.0, range.1)
