use mathlib.Core.Path.{ap, ◌∙◌}
use mathlib.Core.Bool.{Bool}
use Rattle.meaning.specs.Card.{with_branch, with_leaf, tree_at}
use Rattle.meaning.specs.Events.{holder}
use Rattle.memory.specs.Memory.{card_of}
use Rattle.memory.proofs.Trees.{branches-length}
use Rattle.event_holder.proofs.Held.{with_none, with-own}
use Rattle.event_holder.proofs.holder.Goals as goal

pub returns : goal.returns
returns c =
    λ os.
    let t = tree_at c.args.i (card_of c.args.numbers.now os) in
    c.holder_then.ensures os
    ∙ ap (λ (b : Bool). holder c.args.u (with_leaf b (with_branch 16 0 t))) (c.is_leaf.ensures os)
    ∙ ap (holder c.args.u) (with_none t t.leaf 0 (branches-length _ os _ c.requires.1.0) ∙ with-own t)
