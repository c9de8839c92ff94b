use mathlib.Core.Path.{refl, sym, ap, ◌∙◌}
use mathlib.Core.Bool.{true}
use Rattle.meaning.specs.Card.{tree_at, with_leaf}
use Rattle.meaning.specs.Events.{recounted}
use Rattle.memory.specs.Memory.{card_of}
use Rattle.memory_counts.proofs.Counting.{place_kept, with_none, with-leaf}
use Rattle.memory_counts.proofs.first_leaf.Goals as goal

pub returns : goal.returns
unfolding with_leaf
returns c =
    λ os bare none k.
    let card = card_of c.args.numbers.now os in
    let old = tree_at c.args.i card in
    let new = with_leaf true old in
    let was = with_none old 0 (sym bare) (sym none) refl in
    let is = with-leaf new refl in
    c.recount.ensures os old new (place_kept card _ _ _ new (c.set_leaf.ensures os) refl k) was.0 was.1 is.0 is.1
    ∙ ap (recounted old new) (c.set_leaf.ensures os)
