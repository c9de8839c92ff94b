use native.Mathlib.Omega.{arith}
use mathlib.Core.Path.{refl, sym, ap, ◌∙◌}
use Rattle.meaning.specs.Card.{tree_at, with_branch}
use Rattle.meaning.specs.Events.{recounted}
use Rattle.memory.specs.Memory.{card_of}
use Rattle.memory.proofs.Trees.{branches-length}
use Rattle.memory_counts.proofs.Counting.{count-first, place_kept, with_none, with-one}
use Rattle.memory_counts.proofs.first_branch.Goals as goal

pub returns : goal.returns
unfolding with_branch
returns c =
    λ os bare none k.
    let card = card_of c.args.numbers.now os in
    let old = tree_at c.args.i card in
    let new = with_branch c.args.n c.args.label old in
    let long = branches-length c.args.numbers.now os c.args.i c.requires.3.0 in
    let was = with_none old 0 (sym bare) (sym none) refl in
    let is = with-one new 1 (sym bare) (count-first old.branches c.args.n c.args.label (omega arith) c.requires.2 none) refl in
    c.recount.ensures os old new (place_kept card _ _ _ new (c.set_branch.ensures os) refl k) was.0 was.1 is.0 is.1
    ∙ ap (recounted old new) (c.set_branch.ensures os)
