use mathlib.Core.Bool.{true, false}
use mathlib.Core.Path.{ap, ap₂, ◌∙◌}
use native.Mathlib.Omega.{arith}
use Rattle.meaning.specs.Card.{with_next}
use Rattle.memory.specs.Memory.{card_of}
use Rattle.event_move.proofs.Alike.{relabel-stays}
use Rattle.memory.proofs.Memory.{trees-length}
use Rattle.event_tree.proofs.Found.{count-is}
use Rattle.event_tree.proofs.Ends.{ended-cut}
use borrow.Author.Rules.{rules}
use Rattle.event_tree.proofs.settle.Goals as goal
use Rattle.event_tree.proofs.settle.Goals.{then-empty, else-empty}

pub remove_tree-requires : goal.remove_tree-requires
remove_tree-requires c =
    let the-relabel = c.relabel-w in
    let same_count = count-is _ _ _ the-relabel.ensures.leaves ∙ (relabel-stays _ _ _ (rw trees-length c.requires.6.0)).many ∙ trees-length _ _ in (search rules, search rules, (omega (arith, same_count), search rules))

pub returns : goal.returns
returns c =
    let the-relabel = c.relabel-w in
    elim c.if-empty.branch [
      | then-empty w ↦
          rw w.if-empty.true (ended-cut true _ _ _ _ _ _ _ _ _ _ the-relabel.ensures (c.set_next_id.ensures _ ∙ ap (with_next _) (ap₂ card_of w.numbers-is w.names-is ∙ w.remove_tree.ensures)))
      | else-empty w ↦
          rw w.if-empty.false (ended-cut false _ _ _ _ _ _ _ _ _ _ the-relabel.ensures (c.set_next_id.ensures _ ∙ ap (with_next _) (ap₂ card_of w.numbers-is w.names-is)))
    ]
