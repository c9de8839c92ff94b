use mathlib.Core.Path.{sym, ap, ◌∙◌}
use mathlib.Core.List.{List}
use Prim.Native.Nat.{ℕ}
use lib.ListN.{set}
use lib.Seq.{set_out}
use borrow.Author.Rules.{rules}
use Rattle.meaning.specs.Card.{tree_at}
use Rattle.memory.specs.Memory.{card_of}
use Rattle.memory.proofs.Trees.{branches-length}
use Rattle.card_lookups.proofs.Lookups.{feed-is}
use Rattle.card_lookups.proofs.feed_at.Goals as goal
use Rattle.card_lookups.proofs.feed_at.Goals.{then-u-lt-NEIGHBOURS, else-u-lt-NEIGHBOURS}

pub returns : goal.returns
returns c = λ os.
    let all = c.branches.ensures os in
    let n16 = branches-length c.args.numbers.now os c.args.i c.requires.1.0 in
    feed-is _ _ _ _
    (elim c.if-u-lt-NEIGHBOURS.branch [
      | then-u-lt-NEIGHBOURS w ↦ w.branches-is ∙ ap (λ (bs : List ℕ). set bs c.args.u 0) all
      | else-u-lt-NEIGHBOURS w ↦ w.branches-is ∙ all ∙ sym (set_out (tree_at c.args.i (card_of c.args.numbers.now os)).branches c.args.u 0 (rw n16 w.if-u-lt-NEIGHBOURS.false))
    ])
    (c.is_leaf.ensures os)
