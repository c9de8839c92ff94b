-- `save_written::is_tree` meets its contract. Assumes nothing.
use native.Mathlib.Omega.{arith}
use borrow.Author.Tests.{leb-true, leb-false}
use Rattle.save_written.proofs.Places.{marked-so}
use Rattle.save_written.proofs.Steps.{tree-few, tree-unmarked, tree-no-leaf, tree-stands}
use mathlib.Core.Path.{sym, ◌∙◌}
use Rattle.meaning.specs.Lists.{never}
use Rattle.save_written.proofs.is_tree.Goals as goal
use Rattle.save_written.proofs.is_tree.Goals.{then-is_marked, else-is_marked}

pub returns-then-octets-at : goal.returns-then-octets-at
returns-then-octets-at c =
    tree-few c.args.octets.now c.args.at _ c.args.e c.requires.1 c.if-octets-at.true

pub returns-then-octets-at-le1 : goal.returns-then-octets-at-le1
returns-then-octets-at-le1 c =
    let known = c.shared_slice_known-1 in
    let a = c.args in
    elim c.if-is_marked.branch [
      | then-is_marked w ↦ tree-stands a.octets.now a.at _ a.e c.requires.1 (λ i. omega (arith, known.given i)) c.if-octets-at.false
          (marked-so a.octets.now a.at _ _ _ _ c.tree_kind.ensures c.is_marked.ensures w.if-is_marked.true) (leb-true _ _ (sym w.value-is ∙ c.if-octets-at-le1.true)) _ c.is_name.ensures
      | else-is_marked w ↦ absurd (never (sym w.if-is_marked.false ∙ sym w.value-is ∙ c.if-octets-at-le1.true))
    ]

pub returns-else-octets-at-le1 : goal.returns-else-octets-at-le1
returns-else-octets-at-le1 c =
    let known = c.shared_slice_known-1 in
    let a = c.args in
    c.if-octets-at-le1.false
    ∙ elim c.if-is_marked.branch [
      | then-is_marked w ↦ tree-no-leaf a.octets.now a.at _ a.e c.requires.1 (λ i. omega (arith, known.given i)) c.if-octets-at.false
          (marked-so a.octets.now a.at _ _ _ _ c.tree_kind.ensures c.is_marked.ensures w.if-is_marked.true) (leb-false _ _ (sym w.value-is ∙ c.if-octets-at-le1.false))
      | else-is_marked w ↦ tree-unmarked a.octets.now a.at _ a.e c.requires.1 (λ i. omega (arith, known.given i)) c.if-octets-at.false
          (marked-so a.octets.now a.at _ _ _ _ c.tree_kind.ensures c.is_marked.ensures w.if-is_marked.false)
    ]
