-- `save_rows::read_tree` meets its contract: a bare tree with its name, its leaf mark and its branches. Assumes nothing.
use Rattle.save_rows.proofs.Rows.{entered, changed, tree-made}
use Rattle.memory.specs.Memory.{card_of}
use Rattle.memory.proofs.Memory.{trees-length}
use lib.Dec.{eqb}
use mathlib.Core.Path.{sym, ap, ◌∙◌}
use mathlib.Core.Bool.{not}
use native.Mathlib.Omega.{arith}
use Rattle.save_rows.proofs.read_tree.Goals as goal

pub set_leaf-requires : goal.set_leaf-requires
set_leaf-requires c =
    let the-tree-count = c.tree_count-i in
    let the-numbers = c.numbers-1 in
    let the-enter-name = c.enter_name in
    let n = the-tree-count.ensures.0 in
    (the-numbers.given ∙ c.requires.0, (omega (arith, entered c.args.numbers.now c.args.names.now _ _ _ the-enter-name.ensures), omega (arith, c.requires.2)))

pub read_branches-requires : goal.read_branches-requires
read_branches-requires c =
    let the-tree-count = c.tree_count-i in
    let the-numbers = c.numbers-1 in
    let the-enter-name = c.enter_name in
    let n = the-tree-count.ensures.0 in
    (c.numbers-2-1.given ∙ the-numbers.given ∙ c.requires.0, omega (arith, c.requires.3, c.requires.5), (omega (arith, entered c.args.numbers.now c.args.names.now _ _ _ the-enter-name.ensures, changed _ _ c.args.names.now _ _ (c.set_leaf.ensures c.args.names.now)), omega (arith, c.requires.2)))

pub returns : goal.returns
returns c =
    let the-tree-count = c.tree_count-i in
    let the-enter-name = c.enter_name in
    let the-set-leaf = c.set_leaf in
    let the_at = c.at-leaf in
    tree-made _ c.args.octets.now c.args.at c.args.e c.requires.4 (card_of c.args.numbers.now c.args.names.now) _ _ _ _ _ (the-tree-count.ensures.0 ∙ sym (trees-length _ _)) the-enter-name.ensures (the-set-leaf.ensures _) (ap (λ x. not (eqb x 0)) the_at.ensures.0) (c.read_branches.ensures _)
