use Rattle.memory.proofs.Trees.{branches-length}
use Rattle.memory.specs.Memory.{card_of}
use Rattle.meaning.specs.Card.{tree_at}
use Rattle.meaning_laws.specs.SaveFields.{name_size}
use mathlib.Core.Path.{refl, ap, ◌∙◌}
use native.Mathlib.Omega.{arith}
use Rattle.save_records.proofs.Records.{tree-put}
use borrow.Author.Rules.{rules}
use Rattle.save_records.proofs.put_tree_record.Goals as goal

pub slice_bounds-put_tree_name-end : goal.slice_bounds-put_tree_name-end
slice_bounds-put_tree_name-end c =
    omega (arith, (c.name_size-a.ensures.0 ∙ ap (name_size _) (c.tree_name-name.ensures.0 c.args.numbers.now c.requires.3.0)), c.requires.2)

pub slice_bounds-put_tree_rest-count : goal.slice_bounds-put_tree_rest-count
slice_bounds-put_tree_rest-count c =
    let the-name-size = c.name_size-a in
    let the-tree-name = c.tree_name-name in
    omega (arith, (the-name-size.ensures.0 ∙ ap (name_size _) (the-tree-name.ensures.0 c.args.numbers.now c.requires.3.0)), c.requires.2)

pub slice_bounds-put_tree_rest-start : goal.slice_bounds-put_tree_rest-start
slice_bounds-put_tree_rest-start c =
    let the-name-size = c.name_size-a in
    let the-tree-name = c.tree_name-name in
    omega (arith, (the-name-size.ensures.0 ∙ ap (name_size _) (the-tree-name.ensures.0 c.args.numbers.now c.requires.3.0)), c.requires.2)

pub put_tree_rest-requires : goal.put_tree_rest-requires
put_tree_rest-requires c =
    let the-name-size = c.name_size-a in
    let the-tree-name = c.tree_name-name in
    (search rules, omega (arith, (the-name-size.ensures.0 ∙ ap (name_size _) (the-tree-name.ensures.0 c.args.numbers.now c.requires.3.0)), c.requires.2), search rules)

pub returns : goal.returns
returns c =
    let the-tree-name = c.tree_name-name in
    let the-name-size = c.name_size-a in
    let the-put-tree-name = c.put_tree_name in
    let ns = c.args.numbers.now in
    let os = c.args.names.now in
    tree-put _ (tree_at c.args.i (card_of ns os)) _ _ _ c.args.out.now _ _ c.requires.2 (branches-length ns os c.args.i c.requires.3.0) (the-tree-name.ensures.0 ns c.requires.3.0) the-name-size.ensures.0 refl the-put-tree-name.ensures (c.put_tree_rest.ensures os)
