use mathlib.Core.Path.{sym, ap}
use lib.ListN.{length}
use lib.Seq.{take_all}
use native.Mathlib.Nat.{le_refl}
use native.Mathlib.Omega.{arith}
use borrow.Author.Rules.{rules}
use Rattle.memory.proofs.Columns.{names-within}
use Rattle.memory.proofs.Columns.{tree-found}
use Rattle.memory_trees.proofs.tree_place.Goals as goal

pub slice_bounds-text_place-end : goal.slice_bounds-text_place-end
slice_bounds-text_place-end c =
    sym (ap length (take_all (length c.args.name.now) c.args.name.now (le_refl _)))

pub text_place-requires : goal.text_place-requires
text_place-requires c = (search rules, names-within _ c.tree_count-n.ensures.1)

pub returns : goal.returns
returns c =
    let count = c.tree_count-n.ensures in
    let place = c.text_place.ensures in
    let whole = take_all (length c.args.name.now) c.args.name.now (le_refl _) in
    (rw whole at (tree-found _ c.args.numbers.now _ _ _ count.0 place.0 place.1 place.2), omega (arith, place.0, count.0), omega (arith, place.0, count.1))
