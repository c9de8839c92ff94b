use native.Mathlib.Omega.{arith}
use Prim.Native.Nat.{◌<◌}
use lib.ListN.{length}
use Rattle.memory.specs.Memory.{card_of, tree_count}
use Rattle.memory.proofs.Memory.{trees-length}
use Rattle.event_tree.proofs.Found.{at_name, own-place}
use borrow.Author.Rules.{rules}
use Rattle.event_withdraw.proofs.withdraw.Goals as goal

pub withdraw_standing-requires : goal.withdraw_standing-requires
withdraw_standing-requires c =
    let the-tree-place = c.tree_place-i in
    let the-tree-count = c.tree_count in
    let the-if1 = c.if-i-tree_count in
    let card = (card_of c.args.numbers.now c.args.names.now) in
    let inside : the-tree-place.result < tree_count c.args.numbers.now = rw the-tree-count.ensures.0 at the-if1.true in
    let within : the-tree-place.result < length card.trees = rw trees-length inside in
    (search rules, search rules, search rules, own-place card c.args.name.now _ the-tree-place.ensures.0 within, (inside, omega arith))

pub returns-then-i-tree_count : goal.returns-then-i-tree_count
returns-then-i-tree_count c =
    let the-tree-place = c.tree_place-i in
    let the-tree-count = c.tree_count in
    let the-if1 = c.if-i-tree_count in
    let the-withdraw-standing = c.withdraw_standing in
    let card = (card_of c.args.numbers.now c.args.names.now) in
    let inside : the-tree-place.result < tree_count c.args.numbers.now = rw the-tree-count.ensures.0 at the-if1.true in
    let within : the-tree-place.result < length card.trees = rw trees-length inside in
    rw (at_name card c.args.name.now _ the-tree-place.ensures.0 within) at the-withdraw-standing.ensures
