use native.Mathlib.Omega.{arith}
use Prim.Native.Nat.{◌<◌}
use lib.ListN.{length}
use Rattle.memory.specs.Memory.{card_of, tree_count}
use Rattle.memory.proofs.Memory.{trees-length}
use Rattle.event_leave.proofs.Leaves.{leave-unknown}
use Rattle.event_tree.proofs.Found.{at_name, own-place, zero-free}
use borrow.Author.Rules.{rules}
use Rattle.event_leave.proofs.leave.Goals as goal

pub leave_standing-requires : goal.leave_standing-requires
leave_standing-requires c =
    let the-tree-place = c.tree_place-i in
    let the-tree-count = c.tree_count in
    let the-if1 = c.if-i-tree_count in
    let card = (card_of c.args.numbers.now c.args.names.now) in
    let inside : the-tree-place.result < tree_count c.args.numbers.now = rw the-tree-count.ensures.0 at the-if1.true in
    let within : the-tree-place.result < length card.trees = rw trees-length inside in
    (search rules, search rules, own-place card c.args.name.now _ the-tree-place.ensures.0 within, (inside, omega arith))

pub returns-then-i-tree_count : goal.returns-then-i-tree_count
returns-then-i-tree_count c =
    let the-tree-place = c.tree_place-i in
    let the-tree-count = c.tree_count in
    let the-if1 = c.if-i-tree_count in
    let the-leave-standing = c.leave_standing in
    let card = (card_of c.args.numbers.now c.args.names.now) in
    let inside : the-tree-place.result < tree_count c.args.numbers.now = rw the-tree-count.ensures.0 at the-if1.true in
    let within : the-tree-place.result < length card.trees = rw trees-length inside in
    rw (at_name card c.args.name.now _ the-tree-place.ensures.0 within) at the-leave-standing.ensures

pub returns-else-i-tree_count : goal.returns-else-i-tree_count
returns-else-i-tree_count c =
    let the-tree-place = c.tree_place-i in
    leave-unknown (card_of c.args.numbers.now c.args.names.now) c.args.name.now (omega (arith, the-tree-place.ensures, c.tree_count.ensures, c.if-i-tree_count.false, trees-length c.args.numbers.now c.args.names.now)) (zero-free _ _) _
