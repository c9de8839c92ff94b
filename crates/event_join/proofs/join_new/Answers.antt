use Rattle.event_join.proofs.Joins.{joined-new, join-new}
use Rattle.event_tree.proofs.Found.{zero-free, count-is}
use Rattle.event_tree.proofs.Newcomer.{new-refused, few-trees-stand, snoc-length, grow-ready, grown-done, entered-changed, new-place, new-bare}
use mathlib.Core.Path.{refl, sym, ◌∙◌}
use mathlib.Core.Bool.{true}
use native.Mathlib.Omega.{arith}
use Rattle.meaning.specs.Card.{with_leaf}
use Rattle.memory.specs.Memory.{card_of}
use Rattle.memory.proofs.Memory.{trees-length}
use Rattle.refusals.proofs.Numbers.{number-not-0}
use Rattle.std.proofs.lemmas.Result.{err_from_is_err_and}
use borrow.Author.Rules.{rules}
use Rattle.event_join.proofs.join_new.Goals as goal

pub returns-in_err-check_new : goal.returns-in_err-check_new
returns-in_err-check_new c =
    let the-upstream-at = c.upstream_at-u in
    let the-root-place = c.root_place-k in
    let the-record-size = c.record_size in
    let card = (card_of c.args.numbers.now c.args.names.now) in
    let last = c.requires.3 ∙ sym (trees-length _ _) in
    let N = joined-new card c.args.name.now _ _ refl last (zero-free _ _) (the-upstream-at.ensures.0 _ _ the-root-place.ensures.0) in
    let p = err_from_is_err_and c.from_residual.result c.from_residual.ensures.1 in
    rw (p.1, p.2, join-new card c.args.name.now _ refl last) (new-refused card _ c.args.name.now _ _ N c.args.out.now _ _ the-record-size.ensures (c.in_err-check_new.ensures _) (number-not-0 _))

pub enter_tree-requires : goal.enter_tree-requires
enter_tree-requires c =
    let the-upstream-at = c.upstream_at-u in
    let the-root-place = c.root_place-k in
    let the-record-size = c.record_size in
    let the-check-new = c.in_ok-check_new in
    let card = (card_of c.args.numbers.now c.args.names.now) in
    let last = c.requires.3 ∙ sym (trees-length _ _) in
    let N = joined-new card c.args.name.now _ _ refl last (zero-free _ _) (the-upstream-at.ensures.0 _ _ the-root-place.ensures.0) in
    let few = few-trees-stand card _ c.args.name.now _ _ N c.args.out.now _ _ the-record-size.ensures (the-check-new.ensures _) refl in
    (search rules, search rules, rw trees-length at few, search rules)

pub first_leaf-requires : goal.first_leaf-requires
first_leaf-requires c =
    let the-upstream-at = c.upstream_at-u in
    let the-root-place = c.root_place-k in
    let the-record-size = c.record_size in
    let the-check-new = c.in_ok-check_new in
    let the-enter-tree = c.enter_tree in
    let the-tree-count = c.tree_count-place in
    let card = (card_of c.args.numbers.now c.args.names.now) in
    let last = c.requires.3 ∙ sym (trees-length _ _) in
    let N = joined-new card c.args.name.now _ _ refl last (zero-free _ _) (the-upstream-at.ensures.0 _ _ the-root-place.ensures.0) in
    let few = few-trees-stand card _ c.args.name.now _ _ N c.args.out.now _ _ the-record-size.ensures (the-check-new.ensures _) refl in
    let grown-by-one = count-is _ _ _ the-enter-tree.ensures ∙ snoc-length card c.args.name.now in
    let n = the-tree-count.ensures.0 ∙ sym (trees-length _ c.args.names.now) in
    (search rules, (omega (arith, grown-by-one, n), omega (arith, few, n)))

pub grow-requires : goal.grow-requires
grow-requires c =
    let the-tree-count = c.tree_count-place in
    let the-upstream-at = c.upstream_at-u in
    let the-root-place = c.root_place-k in
    let the-first-leaf = c.first_leaf in
    let the-enter-tree = c.enter_tree in
    let the-record-size = c.record_size in
    let the-check-new = c.in_ok-check_new in
    let card = (card_of c.args.numbers.now c.args.names.now) in
    let here = the-tree-count.ensures.0 ∙ sym c.requires.3 in
    let last = the-tree-count.ensures.0 ∙ sym (trees-length _ _) in
    let N = joined-new card c.args.name.now _ _ here last (zero-free _ _) (the-upstream-at.ensures.0 _ _ the-root-place.ensures.0) in
    let its = new-bare card _ c.args.name.now _ last the-enter-tree.ensures in
    let changed = the-first-leaf.ensures _ its.0 its.1 (new-place card _ c.args.name.now _ _ last the-enter-tree.ensures the-root-place.ensures.0) ∙ entered-changed card _ c.args.name.now _ (with_leaf true) last the-enter-tree.ensures in
    let R = grow-ready card _ c.args.name.now _ _ N c.args.out.now _ _ the-record-size.ensures (the-check-new.ensures _) refl _ _ _ changed in
    let few = few-trees-stand card _ c.args.name.now _ _ N c.args.out.now _ _ the-record-size.ensures (the-check-new.ensures _) refl in
    (search rules, search rules, search rules, search rules, R.1, R.2, (R.0, omega (arith, few, last)))

pub returns : goal.returns
returns c =
    let the-tree-count = c.tree_count-place in
    let the-upstream-at = c.upstream_at-u in
    let the-root-place = c.root_place-k in
    let the-first-leaf = c.first_leaf in
    let the-enter-tree = c.enter_tree in
    let the-record-size = c.record_size in
    let the-check-new = c.in_ok-check_new in
    let the-next-id = c.next_id-id in
    let the-grow = c.grow in
    let card = (card_of c.args.numbers.now c.args.names.now) in
    let here = the-tree-count.ensures.0 ∙ sym c.requires.3 in
    let last = the-tree-count.ensures.0 ∙ sym (trees-length _ _) in
    let N = joined-new card c.args.name.now _ _ here last (zero-free _ _) (the-upstream-at.ensures.0 _ _ the-root-place.ensures.0) in
    let its = new-bare card _ c.args.name.now _ last the-enter-tree.ensures in
    let changed = the-first-leaf.ensures _ its.0 its.1 (new-place card _ c.args.name.now _ _ last the-enter-tree.ensures the-root-place.ensures.0) ∙ entered-changed card _ c.args.name.now _ (with_leaf true) last the-enter-tree.ensures in
    rw (join-new card c.args.name.now _ here last) (grown-done card _ c.args.name.now _ _ N c.args.out.now _ _ the-record-size.ensures (the-check-new.ensures _) refl _ _ _ _ _ (the-next-id.ensures _) changed the-grow.ensures)
