use mathlib.Core.Path.{sym, ap, ◌∙◌}
use Prim.Native.Nat.{ℕ}
use mathlib.Core.List.{List}
use Rattle.meaning.specs.Card.{route_of}
use Rattle.memory.specs.Memory.{card_of}
use Rattle.refusals.proofs.Answered.{refused, accepted}
use Rattle.card_lookups.proofs.Lookups.{name-refused, name-found, name-unknown}
use borrow.Author.Rules.{rules}
use Rattle.card_lookups.proofs.find_name.Goals as goal

pub returns-then-is_err : goal.returns-then-is_err
returns-then-is_err c =
    name-refused _ _ _ _ _ c.no_feed.ensures c.check_element.ensures (refused _ (sym c.is_err.ensures.value ∙ c.if-is_err.true))

pub returns-then-i-tree_count : goal.returns-then-i-tree_count
returns-then-i-tree_count c =
    let the-if2 = c.if-i-tree_count in
    let the-tree-place = c.tree_place-i in
    let the-tree-count = c.tree_count in
    let via = c.route_of-via.ensures ∙ ap (λ (r : List ℕ). route_of r (card_of c.args.numbers.now c.args.names.now)) c.root_of.ensures in
    name-found _ _ _ _ _ _ c.check_element.ensures (accepted _ (sym c.is_err.ensures.value ∙ c.if-is_err.false)) the-tree-place.ensures.0 (rw the-tree-count.ensures.0 at the-if2.true) _ via (c.feed_at.ensures _)

pub returns : goal.returns
returns c =
    let the-tree-place = c.tree_place-i in
    let the-tree-count = c.tree_count in
    name-unknown _ _ _ _ _ _ c.check_element.ensures (accepted _ (sym c.is_err.ensures.value ∙ c.if-is_err.false)) the-tree-place.ensures.0 (rw the-tree-count.ensures.0 at c.if-i-tree_count.false) c.no_feed-2.ensures
