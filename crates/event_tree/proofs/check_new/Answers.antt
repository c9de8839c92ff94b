use Rattle.memory.specs.Memory.{card_of}
use mathlib.Core.Path.{sym, ◌∙◌}
use Rattle.memory.proofs.Memory.{trees-length}
use Rattle.event_tree.proofs.Newcomer.{many-trees, none_needed, none_free, no_room, all-fits}
use Rattle.event_tree.proofs.check_new.Goals as goal

pub returns-then-tree_count-ge-TREE_LIMIT : goal.returns-then-tree_count-ge-TREE_LIMIT
returns-then-tree_count-ge-TREE_LIMIT c = λ os. many-trees (card_of c.args.numbers.now os) c.args.u c.args.size c.args.room _ (c.tree_count.ensures.0 ∙ sym (trees-length _ os)) c.if-tree_count-ge-TREE_LIMIT.true

pub returns-then-u-eq-NOBODY : goal.returns-then-u-eq-NOBODY
returns-then-u-eq-NOBODY c =
    λ os. none_needed (card_of c.args.numbers.now os) c.args.u c.args.size c.args.room _ (c.tree_count.ensures.0 ∙ sym (trees-length _ os)) c.if-tree_count-ge-TREE_LIMIT.false c.if-u-eq-NOBODY.true

pub returns-then-none_free : goal.returns-then-none_free
returns-then-none_free c =
    let the-tree-count = c.tree_count in
    λ os. none_free (card_of c.args.numbers.now os) c.args.u c.args.size c.args.room _ (the-tree-count.ensures.0 ∙ sym (trees-length _ os)) c.if-tree_count-ge-TREE_LIMIT.false c.if-u-eq-NOBODY.false (sym (c.none_free.ensures os) ∙ c.if-none_free.true)

pub returns-then-room-size : goal.returns-then-room-size
returns-then-room-size c =
    let the-tree-count = c.tree_count in
    let the-if1 = c.if-tree_count-ge-TREE_LIMIT in
    λ os. no_room (card_of c.args.numbers.now os) c.args.u c.args.size c.args.room _ (the-tree-count.ensures.0 ∙ sym (trees-length _ os)) the-if1.false c.if-u-eq-NOBODY.false (sym (c.none_free.ensures os) ∙ c.if-none_free.false) c.if-room-size.true

pub returns-else-room-size : goal.returns-else-room-size
returns-else-room-size c =
    let the-tree-count = c.tree_count in
    let the-if1 = c.if-tree_count-ge-TREE_LIMIT in
    λ os. all-fits (card_of c.args.numbers.now os) c.args.u c.args.size c.args.room _ (the-tree-count.ensures.0 ∙ sym (trees-length _ os)) the-if1.false c.if-u-eq-NOBODY.false (sym (c.none_free.ensures os) ∙ c.if-none_free.false) c.if-room-size.false
