use mathlib.Core.Path.{ap, ◌∙◌}
use lib.Dec.{ltb}
use borrow.Author.Tests.{le-ltb}
use Rattle.event_lost.proofs.Shed.{loss-room}
use Rattle.event_lost.proofs.is_short.Goals as goal

pub returns-else-room-tree_count : goal.returns-else-room-tree_count
returns-else-room-tree_count c =
    let the-tree-count = c.tree_count in
    le-ltb _ _ c.if-room-tree_count.false ∙ loss-room c.args.numbers.now c.args.names.now _ _ _ the-tree-count.ensures.0 c.if-room-tree_count.false

pub returns-then-room-tree_count : goal.returns-then-room-tree_count
returns-then-room-tree_count c =
    let the-loss-size = c.loss_size in
    ap (ltb c.args.room) the-loss-size.ensures.0
