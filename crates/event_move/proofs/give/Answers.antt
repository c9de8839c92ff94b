use native.Mathlib.Omega.{arith}
use mathlib.Core.Path.{ap}
use lib.ListN.{length}
use Rattle.event_move.proofs.Steps.{free-place, gave}
use Rattle.event_move.proofs.give.Goals as goal

pub send-id-requires : goal.send-id-requires
send-id-requires c =
    (omega (arith, ap length (c.tree_name-name.ensures.0 _ c.requires.5.0), c.requires.4), omega arith)

pub map_label-requires : goal.map_label-requires
map_label-requires c =
    let p = free-place _ c.args.names.now _ (c.next_free-p.ensures.0 _) c.requires.3 in
    (c.requires.0, c.requires.1, p, c.requires.2, c.next_free-p.ensures.2 p, c.requires.5)

pub returns : goal.returns
returns c =
    rw c.record_size.ensures (gave c.args.i c.args.u _ _ c.args.from.id c.args.from.at _ _ _ _ c.args.names.now _ _ _ _ c.base.ensures.0 c.requires.3 (c.next_free-p.ensures.0 _) (c.tree_name-name.ensures.0 _ c.requires.5.0) c.send-id.ensures.0 c.send-id.ensures.1 c.map_label.ensures (c.set_turn.ensures _))
