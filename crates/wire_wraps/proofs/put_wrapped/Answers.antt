-- `wire_wraps::put_wrapped` meets its contract: three parts one after the other. Assumes nothing.
use Rattle.wire_wraps.proofs.Wraps.{wrapped-written}
use Rattle.wire_wraps.proofs.put_wrapped.Goals as goal

pub returns : goal.returns
returns c =
    wrapped-written c.args.out.now _ _ _ c.args.root.now c.args.eight.now c.args.name.now _ c.kind_of.ensures.0 c.requires.all c.put_layer_head.ensures c.copy.ensures c.copy-2.ensures
