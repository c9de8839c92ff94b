-- `wire_wraps::put_layer_head` meets its contract: three parts one after the other. Assumes nothing.
use Rattle.wire_wraps.proofs.Wraps.{head-parts}
use Rattle.wire_wraps.proofs.put_layer_head.Goals as goal

pub returns : goal.returns
returns c =
    head-parts c.args.out.now _ _ _ c.args.root.now _ c.args.kind c.args.held c.requires.0 c.put_element_head.ensures c.family_of.ensures.0 c.copy.ensures c.put_holder_head.ensures
