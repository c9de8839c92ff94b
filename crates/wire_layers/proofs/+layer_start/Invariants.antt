-- The measure of the recursion of `layer_start`: the length of the part that it is called on.
use lib.ListN.{length}
use Rattle.wire_layers.proofs.+layer_start.Given as goal

abbrev pub decreases-layer_start : goal.decreases-layer_start
decreases-layer_start l = length l.name.now
