-- The measure of the recursion of `layer_count`: the length of the part that it is called on.
use lib.ListN.{length}
use Rattle.wire_layers.proofs.+layer_count.Given as goal

abbrev pub decreases-layer_count : goal.decreases-layer_count
decreases-layer_count l = length l.name.now
