-- The measure of the recursion of `add_layers`: the length of the name that it is called on.
use lib.ListN.{length}
use Rattle.bench_layers.proofs.+add_layers.Given as goal

abbrev pub decreases-add_layers : goal.decreases-add_layers
decreases-add_layers l = length l.name.now
