-- `save_tags::tree_tags` meets its contract: the invariant is that the first i names are tagged. Assumes nothing.
use mathlib.Core.Path.{◌≡◌}
use lib.ListN.{length}
use Rattle.save_tags.specs.Tags.{Tagged}
use Rattle.save_tags.proofs.tree_tags.Given as goal

abbrev pub invariant-loop-i : goal.invariant-loop-i
invariant-loop-i l = (length l.tags ≡ length l.initial.tags) × Tagged l.tags l.i l.names
