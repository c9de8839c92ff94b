use mathlib.Core.Path.{◌≡◌}
use lib.ListN.{length}
use Rattle.save_tags.proofs.tree_hints.Given as goal

abbrev pub invariant-loop-i : goal.invariant-loop-i
invariant-loop-i l = length l.hints ≡ length l.initial.hints
