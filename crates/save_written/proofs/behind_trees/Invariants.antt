-- `save_written::behind_trees` meets its contract: what is left decides, and ends where all of them end. Assumes nothing.
use Prim.Native.Nat.{◌+◌, ◌*◌, ◌-◌, ◌≤◌}
use mathlib.Core.Path.{◌≡◌}
use lib.ListN.{drop}
use Rattle.meaning_save.specs.Save.{form_of, tree_beside, trees_end}
use Rattle.save_written.specs.Written.{trees_written}
use Rattle.save_written.proofs.behind_trees.Given as goal

abbrev pub invariant-loop : goal.invariant-loop
invariant-loop l = (trees_written (form_of l.second) l.n (drop l.from l.octets) ≡ trees_written (form_of l.second) (l.n - l.counter) (drop l.at l.octets)) × (trees_end (form_of l.second) l.n (drop l.from l.octets) ≡ trees_end (form_of l.second) (l.n - l.counter) (drop l.at l.octets)) × (l.at ≤ l.from + l.counter * (tree_beside + 256))
