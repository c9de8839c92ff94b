-- `save_rows::read_trees` meets its contract: the invariant is that i trees stand, and that the place is behind them. Assumes nothing.
use Rattle.memory.specs.Memory.{card_of}
use Rattle.meaning_save.specs.Save.{form_of, trees_read, trees_end, tree_beside}
use Rattle.meaning.specs.Card.{with_trees}
use lib.ListN.{drop, length}
use Prim.Native.Nat.{◌+◌, ◌*◌, ◌≤◌}
use mathlib.Core.Path.{◌≡◌}
use Rattle.save_rows.proofs.read_trees.Given as goal

abbrev pub invariant-loop : goal.invariant-loop
invariant-loop l = (length l.numbers ≡ length l.initial.numbers) × (length l.names ≡ length l.initial.names) × (card_of l.numbers l.names ≡ with_trees (trees_read (form_of l.second) l.counter (drop l.from l.octets)) (card_of l.initial.numbers l.initial.names)) × (drop l.at l.octets ≡ trees_end (form_of l.second) l.counter (drop l.from l.octets)) × (l.at ≤ l.from + l.counter * (tree_beside + 256))
