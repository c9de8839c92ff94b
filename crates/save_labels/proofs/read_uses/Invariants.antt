-- `save_labels::read_uses` meets its contract: the invariant is that i labels were read, and that the place is behind them. Assumes nothing.
use Rattle.memory.specs.Memory.{card_of}
use Rattle.meaning_laws.specs.SavePlaces.{uses_end}
use Rattle.meaning_save.specs.Save.{form_of, uses_read}
use Rattle.meaning.specs.Card.{with_labels}
use lib.ListN.{drop, length}
use Prim.Native.Nat.{◌+◌, ◌*◌, ◌≤◌}
use mathlib.Core.Path.{◌≡◌}
use Rattle.save_labels.proofs.read_uses.Given as goal

abbrev pub invariant-loop : goal.invariant-loop
invariant-loop l = (length l.numbers ≡ length l.initial.numbers) × (length l.names ≡ length l.initial.names) × (card_of l.numbers l.names ≡ with_labels (uses_read (form_of l.second) (card_of l.initial.numbers l.initial.names).base l.counter (drop l.from l.octets) (card_of l.initial.numbers l.initial.names).labels) (card_of l.initial.numbers l.initial.names)) × (drop l.at l.octets ≡ uses_end (form_of l.second) l.counter (drop l.from l.octets)) × (l.at ≤ l.from + l.counter * 265)
