use mathlib.Core.Path.{◌≡◌}
use lib.ListN.{length, drop}
use Rattle.meaning_save.specs.Save.{routes_read}
use Rattle.meaning.specs.Card.{with_routes}
use Rattle.memory.specs.Memory.{card_of}
use Rattle.save_rows.proofs.read_routes.Given as goal

abbrev pub invariant-loop-i : goal.invariant-loop-i
invariant-loop-i l = (length l.numbers ≡ length l.initial.numbers) × (length l.names ≡ length l.initial.names) × (card_of l.numbers l.names ≡ with_routes (routes_read l.i (drop l.at l.octets)) (card_of l.initial.numbers l.initial.names))
