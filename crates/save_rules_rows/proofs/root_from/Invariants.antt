use mathlib.Core.Path.{◌≡◌}
use lib.ListN.{drop}
use Rattle.meaning.specs.Octets.{any}
use Rattle.meaning.specs.Card.{is_for}
use Rattle.memory.specs.Memory.{card_of}
use Rattle.save_rules_rows.proofs.root_from.Given as goal

abbrev pub invariant-loop-i : goal.invariant-loop-i
invariant-loop-i l = any (is_for l.root) (drop l.from (card_of l.numbers l.names).routes) ≡ any (is_for l.root) (drop l.i (card_of l.numbers l.names).routes)
