use mathlib.Core.Path.{◌≡◌}
use lib.ListN.{drop}
use Rattle.meaning.specs.Octets.{all}
use Rattle.meaning_save.specs.Save.{form_of, is_short_use}
use Rattle.memory.specs.Memory.{card_of}
use Rattle.save_spaces.proofs.uses_short.Given as goal

abbrev pub invariant-loop-p : goal.invariant-loop-p
invariant-loop-p l = all (is_short_use (form_of l.second)) (card_of l.numbers l.names).labels ≡ all (is_short_use (form_of l.second)) (drop l.p (card_of l.numbers l.names).labels)
