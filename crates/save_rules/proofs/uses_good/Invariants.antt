use mathlib.Core.Path.{◌≡◌}
use lib.ListN.{drop}
use Rattle.meaning.specs.Octets.{all}
use Rattle.meaning_save.specs.Save.{is_use}
use Rattle.memory.specs.Memory.{card_of}
use Rattle.save_rules.proofs.uses_good.Given as goal

abbrev pub invariant-loop-p : goal.invariant-loop-p
invariant-loop-p l = all is_use (card_of l.numbers l.names).labels ≡ all is_use (drop l.p (card_of l.numbers l.names).labels)
