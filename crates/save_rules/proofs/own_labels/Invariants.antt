use mathlib.Core.Path.{◌≡◌}
use lib.ListN.{drop}
use Rattle.meaning.specs.Octets.{all}
use Rattle.meaning_save.specs.Save.{carries_own}
use Rattle.memory.specs.Memory.{card_of}
use Rattle.save_rules.proofs.own_labels.Given as goal

abbrev pub invariant-loop-i : goal.invariant-loop-i
invariant-loop-i l = all (carries_own (card_of l.numbers l.names)) (card_of l.numbers l.names).trees ≡ all (carries_own (card_of l.numbers l.names)) (drop l.i (card_of l.numbers l.names).trees)
