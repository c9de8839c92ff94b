use mathlib.Core.Path.{◌≡◌}
use lib.ListN.{drop}
use Rattle.meaning.specs.Octets.{all}
use Rattle.meaning_save.specs.Save.{form_of, is_short_tree}
use Rattle.memory.specs.Memory.{card_of}
use Rattle.save_spaces.proofs.trees_short.Given as goal

abbrev pub invariant-loop-i : goal.invariant-loop-i
invariant-loop-i l = all (is_short_tree (form_of l.second)) (card_of l.numbers l.names).trees ≡ all (is_short_tree (form_of l.second)) (drop l.i (card_of l.numbers l.names).trees)
