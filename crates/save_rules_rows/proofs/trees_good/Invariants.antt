use mathlib.Core.Path.{◌≡◌}
use lib.ListN.{drop}
use Rattle.meaning.specs.Octets.{all}
use Rattle.meaning_save.specs.Save.{is_tree}
use Rattle.memory.specs.Memory.{card_of}
use Rattle.save_rules_rows.proofs.trees_good.Given as goal

abbrev pub invariant-loop-i : goal.invariant-loop-i
invariant-loop-i l = all is_tree (card_of l.numbers l.names).trees ≡ all is_tree (drop l.i (card_of l.numbers l.names).trees)
