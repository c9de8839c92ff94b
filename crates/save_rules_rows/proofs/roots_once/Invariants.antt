use mathlib.Core.Path.{◌≡◌}
use lib.ListN.{drop}
use Rattle.meaning_save.specs.Save.{once_each, same_root}
use Rattle.memory.specs.Memory.{card_of}
use Rattle.save_rules_rows.proofs.roots_once.Given as goal

abbrev pub invariant-loop-i : goal.invariant-loop-i
invariant-loop-i l = once_each same_root (card_of l.numbers l.names).routes ≡ once_each same_root (drop l.i (card_of l.numbers l.names).routes)
