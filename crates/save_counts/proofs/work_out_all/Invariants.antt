-- `save_counts::work_out_all` meets its contract: the invariant is that the first i trees are counted, and hold right. Assumes nothing.
use Rattle.save_counts.proofs.Entries.{Working}
use Rattle.meaning.specs.Octets.{all}
use Rattle.meaning_save.specs.Save.{holds_right}
use Rattle.memory.specs.Memory.{card_of}
use lib.ListN.{length, drop}
use mathlib.Core.Path.{◌≡◌}
use Rattle.save_counts.proofs.work_out_all.Given as goal

abbrev pub invariant-loop-i : goal.invariant-loop-i
invariant-loop-i l = (length l.numbers ≡ length l.initial.numbers) × Working l.i (card_of l.initial.numbers l.names) (card_of l.numbers l.names)
    × (all (holds_right (card_of l.initial.numbers l.names)) (card_of l.initial.numbers l.names).trees ≡ all (holds_right (card_of l.initial.numbers l.names)) (drop l.i (card_of l.initial.numbers l.names).trees))
