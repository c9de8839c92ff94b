use native.Mathlib.Omega.{arith}
use lib.ListN.{length-set}
use Rattle.memory_marks.proofs.Marks.{map-label}
use borrow.Author.Rules.{rules}
use Rattle.memory_marks.proofs.map_label.Goals as goal

pub bounds-numbers-i : goal.bounds-numbers-i
bounds-numbers-i c = simp length-set (omega (arith, c.set_taken.ensures.0.long))

pub returns : goal.returns
returns c =
    map-label _ _ _ _ _ _ _ _ c.requires.0 c.requires.1 c.requires.2 c.requires.5.0 c.requires.5.1 c.requires.3 c.requires.4 c.set_taken.ensures.0 c.set_taken.ensures.1 c.used_octets-used.ensures.0 c.used_octets-used.ensures.1 c.copy_within.ensures
