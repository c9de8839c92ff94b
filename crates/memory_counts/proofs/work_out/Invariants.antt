use Rattle.memory.specs.Memory.{card_of}
use Rattle.meaning.specs.Events.{total, in_root, one_standing, one_lone}
use lib.ListN.{drop}
use mathlib.Core.Path.{◌≡◌}
use Prim.Native.Nat.{◌+◌, ◌≤◌}
use Rattle.memory_counts.proofs.work_out.Given as goal

abbrev pub invariant-loop-i : goal.invariant-loop-i
invariant-loop-i l = (l.standing ≤ l.i) × (l.lone ≤ l.i)
    × (l.standing + total (in_root l.root one_standing) (drop l.i (card_of l.numbers l.names).trees) ≡ total (in_root l.root one_standing) (card_of l.numbers l.names).trees)
    × (l.lone + total (in_root l.root one_lone) (drop l.i (card_of l.numbers l.names).trees) ≡ total (in_root l.root one_lone) (card_of l.numbers l.names).trees)
