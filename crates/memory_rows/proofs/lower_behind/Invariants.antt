use Rattle.memory_rows.specs.Lower.{Lowered}
use Rattle.memory_rows.proofs.lower_behind.Given as goal

abbrev pub invariant-loop-j : goal.invariant-loop-j
invariant-loop-j l = Lowered l.i l.j l.initial.numbers l.numbers
