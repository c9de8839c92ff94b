use Rattle.memory_rows.specs.Lower.{NamesLowered}
use Rattle.memory_rows.proofs.lower_names.Given as goal

abbrev pub invariant-loop-j : goal.invariant-loop-j
invariant-loop-j l = NamesLowered l.i l.j l.initial.names l.names
