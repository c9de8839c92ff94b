use native.Mathlib.Omega.{arith}
use lib.ListN.{length-set}
use Rattle.memory_rows.proofs.Rows.{start-fresh}
use Rattle.memory_rows.proofs.start_fresh.Goals as goal

pub bounds-numbers-3 : goal.bounds-numbers-3
bounds-numbers-3 c = simp length-set (omega arith)

pub bounds-numbers-4 : goal.bounds-numbers-4
bounds-numbers-4 c = simp length-set (omega arith)

pub bounds-numbers-1445 : goal.bounds-numbers-1445
bounds-numbers-1445 c = simp length-set (omega arith)

pub bounds-numbers-1446 : goal.bounds-numbers-1446
bounds-numbers-1446 c = simp length-set (omega arith)

pub bounds-numbers-1447 : goal.bounds-numbers-1447
bounds-numbers-1447 c = simp length-set (omega arith)

pub bounds-numbers-1448 : goal.bounds-numbers-1448
bounds-numbers-1448 c = simp length-set (omega arith)

pub returns : goal.returns
returns c os = start-fresh c.args.numbers.now os _ c.requires.0 c.requires.1 c.requires.2
