use Rattle.std.proofs.Common.{◌+◌, ◌*◌, ◌≤◌, take}
use Rattle.bench_lines.specs.Text.{branch_space, branches_as, Adds}
use Rattle.meaning.specs.Card.{branches_from}
use Rattle.bench_lines.proofs.add_branches.Given as goal

abbrev pub invariant-loop-i : goal.invariant-loop-i
invariant-loop-i l = (l.at ≤ l.from + branch_space * l.i) × Adds (branches_as l.before l.between (branches_from 0 (take l.i l.branches))) l.initial.text l.text l.from l.at
