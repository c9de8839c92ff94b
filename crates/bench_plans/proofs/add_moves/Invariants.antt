use Prim.Native.Nat.{◌+◌, ◌*◌, ◌≤◌}
use mathlib.Core.Path.{◌≡◌}
use lib.ListN.{length, take}
use Rattle.meaning_plan.specs.PlanOctets.{list_in}
use Rattle.bench_lines.specs.Text.{Adds}
use Rattle.bench_replies.specs.PlanText.{move_space, moves_text}
use Rattle.bench_plans.proofs.add_moves.Given as goal

abbrev pub invariant-loop-i : goal.invariant-loop-i
invariant-loop-i l = (length l.text ≡ length l.initial.text) × (l.at ≤ l.from + move_space * l.i) × Adds (moves_text (take l.i (list_in l.list))) l.initial.text l.text l.from l.at
