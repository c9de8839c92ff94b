use native.Mathlib.Omega.{arith}
use mathlib.Core.Path.{ap, ◌∙◌}
use Rattle.bench_words.specs.Words.{ascii}
use Rattle.bench_lines.specs.Text.{count_line}
use Rattle.bench_plans.proofs.Telling.{plan-refused, plan-none, plan-listed, plan-few, plan-within}
use Rattle.bench_plans.proofs.put_plan.Goals as goal

pub overflow_mul-e : goal.overflow_mul-e
overflow_mul-e c =
    let f = plan-few _ (rw c.in-Ok-Some.field-0-is at c.in-Ok-Some.ensures.result_bound.0) in
    omega (arith, f)

pub slice_bounds-put_moves-end : goal.slice_bounds-put_moves-end
slice_bounds-put_moves-end c =
    plan-within _ _ _ _ (rw c.in-Ok-Some.field-0-is at c.in-Ok-Some.ensures.fact.0) c.in-Ok-Some.ensures.fact.1

pub put_moves-requires : goal.put_moves-requires
put_moves-requires c =
    let f = plan-few _ (rw c.in-Ok-Some.field-0-is at c.in-Ok-Some.ensures.result_bound.0) in
    (omega (arith, f), omega arith)

pub returns-in-Ok-Some : goal.returns-in-Ok-Some
returns-in-Ok-Some c =
    let told = c.in-Ok-Some.ensures in
    record { text_after = c.put_moves.ensures.text_after ∙ plan-listed _ _ _ _ (rw c.in-Ok-Some.field-0-is at told.fact.0) told.result_bound.1 told.fact.1; upper_bound = c.put_moves.ensures.upper_bound }

pub returns-in-Ok-None : goal.returns-in-Ok-None
unfolding ascii
returns-in-Ok-None c =
    record { text_after = c.put_said.ensures.text_after ∙ plan-none _ (rw c.in-Ok-None.field-0-is at c.in-Ok-None.ensures.fact.0); upper_bound = c.put_said.ensures.upper_bound }

pub returns-in-Err : goal.returns-in-Err
unfolding ascii
returns-in-Err c =
    record { text_after = c.put_count.ensures.text_after ∙ ap (count_line (ascii "plan")) (c.from.ensures ∙ c.number.ensures) ∙ plan-refused _ _ c.in-Err.ensures.fact.0; upper_bound = omega (arith, c.put_count.ensures.upper_bound) }
