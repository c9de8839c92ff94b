use native.Mathlib.Omega.{arith}
use mathlib.Core.Path.{ap, ◌∙◌}
use Rattle.bench_words.specs.Words.{ascii}
use Rattle.bench_lines.specs.Text.{count_line}
use Rattle.bench_plans.proofs.Telling.{vet-refused, vet-rejected, vet-accepted}
use Rattle.bench_plans.proofs.put_verdict.Goals as goal

pub returns-in-Ok-true-clause-text_after : goal.returns-in-Ok-true-clause-text_after
unfolding ascii
returns-in-Ok-true-clause-text_after c =
    c.put_count.ensures.text_after ∙ vet-accepted _ (rw c.in-Ok-true.field-0-test at c.in-Ok-true.ensures)

pub returns-in-Ok-false-clause-text_after : goal.returns-in-Ok-false-clause-text_after
unfolding ascii
returns-in-Ok-false-clause-text_after c =
    c.put_said.ensures.text_after ∙ vet-rejected _ (rw c.in-Ok-false.field-0-test at c.in-Ok-false.ensures)

pub returns-in-Err : goal.returns-in-Err
unfolding ascii
returns-in-Err c =
    record { text_after = c.put_count-in-Err.ensures.text_after ∙ ap (count_line (ascii "vet")) (c.from.ensures ∙ c.number.ensures) ∙ vet-refused _ _ c.in-Err.ensures; upper_bound = omega (arith, c.put_count-in-Err.ensures.upper_bound) }
