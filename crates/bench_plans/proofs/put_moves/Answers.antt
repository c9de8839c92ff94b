use native.Mathlib.Omega.{arith}
use Rattle.bench_lines.proofs.Text.{adds_then}
use Rattle.bench_words.specs.Words.{ascii}
use Rattle.bench_replies.specs.PlanText.{moves_line}
use Rattle.bench_plans.proofs.put_moves.Goals as goal

pub returns : goal.returns
unfolding moves_line ascii
returns c =
    let the-add-moves = c.add_moves-at in
    let the-add = c.add-at in
    let y = the-add-moves.ensures in
    let x = the-add.ensures in
    let w = c.add.ensures in
    record { text_after = (adds_then x (adds_then y.adds w)).text; upper_bound = omega (arith, x.count, y.upper_bound, w.count) }
