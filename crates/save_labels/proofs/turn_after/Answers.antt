-- `save_labels::turn_after` meets its contract, in either form. Assumes nothing.
use Rattle.save_labels.proofs.Labels.{turn-old, turn-none, turn-some}
use mathlib.Core.Path.{◌∙◌}
use native.Mathlib.Omega.{arith}
use Rattle.save_labels.proofs.turn_after.Goals as goal

pub returns-then-not-second : goal.returns-then-not-second
returns-then-not-second c = λ os. turn-old _ _ _ _ _ c.if-not-second.true (c.above_used.ensures os)

pub returns-then-last-eq0 : goal.returns-then-last-eq0
returns-then-last-eq0 c =
    λ os. turn-none _ c.args.octets.now _ _ _ c.if-not-second.false c.four_at-last.ensures.0 c.if-last-eq0.true

pub overflow_sub-result : goal.overflow_sub-result
overflow_sub-result c =
    let last = c.four_at-last.ensures.0 in
    let p = c.requires.1 c.if-not-second.false (λ z. c.if-last-eq0.false (last ∙ z)) in
    omega (arith, p.0, last, c.base.ensures.0)

pub returns : goal.returns
returns c =
    λ os. turn-some _ c.args.octets.now _ _ _ _ c.if-not-second.false c.four_at-last.ensures.0 c.base.ensures.0 (c.requires.1 c.if-not-second.false) c.if-last-eq0.false
