use native.Mathlib.Omega.{arith}
use mathlib.Core.Path.{sym, ◌∙◌}
use Rattle.event_lost.proofs.Sizes.{held-label, label-held, loss-bare, loss-own, loss-ends, loss-stays}
use Rattle.event_lost.proofs.loss_of.Goals as goal

pub returns-then-u-eq-NOBODY : goal.returns-then-u-eq-NOBODY
returns-then-u-eq-NOBODY c =
    let u = c.held_for-u.ensures.0 c.args.names.now in
    (loss-bare _ _ _ _ u c.requires.2 c.if-u-eq-NOBODY.true (held-label _ _ _ c.requires.3.0 (sym u ∙ c.if-u-eq-NOBODY.true)), omega arith)

pub returns-then-u-n : goal.returns-then-u-n
returns-then-u-n c =
    (loss-own _ _ _ _ (c.held_for-u.ensures.0 c.args.names.now) c.if-u-n.true, omega arith)

pub returns-then-holder_then-eq-NOBODY : goal.returns-then-holder_then-eq-NOBODY
returns-then-holder_then-eq-NOBODY c =
    let the-held-for = c.held_for-u in
    let the-if1 = c.if-u-eq-NOBODY in
    let the-if2 = c.if-u-n in
    let u = the-held-for.ensures.0 c.args.names.now in
    let some = the-if1.false in (
      loss-ends _ _ _ _ u _ (c.is_leaf-leaf.ensures c.args.names.now) _ (c.holder_then.ensures c.args.names.now) the-if2.false some c.if-holder_then-eq-NOBODY.true (label-held _ _ _ c.requires.3.0 (λ z. some (u ∙ z))) _ (c.tree_name.ensures.0 c.args.numbers.now c.requires.3.0),
      omega arith,
    )

pub returns : goal.returns
returns c =
    let the-held-for = c.held_for-u in
    let the-if1 = c.if-u-eq-NOBODY in
    let u = the-held-for.ensures.0 c.args.names.now in
    (loss-stays _ _ _ _ u _ (c.is_leaf-leaf.ensures c.args.names.now) _ (c.holder_then.ensures c.args.names.now) c.if-u-n.false the-if1.false c.if-holder_then-eq-NOBODY.false, omega arith)
