use Prim.Native.Nat.{ℕ, ◌+◌}
use native.Mathlib.Omega.{arith}
use mathlib.Core.Path.{sym, ap, ◌∙◌}
use lib.ListN.{length}
use Rattle.meaning.specs.Wire.{record_beside}
use Rattle.event_holder.proofs.Sizes.{size_none, size-taken, size-given, size-both}
use Rattle.event_holder.proofs.move_size.Goals as goal

pub returns-then-u-eq-NOBODY : goal.returns-then-u-eq-NOBODY
returns-then-u-eq-NOBODY c =
    let e = ap (λ (n : ℕ). record_beside + n) (ap length (c.tree_name.ensures.0 c.args.numbers.now c.requires.2.0)) in
    (size_none _ _ _ e (sym (c.tree_label.ensures _) ∙ c.if-tree_label-eq0.true) c.if-u-eq-NOBODY.true, omega arith)

pub returns-else-u-eq-NOBODY : goal.returns-else-u-eq-NOBODY
returns-else-u-eq-NOBODY c =
    let e = ap (λ (n : ℕ). record_beside + n) (ap length (c.tree_name.ensures.0 c.args.numbers.now c.requires.2.0)) in
    (size-taken _ _ _ e (sym (c.tree_label.ensures _) ∙ c.if-tree_label-eq0.true) c.if-u-eq-NOBODY.false, omega arith)

pub returns-then-u-eq-NOBODY-2 : goal.returns-then-u-eq-NOBODY-2
returns-then-u-eq-NOBODY-2 c =
    let e = ap (λ (n : ℕ). record_beside + n) (ap length (c.tree_name.ensures.0 c.args.numbers.now c.requires.2.0)) in
    (size-given _ _ _ e (λ z. c.if-tree_label-eq0.false (c.tree_label.ensures _ ∙ z)) c.if-u-eq-NOBODY-2.true, omega arith)

pub returns-else-u-eq-NOBODY-2 : goal.returns-else-u-eq-NOBODY-2
returns-else-u-eq-NOBODY-2 c =
    let e = ap (λ (n : ℕ). record_beside + n) (ap length (c.tree_name.ensures.0 c.args.numbers.now c.requires.2.0)) in
    (size-both _ _ _ e (λ z. c.if-tree_label-eq0.false (c.tree_label.ensures _ ∙ z)) c.if-u-eq-NOBODY-2.false, omega arith)
