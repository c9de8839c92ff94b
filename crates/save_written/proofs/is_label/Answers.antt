-- `save_written::is_label` meets its contract. Assumes nothing.
use Prim.Native.Nat.{◌+◌}
use native.Mathlib.Omega.{arith}
use Rattle.save_written.proofs.Steps.{label-low, label-high, label-stateless, label-there}
use Rattle.save_written.proofs.is_label.Goals as goal

pub returns-then-l-least : goal.returns-then-l-least
returns-then-l-least c =
    let a = c.args in
    label-low a.octets.now a.at a.base a.least a.l c.requires.1 c.if-l-least.true

pub returns-then-base-l : goal.returns-then-base-l
returns-then-base-l c =
    let a = c.args in
    label-high a.octets.now a.at a.base a.least a.l c.requires.1 c.if-l-least.false c.if-base-l.true

pub returns-then-state : goal.returns-then-state
returns-then-state c =
    let a = c.args in
    label-stateless a.octets.now a.at a.base a.least a.l c.requires.1 c.if-l-least.false c.if-base-l.false c.if-state.true

pub overflow_cast-result : goal.overflow_cast-result
overflow_cast-result c =
    omega (arith, c.shared_slice_known-2-1.given (c.args.at + 8))

pub returns : goal.returns
returns c =
    let the-if1 = c.if-l-least in
    let a = c.args in
    label-there a.octets.now a.at a.base a.least a.l c.requires.1 the-if1.false c.if-base-l.false c.if-state.false
