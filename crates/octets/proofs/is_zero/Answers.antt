-- `octets::is_zero` meets its contract: as `equal`, against zeros. Assumes nothing.
use Prim.Native.Nat.{◌-◌}
use native.Mathlib.Omega.{arith}
use mathlib.Core.Path.{sym, ◌∙◌}
use Rattle.octets.proofs.Same.{same-part, same-before, same_first}
use Rattle.octets.proofs.Zeros.{zeros_for, zeros-there}
use Rattle.octets.proofs.is_zero.Goals as goal

pub returns-then-not-zero_eight : goal.returns-then-not-zero_eight
returns-then-not-zero_eight c =
    let s = c.args.s.now in
    let i = c.loop-n.n - 8 in
    sym (same-part 8 i s (zeros_for s) (sym (zeros-there 8 i s _ (omega arith) c.zero_eight.ensures) ∙ c.if-not-zero_eight.true))

pub loop-n-preserved : goal.loop-n-preserved
loop-n-preserved c =
    let s = c.args.s.now in
    let l = c.loop-n in
    let i = l.n - 8 in
    (omega arith, same-before 8 i l.n s (zeros_for s) (omega arith) (sym (zeros-there 8 i s _ (omega arith) c.zero_eight.ensures) ∙ c.if-not-zero_eight.false) l.invariant.1)

pub returns : goal.returns
returns c =
    let s = c.args.s.now in
    let l = c.loop-n in
    zeros-there 8 0 s _ (omega arith) c.zero_eight-2.ensures ∙ same_first 8 l.n s (zeros_for s) (omega arith) l.invariant.1
