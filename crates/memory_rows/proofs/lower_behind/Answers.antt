use Prim.Native.Nat.{◌-◌}
use native.Mathlib.Omega.{arith}
use mathlib.Core.Path.{◌≡◌, ◌∙◌}
use Rattle.memory_rows.proofs.Lower.{lowered_none, lowered-more}
use Rattle.memory_rows.proofs.lower_behind.Goals as goal

pub loop-j-init : goal.loop-j-init
loop-j-init c = lowered_none _ _

pub lower_one-requires : goal.lower_one-requires
lower_one-requires c =
    (c.loop-j.invariant.long ∙ c.requires.0, omega arith)

pub loop-j-preserved : goal.loop-j-preserved
loop-j-preserved c =
    lowered-more _ _ _ _ _ c.loop-j.auto.j (omega arith) c.loop-j.invariant c.lower_one.ensures

pub shape_of-numbers : goal.shape_of-numbers
shape_of-numbers c = c.loop-j.invariant.long

pub returns : goal.returns
returns c =
    let e : c.loop-j.j ≡ c.args.n - 1 = omega arith in
    rw (← e) c.loop-j.invariant
