use Prim.Native.Nat.{◌+◌, ◌-◌}
use native.Mathlib.Omega.{arith}
use Rattle.memory.proofs.Parts.{cleared}
use Rattle.memory.proofs.clear.Goals as goal

pub returns : goal.returns
returns c =
    cleared c.args.a c.args.k (c.args.a + c.args.k - c.args.a) _ _ c.requires (omega arith) c.zero.ensures
