use Prim.Native.Nat.{◌+◌, ◌-◌}
use native.Mathlib.Omega.{arith}
use lib.ListN.{length}
use Rattle.memory.proofs.Parts.{text-written}
use Rattle.memory.proofs.set_text.Goals as goal

pub returns : goal.returns
returns c =
    text-written c.args.at (c.args.at + 1 + length c.args.text.now - (c.args.at + 1)) _ _ _ c.requires.0 (omega arith) c.copy_text.ensures
