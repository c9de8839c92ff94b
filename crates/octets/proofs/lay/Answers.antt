use native.Mathlib.Omega.{arith}
use Rattle.octets.proofs.Parts.{front-more}
use Rattle.octets.proofs.lay.Goals as goal

pub loop-i-preserved : goal.loop-i-preserved
loop-i-preserved g c =
    front-more _ _ _ c.index-src-i.result _ _ c.loop-i-test.true (omega arith) c.loop-i.invariant c.index-src-i.is
