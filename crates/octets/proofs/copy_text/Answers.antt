use Prim.Native.Nat.{◌+◌, ◌-◌}
use native.Mathlib.Omega.{arith}
use mathlib.Core.Path.{◌∙◌}
use lib.ListN.{length}
use Rattle.octets.proofs.Parts.{laid_more, laid-all}
use Rattle.octets.proofs.copy_text.Goals as goal

pub loop-i-preserved : goal.loop-i-preserved
loop-i-preserved c =
    (c.dst-in-loop-i-1.given ∙ c.loop-i.invariant.0, omega arith, laid_more 8 c.loop-i.i c.loop-i.i c.args.src.now _ _ c.loop-i.invariant.2 (omega arith) (omega arith) c.lay_part.ensures)

pub returns : goal.returns
returns c =
    let last = length c.args.src.now - 8 in
    laid-all (last + 8) c.args.src.now _ (laid_more 8 c.loop-i.i last c.args.src.now _ _ c.loop-i.invariant.2 (omega arith) (omega arith) c.lay_part-2.ensures) (omega arith)
