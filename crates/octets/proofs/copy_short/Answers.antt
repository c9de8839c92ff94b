use Prim.Native.Nat.{◌+◌, ◌-◌}
use native.Mathlib.Omega.{arith}
use lib.ListN.{length}
use Rattle.octets.proofs.Parts.{Laid, laid_none, laid_more, laid-all}
use Rattle.octets.proofs.copy_short.Goals as goal

pub returns : goal.returns
returns c =
    let first = c.lay_part in
    let src = c.args.src.now in
    let last = length src - 4 in
    let begun : Laid 4 src first.new.dst =
    laid_more 4 0 0 src c.args.dst.now first.new.dst (laid_none src c.args.dst.now c.requires.0) (omega arith) (omega arith) first.ensures in
    laid-all (last + 4) src _ (laid_more 4 4 last src _ _ begun (omega arith) (omega arith) c.lay_part-2.ensures) (omega arith)
