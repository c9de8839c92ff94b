use Prim.Native.Nat.{◌+◌, ◌-◌}
use native.Mathlib.Omega.{arith}
use lib.ListN.{length}
use Rattle.octets.proofs.Parts.{Laid, laid_none, laid_more, laid-all}
use Rattle.octets.proofs.copy_three.Goals as goal

pub returns : goal.returns
returns c =
    let first = c.lay_part in
    let next = c.lay_part-2 in
    let second = c.second_eight-second in
    let src = c.args.src.now in
    let last = length src - 8 in
    let near = second.ensures.2 (omega (arith, c.requires.2)) in
    let begun : Laid 8 src first.new.dst =
    laid_more 8 0 0 src c.args.dst.now first.new.dst (laid_none src c.args.dst.now c.requires.0) (omega arith) (omega arith) first.ensures in
    let more : Laid (second.result + 8) src next.new.dst =
    laid_more 8 8 second.result src first.new.dst next.new.dst begun (omega (arith, second.ensures.0)) (omega (arith, second.ensures.1, c.requires.1)) next.ensures in
    laid-all (last + 8) src _ (laid_more 8 (second.result + 8) last src _ _ more (omega (arith, near)) (omega (arith, c.requires.1)) c.lay_part-3.ensures) (omega arith)
