use Prim.Native.Nat.{ℕ, ◌<◌, ◌+◌}
use native.Mathlib.Omega.{arith}
use mathlib.Core.Path.{◌≡◌, sym, ap, ◌∙◌}
use mathlib.Core.List.{List}
use lib.ListN.{length, take, drop, get_or, length-drop}
use lib.Seq.{get_or-drop}
use Rattle.octets.proofs.Parts.{mid-more, mid-before}
use Rattle.octets.proofs.copy_few.Goals as goal

pub loop-i-preserved : goal.loop-i-preserved
loop-i-preserved c =
    let a = c.args in
    let i = c.loop-i.i in
    let h : i < length (drop a.from a.s.now) = simp length-drop (omega arith) in
    let unmoved : get_or c.loop-i.s (a.from + i) 0 ≡ get_or a.s.now (a.from + i) 0 =
    ap (λ (s : List ℕ). get_or s (a.from + i) 0) c.loop-i.invariant
    ∙ mid-before a.to i a.s.now (take i (drop a.from a.s.now)) 0 (a.from + i) (omega arith) (omega arith) in
    mid-more (drop a.from a.s.now) a.s.now c.loop-i.s 0 _ a.to i h (omega arith) c.loop-i.invariant (unmoved ∙ sym (get_or-drop a.from a.s.now i 0))
