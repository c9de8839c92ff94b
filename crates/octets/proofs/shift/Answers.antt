use Prim.Native.Nat.{ℕ, ◌+◌, ◌<◌}
use native.Mathlib.Omega.{arith}
use mathlib.Core.Path.{◌≡◌, sym, ap, ◌∙◌}
use lib.ListN.{length, drop, get_or, length-drop}
use lib.Seq.{get_or-drop}
use Rattle.octets.proofs.Parts.{front-more, front-behind, shifted-done}
use Rattle.octets.proofs.shift.Goals as goal

pub loop-i-preserved : goal.loop-i-preserved
loop-i-preserved g c =
    let a = c.args in
    let i = c.loop-i.i in
    let z = c.index-d-i.result in
    let h : i < length (drop a.w a.d.now) = simp length-drop (omega arith) in
    let q : i + a.w ≡ a.w + i = omega arith in
    front-more (drop a.w a.d.now) a.d.now _ z _ i h (omega arith) c.loop-i.invariant
    (c.index-d-i.is
    ∙ front-behind (drop a.w a.d.now) a.d.now _ z i (i + a.w) (omega arith) (omega arith) c.loop-i.invariant (omega arith)
    ∙ ap (λ (n : ℕ). get_or a.d.now n z) q
    ∙ sym (get_or-drop a.w a.d.now i z))

pub returns : goal.returns
returns g c = shifted-done _ _ _ _ c.requires c.loop-i-test.false (omega arith) c.loop-i.invariant
