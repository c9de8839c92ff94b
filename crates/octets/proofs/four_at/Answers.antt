use Prim.Native.Nat.{◌+◌, ◌-◌}
use native.Mathlib.Omega.{arith}
use mathlib.Core.Path.{◌∙◌}
use Rattle.octets.proofs.Fours.{four-part}
use Rattle.octets.proofs.four_at.Goals as goal

pub returns-then-last-s : goal.returns-then-last-s
returns-then-last-s c =
    let a = c.args in
    (c.two_and_two.ensures.0 ∙ four-part a.s.now a.i (a.i + 3 + 1 - a.i) (omega arith), c.two_and_two.ensures.1)
