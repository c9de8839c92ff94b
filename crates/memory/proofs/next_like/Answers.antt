use Prim.Native.Nat.{ℕ, ◌+◌, ◌*◌, ◌≤◌, ◌<◌}
use native.Mathlib.Omega.{arith}
use mathlib.Core.Path.{sym, ap, ◌∙◌}
use Rattle.meaning.specs.Octets.{same}
use Rattle.octets.proofs.Tab.{none_more}
use Rattle.memory.specs.Memory.{text_at, in_column}
use Rattle.memory.proofs.Columns.{one_more}
use Rattle.memory.proofs.next_like.Goals as goal

pub loop-j-preserved : goal.loop-j-preserved
unfolding in_column
loop-j-preserved c =
    let l = c.loop-j in
    let more = one_more l.j (c.args.k + 1) in
    let at = l.invariant.0 in
    let not-here = ap (λ (a : ℕ). same (text_at c.args.k c.args.names.now a) c.args.s.now) (sym at) ∙ c.may_be.ensures c.if-may_be.false in
    (omega (arith, more, at), none_more (λ j. same (in_column c.args.k c.args.from c.args.names.now j) c.args.s.now) c.args.i l.j l.invariant.1 not-here)
