use Prim.Native.Nat.{◌-◌}
use native.Mathlib.Omega.{arith}
use mathlib.Core.Path.{◌≡◌, ◌∙◌}
use Rattle.memory_rows.proofs.Lower.{names-none, names_more}
use Rattle.memory_rows.proofs.lower_names.Goals as goal

pub loop-j-init : goal.loop-j-init
loop-j-init c = names-none _ _

pub lower_name-requires : goal.lower_name-requires
lower_name-requires c =
    (c.loop-j.invariant.long ∙ c.requires.0, omega arith)

pub loop-j-preserved : goal.loop-j-preserved
loop-j-preserved c =
    names_more _ _ _ _ _ c.loop-j.auto.j c.loop-j.invariant c.lower_name.ensures

pub shape_of-names : goal.shape_of-names
shape_of-names c = c.loop-j.invariant.long

pub returns : goal.returns
returns c =
    let e : c.loop-j.j ≡ c.args.n - 1 = omega arith in
    rw (← e) c.loop-j.invariant
