use Prim.Native.Nat.{◌+◌, ◌*◌}
use native.Mathlib.Omega.{arith}
use mathlib.Core.Path.{sym, ◌∙◌}
use lib.ListN.{get_or}
use Rattle.memory.specs.Sizes.{branch_column, row_width}
use Rattle.memory.proofs.Trees.{branches_at}
use Rattle.octets.proofs.Tab.{tab-is}
use Rattle.memory_trees.proofs.branches.Goals as goal

pub returns : goal.returns
returns c = λ os.
    let ns = c.args.numbers.now in
    tab-is c.loop-n.all 16 (λ k. get_or ns (branch_column + c.args.i * row_width + k) 0) 0 c.loop-n.invariant.0 (λ k lt. c.loop-n.invariant.1 k (omega arith))
    ∙ sym (branches_at ns os c.args.i c.requires.1.0)
