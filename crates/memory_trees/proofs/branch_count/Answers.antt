use native.Mathlib.Omega.{arith}
use mathlib.Core.Path.{◌∙◌}
use lib.Dec.{eqb}
use Rattle.memory.proofs.Trees.{branches-length}
use Rattle.memory_trees.proofs.Others.{count-step, count-all, none-byte, byte-most}
use Rattle.memory_trees.proofs.branch_count.Goals as goal

pub loop-n-preserved : goal.loop-n-preserved
loop-n-preserved c =
    let e = c.from-none.ensures in (
      omega (arith, e, byte-most (eqb c.branch-numbers.result 0)),
      λ os.
          let long = branches-length c.args.numbers.now os c.args.i c.requires.1.0 in
          count-step _ c.loop-n.n c.loop-n.none _ _ _ (c.loop-n.invariant.1 os) (omega arith) (c.branch-numbers.ensures os) (e ∙ none-byte _),
    )

pub returns : goal.returns
returns c =
    let l = c.loop-n in (
      λ os. let long = branches-length c.args.numbers.now os c.args.i c.requires.1.0 in omega (arith, count-all _ l.n _ _ (l.invariant.1 os) (omega arith)),
      omega arith,
    )
