use mathlib.Core.Bool.{not}
use lib.Dec.{eqb}
use mathlib.Core.Path.{◌∙◌}
use native.Mathlib.Omega.{arith}
use Rattle.memory_trees.proofs.Others.{one-byte, byte-most}
use Rattle.memory_trees.proofs.one.Goals as goal

pub returns : goal.returns
returns c = (c.from.ensures ∙ one-byte _, omega (arith, c.from.ensures, byte-most (not (eqb c.args.x 0))))
