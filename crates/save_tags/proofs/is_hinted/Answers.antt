use Prim.Native.Nat.{ℕ}
use native.Mathlib.Omega.{arith}
use mathlib.Core.Path.{ap}
use lib.ListN.{get_or}
use lib.Dec.{eqb}
use Rattle.save_tags.specs.Tags.{hinted}
use Rattle.save_tags.proofs.is_hinted.Goals as goal

pub overflow_cast-result : goal.overflow_cast-result
overflow_cast-result c = omega (arith, c.shared_slice_known-4-1.given c.hint_place-k.result)

pub returns : goal.returns
unfolding hinted
returns c =
    ap (λ (k : ℕ). eqb (get_or c.args.hints.now k 0) c.args.i) c.hint_place-k.ensures.0
