use mathlib.Core.Path.{ap}
use mathlib.Core.List.{List, ◌++◌}
use Prim.Native.Nat.{ℕ}
use lib.ListN.{length, drop}
use Rattle.meaning.specs.Calls.{over}
use Rattle.plan_make.proofs.put_front.Goals as goal

pub returns : goal.returns
unfolding over
returns c = ap (λ (l : List ℕ). l ++ drop (length c.args.made.now) c.args.list.now) c.copy_from_slice.ensures.after
