use native.Mathlib.Omega.{arith}
use borrow.Author.Tests.{eqb-true}
use Rattle.memory.proofs.Labels.{word-free}
use Rattle.event_parted.proofs.is_whole.Goals as goal

pub returns : goal.returns
returns c = λ t q low high. word-free _ _ (eqb-true _ _ t) q (omega arith)
