use native.Mathlib.Omega.{arith}
use mathlib.Core.Path.{sym}
use Rattle.meaning_laws.specs.Counts.{changed-round}
use Rattle.memory_counts.proofs.change.Goals as goal

pub returns : goal.returns
returns c = (sym (changed-round _ _ _ c.requires.0 c.requires.1), omega arith)
