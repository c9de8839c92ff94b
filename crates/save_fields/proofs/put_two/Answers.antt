use native.Mathlib.Omega.{arith}
use mathlib.Core.Path.{sym, ◌∙◌}
use Rattle.save_fields.proofs.Read.{two-small}
use Rattle.save_fields.proofs.put_two.Goals as goal

pub returns : goal.returns
returns c = c.copy.ensures ∙ sym (two-small _ (omega arith))
