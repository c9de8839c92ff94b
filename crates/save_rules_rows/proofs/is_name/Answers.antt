use Prim.Native.Nat.{ℕ}
use mathlib.Core.Path.{ap, ◌∙◌}
use lib.Dec.{eqb}
use Rattle.refusals.proofs.Answered.{ok-0}
use Rattle.meaning_save.specs.Save.{is_name}
use borrow.Author.Rules.{rules}
use Rattle.save_rules_rows.proofs.is_name.Goals as goal

pub returns : goal.returns
unfolding is_name
returns c = c.is_ok.ensures.value ∙ ok-0 c.check_element.result ∙ ap (λ (n : ℕ). eqb n 0) c.check_element.ensures
