-- `session_look::whole_head` meets its contract: by what the look shows. Assumes nothing.
use mathlib.Core.Path.{sym, ap, ◌∙◌}
use Rattle.session_look.specs.Shown.{shown}
use Rattle.session_look.proofs.Looks.{head-is, head-none-is}
use borrow.Enum.Refused.{opened}
use Rattle.session_look.proofs.whole_head.Goals as goal

pub returns-in-Head : goal.returns-in-Head
returns-in-Head c = head-is _ _ _ _ (ap shown (sym c.in-Head.is) ∙ c.look.ensures)

pub returns-in_default : goal.returns-in_default
returns-in_default c = head-none-is _ _ _ _ (opened c.in_default.in_default-own.keys2) c.look.ensures
