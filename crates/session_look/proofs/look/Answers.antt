-- `session_look::look` meets its contract: no octets left of a PDU, or some. Assumes nothing.
use mathlib.Core.Path.{◌∙◌}
use Rattle.session_look.proofs.Looks.{look_none, look-some}
use Rattle.session_look.proofs.look.Goals as goal

pub returns-then-left-eq0 : goal.returns-then-left-eq0
returns-then-left-eq0 c = c.look_head.ensures ∙ look_none _ _ _ c.if-left-eq0.true

pub returns : goal.returns
returns c = c.look_message.ensures ∙ look-some _ _ _ c.if-left-eq0.false
