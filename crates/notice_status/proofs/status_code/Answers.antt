-- `notice_status::status_code` meets its contract: the E bit by what `is_fatal` answers. Assumes nothing.
use mathlib.Core.Path.{sym, ◌∙◌}
use Rattle.notice_status.proofs.Status.{code-fatal, code-mild}
use borrow.Author.Rules.{rules}
use Rattle.notice_status.proofs.status_code.Goals as goal

pub returns-then-is_fatal : goal.returns-then-is_fatal
returns-then-is_fatal c = code-fatal _ (sym c.is_fatal.ensures ∙ c.if-is_fatal.true)

pub returns : goal.returns
returns c = code-mild _ (sym c.is_fatal.ensures ∙ c.if-is_fatal.false)
