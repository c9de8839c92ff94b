-- `session_replies::is_own` meets its contract. Assumes nothing.
use Rattle.session_replies.proofs.Obeying.{own-told, own-none}
use borrow.Author.Rules.{rules}
use borrow.Enum.Refused.{opened}
use Rattle.session_replies.proofs.is_own.Goals as goal

pub returns-in-Bench : goal.returns-in-Bench
returns-in-Bench c = own-none _ c.in-Bench.is

pub returns-in_default : goal.returns-in_default
returns-in_default c = own-told _ (opened c.in_default.in_default-own.keys2)
