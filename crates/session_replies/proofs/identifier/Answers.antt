use mathlib.Core.Path.{refl}
use Rattle.session_replies.specs.Turns.{identifier}
use borrow.Author.Rules.{rules}
use Rattle.session_replies.proofs.identifier.Goals as goal

pub returns : goal.returns
unfolding identifier
returns c = refl
