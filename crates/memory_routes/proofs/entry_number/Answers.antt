use borrow.Author.Rules.{rules}
use Rattle.memory_routes.proofs.Routes.{entry-number}
use Rattle.memory_routes.proofs.entry_number.Goals as goal

pub returns : goal.returns
returns c = λ o. entry-number _ _ _ c.requires.0 c.requires.1 c.requires.2 o
