use Rattle.meaning.specs.Octets.{four_at}
use borrow.Author.Rules.{rules}
use Rattle.octets.proofs.two_and_two.Goals as goal

pub returns : goal.returns
unfolding four_at
returns c = search rules
