use borrow.Author.Rules.{rules}
use Rattle.memory.specs.Memory.{up_to}
use Rattle.save_fields.proofs.Read.{spaced-at, spaced-out}
use Rattle.save_fields.proofs.spaced.Goals as goal

pub returns-then-octets-at : goal.returns-then-octets-at
returns-then-octets-at c = spaced-out _ _ _ c.if-octets-at.true

pub returns : goal.returns
unfolding up_to
returns c =
    spaced-at c.args.octets.now c.args.at c.args.n c.at-k.result c.min-2.result c.min.result c.if-octets-at.false c.at-k.ensures.0 (search rules) (search rules)
