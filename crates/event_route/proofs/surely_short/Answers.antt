use Rattle.memory.specs.Memory.{card_of}
use Rattle.event_route.proofs.Route.{surely-far, surely-none, surely-some}
use native.Mathlib.Omega.{arith}
use Rattle.event_route.proofs.surely_short.Goals as goal

pub returns-then-via-ge-NEIGHBOURS : goal.returns-then-via-ge-NEIGHBOURS
returns-then-via-ge-NEIGHBOURS c = λ os. surely-far (card_of c.args.numbers.now os) c.args.via c.args.counts.standing c.args.counts.lone c.if-via-ge-NEIGHBOURS.true

pub returns-then-counts : goal.returns-then-counts
returns-then-counts c = λ os. surely-none (card_of c.args.numbers.now os) c.args.via c.args.counts.standing c.args.counts.lone c.if-counts.true

pub returns : goal.returns
returns c =
    λ os. surely-some (card_of c.args.numbers.now os) c.args.via c.args.counts.standing c.args.counts.lone _ (omega arith) (omega arith) (c.labels_short.ensures os)
