use Rattle.save_records.proofs.Records.{last_none, last_some}
use Rattle.save_records.proofs.last_given.Goals as goal

pub returns-then-v-eq0 : goal.returns-then-v-eq0
returns-then-v-eq0 c = λ os. last_none c.args.numbers.now os _ (c.turn-v.ensures.0 os) c.if-v-eq0.true

pub returns : goal.returns
returns c =
    λ os. last_some c.args.numbers.now os _ _ c.base.ensures.0 (c.turn-v.ensures.0 os) c.if-v-eq0.false
