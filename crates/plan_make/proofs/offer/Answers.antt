use Rattle.plan_make.proofs.Choosing.{offer-may, offer-not}
use Rattle.plan_make.proofs.offer.Goals as goal

pub returns-then-may_have : goal.returns-then-may_have
returns-then-may_have c = offer-may _ _ _ _ _ _ c.may_have.ensures c.if-may_have.true _ c.need_all.ensures.0 c.need_all.ensures.1

pub returns-else-may_have : goal.returns-else-may_have
returns-else-may_have c = offer-not _ _ _ _ _ _ c.may_have.ensures c.if-may_have.false
