use Rattle.std.proofs.Common.{sym, ◌∙◌}
use Rattle.session_orders.proofs.Asked.{octets-none, octets-taken, octets-passed}
use Rattle.session_orders.proofs.with_octets.Goals as goal

pub returns-in_err-neighbour : goal.returns-in_err-neighbour
returns-in_err-neighbour c = rw c.from_residual.ensures (octets-none _ _ _ c.number_hex.ensures c.in_err-neighbour.was)

pub returns-then-may_offer : goal.returns-then-may_offer
returns-then-may_offer c = octets-taken _ _ _ c.number_hex.ensures _ c.in_ok-neighbour.was (sym c.may_offer.ensures ∙ c.if-may_offer.true)

pub returns-else-may_offer : goal.returns-else-may_offer
returns-else-may_offer c = octets-passed _ _ _ c.number_hex.ensures _ c.in_ok-neighbour.was (sym c.may_offer.ensures ∙ c.if-may_offer.false)
