-- `session_offer::offer` meets its contract: a stopped stream, one that stops, a message, and none. Assumes nothing.
use mathlib.Core.Path.{refl, sym, ◌∙◌}
use Rattle.session_offer.proofs.Offering.{offer-stopped, offer-bad, offer-message, offer-wait}
use Rattle.session_offer.proofs.offer.Goals as goal

pub returns-then-is_stopped : goal.returns-then-is_stopped
returns-then-is_stopped c =
    (c.requires.0, refl, offer-stopped _ _ _ _ (sym c.if-is_stopped.true ∙ c.is_stopped.ensures _))

pub returns-in-Bad : goal.returns-in-Bad
returns-in-Bad c =
    let goes = sym c.if-is_stopped.false ∙ c.is_stopped.ensures c.args.buffer.now in
    let took = c.take_in-eaten.ensures in
    (c.stop.ensures.0, took.1, offer-bad _ _ _ _ _ _ _ goes took.2 _ c.held_in-now.ensures _ c.octets.ensures _ c.look.ensures _ c.in-Bad.is (c.stop.ensures.1 _))

pub returns-in-Message : goal.returns-in-Message
returns-in-Message c =
    let goes = sym c.if-is_stopped.false ∙ c.is_stopped.ensures c.args.buffer.now in
    let took = c.take_in-eaten.ensures in
    (took.0, took.1, offer-message _ _ _ _ _ _ _ goes took.2 _ c.held_in-now.ensures _ c.octets.ensures _ c.look.ensures _ c.in-Message.is)

pub returns-in-Wait : goal.returns-in-Wait
returns-in-Wait c =
    let goes = sym c.if-is_stopped.false ∙ c.is_stopped.ensures c.args.buffer.now in
    let took = c.take_in-eaten.ensures in
    (took.0, took.1, offer-wait _ _ _ _ _ _ _ goes took.2 _ c.held_in-now.ensures _ c.octets.ensures _ c.look.ensures c.in-Wait.is)
