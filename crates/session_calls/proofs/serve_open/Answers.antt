-- `session_calls::serve_open` meets its contract: no message, a message and the stream stops, a message and it goes on. Assumes nothing.
use native.Mathlib.Omega.{arith}
use mathlib.Core.Path.{sym, ap, ◌∙◌}
use Rattle.session.specs.Stream.{is_stopped}
use Rattle.session_calls.proofs.Serving.{serves-none, serves-message, eaten-stopped, eaten-going}
use Rattle.session_calls.proofs.serve_open.Goals as goal

pub returns-in-None : goal.returns-in-None
returns-in-None c =
    let offer = c.offer-found.ensures in
    (offer.0, serves-none _ _ _ _ _ _ _ _ _ (offer.2.none c.in-None.is))

pub hand_on-n-requires : goal.hand_on-n-requires
hand_on-n-requires c =
    let offer = c.offer-found.ensures in
    let found = offer.2.one _ c.in-Some.is in
    (offer.0, omega (arith, offer.1, c.requires.1), found.within.0, found.within.1, c.requires.2)

pub work_off-requires : goal.work_off-requires
work_off-requires c =
    let offer = c.offer-found.ensures in
    let found = offer.2.one _ c.in-Some.is in
    (offer.0, omega (arith, offer.1, c.requires.1), found.some, found.within.0, found.within.1)

pub returns-then-work_off : goal.returns-then-work_off
returns-then-work_off c =
    let found = c.offer-found.ensures.2.one _ c.in-Some.is in
    let left = c.work_off.ensures in
    (left.0, serves-message _ _ _ _ _ _ _ _ _ _ found _ _ _ _ c.hand_on-n.ensures _ _ left.1 (eaten-stopped _ _ _ (sym c.if-work_off.true ∙ left.2 ∙ ap is_stopped (sym left.1))))

pub returns-else-work_off : goal.returns-else-work_off
returns-else-work_off c =
    let found = c.offer-found.ensures.2.one _ c.in-Some.is in
    let left = c.work_off.ensures in
    (left.0, serves-message _ _ _ _ _ _ _ _ _ _ found _ _ _ _ c.hand_on-n.ensures _ _ left.1 (eaten-going _ _ _ (sym c.if-work_off.false ∙ left.2 ∙ ap is_stopped (sym left.1))))
