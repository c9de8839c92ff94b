use Rattle.event_route.proofs.Route.{entry-there, entry_new}
use Rattle.meaning.specs.Events.{worked_out}
use Rattle.meaning.specs.Card.{Route}
use mathlib.Core.Path.{ap, ◌∙◌}
use native.Mathlib.Omega.{arith}
use Rattle.event_route.proofs.entry_counts.Goals as goal

pub returns-then-k-route_count : goal.returns-then-k-route_count
returns-then-k-route_count c =
    let there = entry-there c.args.numbers.now c.args.names.now c.args.root.now _ c.requires.2 (omega (arith, c.route_count.ensures.0)) in
    (c.standing-standing.ensures.0 _ ∙ ap (λ (x : Route). x.standing) there, c.lone-lone.ensures.0 _ ∙ ap (λ (x : Route). x.lone) there, c.standing-standing.ensures.1, c.lone-lone.ensures.1)

pub returns : goal.returns
unfolding worked_out
returns c =
    let w = c.work_out.ensures in
    let new = entry_new c.args.numbers.now c.args.names.now c.args.root.now _ c.requires.2 (omega (arith, c.route_count.ensures.0)) in
    (w.0 ∙ ap (λ (x : Route). x.standing) new, w.1 ∙ ap (λ (x : Route). x.lone) new, omega (arith, w.2), omega (arith, w.3))
