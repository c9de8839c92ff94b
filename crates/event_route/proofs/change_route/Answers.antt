use Rattle.event_route.proofs.Route.{order_same, order-refused, order-ready, order-done}
use Rattle.memory.specs.Memory.{card_of}
use Rattle.memory.proofs.Memory.{routes-length}
use Rattle.refusals.proofs.Numbers.{number-not-0}
use Rattle.std.proofs.lemmas.Result.{err_from_is_err_and}
use mathlib.Core.Path.{refl, sym, ◌∙◌}
use borrow.Author.Rules.{rules}
use Rattle.event_route.proofs.change_route.Goals as goal

pub returns-then-old-via : goal.returns-then-old-via
returns-then-old-via c =
    order_same (card_of c.args.numbers.now c.args.names.now) _ _ _ (sym (c.route_at-old.ensures _ _ c.route_place-i.ensures.0) ∙ c.if-old-via.true)

pub entry_counts-counts-requires : goal.entry_counts-counts-requires
entry_counts-counts-requires c =
    let the-route-place = c.route_place-i in
    (search rules, search rules, the-route-place.ensures.0)

pub check_route-requires : goal.check_route-requires
check_route-requires c =
    let the-route-at = c.route_at-old in
    let the-route-place = c.route_place-i in
    let the-if1 = c.if-old-via in
    let was = the-route-at.ensures _ _ the-route-place.ensures.0 in
    (search rules, search rules, search rules, (λ z. the-if1.false (was ∙ z)), search rules, search rules, was)

pub returns-in_err-check_route : goal.returns-in_err-check_route
returns-in_err-check_route c =
    let the-if1 = c.if-old-via in
    let the-route-at = c.route_at-old in
    let the-route-place = c.route_place-i in
    let p = err_from_is_err_and c.from_residual.result c.from_residual.ensures.1 in
    rw (p.1, p.2) (order-refused (card_of c.args.numbers.now c.args.names.now) _ _ (λ z. the-if1.false (the-route-at.ensures _ _ the-route-place.ensures.0 ∙ z)) _ _ c.in_err-check_route.ensures (number-not-0 _))

pub re_route-requires : goal.re_route-requires
re_route-requires c =
    let the-upstream-via = c.upstream_via-u in
    let the-entry-counts = c.entry_counts-counts in
    let the-route-place = c.route_place-i in
    let the-if1 = c.if-old-via in
    let the-route-at = c.route_at-old in
    let up = the-upstream-via.ensures in
    let e = the-entry-counts.ensures in
    let place = the-route-place.ensures in
    let R = order-ready (card_of c.args.numbers.now c.args.names.now) _ _ (λ z. the-if1.false (the-route-at.ensures _ _ the-route-place.ensures.0 ∙ z)) c.args.out.now _ c.in_ok-check_route.ensures refl in
    (search rules, search rules, search rules, up.0, search rules, search rules, R.0, rw up.0 R.1, rw up.0 R.2, c.requires.3, e.0, e.1, e.2, e.3, place.0, rw routes-length place.1)

pub returns : goal.returns
returns c =
    let the-if1 = c.if-old-via in
    let the-route-at = c.route_at-old in
    let the-route-place = c.route_place-i in
    let the-re-route = c.re_route in
    order-done (card_of c.args.numbers.now c.args.names.now) _ _ (λ z. the-if1.false (the-route-at.ensures _ _ the-route-place.ensures.0 ∙ z)) _ _ c.in_ok-check_route.ensures refl _ _ _ the-re-route.ensures
