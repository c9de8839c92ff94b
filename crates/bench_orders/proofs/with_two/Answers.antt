use Rattle.std.proofs.Common.{refl, sym, ◌∙◌}
use borrow.Enum.Refused.{opened}
use Rattle.bench_verbs.specs.Line.{Said, does}
use Rattle.bench_orders.specs.Tells.{meant}
use Rattle.bench_orders.proofs.Verbs.{number-of, no_number, number-then, no-number-then, found, not-found, hex-of, no-hex, hex-then, no-hex-then, two-bad}
use Rattle.bench_orders.proofs.with_two.Goals as goal

pub returns-in_err-number_at-in-Take : goal.returns-in_err-number_at-in-Take
unfolding does meant
returns-in_err-number_at-in-Take c = rw (c.from_residual.ensures, c.in-Take.is) (no-number-then Said.take _ _ (sym c.number_at.ensures ∙ c.in_err-number_at-in-Take.was))

pub returns-in_err-hex_at-in-Take : goal.returns-in_err-hex_at-in-Take
unfolding does meant
returns-in_err-hex_at-in-Take c =
    rw (c.from_residual-in_err-hex_at-in-Take.ensures, c.in-Take.is)
    (number-then Said.take _ _ _ (sym c.number_at.ensures ∙ c.in_ok-number_at-in-Take.was) ∙ no-hex _ _ (not-found c.args.line.now c.args.second _ c.hex_at.ensures c.in_err-hex_at-in-Take.was))

pub returns-in_ok-hex_at-in-Take : goal.returns-in_ok-hex_at-in-Take
unfolding does meant
returns-in_ok-hex_at-in-Take c =
    let h = found _ _ _ _ c.requires.1 c.hex_at.ensures c.in_ok-hex_at-in-Take.was in
    record { means = rw c.in-Take.is (sym (number-then Said.take _ _ _ (sym c.number_at.ensures ∙ c.in_ok-number_at-in-Take.was) ∙ hex-of _ _ _ _ h)); lies = h.lies }

pub returns-in_err-hex_at-in-Route : goal.returns-in_err-hex_at-in-Route
unfolding does meant
returns-in_err-hex_at-in-Route c = rw (c.from_residual-in_err-hex_at-in-Route.ensures, c.in-Route.is) (no-hex-then Said.route _ _ (not-found c.args.line.now c.args.first _ c.hex_at-in-Route.ensures c.in_err-hex_at-in-Route.was))

pub returns-in_err-number_at-in-Route : goal.returns-in_err-number_at-in-Route
unfolding does meant
returns-in_err-number_at-in-Route c =
    let h = found _ _ _ _ c.requires.0 c.hex_at-in-Route.ensures c.in_ok-hex_at-in-Route.was in
    rw (c.from_residual-in_err-number_at-in-Route.ensures, c.in-Route.is)
    (hex-then Said.route _ _ _ _ h ∙ no_number _ _ (sym c.number_at-in-Route.ensures ∙ c.in_err-number_at-in-Route.was))

pub returns-in_ok-number_at-in-Route : goal.returns-in_ok-number_at-in-Route
unfolding does meant
returns-in_ok-number_at-in-Route c =
    let h = found _ _ _ _ c.requires.0 c.hex_at-in-Route.ensures c.in_ok-hex_at-in-Route.was in
    record { means = rw c.in-Route.is (sym (hex-then Said.route _ _ _ _ h ∙ number-of _ _ _ (sym c.number_at-in-Route.ensures ∙ c.in_ok-number_at-in-Route.was))); lies = h.lies }

pub returns-in_err-number_at-in-Plan : goal.returns-in_err-number_at-in-Plan
unfolding does meant
returns-in_err-number_at-in-Plan c = rw (c.from_residual-in_err-number_at-in-Plan.ensures, c.in-Plan.is) (no-number-then Said.plan _ _ (sym c.number_at-in-Plan.ensures ∙ c.in_err-number_at-in-Plan.was))

pub returns-in_err-hex_at-in-Plan : goal.returns-in_err-hex_at-in-Plan
unfolding does meant
returns-in_err-hex_at-in-Plan c =
    rw (c.from_residual-in_err-hex_at-in-Plan.ensures, c.in-Plan.is)
    (number-then Said.plan _ _ _ (sym c.number_at-in-Plan.ensures ∙ c.in_ok-number_at-in-Plan.was) ∙ no-hex _ _ (not-found c.args.line.now c.args.second _ c.hex_at-in-Plan.ensures c.in_err-hex_at-in-Plan.was))

pub returns-in_ok-hex_at-in-Plan : goal.returns-in_ok-hex_at-in-Plan
unfolding does meant
returns-in_ok-hex_at-in-Plan c =
    let h = found _ _ _ _ c.requires.1 c.hex_at-in-Plan.ensures c.in_ok-hex_at-in-Plan.was in
    record { means = rw c.in-Plan.is (sym (number-then Said.plan _ _ _ (sym c.number_at-in-Plan.ensures ∙ c.in_ok-number_at-in-Plan.was) ∙ hex-of _ _ _ _ h)); lies = h.lies }

pub returns-in_default : goal.returns-in_default
returns-in_default c = two-bad c.args.verb _ _ (opened c.in_default.in_default-own.keys4)
