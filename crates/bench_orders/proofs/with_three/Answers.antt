use Rattle.std.proofs.Common.{refl, sym, ◌∙◌}
use borrow.Enum.Refused.{opened}
use Rattle.bench_verbs.specs.Line.{Said, does}
use Rattle.bench_orders.specs.Tells.{meant}
use Rattle.bench_orders.proofs.Verbs.{first-of-numbers, no-first-of-numbers, number-then, no-number-then, number-of-hexes, no-number-of-hexes, found, not-found, hex-of, no-hex, first-of-two, no-first-of-two, first-of-three, no-first-of-three, three-bad}
use Rattle.bench_orders.proofs.with_three.Goals as goal

pub returns-in_err-number_at-in-Notice : goal.returns-in_err-number_at-in-Notice
unfolding does meant
returns-in_err-number_at-in-Notice c = rw (c.from_residual.ensures, c.in-Notice.is) (no-first-of-numbers Said.notice _ _ (sym c.number_at.ensures ∙ c.in_err-number_at-in-Notice.was))

pub returns-in_err-number_at-in-Notice-2 : goal.returns-in_err-number_at-in-Notice-2
unfolding does meant
returns-in_err-number_at-in-Notice-2 c =
    rw (c.from_residual-in_err-number_at-in-Notice-2.ensures, c.in-Notice.is)
    (first-of-numbers Said.notice _ _ _ (sym c.number_at.ensures ∙ c.in_ok-number_at-in-Notice.was) ∙ no-number-then _ _ _ (sym c.number_at-in-Notice.ensures ∙ c.in_err-number_at-in-Notice-2.was))

pub returns-in_err-hex_at-in-Notice : goal.returns-in_err-hex_at-in-Notice
unfolding does meant
returns-in_err-hex_at-in-Notice c =
    rw (c.from_residual-in_err-hex_at-in-Notice.ensures, c.in-Notice.is)
    (first-of-numbers Said.notice _ _ _ (sym c.number_at.ensures ∙ c.in_ok-number_at-in-Notice.was) ∙ number-then _ _ _ _ (sym c.number_at-in-Notice.ensures ∙ c.in_ok-number_at-in-Notice-2.was) ∙ no-hex _ _ (not-found c.args.line.now c.args.third _ c.hex_at.ensures c.in_err-hex_at-in-Notice.was))

pub returns-in_ok-hex_at-in-Notice : goal.returns-in_ok-hex_at-in-Notice
unfolding does meant
returns-in_ok-hex_at-in-Notice c =
    let h = found _ _ _ _ c.requires.2 c.hex_at.ensures c.in_ok-hex_at-in-Notice.was in
    record { means = rw c.in-Notice.is (sym (first-of-numbers Said.notice _ _ _ (sym c.number_at.ensures ∙ c.in_ok-number_at-in-Notice.was) ∙ number-then _ _ _ _ (sym c.number_at-in-Notice.ensures ∙ c.in_ok-number_at-in-Notice-2.was) ∙ hex-of _ _ _ _ h)); lies = h.lies }

pub returns-in_err-hex_at-in-Wrap : goal.returns-in_err-hex_at-in-Wrap
unfolding does meant
returns-in_err-hex_at-in-Wrap c = rw (c.from_residual-in_err-hex_at-in-Wrap.ensures, c.in-Wrap.is) (no-first-of-three Said.wrap _ _ (not-found c.args.line.now c.args.first _ c.hex_at-in-Wrap.ensures c.in_err-hex_at-in-Wrap.was))

pub returns-in_err-hex_at-in-Wrap-2 : goal.returns-in_err-hex_at-in-Wrap-2
unfolding does meant
returns-in_err-hex_at-in-Wrap-2 c =
    let h0 = found _ _ _ _ c.requires.0 c.hex_at-in-Wrap.ensures c.in_ok-hex_at-in-Wrap.was in
    rw (c.from_residual-in_err-hex_at-in-Wrap-2.ensures, c.in-Wrap.is) (first-of-three Said.wrap _ _ _ _ h0 ∙ no-first-of-two _ _ _ (not-found c.args.line.now c.args.second _ c.hex_at-in-Wrap-2.ensures c.in_err-hex_at-in-Wrap-2.was))

pub returns-in_err-hex_at-in-Wrap-3 : goal.returns-in_err-hex_at-in-Wrap-3
unfolding does meant
returns-in_err-hex_at-in-Wrap-3 c =
    let h0 = found _ _ _ _ c.requires.0 c.hex_at-in-Wrap.ensures c.in_ok-hex_at-in-Wrap.was in
    let h1 = found _ _ _ _ c.requires.1 c.hex_at-in-Wrap-2.ensures c.in_ok-hex_at-in-Wrap-2.was in
    rw (c.from_residual-in_err-hex_at-in-Wrap-3.ensures, c.in-Wrap.is) (first-of-three Said.wrap _ _ _ _ h0 ∙ first-of-two _ _ _ _ _ h1 ∙ no-hex _ _ (not-found c.args.line.now c.args.third _ c.hex_at-in-Wrap-3.ensures c.in_err-hex_at-in-Wrap-3.was))

pub returns-in_ok-hex_at-in-Wrap-3 : goal.returns-in_ok-hex_at-in-Wrap-3
unfolding does meant
returns-in_ok-hex_at-in-Wrap-3 c =
    let h0 = found _ _ _ _ c.requires.0 c.hex_at-in-Wrap.ensures c.in_ok-hex_at-in-Wrap.was in
    let h1 = found _ _ _ _ c.requires.1 c.hex_at-in-Wrap-2.ensures c.in_ok-hex_at-in-Wrap-2.was in
    let h2 = found _ _ _ _ c.requires.2 c.hex_at-in-Wrap-3.ensures c.in_ok-hex_at-in-Wrap-3.was in
    record { means = rw c.in-Wrap.is (sym (first-of-three Said.wrap _ _ _ _ h0 ∙ first-of-two _ _ _ _ _ h1 ∙ hex-of _ _ _ _ h2)); lies = (h0.lies, h1.lies, h2.lies) }

pub returns-in_err-number_at-in-Vet : goal.returns-in_err-number_at-in-Vet
unfolding does meant
returns-in_err-number_at-in-Vet c = rw (c.from_residual-in_err-number_at-in-Vet.ensures, c.in-Vet.is) (no-number-of-hexes Said.vet _ _ (sym c.number_at-in-Vet.ensures ∙ c.in_err-number_at-in-Vet.was))

pub returns-in_err-hex_at-in-Vet : goal.returns-in_err-hex_at-in-Vet
unfolding does meant
returns-in_err-hex_at-in-Vet c =
    rw (c.from_residual-in_err-hex_at-in-Vet.ensures, c.in-Vet.is)
    (number-of-hexes Said.vet _ _ _ (sym c.number_at-in-Vet.ensures ∙ c.in_ok-number_at-in-Vet.was) ∙ no-first-of-two _ _ _ (not-found c.args.line.now c.args.second _ c.hex_at-in-Vet.ensures c.in_err-hex_at-in-Vet.was))

pub returns-in_err-hex_at-in-Vet-2 : goal.returns-in_err-hex_at-in-Vet-2
unfolding does meant
returns-in_err-hex_at-in-Vet-2 c =
    let h1 = found _ _ _ _ c.requires.1 c.hex_at-in-Vet.ensures c.in_ok-hex_at-in-Vet.was in
    rw (c.from_residual-in_err-hex_at-in-Vet-2.ensures, c.in-Vet.is)
    (number-of-hexes Said.vet _ _ _ (sym c.number_at-in-Vet.ensures ∙ c.in_ok-number_at-in-Vet.was) ∙ first-of-two _ _ _ _ _ h1 ∙ no-hex _ _ (not-found c.args.line.now c.args.third _ c.hex_at-in-Vet-2.ensures c.in_err-hex_at-in-Vet-2.was))

pub returns-in_ok-hex_at-in-Vet-2 : goal.returns-in_ok-hex_at-in-Vet-2
unfolding does meant
returns-in_ok-hex_at-in-Vet-2 c =
    let h1 = found _ _ _ _ c.requires.1 c.hex_at-in-Vet.ensures c.in_ok-hex_at-in-Vet.was in
    let h2 = found _ _ _ _ c.requires.2 c.hex_at-in-Vet-2.ensures c.in_ok-hex_at-in-Vet-2.was in
    record { means = rw c.in-Vet.is (sym (number-of-hexes Said.vet _ _ _ (sym c.number_at-in-Vet.ensures ∙ c.in_ok-number_at-in-Vet.was) ∙ first-of-two _ _ _ _ _ h1 ∙ hex-of _ _ _ _ h2)); lies = (h1.lies, h2.lies) }

pub returns-in_default : goal.returns-in_default
returns-in_default c = three-bad c.args.verb _ _ _ _ (opened c.in_default.in_default-own.keys4)
