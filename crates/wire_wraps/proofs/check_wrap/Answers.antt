-- `wire_wraps::check_wrap` meets its contract: each return is one law of `Wraps`. Assumes nothing.
use native.Mathlib.Omega.{arith}
use mathlib.Core.Path.{◌≡◌, sym, ap, ◌∙◌}
use lib.Dec.{eqb}
use borrow.Author.Tests.{eqb-true, eqb-false}
use Rattle.meaning.specs.Lists.{by-test}
use Rattle.std.proofs.lemmas.Result.{err_from_is_err_and}
use Rattle.refusals.proofs.Numbers.{number-not-0}
use Rattle.refusals.specs.Refusals.{answer_of}
use Rattle.wire_wraps.proofs.Named.{is-6}
use Rattle.wire_wraps.proofs.Wraps.{no-layer, wrap-6, wrap-7, wrap-long, wrap-16, wrap-0, wrap-next, layer-lengths}
use Rattle.wire_wraps.proofs.check_wrap.Goals as goal

pub returns-then-not-is_layer : goal.returns-then-not-is_layer
returns-then-not-is_layer c = no-layer _ _ _ _ (sym c.is_layer.ensures ∙ c.if-not-is_layer.true)

pub returns-then-eq : goal.returns-then-eq
returns-then-eq c =
    let six : answer_of c.check_element-named.result ≡ 6 = eqb-true _ _ (sym (is-6 c.check_element-named.result) ∙ sym c.eq.ensures ∙ c.if-eq.true) in
    rw six (wrap-6 _ _ _ _ (sym c.is_layer.ensures ∙ c.if-not-is_layer.false) _ c.check_element-named.ensures six)

pub overflow_sub-eight : goal.overflow_sub-eight
overflow_sub-eight c =
    let root = c.args.root.now in
    let eight = c.args.eight.now in
    let good = sym c.is_layer.ensures ∙ c.if-not-is_layer.false in
    let sizes = layer-lengths root eight good in
    omega (arith, sizes.1)

pub returns-then-eight-name : goal.returns-then-eight-name
returns-then-eight-name c =
    let root = c.args.root.now in
    let eight = c.args.eight.now in
    let good = sym c.is_layer.ensures ∙ c.if-not-is_layer.false in
    let sizes = layer-lengths root eight good in
    let six = eqb-false _ _ (sym (is-6 c.check_element-named.result) ∙ sym c.eq.ensures ∙ c.if-eq.false) in
    by-test (eqb (answer_of c.check_element-named.result) 7)
    (λ h. wrap-7 _ _ _ _ good _ c.check_element-named.ensures (eqb-true _ _ h))
    (λ h. wrap-long _ _ _ _ good _ c.check_element-named.ensures six (eqb-false _ _ h) sizes.1 c.if-eight-name.true)

pub returns-in_err-named : goal.returns-in_err-named
returns-in_err-named c =
    let root = c.args.root.now in
    let eight = c.args.eight.now in
    let good = sym c.is_layer.ensures ∙ c.if-not-is_layer.false in
    let sizes = layer-lengths root eight good in
    let six = eqb-false _ _ (sym (is-6 c.check_element-named.result) ∙ sym c.eq.ensures ∙ c.if-eq.false) in
    let p = err_from_is_err_and c.from_residual.result c.from_residual.ensures.1 in
    rw (p.1, p.2) (wrap-next _ _ _ _ good _ (sym (ap answer_of c.in_err-named.was) ∙ c.check_element-named.ensures) sizes.1 c.if-eight-name.false (λ z. six (ap answer_of c.in_err-named.was ∙ z)) (number-not-0 _))

pub overflow_add-root-2 : goal.overflow_add-root-2
overflow_add-root-2 c =
    let root = c.args.root.now in
    let eight = c.args.eight.now in
    let good = sym c.is_layer.ensures ∙ c.if-not-is_layer.false in
    let sizes = layer-lengths root eight good in
    record { fits = omega (arith, sizes, c.if-eight-name.false) }

pub returns-then-room-root : goal.returns-then-room-root
returns-then-room-root c =
    let root = c.args.root.now in
    let eight = c.args.eight.now in
    let good = sym c.is_layer.ensures ∙ c.if-not-is_layer.false in
    let sizes = layer-lengths root eight good in
    wrap-16 _ _ _ _ good 0 (sym (ap answer_of c.in_ok-named.was) ∙ c.check_element-named.ensures) sizes.1 c.if-eight-name.false (λ z. omega arith) (λ z. omega arith) (λ z. omega arith) c.if-room-root.true

pub returns : goal.returns
returns c =
    let root = c.args.root.now in
    let eight = c.args.eight.now in
    let good = sym c.is_layer.ensures ∙ c.if-not-is_layer.false in
    let sizes = layer-lengths root eight good in
    wrap-0 _ _ _ _ good 0 (sym (ap answer_of c.in_ok-named.was) ∙ c.check_element-named.ensures) sizes.1 c.if-eight-name.false (λ z. omega arith) (λ z. omega arith) (λ z. omega arith) sizes.0 c.if-room-root.false
