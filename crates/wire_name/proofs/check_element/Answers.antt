-- `wire_name::check_element` meets its contract: each return's tests are those of one law of `WireLaws`.
-- Assumes nothing.
use native.Mathlib.Omega.{arith}
use mathlib.Core.Path.{sym}
use Rattle.meaning_laws.specs.WireLaws.{element-kind, element-family, element-length, element-fill, element-whole, element-7, element-18, element-0, opaque-length, opaque-none, opaque-long, opaque-right}
use Rattle.wire_name.proofs.Name.{opaque-at, filled_in}
use Rattle.wire_name.proofs.check_element.Goals as goal

pub returns-then-at-ne6 : goal.returns-then-at-ne6
returns-then-at-ne6 c = sym (element-kind _ (λ h. omega arith))

pub returns-then-n-eq0 : goal.returns-then-n-eq0
returns-then-n-eq0 c = sym (element-family _ (omega arith))

pub returns-then-at-n : goal.returns-then-at-n
returns-then-at-n c = sym (element-length _ (λ h. omega arith))

pub returns-then-e-n : goal.returns-then-e-n
returns-then-e-n c =
    let the-root-length = c.root_length-n in
    let k = opaque-at _ _ _ the-root-length.ensures.0 c.two_at-k.ensures.0 in
    sym (element-fill _ (λ h. omega arith))

pub returns-then-k-eq0 : goal.returns-then-k-eq0
returns-then-k-eq0 c =
    let the-root-length = c.root_length-n in
    let k = opaque-at _ _ _ the-root-length.ensures.0 c.two_at-k.ensures.0 in
    sym (element-7 _ (element-whole _ (omega arith) (omega arith) (omega arith) (omega arith)) (opaque-none _ _ (opaque-length _ (omega arith)) (omega arith)))

pub returns-then-k-gt-OPAQUE_LIMIT : goal.returns-then-k-gt-OPAQUE_LIMIT
returns-then-k-gt-OPAQUE_LIMIT c =
    let the-root-length = c.root_length-n in
    let k = opaque-at _ _ _ the-root-length.ensures.0 c.two_at-k.ensures.0 in
    sym (element-7 _ (element-whole _ (omega arith) (omega arith) (omega arith) (omega arith)) (opaque-long _ _ (opaque-length _ (omega arith)) (omega arith)))

pub returns-then-is_filled : goal.returns-then-is_filled
returns-then-is_filled c =
    let the-root-length = c.root_length-n in
    let the-two-at = c.two_at-k in
    let root = the-root-length.ensures.0 in
    let k = opaque-at _ _ _ root the-two-at.ensures.0 in
    sym (element-0 _ (element-whole _ (omega arith) (omega arith) (omega arith) (omega arith)) (opaque-right _ _ (opaque-length _ (omega arith)) (omega arith) (omega arith)) (filled_in _ _ _ _ root c.is_filled.ensures c.if-is_filled.true))

pub returns : goal.returns
returns c =
    let the-root-length = c.root_length-n in
    let the-two-at = c.two_at-k in
    let root = the-root-length.ensures.0 in
    let k = opaque-at _ _ _ root the-two-at.ensures.0 in
    sym (element-18 _ (element-whole _ (omega arith) (omega arith) (omega arith) (omega arith)) (opaque-right _ _ (opaque-length _ (omega arith)) (omega arith) (omega arith)) (filled_in _ _ _ _ root c.is_filled.ensures c.if-is_filled.false))
