-- `notice_status::is_status` meets its contract: by the eight numbers. Assumes nothing.
use mathlib.Core.Logic.{inl, inr}
use native.Mathlib.Omega.{arith}
use Rattle.notice_status.proofs.Status.{known-low, known-high, not_known}
use Rattle.notice_status.proofs.is_status.Goals as goal

pub returns-in_default : goal.returns-in_default
returns-in_default c = not_known _ (λ e. omega arith) (λ e. omega arith) (λ e. omega arith) (λ e. omega arith) (λ e. omega arith) (λ e. omega arith) (λ e. omega arith) (λ e. omega arith)

pub returns-in_default-2 : goal.returns-in_default-2
returns-in_default-2 c =
    let rest = c.in_default.in_default-own.rest in
    not_known _ (λ e. omega arith) (λ e. omega arith) (λ e. omega arith) (λ e. omega arith) (λ e. omega arith) (λ e. rest.1 (inl e)) (λ e. rest.1 (inr (inl e))) (λ e. rest.1 (inr (inr e)))

pub returns-in-4 : goal.returns-in-4
returns-in-4 c = known-high _ c.in-4.is

pub returns-in-4-2 : goal.returns-in-4-2
returns-in-4-2 c = known-low _ (omega arith) (omega arith)
