-- `notice_status::status_of` meets its contract: each arm by its number, and any other number by what it is not. Assumes nothing.
use mathlib.Core.Path.{refl}
use native.Mathlib.Omega.{arith}
use Rattle.meaning.specs.Octets.{◌when◌else◌}
use Rattle.meaning.specs.Notice.{status_of}
use Rattle.notice_status.proofs.Status.{status-at, status-pair, status-none, status-few, status-ten, status-high}
use Rattle.notice_status.proofs.status_of.Goals as goal

pub returns-in-2 : goal.returns-in-2
unfolding status_of ◌when◌else◌
returns-in-2 c =
    status-at c.args.number 2 _ (omega arith) refl (omega arith)

pub returns-in-3 : goal.returns-in-3
unfolding status_of ◌when◌else◌
returns-in-3 c =
    status-at c.args.number 3 _ (omega arith) refl (omega arith)

pub returns-in-4 : goal.returns-in-4
unfolding status_of ◌when◌else◌
returns-in-4 c =
    status-at c.args.number 4 _ (omega arith) refl (omega arith)

pub returns-in-5 : goal.returns-in-5
unfolding status_of ◌when◌else◌
returns-in-5 c =
    status-at c.args.number 5 _ (omega arith) refl (omega arith)

pub returns-in-8 : goal.returns-in-8
unfolding status_of ◌when◌else◌
returns-in-8 c =
    status-at c.args.number 8 _ (omega arith) refl (omega arith)

pub returns-in-9 : goal.returns-in-9
unfolding status_of ◌when◌else◌
returns-in-9 c =
    status-at c.args.number 9 _ (omega arith) refl (omega arith)

pub returns-in-11 : goal.returns-in-11
unfolding status_of ◌when◌else◌
returns-in-11 c =
    status-pair c.args.number 11 _ (omega arith) (omega arith) refl refl (omega arith)

pub returns-in_default : goal.returns-in_default
returns-in_default c = status-none _ (λ e. omega arith) (λ e. omega arith) (λ e. omega arith) (λ e. omega arith) (λ e. omega arith) (λ e. omega arith) (λ e. omega arith) (λ e. omega arith) (λ e. omega arith) (λ e. omega arith) (λ e. omega arith)

pub returns-in_default-2 : goal.returns-in_default-2
returns-in_default-2 c =
    let other = c.in_default.in_default-own.rest in
    status-ten _ c.in_default.if-number-lt8-own.false c.in_default.if-number-lt11-own.true other.0.1 other.1

pub returns-in_default-3 : goal.returns-in_default-3
returns-in_default-3 c = status-high _ c.in_default.if-number-lt13-own.false c.in_default.in_default-own.rest.0.0.1

pub returns-in-6 : goal.returns-in-6
unfolding status_of ◌when◌else◌
returns-in-6 c =
    status-at c.args.number 18 _ (omega arith) refl (omega arith)

pub returns-in-6-2 : goal.returns-in-6-2
returns-in-6-2 c =
    let other = c.in-6.in_default-own.rest in
    status-few _ c.in-6.if-number-lt2-own.false c.in-6.if-number-lt8-own.true other.0.0.0.0.0.0.1 other.0.0.0.0.0.1 other.0.0.0.0.1 other.0.0.0.1
