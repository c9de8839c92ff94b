-- `session_look::look_head` meets its contract: each return's tests are those of one law. Assumes nothing.
use native.Mathlib.Omega.{arith}
use mathlib.Core.Path.{sym, ◌∙◌}
use Rattle.session_look.proofs.Looks.{head-none, head-version, head-two, head-low, head-high, head-four, head-whole, head-other}
use Rattle.session_look.proofs.look_head.Goals as goal

pub returns-then-held-lt2 : goal.returns-then-held-lt2
returns-then-held-lt2 c = head-none _ _ c.if-held-lt2.true

pub returns-then-two_at-ne1 : goal.returns-then-two_at-ne1
returns-then-two_at-ne1 c = head-version _ _ (omega arith) (λ e. omega arith)

pub returns-then-held-lt4 : goal.returns-then-held-lt4
returns-then-held-lt4 c = head-two _ _ (omega arith) (omega arith) (omega arith)

pub returns-then-k-lt-LEAST_LENGTH : goal.returns-then-k-lt-LEAST_LENGTH
returns-then-k-lt-LEAST_LENGTH c = head-low _ _ (omega arith) (omega arith) (omega arith) (omega arith)

pub returns-then-k-gt-MOST_LENGTH : goal.returns-then-k-gt-MOST_LENGTH
returns-then-k-gt-MOST_LENGTH c = head-high _ _ (omega arith) (omega arith) (omega arith) (omega arith)

pub returns-then-held-lt-PDU_HEAD : goal.returns-then-held-lt-PDU_HEAD
returns-then-held-lt-PDU_HEAD c = head-four _ _ (omega arith) (omega arith) (omega arith) (omega arith) (omega arith) (omega arith)

pub returns-then-equal : goal.returns-then-equal
returns-then-equal c = head-whole _ _ (omega arith) (omega arith) (omega arith) (omega arith) (omega arith) (omega arith) _ (omega arith) (sym c.equal.ensures ∙ c.if-equal.true)

pub returns : goal.returns
returns c = head-other _ _ (omega arith) (omega arith) (omega arith) (omega arith) (omega arith) (omega arith) (sym c.equal.ensures ∙ c.if-equal.false)
