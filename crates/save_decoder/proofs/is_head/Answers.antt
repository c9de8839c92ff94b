use native.Mathlib.Omega.{arith}
use borrow.Author.Tests.{leb-true, leb-false}
use Rattle.meaning.specs.Card.{tree_limit}
use Rattle.save_decoder.proofs.Head.{no-save}
use Rattle.meaning.specs.Lists.{never}
use Rattle.save_decoder.proofs.is_head.Goals as goal

pub returns-then-base-lt-LEAST_LABEL : goal.returns-then-base-lt-LEAST_LABEL
returns-then-base-lt-LEAST_LABEL c = ((λ t. absurd (never t)), (λ _ f. no-save f _ (λ h. omega (arith, h.low, c.four_at-base.ensures))))

pub returns-then-base-gt-MOST_BASE : goal.returns-then-base-gt-MOST_BASE
returns-then-base-gt-MOST_BASE c = ((λ t. absurd (never t)), (λ _ f. no-save f _ (λ h. omega (arith, h.high, c.four_at-base.ensures))))

pub returns-then-at-gt-ROUTES : goal.returns-then-at-gt-ROUTES
returns-then-at-gt-ROUTES c = ((λ t. absurd (never t)), (λ _ f. no-save f _ (λ h. omega (arith, h.routes, c.at.ensures))))

pub returns-then-two_at-gt-LABELS : goal.returns-then-two_at-gt-LABELS
returns-then-two_at-gt-LABELS c = ((λ t. absurd (never t)), (λ _ f. no-save f _ (λ h. omega (arith, h.labels, c.two_at.ensures))))

pub returns : goal.returns
returns c =
    let the-four-at = c.four_at-base in
    let the_at = c.at in
    let b = the-four-at.ensures.0 in
    let r = the_at.ensures.0 in
    let t = c.at-2.ensures.0 in
    ((λ e. let k = leb-true c.at-2.result tree_limit e in (omega arith, omega arith, omega arith, omega arith)), (λ e f. no-save f _ (λ h. omega (arith, h.trees, leb-false c.at-2.result 64 e))))
