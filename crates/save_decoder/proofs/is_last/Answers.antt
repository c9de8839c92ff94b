-- `save_decoder::is_last` meets its contract. Assumes nothing.
use borrow.Author.Tests.{lt-leb}
use Rattle.save_decoder.proofs.Head.{last-not, last-in, last_out, last-low}
use mathlib.Core.Path.{sym, ◌∙◌}
use Rattle.meaning.specs.Lists.{never}
use Rattle.save_decoder.proofs.is_last.Goals as goal

pub returns-then-not-second : goal.returns-then-not-second
returns-then-not-second c = ((λ _ s. absurd (never (sym c.if-not-second.true ∙ s))), (λ t. absurd (never (sym t))))

pub returns-then-last-eq0 : goal.returns-then-last-eq0
returns-then-last-eq0 c = ((λ _ _ some. absurd (some (sym c.four_at-last.ensures.0 ∙ c.if-last-eq0.true))), (λ t. absurd (never (sym t))))

pub returns-then-base-last : goal.returns-then-base-last
returns-then-base-last c =
    ((λ t _. last-in _ _ _ _ c.four_at-base.ensures.0 c.four_at-last.ensures.0 c.if-base-last.true t), (λ t. last-not _ c.args.octets.now c.if-not-second.false (last_out _ _ _ _ c.four_at-base.ensures.0 c.four_at-last.ensures.0 c.if-last-eq0.false t)))

pub returns-else-base-last : goal.returns-else-base-last
returns-else-base-last c =
    ((λ t. absurd (never (sym (lt-leb _ _ c.if-base-last.false) ∙ t))), (λ _. last-not _ c.args.octets.now c.if-not-second.false (last-low _ _ _ _ c.four_at-base.ensures.0 c.four_at-last.ensures.0 c.if-last-eq0.false c.if-base-last.false)))
