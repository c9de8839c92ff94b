use mathlib.Core.Path.{sym, ap, ◌∙◌}
use Rattle.meaning.specs.Events.{labels_short}
use Rattle.event_holder.proofs.Sizes.{short_none, need-same, need-other, need-none, need-one}
use Rattle.event_holder.proofs.no_label_for.Goals as goal

pub returns-then-held_for-u : goal.returns-then-held_for-u
returns-then-held_for-u c = λ os. short_none _ _ (need-same _ _ _ (sym (c.held_for.ensures.0 os) ∙ c.if-held_for-u.true))

pub returns-then-u-eq-NOBODY : goal.returns-then-u-eq-NOBODY
returns-then-u-eq-NOBODY c =
    λ os. short_none _ _ (need-other _ _ _ (λ z. c.if-held_for-u.false (c.held_for.ensures.0 os ∙ z)) ∙ need-none _ c.if-u-eq-NOBODY.true)

pub returns : goal.returns
returns c =
    λ os. c.none_free.ensures os ∙ ap (labels_short _) (sym (need-other _ _ _ (λ z. c.if-held_for-u.false (c.held_for.ensures.0 os ∙ z)) ∙ need-one _ c.if-u-eq-NOBODY.false))
