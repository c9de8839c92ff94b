use mathlib.Core.Path.{◌∙◌}
use mathlib.Core.Logic.{inl, inr}
use Rattle.card.proofs.Calls.{starts-low, starts-high, starts}
use Rattle.card.proofs.start.Goals as goal

pub returns-then-first-gt-MOST_BASE : goal.returns-then-first-gt-MOST_BASE
returns-then-first-gt-MOST_BASE c =
    elim c.if-first-gt-MOST_BASE.either [
      | inl low ↦ let s = starts-low _ low in (c.number.ensures ∙ s.0, λ os. c.start_fresh.ensures os ∙ s.1)
      | inr past ↦ let s = starts-high _ past.1 in (c.number.ensures ∙ s.0, λ os. c.start_fresh.ensures os ∙ s.1)
    ]

pub returns-else-first-gt-MOST_BASE : goal.returns-else-first-gt-MOST_BASE
returns-else-first-gt-MOST_BASE c =
    let within = c.if-first-gt-MOST_BASE.false in
    let s = starts _ within.0 within.1 in (s.0, λ os. c.start_fresh-else-first-gt-MOST_BASE.ensures os ∙ s.1)
