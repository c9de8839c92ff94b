use mathlib.Core.Path.{sym, ◌∙◌}
use Rattle.event_parted.proofs.Labels.{freed-this, freed-other}
use Rattle.event_parted.proofs.free_one.Goals as goal

pub returns-then-is_of : goal.returns-then-is_of
returns-then-is_of c =
    let the-is-of = c.is_of in
    let the-if1 = c.if-is_of in
    freed-this _ _ _ _ c.set_free.ensures.0 c.set_free.ensures.1 (sym the-is-of.ensures ∙ the-if1.true)

pub returns : goal.returns
returns c = freed-other _ _ _ (sym c.is_of.ensures ∙ c.if-is_of.false)
