use mathlib.Core.Path.{refl}
use Rattle.save_tags.proofs.tree_hints.Goals as goal

pub loop-i-init : goal.loop-i-init
loop-i-init c = refl

pub shape_of-hints : goal.shape_of-hints
shape_of-hints c = c.loop-i.invariant
