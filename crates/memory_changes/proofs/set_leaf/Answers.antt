use mathlib.Core.Path.{◌≡◌, refl, ap, ◌∙◌}
use mathlib.Core.Bool.{Bool, true, false, not}
use lib.Dec.{eqb}
use mir.Val.{bool_byte}
use Rattle.memory.proofs.Trees.{set-leaf}
use Rattle.memory_changes.proofs.set_leaf.Goals as goal

-- read back, the number is the mark
read : (b : Bool) → not (eqb (bool_byte b) 0) ≡ b
read true = refl
read false = refl

pub returns : goal.returns
returns c = λ os.
    set-leaf c.args.numbers.now os c.args.i c.requires.0 c.requires.1.0 c.requires.1.1 c.from.result c.args.leaf (ap (λ v. not (eqb v 0)) c.from.ensures ∙ read c.args.leaf)
