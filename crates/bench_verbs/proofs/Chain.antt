-- A chain of tests, as the code goes along it. Assumes nothing.
use mathlib.Core.Path.{◌≡◌, sym, ◌∙◌}
use mathlib.Core.Bool.{Bool, true, false}
use Rattle.meaning.specs.Octets.{pick}
use Rattle.bench_verbs.specs.declared.Verb.{Verb}

pub found : {b r : Bool} (v w : Verb) → r ≡ b → r ≡ true → v ≡ pick b v w
found v w e h = rw (sym e ∙ h)

pub passed : {b r : Bool} {u w : Verb} (v : Verb) → r ≡ b → r ≡ false → u ≡ w → u ≡ pick b v w
passed v e h k = rw (sym e ∙ h) k
