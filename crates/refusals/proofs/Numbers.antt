-- No refusal has the number 0, which an accepted call is told. Assumes nothing.
use Rattle.std.specs.Prelude.{◌<◌, ◌≡◌}
use native.Mathlib.Omega.{arith}
use Rattle.refusals.specs.declared.Refusal.{Refusal}
use Rattle.refusals.specs.declared.Refusal.TheVariants.{NoSuchNeighbour, BadLength, BadType, TlvOverrun, BadTlvOrder, BadElement, BadOpaque, BadLabel, UnknownTlv, OtherLabel, TreesFull, LabelsShort, NotAwaited, NotALeaf, RootsFull, NoRoom, BadBase, MalformedOpaque, BadSave, SessionShort, BadNotice, LastLayer}
use Rattle.refusals.specs.Refusals.{number_of}

pub number-positive : (r : Refusal) → 0 < number_of r
number-positive NoSuchNeighbour = omega arith
number-positive BadLength = omega arith
number-positive BadType = omega arith
number-positive TlvOverrun = omega arith
number-positive BadTlvOrder = omega arith
number-positive BadElement = omega arith
number-positive BadOpaque = omega arith
number-positive BadLabel = omega arith
number-positive UnknownTlv = omega arith
number-positive OtherLabel = omega arith
number-positive TreesFull = omega arith
number-positive LabelsShort = omega arith
number-positive NotAwaited = omega arith
number-positive NotALeaf = omega arith
number-positive RootsFull = omega arith
number-positive NoRoom = omega arith
number-positive BadBase = omega arith
number-positive MalformedOpaque = omega arith
number-positive BadSave = omega arith
number-positive SessionShort = omega arith
number-positive BadNotice = omega arith
number-positive LastLayer = omega arith

pub number-not-0 : (r : Refusal) → number_of r ≡ 0 → ⊥
number-not-0 r h = omega (arith, number-positive r)
