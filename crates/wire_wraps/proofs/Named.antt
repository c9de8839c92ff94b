-- Whether a name was refused as no element. Assumes nothing.
use Rattle.std.specs.Prelude.{◌≡◌, eqb}
use mathlib.Core.Path.{refl}
use Rattle.std.specs.Result.{result_eq}
use Rattle.std.specs.declared.result.Result.{Result}
use Rattle.std.specs.declared.result.Result.TheVariants.{Ok, Err}
use Rattle.std.specs.contracts.prelude.UnitPartialEq.TheImpl as unit_eq
use Rattle.refusals.specs.contracts.RefusalPartialEq.TheImpl as refusal_eq
use Rattle.refusals.specs.declared.Refusal.{Refusal}
use Rattle.refusals.specs.declared.Refusal.TheVariants.{NoSuchNeighbour, BadLength, BadType, TlvOverrun, BadTlvOrder, BadElement, BadOpaque, BadLabel, UnknownTlv, OtherLabel, TreesFull, LabelsShort, NotAwaited, NotALeaf, RootsFull, NoRoom, BadBase, MalformedOpaque, BadSave, SessionShort, BadNotice, LastLayer}
use Rattle.refusals.specs.Refusals.{answer_of}

pub is-6 : (r : Result (Unit {0}) Refusal) → result_eq (unit_eq.eq-value).it (refusal_eq.eq-value).it r (Err BadElement) ≡ eqb (answer_of r) 6
is-6 (Ok u) = refl
is-6 (Err NoSuchNeighbour) = refl
is-6 (Err BadLength) = refl
is-6 (Err BadType) = refl
is-6 (Err TlvOverrun) = refl
is-6 (Err BadTlvOrder) = refl
is-6 (Err BadElement) = refl
is-6 (Err BadOpaque) = refl
is-6 (Err BadLabel) = refl
is-6 (Err UnknownTlv) = refl
is-6 (Err OtherLabel) = refl
is-6 (Err TreesFull) = refl
is-6 (Err LabelsShort) = refl
is-6 (Err NotAwaited) = refl
is-6 (Err NotALeaf) = refl
is-6 (Err RootsFull) = refl
is-6 (Err NoRoom) = refl
is-6 (Err BadBase) = refl
is-6 (Err MalformedOpaque) = refl
is-6 (Err BadSave) = refl
is-6 (Err SessionShort) = refl
is-6 (Err BadNotice) = refl
is-6 (Err LastLayer) = refl
