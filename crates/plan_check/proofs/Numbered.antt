-- An answer is known by its number: no two refusals have one. Assumes nothing.
use Rattle.std.specs.Prelude.{ℕ, ◌-◌, ◌≡◌, refl, List, [], ◌∷◌, get_or}
use Rattle.std.proofs.Common.{sym, ap, ◌∙◌}
use Rattle.std.specs.declared.result.Result.{Result}
use Rattle.std.specs.declared.result.Result.TheVariants.{Ok, Err}
use Rattle.refusals.specs.declared.Refusal.{Refusal}
use Rattle.refusals.specs.declared.Refusal.TheVariants.{NoSuchNeighbour, BadLength, BadType, TlvOverrun, BadTlvOrder, BadElement, BadOpaque, BadLabel, UnknownTlv, OtherLabel, TreesFull, LabelsShort, NotAwaited, NotALeaf, RootsFull, NoRoom, BadBase, MalformedOpaque, BadSave, SessionShort, BadNotice, LastLayer}
use Rattle.refusals.specs.Refusals.{number_of}
use Rattle.plan_check.specs.Verdict.{numbered}

abbrev refusals : List Refusal
refusals =
    NoSuchNeighbour ∷ BadLength ∷ BadType ∷ TlvOverrun ∷ BadTlvOrder ∷ BadElement ∷ BadOpaque ∷ BadLabel ∷ UnknownTlv ∷ OtherLabel ∷ TreesFull ∷ LabelsShort ∷ NotAwaited ∷ NotALeaf ∷ RootsFull ∷ NoRoom ∷ BadBase ∷ MalformedOpaque ∷ BadSave ∷ SessionShort ∷ BadNotice ∷ LastLayer ∷ []

abbrev refusal_at : ℕ → Refusal
refusal_at n = get_or refusals (n - 1) NoSuchNeighbour

number-back : (r : Refusal) → refusal_at (number_of r) ≡ r
number-back NoSuchNeighbour = refl
number-back BadLength = refl
number-back BadType = refl
number-back TlvOverrun = refl
number-back BadTlvOrder = refl
number-back BadElement = refl
number-back BadOpaque = refl
number-back BadLabel = refl
number-back UnknownTlv = refl
number-back OtherLabel = refl
number-back TreesFull = refl
number-back LabelsShort = refl
number-back NotAwaited = refl
number-back NotALeaf = refl
number-back RootsFull = refl
number-back NoRoom = refl
number-back BadBase = refl
number-back MalformedOpaque = refl
number-back BadSave = refl
number-back SessionShort = refl
number-back BadNotice = refl
number-back LastLayer = refl

abbrev refused_at : {A : Type 0} → Result A ℕ → Result A Refusal
refused_at (Ok value) = Ok value
refused_at (Err number) = Err (refusal_at number)

numbered-back : {A : Type 0} (r : Result A Refusal) → refused_at (numbered r) ≡ r
numbered-back (Ok value) = refl
numbered-back (Err refusal) = ap Err (number-back refusal)

pub numbered-one : {A : Type 0} (r q : Result A Refusal) → numbered r ≡ numbered q → r ≡ q
numbered-one r q h = sym (numbered-back r) ∙ ap refused_at h ∙ numbered-back q
