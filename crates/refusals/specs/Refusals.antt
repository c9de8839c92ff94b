-- The number of each refusal, and what a caller is told who gets a number and a count. Assumes nothing.
use Rattle.std.specs.Prelude.{ℕ}
use Rattle.std.specs.declared.result.Result.{Result}
use Rattle.std.specs.declared.result.Result.TheVariants.{Ok, Err}
use Rattle.refusals.specs.declared.Refusal.{Refusal}
use Rattle.refusals.specs.declared.Refusal.TheVariants.{NoSuchNeighbour, BadLength, BadType, TlvOverrun, BadTlvOrder, BadElement, BadOpaque, BadLabel, UnknownTlv, OtherLabel, TreesFull, LabelsShort, NotAwaited, NotALeaf, RootsFull, NoRoom, BadBase, MalformedOpaque, BadSave, SessionShort, BadNotice, LastLayer}

-- the paper's number
abbrev pub number_of : Refusal → ℕ
number_of NoSuchNeighbour = 1
number_of BadLength = 2
number_of BadType = 3
number_of TlvOverrun = 4
number_of BadTlvOrder = 5
number_of BadElement = 6
number_of BadOpaque = 7
number_of BadLabel = 8
number_of UnknownTlv = 9
number_of OtherLabel = 10
number_of TreesFull = 11
number_of LabelsShort = 12
number_of NotAwaited = 13
number_of NotALeaf = 14
number_of RootsFull = 15
number_of NoRoom = 16
number_of BadBase = 17
number_of MalformedOpaque = 18
number_of BadSave = 19
number_of SessionShort = 20
number_of BadNotice = 21
number_of LastLayer = 22

-- what the caller is told: 0, or the refusal's number
abbrev pub answer_of : {A : Type 0} → Result A Refusal → ℕ
answer_of (Ok _) = 0
answer_of (Err refusal) = number_of refusal

-- how many octets were written: none where the call was refused
abbrev pub count_of : Result ℕ Refusal → ℕ
count_of (Ok count) = count
count_of (Err _) = 0
