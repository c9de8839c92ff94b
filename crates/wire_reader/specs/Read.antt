-- What stands at a place of a message, and what the answer of `read_message` says. Assumes nothing.
use Rattle.std.specs.Prelude.{ℕ, ◌+◌, ◌-◌, ◌≤◌, ◌<◌, ◌≡◌, false, not, List, ◌∷◌, length, take, drop, ltb, eqb}
use Rattle.std.specs.declared.option.Option.{Option}
use Rattle.std.specs.declared.option.Option.TheVariants.{None, Some}
use Rattle.std.specs.declared.result.Result.{Result}
use Rattle.std.specs.declared.result.Result.TheVariants.{Ok, Err}
use Rattle.meaning.specs.Octets.{pick, two_at, four_at, ◌when◌else◌}
use Rattle.meaning.specs.Wire.{tlvs, is_overrun, found, body_of, is_sized, is_kind, is_label, message_refusal, message_in, mapping, withdraw, release}
use Rattle.refusals.specs.declared.Refusal.{Refusal}
use Rattle.refusals.specs.Refusals.{number_of}
use Rattle.wire_reader.specs.declared.Tlv.{Tlv}
use Rattle.wire_reader.specs.declared.Tlv.TheVariants.{Whole, End, Past}
use Rattle.wire_reader.specs.declared.Kind.{Kind}
use Rattle.wire_reader.specs.declared.Kind.TheVariants.{Mapping, Withdraw, Release}
use Rattle.wire_reader.specs.declared.Said.{Said}

-- past the last octet: End; a head or a value that runs past the message: Past; else the whole TLV, with its type field and the ends of its value
abbrev pub tlv_at : List ℕ → ℕ → Tlv
tlv_at m at =
    pick (ltb at (length m))
    (pick (ltb (length m) (at + 4)) Past
    (pick (ltb (length m) (at + 4 + two_at m (at + 2))) Past
    (Whole (two_at m at) (at + 4) (at + 4 + two_at m (at + 2)))))
    End

-- the message type of a kind
abbrev pub type_of : Kind → ℕ
type_of Mapping = mapping
type_of Withdraw = withdraw
type_of Release = release

-- the kind of a message type, if there is one
abbrev pub kind_of : ℕ → Option Kind
kind_of k = pick (eqb k mapping) (Some Mapping) (pick (eqb k withdraw) (Some Withdraw) (pick (eqb k release) (Some Release) None))

-- A refused message has its number. Of any other the answer says what `message_in` says; its name is the FEC's value, which starts at 12.
abbrev pub Reads : List ℕ → Result Said Refusal → Type 0
Reads s (Err refusal) = (number_of refusal ≡ message_refusal s) × (0 < number_of refusal)
Reads s (Ok said) =
    (message_refusal s ≡ 0)
    × (message_in s ≡ record { kind = type_of said.kind; name = take (said.end - said.start) (drop said.start s); label = said.label })
    × (said.start ≡ 12) × (said.start ≤ said.end) × (said.end ≤ length s)

-- where the value of a TLV of a given type ends; none for anything else
abbrev pub end_of : ℕ → Tlv → Option ℕ
end_of k (Whole kind start end) = pick (eqb kind k) (Some end) None
end_of k End = None
end_of k Past = None

-- the label of a Label TLV's value; none for anything else
unfoldable pub label_in : List ℕ → Option ℕ
label_in v = pick (is_label v) (Some (four_at v 0)) None

-- 2, 3, 4, or 0
unfoldable pub head_refusal : List ℕ → ℕ
head_refusal s = 2 when not (is_sized s) else 3 when not (is_kind (two_at s 0)) else 4 when is_overrun (tlvs (drop 8 s)) else 0

-- 2, 3 and 4 do not apply, and the type is the kind's; or the first of them that does
abbrev pub Heads : List ℕ → Result Kind Refusal → Type 0
Heads s (Ok kind) = (head_refusal s ≡ 0) × (type_of kind ≡ two_at s 0)
Heads s (Err refusal) = number_of refusal ≡ head_refusal s

-- 2 to 5 do not apply: the FEC's value ends at `fec` and the Label's at `label`, and whole TLVs follow
pub record Ordered (s : List ℕ) (fec label : ℕ) : Type 0 where
  pub head : head_refusal s ≡ 0
  pub body : body_of s ≡
      record { type_field = 0x0100; value = take (fec - 12) (drop 12 s) }
      ∷ record { type_field = 0x0200; value = take (label - (fec + 4)) (drop (fec + 4) s) }
      ∷ found (tlvs (drop label s))
  pub framed : is_overrun (tlvs (drop label s)) ≡ false
  pub low : 12 ≤ fec
  pub high : fec + 4 ≤ label
  pub within : label ≤ length s
