-- What `proofs/LayerLaws` speaks of.
-- Assumes nothing.
use Prim.Native.Nat.{ℕ, ◌+◌, ◌≤◌}
use Rattle.std.specs.Prelude.{◌≡◌, true, false, ◌||◌, eqb}
use mathlib.Core.List.{List}
use Rattle.std.proofs.Math.ListN.{get_or, length}
use Rattle.meaning.specs.Octets.{two_at}
use Rattle.meaning.specs.Wire.{is_opaque, element_refusal}
use Rattle.meaning.specs.Events.{not_root}
use Rattle.meaning_layers.specs.Layers.{plain_kind, eight_kind, inner_in, is_last, inner_of, holding, wrapped, not_eight}

-- the shortest name: six octets of the element's own, a root of four, and an element of the opaque value, which has a head of three
abbrev pub least_name : ℕ
least_name = 6 + 4 + 3

-- ---- wrapping

pub record Wrappable (room : ℕ) (root eight name : List ℕ) : Type 0 where
  pub its : element_refusal name ≡ 0
  pub rooted : not_root root ≡ false
  pub eights : not_eight eight ≡ false
  pub sized : is_opaque (holding eight name) ≡ true
  pub fits : length (wrapped root eight name) ≤ room

-- ---- unwrapping

-- what `wraps` says of an opaque value
pub record Wraps (o : List ℕ) : Type 0 where
  pub kind : (eqb (get_or o 0 0) plain_kind || eqb (get_or o 0 0) eight_kind) ≡ true
  pub alone : length o ≡ 3 + two_at o 1
  pub inner : element_refusal (inner_in o) ≡ 0

pub record Unwrappable (room : ℕ) (e : List ℕ) : Type 0 where
  pub its : element_refusal e ≡ 0
  pub more : is_last e ≡ false
  pub fits : length (inner_of e) ≤ room
