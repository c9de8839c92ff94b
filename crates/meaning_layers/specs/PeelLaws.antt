-- What `proofs/PeelLaws` speaks of.
-- Assumes nothing.
use Rattle.std.specs.Prelude.{ℕ, ◌+◌, ◌-◌, ◌/◌, length}
use mathlib.Core.List.{List, [], ◌∷◌}
use Rattle.meaning.specs.Wire.{opaque_limit}
use Rattle.meaning_layers.specs.Layers.{Layer, wrap_all}
use Rattle.meaning_layers.specs.LayerLaws.{least_name, Wrappable}

-- layers that can be put round a name, one after the other
unfoldable pub Fits : List Layer → List ℕ → Type 0
Fits [] a = Unit {0}
Fits (l ∷ ls) a = Wrappable (length (wrap_all (l ∷ ls) a)) l.root l.eight (wrap_all ls a) × Fits ls a

-- the most layers: a name stands within an opaque value behind a head of three octets, and each layer below takes a shortest name at least
abbrev pub layer_limit : ℕ
layer_limit = 1 + (opaque_limit - 3) / least_name
