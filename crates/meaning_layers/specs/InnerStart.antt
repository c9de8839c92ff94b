-- What `proofs/InnerStart` speaks of.
-- Assumes nothing.
use Rattle.std.specs.Prelude.{ℕ, zero, suc, ◌+◌, List}
use Rattle.std.proofs.Math.ListN.{length}
use Rattle.meaning.specs.Octets.{pick}
use Rattle.meaning.specs.Wire.{root_length, opaque_in}
use Rattle.meaning_layers.specs.Layers.{before_inner, is_last, inner_of, peel}

-- 9 octets and the root, or 17; 0 for a last layer
unfoldable pub inner_start : List ℕ → ℕ
inner_start e = pick (is_last e) 0 (9 + root_length e + before_inner (opaque_in e))

-- how many layers: the innermost counts
unfoldable pub layer_count : List ℕ → ℕ
layer_count e = suc (length (peel e).outer)

-- ---- any layer, by its number from the outside: 0 is the outermost

-- where in a name's octets the name so many layers down begins; behind its end where there is none
unfoldable pub layer_start : ℕ → List ℕ → ℕ
layer_start zero e = 0
layer_start (suc i) e = let deeper = inner_start e + layer_start i (inner_of e) in pick (is_last e) (length e) deeper
