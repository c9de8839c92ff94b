-- What is read of a name's layers, as C gets it: a number, a count, and four fields of one layer. Assumes nothing.
use Rattle.std.specs.Prelude.{ℕ, suc, List, [], ◌∷◌, length, eqb, ltb}
use Rattle.meaning.specs.Octets.{pick, ◌when◌else◌}
use Rattle.meaning_layers.specs.Layers.{is_last, layer_of, Read, refused, peeled, read}
use Rattle.meaning_layers.specs.LayerCalls.{below}
use Rattle.meaning_layers.specs.InnerStart.{inner_start, layer_start}

-- the refusal's number, or 0
unfoldable pub answer_of : Read → ℕ
answer_of (refused number) = number
answer_of (peeled p) = 0

-- how many layers, the innermost counted; none of octets that are refused
unfoldable pub count_of : Read → ℕ
count_of (refused number) = 0
count_of (peeled p) = suc (length p.outer)

-- of the layer so many down, 0 the outermost: the refusal's number; 22 where none lies so far down, so that unwrapping as often would be refused; or 0
unfoldable pub layer_answer : ℕ → Read → ℕ
layer_answer down (refused number) = number
layer_answer down (peeled p) = 22 when ltb (length p.outer) down else 0

-- what the outermost layer of a name has: octets of its root, its eight octets or none, and where the name inside begins; both are 0 for a last layer
unfoldable pub layer_fields : List ℕ → List ℕ
layer_fields e = length (layer_of e).root ∷ pick (is_last e) 0 (length (layer_of e).eight) ∷ inner_start e ∷ []

-- where the layer begins, and what it has; refused octets leave the fields as they were
unfoldable pub fields_of : ℕ → List ℕ → List ℕ → List ℕ
fields_of down e before = pick (eqb (layer_answer down (read e)) 0) (layer_start down e ∷ layer_fields (below down e)) before
