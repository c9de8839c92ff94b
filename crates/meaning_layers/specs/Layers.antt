-- NAMES INSIDE NAMES (RFC 6512): a tree's name whose opaque value is one element of type 7 or 8 alone holds another name. A name is read layer by layer down to the innermost, wrapped, and unwrapped.
-- Assumes nothing.
use Rattle.std.specs.Prelude.{ℕ, zero, suc, ◌+◌, Bool, not, ◌&&◌, ◌||◌, List, [], ◌∷◌, ◌++◌, take, drop, get_or, length, eqb, ltb}
use Rattle.meaning.specs.Octets.{pick, two, two_at, ◌when◌else◌}
use Rattle.meaning.specs.Wire.{root_in, opaque_in, is_element, is_opaque, is_filled, element_refusal, element}
use Rattle.meaning.specs.Events.{not_root}

-- ---- one layer

-- RFC 6512: type 7 holds one P2MP element, type 8 eight octets and then one
abbrev pub plain_kind : ℕ
plain_kind = 7

abbrev pub eight_kind : ℕ
eight_kind = 8

-- either's head: type 1 octet, length 2
abbrev pub holder_head : ℕ
holder_head = 3

-- type 8's octets before the name: RFC 6512's route distinguisher, which is not read
abbrev pub eight_size : ℕ
eight_size = 8

-- how many octets stand before the name inside
unfoldable pub before_inner : List ℕ → ℕ
before_inner o = pick (eqb (get_or o 0 0) eight_kind) eight_size 0

unfoldable pub eight_in : List ℕ → List ℕ
eight_in o = take (before_inner o) (drop holder_head o)

unfoldable pub inner_in : List ℕ → List ℕ
inner_in o = drop (holder_head + before_inner o) o

-- an opaque value that is one element of type 7 or 8 alone, filled by one P2MP element that 6, 7 and 18 pass
unfoldable pub wraps : List ℕ → Bool
wraps o = (eqb (get_or o 0 0) plain_kind || eqb (get_or o 0 0) eight_kind) && eqb (length o) (holder_head + two_at o 1) && eqb (element_refusal (inner_in o)) 0

unfoldable pub is_last : List ℕ → Bool
is_last e = not (wraps (opaque_in e))

unfoldable pub inner_of : List ℕ → List ℕ
inner_of e = inner_in (opaque_in e)

-- what an outer layer adds: its root, and its eight octets or none
pub record Layer : Type 0 where
  pub root : List ℕ
  pub eight : List ℕ

unfoldable pub layer_of : List ℕ → Layer
layer_of e = record { root = root_in e; eight = eight_in (opaque_in e) }

-- ---- down to the innermost

-- the outer layers, the outermost first, and the innermost name
pub record Peeled : Type 0 where
  pub outer : List Layer
  pub core : List ℕ

unfoldable pub under : Layer → Peeled → Peeled
under l p = record { outer = l ∷ p.outer; core = p.core }

-- The name inside is shorter: the octets' number is enough of a count.
unfoldable pub peel_f : ℕ → List ℕ → Peeled
peel_f zero e = record { outer = []; core = e }
peel_f (suc f) e =
    let here : Peeled = record { outer = []; core = e } in
    let deeper = under (layer_of e) (peel_f f (inner_of e)) in
    pick (is_last e) here deeper

unfoldable pub peel : List ℕ → Peeled
peel e = peel_f (length e) e

-- what reading a name gives: the number of a refusal, or its layers
pub data Read : Type 0 where
  refused : ℕ → Read
  peeled : Peeled → Read

unfoldable pub read : List ℕ → Read
read e = pick (eqb (element_refusal e) 0) (peeled (peel e)) (refused (element_refusal e))

-- ---- wrapping: a root, eight octets or none, and a name

-- the opaque value that holds the name
unfoldable pub holding : List ℕ → List ℕ → List ℕ
holding eight name = pick (eqb (length eight) 0) plain_kind eight_kind ∷ (two (length (eight ++ name)) ++ (eight ++ name))

unfoldable pub family_of : List ℕ → ℕ
family_of root = pick (eqb (length root) 4) 1 2

unfoldable pub wrapped : List ℕ → List ℕ → List ℕ → List ℕ
wrapped root eight name = element (family_of root) root (holding eight name)

-- neither none nor eight octets
unfoldable pub not_eight : List ℕ → Bool
not_eight eight = not (eqb (length eight) 0 || eqb (length eight) eight_size)

-- 6: no name, no root, or another number of octets between; 7: an opaque value too long, inside or outside, or empty; 18; 16: output shorter than the name
unfoldable pub wrap_refusal : ℕ → List ℕ → List ℕ → List ℕ → ℕ
wrap_refusal room root eight name =
    6 when not (is_element name) || not_root root || not_eight eight else
    7 when not (is_opaque (opaque_in name)) || not (is_opaque (holding eight name)) else
    18 when not (is_filled (opaque_in name)) else
    16 when ltb room (length (wrapped root eight name)) else 0

-- what a call hands back: its answer and the octets; a refusal writes none
pub record Wrapped : Type 0 where
  pub answer : ℕ
  pub octets : List ℕ

unfoldable pub wrap : ℕ → List ℕ → List ℕ → List ℕ → Wrapped
wrap room root eight name =
    let n = wrap_refusal room root eight name in
    record { answer = n; octets = pick (eqb n 0) (wrapped root eight name) [] }

-- ---- unwrapping

-- 6, 7, 18; 22: the last layer; 16: output shorter than the name inside
unfoldable pub unwrap_refusal : ℕ → List ℕ → ℕ
unwrap_refusal room e =
    6 when not (is_element e) else
    7 when not (is_opaque (opaque_in e)) else
    18 when not (is_filled (opaque_in e)) else
    22 when is_last e else
    16 when ltb room (length (inner_of e)) else 0

-- the name inside, and the outer root and any eight octets
pub record Unwrapped : Type 0 where
  pub answer : ℕ
  pub octets : List ℕ
  pub layer : Layer

unfoldable pub no_layer : Layer
no_layer = record { root = []; eight = [] }

unfoldable pub unwrap : ℕ → List ℕ → Unwrapped
unwrap room e =
    let n = unwrap_refusal room e in
    record { answer = n; octets = pick (eqb n 0) (inner_of e) []; layer = pick (eqb n 0) (layer_of e) no_layer }

-- ---- many layers

-- the layers round a name, the outermost first
unfoldable pub wrap_all : List Layer → List ℕ → List ℕ
wrap_all [] a = a
wrap_all (l ∷ ls) a = wrapped l.root l.eight (wrap_all ls a)
