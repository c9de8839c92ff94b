-- Examples of layers, as one table for each call of which one test is computed.
-- Assumes nothing.
use Rattle.std.specs.Prelude.{ℕ, zero, suc, List, [], ◌∷◌, ◌++◌, length, replicate}
use Rattle.meaning.specs.Octets.{pick, same, two}
use Rattle.meaning.specs.Wire.{element}
use Rattle.meaning.specs.Computing.{computing}
use Rattle.meaning.specs.Examples.{NoneWrong, A}
use Rattle.meaning_layers.specs.Layers.{before_inner, eight_in, inner_in, wraps, is_last, inner_of, Layer, layer_of, under, peel_f, peel, Read, refused, peeled, read, holding, family_of, wrapped, not_eight, wrap_refusal, wrap, unwrap_refusal, no_layer, unwrap}

-- ---- rows

-- what came out as numbers, against those that should
pub record Row : Type 0 where
  pub came : List ℕ
  pub should : List ℕ

unfoldable pub wrong : ℕ → List Row → List ℕ
wrong n [] = []
wrong n (r ∷ rs) = let later = wrong (suc n) rs in let here = n ∷ later in pick (same r.came r.should) later here

-- octets behind their number
abbrev pub framed : List ℕ → List ℕ
framed o = length o ∷ o

unfoldable pub flat_layers : List Layer → List ℕ
flat_layers [] = []
flat_layers (l ∷ ls) = framed l.root ++ (framed l.eight ++ flat_layers ls)

-- reading: the refusal's number alone; or 0, the outer layers, and the innermost name
unfoldable pub flat_read : Read → List ℕ
flat_read (refused n) = n ∷ []
flat_read (peeled p) = 0 ∷ (flat_layers p.outer ++ framed p.core)

abbrev pub reads : List ℕ → List Layer → List ℕ → Row
reads e ls a = record { came = flat_read (read e); should = 0 ∷ (flat_layers ls ++ framed a) }

abbrev pub is_refused : List ℕ → ℕ → Row
is_refused e n = record { came = flat_read (read e); should = n ∷ [] }

abbrev pub layer : List ℕ → List ℕ → Layer
layer r d = record { root = r; eight = d }

-- wrapping and unwrapping: the answer, and the octets (with the layer)
abbrev pub wrapping : ℕ → List ℕ → List ℕ → List ℕ → ℕ → List ℕ → Row
wrapping room r d a n o = record { came = (wrap room r d a).answer ∷ (wrap room r d a).octets; should = n ∷ o }

abbrev pub unwrapping : ℕ → List ℕ → ℕ → List ℕ → Layer → Row
unwrapping room e n o l = record { came = (unwrap room e).answer ∷ (framed (unwrap room e).octets ++ flat_layers ((unwrap room e).layer ∷ [])); should = n ∷ (framed o ++ flat_layers (l ∷ [])) }

-- ---- names

-- document 01's tree A is the name inside; the outer roots
abbrev pub P : List ℕ
P = 198 ∷ 51 ∷ 100 ∷ 1 ∷ []

abbrev pub Q : List ℕ
Q = 32 ∷ 1 ∷ 13 ∷ 184 ∷ 0 ∷ 0 ∷ 0 ∷ 0 ∷ 0 ∷ 0 ∷ 0 ∷ 0 ∷ 0 ∷ 0 ∷ 0 ∷ 9 ∷ []

-- a route distinguisher
abbrev pub RD : List ℕ
RD = 0 ∷ 0 ∷ 253 ∷ 232 ∷ 0 ∷ 0 ∷ 0 ∷ 5 ∷ []

-- A in P, by type 7: octet by octet
unfoldable pub in_p : List ℕ
in_p = 6 ∷ 0 ∷ 1 ∷ 4 ∷ 198 ∷ 51 ∷ 100 ∷ 1 ∷ 0 ∷ 20 ∷ 7 ∷ 0 ∷ 17 ∷ 6 ∷ 0 ∷ 1 ∷ 4 ∷ 192 ∷ 0 ∷ 2 ∷ 1 ∷ 0 ∷ 7 ∷ 1 ∷ 0 ∷ 4 ∷ 0 ∷ 0 ∷ 0 ∷ 7 ∷ []

-- A in Q, by type 8
unfoldable pub in_q : List ℕ
in_q = 6 ∷ 0 ∷ 2 ∷ 16 ∷ 32 ∷ 1 ∷ 13 ∷ 184 ∷ 0 ∷ 0 ∷ 0 ∷ 0 ∷ 0 ∷ 0 ∷ 0 ∷ 0 ∷ 0 ∷ 0 ∷ 0 ∷ 9 ∷ 0 ∷ 28 ∷ 8 ∷ 0 ∷ 25 ∷ 0 ∷ 0 ∷ 253 ∷ 232 ∷ 0 ∷ 0 ∷ 0 ∷ 5 ∷ 6 ∷ 0 ∷ 1 ∷ 4 ∷ 192 ∷ 0 ∷ 2 ∷ 1 ∷ 0 ∷ 7 ∷ 1 ∷ 0 ∷ 4 ∷ 0 ∷ 0 ∷ 0 ∷ 7 ∷ []

-- one element of an opaque value, of any type
abbrev pub part : ℕ → List ℕ → List ℕ
part k v = k ∷ (two (length v) ++ v)

-- a name of P with that opaque value
abbrev pub of_p : List ℕ → List ℕ
of_p o = element 1 P o

-- a name with an opaque value of one element with a value of n octets
abbrev pub wide : ℕ → List ℕ
wide n = of_p (part 1 (replicate n 7))

-- n layers of 4-octet roots round a name
unfoldable pub deep : ℕ → List ℕ → List ℕ
deep zero a = a
deep (suc n) a = wrapped P [] (deep n a)

-- the shortest name
abbrev pub least : List ℕ
least = of_p (part 1 [])

unfoldable pub read_rows : List Row
read_rows =
    -- 1. a last layer; one round it, by type 7 and by type 8; two
    reads A [] A ∷
    reads in_p (layer P [] ∷ []) A ∷
    reads in_q (layer Q RD ∷ []) A ∷
    reads (wrapped P RD in_q) (layer P RD ∷ layer Q RD ∷ []) A ∷
    -- 5. source document 003's type 6, with one element alone, is a last layer: RFC 6512 decides; so is its type 7 with eight octets
    reads (of_p (part 6 A)) [] (of_p (part 6 A)) ∷
    reads (of_p (part 7 (RD ++ A))) [] (of_p (part 7 (RD ++ A))) ∷
    -- 7. not alone: another element before it, or behind it
    reads (of_p (part 7 A ++ part 1 [])) [] (of_p (part 7 A ++ part 1 [])) ∷
    reads (of_p (part 1 [] ++ part 7 A)) [] (of_p (part 1 [] ++ part 7 A)) ∷
    -- 9. not filled by one element: an octet more, one less, none; type 8 with under eight octets, with eight and no name, with no eight octets
    reads (of_p (part 7 (A ++ (0 ∷ [])))) [] (of_p (part 7 (A ++ (0 ∷ [])))) ∷
    reads (of_p (part 7 (6 ∷ 0 ∷ 1 ∷ 4 ∷ 192 ∷ 0 ∷ 2 ∷ 1 ∷ 0 ∷ 2 ∷ 1 ∷ []))) [] (of_p (part 7 (6 ∷ 0 ∷ 1 ∷ 4 ∷ 192 ∷ 0 ∷ 2 ∷ 1 ∷ 0 ∷ 2 ∷ 1 ∷ []))) ∷
    reads (of_p (part 7 [])) [] (of_p (part 7 [])) ∷
    reads (of_p (part 8 (0 ∷ 0 ∷ []))) [] (of_p (part 8 (0 ∷ 0 ∷ []))) ∷
    reads (of_p (part 8 RD)) [] (of_p (part 8 RD)) ∷
    reads (of_p (part 8 A)) [] (of_p (part 8 A)) ∷
    -- 15. filled by an element that 6, 7 or 18 would refuse: family 3, an empty opaque value, a malformed one
    reads (of_p (part 7 (6 ∷ 0 ∷ 3 ∷ 4 ∷ 192 ∷ 0 ∷ 2 ∷ 1 ∷ 0 ∷ 3 ∷ 1 ∷ 0 ∷ 0 ∷ []))) [] (of_p (part 7 (6 ∷ 0 ∷ 3 ∷ 4 ∷ 192 ∷ 0 ∷ 2 ∷ 1 ∷ 0 ∷ 3 ∷ 1 ∷ 0 ∷ 0 ∷ []))) ∷
    reads (of_p (part 7 (element 1 P []))) [] (of_p (part 7 (element 1 P []))) ∷
    reads (of_p (part 7 (of_p (1 ∷ 0 ∷ 1 ∷ [])))) [] (of_p (part 7 (of_p (1 ∷ 0 ∷ 1 ∷ [])))) ∷
    -- 18. the extended type's value may look like a name; it is not read
    reads (of_p (255 ∷ 0 ∷ 7 ∷ (two (length A) ++ A))) [] (of_p (255 ∷ 0 ∷ 7 ∷ (two (length A) ++ A))) ∷
    -- 19. as many layers as there can be: ten
    reads (deep 9 least) (replicate 9 (layer P [])) least ∷
    -- 20. 6: no octets, a family that is not known, an octet too many; 7: no opaque octet, 129; 128 are taken
    is_refused [] 6 ∷
    is_refused (element 3 P (part 1 [])) 6 ∷
    is_refused (A ++ (0 ∷ [])) 6 ∷
    is_refused (of_p []) 7 ∷
    is_refused (wide 126) 7 ∷
    reads (wide 125) [] (wide 125) ∷
    -- 26. 18: a head or a value that runs past, also of an extended type; and 7 comes before
    is_refused (of_p (1 ∷ 0 ∷ [])) 18 ∷
    is_refused (of_p (1 ∷ 0 ∷ 2 ∷ 0 ∷ [])) 18 ∷
    is_refused (of_p (part 1 [] ++ (1 ∷ []))) 18 ∷
    is_refused (of_p (255 ∷ 0 ∷ 1 ∷ 0 ∷ [])) 18 ∷
    is_refused (of_p (255 ∷ 0 ∷ 1 ∷ 0 ∷ 1 ∷ [])) 18 ∷
    reads (of_p (255 ∷ 0 ∷ 1 ∷ 0 ∷ 0 ∷ [])) [] (of_p (255 ∷ 0 ∷ 1 ∷ 0 ∷ 0 ∷ [])) ∷
    is_refused (of_p (replicate 129 1)) 7 ∷
    []

unfoldable pub wrap_rows : List Row
wrap_rows =
    -- 1. by type 7 and by type 8, in just enough room, and in one octet less
    wrapping 30 P [] A 0 in_p ∷
    wrapping 50 Q RD A 0 in_q ∷
    wrapping 29 P [] A 16 [] ∷
    wrapping 49 Q RD A 16 [] ∷
    -- 5. 6: a name that is none, a root of neither length, neither none nor eight octets between
    wrapping 200 P [] [] 6 [] ∷
    wrapping 200 (198 ∷ 51 ∷ 100 ∷ []) [] A 6 [] ∷
    wrapping 200 [] [] A 6 [] ∷
    wrapping 200 P (0 ∷ []) A 6 [] ∷
    wrapping 200 P (RD ++ (0 ∷ [])) A 6 [] ∷
    -- 10. 7: the name inside has no opaque octet; it is too long; what is made of it is. An opaque value of 128 octets is taken: a name inside of 125 octets, or of 117 behind eight
    wrapping 200 P [] (of_p []) 7 [] ∷
    wrapping 200 P [] (wide 126) 7 [] ∷
    wrapping 200 P [] (wide 113) 7 [] ∷
    wrapping 200 P [] (wide 112) 0 (of_p (part 7 (wide 112))) ∷
    wrapping 200 P RD (wide 105) 7 [] ∷
    wrapping 200 P RD (wide 104) 0 (of_p (part 8 (RD ++ wide 104))) ∷
    -- 16. 18; and the lower numbers before it, 16 after it
    wrapping 200 P [] (of_p (1 ∷ 0 ∷ [])) 18 [] ∷
    wrapping 0 P [] (of_p (1 ∷ 0 ∷ [])) 18 [] ∷
    wrapping 0 P [] (of_p (replicate 120 1)) 7 [] ∷
    wrapping 0 [] [] (of_p (replicate 120 1)) 6 [] ∷
    -- 20. an eleventh layer
    wrapping 200 P [] (deep 9 least) 7 [] ∷
    []

unfoldable pub unwrap_rows : List Row
unwrap_rows =
    -- 1. in just enough room, and in one octet less
    unwrapping 17 in_p 0 A (layer P []) ∷
    unwrapping 17 in_q 0 A (layer Q RD) ∷
    unwrapping 16 in_p 16 [] no_layer ∷
    -- 4. the last layer, with room and without; a name inside that is itself wrapped
    unwrapping 200 A 22 [] no_layer ∷
    unwrapping 0 A 22 [] no_layer ∷
    unwrapping 200 (wrapped P [] in_q) 0 in_q (layer P []) ∷
    -- 7. bad octets
    unwrapping 200 [] 6 [] no_layer ∷
    unwrapping 200 (of_p []) 7 [] no_layer ∷
    unwrapping 200 (of_p (7 ∷ 0 ∷ 1 ∷ [])) 18 [] no_layer ∷
    []

pub layers-shown : NoneWrong (wrong 1 read_rows) × NoneWrong (wrong 1 wrap_rows) × NoneWrong (wrong 1 unwrap_rows)
unfolding computing wrong flat_layers flat_read A in_p in_q deep read_rows wrap_rows unwrap_rows before_inner eight_in inner_in wraps is_last inner_of layer_of under peel_f peel read holding family_of wrapped not_eight wrap_refusal wrap unwrap_refusal no_layer unwrap
layers-shown = (tt, tt, tt)
