-- The lines that show layers: from the outside in, `ROOT`, or `ROOT/EIGHT` for type 8, each with ` > ` behind it, and then the innermost root and its opaque value.
-- Assumes nothing.
use Rattle.std.specs.Prelude.{ℕ, List, [], ◌∷◌, ◌++◌, eqb}
use Rattle.meaning.specs.Octets.{pick}
use Rattle.meaning.specs.Wire.{root_in, opaque_in}
use Rattle.meaning_layers.specs.Layers.{Layer, Peeled, Read, refused, peeled, Wrapped, Unwrapped}
use Rattle.bench_words.specs.Words.{ascii, hex_of}
use Rattle.bench_lines.specs.Text.{count_line, event_line}

-- `/` and the eight octets, where there are any
unfoldable pub eight_text : List ℕ → List ℕ
eight_text [] = []
eight_text (o ∷ os) = 47 ∷ hex_of (o ∷ os)

-- an outer layer, and ` > `
unfoldable pub layer_text : Layer → List ℕ
layer_text l = hex_of l.root ++ (eight_text l.eight ++ (32 ∷ 62 ∷ 32 ∷ []))

unfoldable pub outer_text : List Layer → List ℕ
outer_text [] = []
outer_text (l ∷ ls) = layer_text l ++ outer_text ls

-- the innermost name: `ROOT OPAQUE`
unfoldable pub innermost_text : List ℕ → List ℕ
innermost_text name = hex_of (root_in name) ++ (32 ∷ hex_of (opaque_in name))

unfoldable pub peeled_text : Peeled → List ℕ
peeled_text p = outer_text p.outer ++ innermost_text p.core

unfoldable pub layers_line : Read → List ℕ
layers_line (refused n) = count_line (ascii "layers") n
layers_line (peeled p) = ascii "layers 0 " ++ (peeled_text p ++ (10 ∷ []))

-- `wrap ANSWER NAME`
unfoldable pub wrap_line : Wrapped → List ℕ
wrap_line w = event_line (ascii "wrap") w.answer w.octets

-- octets, or `-` for none
unfoldable pub or_dash : List ℕ → List ℕ
or_dash [] = 45 ∷ []
or_dash (o ∷ os) = hex_of (o ∷ os)

-- `unwrap 0 NAME ROOT EIGHT`
unfoldable pub unwrapped_line : List ℕ → List ℕ → List ℕ → List ℕ
unwrapped_line name root eight = ascii "unwrap 0 " ++ (hex_of name ++ (((32 ∷ hex_of root) ++ (32 ∷ or_dash eight)) ++ (10 ∷ [])))

-- the same, or the refusal's number
unfoldable pub unwrap_line : Unwrapped → List ℕ
unwrap_line u = pick (eqb u.answer 0) (unwrapped_line u.octets u.layer.root u.layer.eight) (count_line (ascii "unwrap") u.answer)
