-- Numbers and octets spelt out, by computation. Assumes nothing.
use Rattle.std.specs.Prelude.{◌≡◌, refl, [], ◌∷◌}
use Rattle.bench_words.specs.Words.{ascii, spell, numeral, glyph, hex_of}

pub spelt-out : (numeral 0 ≡ ascii "0")
    × (numeral 10 ≡ ascii "10")
    × (numeral 4294967296 ≡ ascii "4294967296")
    × (hex_of (0 ∷ 76 ∷ 255 ∷ []) ≡ ascii "004cff")
unfolding ascii spell numeral glyph hex_of
spelt-out = (refl, refl, refl, refl)
