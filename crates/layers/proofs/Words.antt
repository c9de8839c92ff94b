-- Laws of the words behind the layers. Assumes nothing.
use Prim.Native.Nat.{ℕ}
use mathlib.Core.Path.{◌≡◌, refl, subst}
use mathlib.Core.List.{List, [], ◌∷◌, ◌++◌}
use Rattle.meaning.specs.Card.{Tree, Card, lookup_name}
use Rattle.meaning_layers.specs.Layers.{peel}
use Rattle.bench_lines.specs.Text.{Adds}
use Rattle.bench_layers.specs.LayerText.{peeled_text}
use Rattle.layers.specs.TreeText.{label_words, feed_words, tree_line}

pub adds_same : {xs ys a b : List ℕ} {p r : ℕ} → xs ≡ ys → Adds xs a b p r → Adds ys a b p r
adds_same {a = a} {b = b} {p = p} {r = r} e h = subst (λ (l : List ℕ). Adds l a b p r) e h

pub line_of : (c : Card) (t : Tree) (name : List ℕ) (label : ℕ) → name ≡ t.name → label ≡ t.label
    → peeled_text (peel name) ++ (label_words label ++ (feed_words (lookup_name name c) ++ (10 ∷ []))) ≡ tree_line c t
unfolding tree_line
line_of c t name label e f = rw (e, f) refl
