-- The records of a save by their places in its octets, as a loop with a place reads them, and by their number so far, as a loop writes them: for either form.
-- Assumes nothing.
use Rattle.std.specs.Prelude.{ℕ, zero, suc, ◌+◌, ◌-◌, ◌≡◌, refl, List, [], ◌∷◌, ◌++◌, drop, get_or, length, set}
use Rattle.std.proofs.Common.{arith, sym, ap, ◌∙◌, append_assoc, drop-drop, get_or-drop}
use Rattle.meaning.specs.Octets.{four_at}
use Rattle.meaning.specs.Card.{Tree, Use}
use Rattle.meaning_save.specs.Save.{Form, new, tree_beside, use_beside, extent, tree_saved, trees_saved, tree_read, tree_end, trees_read, trees_end, use_saved, uses_saved, use_read, use_end, uses_read}
use Rattle.meaning_laws.specs.SaveFields.{name_size}
use Rattle.meaning_laws.specs.SaveLists.{trees_size, use_size, uses_size}

-- ---- reading: the place behind a record

-- a name's length octet, at its place
pub extent-there : (o : List ℕ) (at : ℕ) → extent new (drop at o) ≡ suc (get_or o at 0)
extent-there o at = let here : at + 0 ≡ at = omega arith in ap suc (get_or-drop at o 0 0 ∙ ap (λ (k : ℕ). get_or o k 0) here)

pub tree-there : (f : Form) (o : List ℕ) (at : ℕ) → tree_end f (drop at o) ≡ drop (at + (tree_beside + extent f (drop (at + 3) o))) o
unfolding tree_end
tree-there f o at = rw (drop-drop 3 at o) (drop-drop (tree_beside + extent f (drop (at + 3) o)) at o)

pub use-there : (f : Form) (o : List ℕ) (at : ℕ) → use_end f (drop at o) ≡ drop (at + (use_beside + extent f (drop (at + 9) o))) o
unfolding use_end
use-there f o at = rw (drop-drop 9 at o) (drop-drop (use_beside + extent f (drop (at + 9) o)) at o)

-- one tree more
pub trees-end-more : (f : Form) (n : ℕ) (o : List ℕ) → trees_end f (suc n) o ≡ tree_end f (trees_end f n o)
unfolding trees_end
trees-end-more f zero o = refl
trees-end-more f (suc n) o = trees-end-more f n (tree_end f o)

pub trees-read-more : (f : Form) (n : ℕ) (o : List ℕ) → trees_read f (suc n) o ≡ trees_read f n o ++ (tree_read f (trees_end f n o) ∷ [])
unfolding trees_read trees_end
trees-read-more f zero o = refl
trees-read-more f (suc n) o = ap (λ (ts : List Tree). tree_read f o ∷ ts) (trees-read-more f n (tree_end f o))

-- one label more: what stands behind n labels' records, and where the next one is stored
unfoldable pub uses_end : Form → ℕ → List ℕ → List ℕ
uses_end f zero o = o
uses_end f (suc n) o = uses_end f n (use_end f o)

pub uses-end-more : (f : Form) (n : ℕ) (o : List ℕ) → uses_end f (suc n) o ≡ use_end f (uses_end f n o)
unfolding uses_end
uses-end-more f zero o = refl
uses-end-more f (suc n) o = uses-end-more f n (use_end f o)

pub uses-read-more : (f : Form) (base n : ℕ) (o : List ℕ) (us : List Use) → uses_read f base (suc n) o us ≡ set (uses_read f base n o us) (four_at (uses_end f n o) 3 - base) (use_read f (uses_end f n o))
unfolding uses_read uses_end
uses-read-more f base zero o us = refl
uses-read-more f base (suc n) o us = uses-read-more f base n (use_end f o) (set us (four_at o 3 - base) (use_read f o))

-- ---- writing: one record more, and the octets so far

pub trees-more : (f : Form) (ts : List Tree) (t : Tree) → trees_saved f (ts ++ (t ∷ [])) ≡ trees_saved f ts ++ (tree_saved f t ++ [])
unfolding trees_saved
trees-more f [] t = refl
trees-more f (x ∷ ts) t = ap (λ (o : List ℕ). tree_saved f x ++ o) (trees-more f ts t) ∙ sym (append_assoc (tree_saved f x) (trees_saved f ts) (tree_saved f t ++ []))

-- (the labels from l on)
pub uses-more : (f : Form) (l : ℕ) (us : List Use) (u : Use) → uses_saved f l (us ++ (u ∷ [])) ≡ uses_saved f l us ++ (use_saved f (l + length us) u ++ [])
unfolding uses_saved
uses-more f l [] u = let here : l + 0 ≡ l = omega arith in rw here refl
uses-more f l (x ∷ us) u =
    let there : suc l + length us ≡ l + suc (length us) = omega arith in
    ap (λ (o : List ℕ). use_saved f l x ++ o) (uses-more f (suc l) us u ∙ ap (λ (k : ℕ). uses_saved f (suc l) us ++ (use_saved f k u ++ [])) there)
    ∙ sym (append_assoc (use_saved f l x) (uses_saved f (suc l) us) (use_saved f (l + suc (length us)) u ++ []))

pub trees-size-more : (f : Form) (ts : List Tree) (t : Tree) → trees_size f (ts ++ (t ∷ [])) ≡ trees_size f ts + (tree_beside + name_size f t.name)
unfolding trees_size
trees-size-more f [] t = omega arith
trees-size-more f (x ∷ ts) t = let n = trees-size-more f ts t in omega arith

pub uses-size-more : (f : Form) (us : List Use) (u : Use) → uses_size f (us ++ (u ∷ [])) ≡ uses_size f us + use_size f u
unfolding uses_size
uses-size-more f [] u = omega arith
uses-size-more f (x ∷ us) u = let n = uses-size-more f us u in omega arith
