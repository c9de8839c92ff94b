-- Texts that stand one behind the other, each in a space of k + 1 octets. Assumes nothing.
use Prim.Native.Nat.{ℕ, ◌+◌, ◌*◌, ◌≤◌, ◌<◌}
use native.Mathlib.Nat.{suc-mul, mul-le-mul_right}
use native.Mathlib.Numerals.{add-one}
use native.Mathlib.Omega.{arith}
use mathlib.Core.Path.{◌≡◌, sym, ap, ◌∙◌}
use mathlib.Core.Bool.{Bool, true, false}
use mathlib.Core.List.{List}
use lib.ListN.{drop}
use lib.Dec.{ltb}
use borrow.Author.Tests.{ltb-true, ltb-false}
use Rattle.meaning.specs.Octets.{place, same}
use Rattle.meaning.specs.Lists.{by-test}
use Rattle.meaning.specs.Wire.{name_limit, root_limit}
use Rattle.meaning.specs.Card.{named, tree_place, tree_limit, route_limit}
use Rattle.octets.specs.Part.{tab}
use Rattle.octets.proofs.Tab.{place-past, place-hit, place_none}
use Rattle.memory.specs.Sizes.{root_names}
use Rattle.memory.specs.Memory.{card_of, text_at, Column, in_column, tree_count, tree_in, tree_name}
use Rattle.memory.proofs.Trees.{trees-start, named-at}

pub one_more : (j w : ℕ) → (j + 1) * w ≡ j * w + w
one_more j w = rw (add-one j) (suc-mul j w)

-- the jth of n spaces ends before the last does
pub space-within : (j n w : ℕ) → j < n → j * w + w ≤ n * w
space-within j n w h = rw (← (one_more j w)) (mul-le-mul_right w (omega (arith, h)))

-- none passes before place i, nor from there on before place k
pub none_before : (t : ℕ → Bool) (i k : ℕ) → ((j : ℕ) → j < i → t j ≡ false) → ((j : ℕ) → i ≤ j → j < k → t j ≡ false) → (j : ℕ) → j < k → t j ≡ false
none_before t i k low high j h = by-test (ltb j i) (λ e. low j (ltb-true j i e)) (λ e. high j (ltb-false j i e) h)

-- the jth text, as it was read, was compared
pub compared : (k from : ℕ) (os s t : List ℕ) (j : ℕ) {r b : Bool} → t ≡ text_at k os (from + j * (k + 1)) → r ≡ same t s → r ≡ b → same (in_column k from os j) s ≡ b
unfolding in_column
compared k from os s t j e f g = ap (λ (o : List ℕ). same o s) (sym e) ∙ sym f ∙ g

-- a place before which none passes, and where one does if it is before the end
pub place_found : {A : Type 0} (t : A → Bool) (n : ℕ) (f : ℕ → A) (r : ℕ) → r ≤ n → ((j : ℕ) → j < r → t (f j) ≡ false) → (r < n → t (f r) ≡ true) → 0 + place t (drop 0 (tab n f)) ≡ r
place_found t n f r most low here =
    place-past t n f 0 r (omega arith) most (λ j a b. low j b)
    ∙ by-test (ltb r n) (λ e. let h = ltb-true r n e in place-hit t n f r h (here h)) (λ e. let h = ltb-false r n e in place_none t n f r h most ∙ (omega arith))

-- ---- the names of trees, and the roots

pub names-within : (n : ℕ) → n ≤ tree_limit → Column name_limit 0 n
names-within n h = (omega arith, omega arith, omega arith)

pub roots-within : (n : ℕ) → n ≤ route_limit → Column root_limit root_names n
roots-within n h = (omega arith, omega arith, omega arith)

pub tree-found : (a ns os : List ℕ) (n r : ℕ) → n ≡ tree_count ns → r ≤ n → ((j : ℕ) → j < r → same (in_column name_limit 0 os j) a ≡ false) → (r < n → same (in_column name_limit 0 os r) a ≡ true)
    → r ≡ tree_place a (card_of ns os)
unfolding in_column
tree-found a ns os n r e most low here =
    sym (trees-start a ns os n e ∙ place_found (named a) n (tree_in ns os) r most (λ j h. named-at a ns os j _ (its-name j) ∙ low j h) (λ h. named-at a ns os r _ (its-name r) ∙ here h))
  where
    its-name : (j : ℕ) → text_at name_limit os (0 + j * (name_limit + 1)) ≡ tree_name os j
    its-name j = unfold tree_name in ap (text_at name_limit os) (omega arith)
