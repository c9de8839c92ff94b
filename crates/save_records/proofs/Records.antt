-- The laws by which the writer of each record follows the definitions. Assumes nothing.
use Prim.Native.Nat.{ℕ, ◌+◌, ◌*◌, ◌-◌, ◌%◌, ◌≤◌, ◌<◌}
use native.Mathlib.Omega.{arith}
use mathlib.Core.Path.{◌≡◌, refl, sym, ap, ◌∙◌}
use mathlib.Core.Bool.{◌&&◌}
use mathlib.Core.List.{List, [], ◌∷◌, ◌++◌}
use lib.ListN.{length, take, get_or}
use lib.Dec.{eqb, leb, ltb}
use borrow.Author.Tests.{eqb-true, eqb-false, ltb-true}
use Rattle.meaning.specs.Octets.{pick, two, four}
use Rattle.meaning.specs.Wire.{root_limit}
use Rattle.meaning.specs.Card.{Route, Tree, Use, mapped, awaiting, Card, free_labels, label_count, turn, neighbour_count}
use Rattle.meaning.specs.Lists.{by-test}
use Rattle.meaning_laws.specs.RoundTrip.{both}
use Rattle.meaning_save.specs.Save.{Form, old, new, head_kind, tree_kind, use_kind, head_size, spaced, name_saved, marked, last_saved, head_saved, route_saved, fours_of, tree_saved, use_saved, route_size, tree_beside, use_beside}
use Rattle.meaning_laws.specs.SaveFields.{name_size, name-length, fours-length}
use Rattle.octets.specs.Part.{mid}
use Rattle.octets.proofs.Tab.{tab-is}
use Rattle.memory.specs.Memory.{card_of, base_in, route_count, tree_count, turn_in, label_before, last_in}
use Rattle.memory.proofs.Memory.{routes-length, trees-length}
use Rattle.save_texts.proofs.Parts.{laid-all, two-parts}
use Rattle.save_records.proofs.Rows.{joined, all-joined, Lot, Stand, rows-lent, rows-done}
use Rattle.save_texts.proofs.Sizes.{space-length}

-- ---- records of two parts

pub route-put : (r : Route) (xs us vs o : List ℕ) (v : ℕ) → length xs ≡ route_size → v ≡ r.via → o ≡ r.root → us ≡ 0x4C ∷ 0x53 ∷ 2 ∷ v % 256 ∷ [] → vs ≡ spaced root_limit o → mid 4 (1 + root_limit) (mid 0 4 xs us) vs ≡ route_saved r
unfolding route_saved marked
route-put r xs us vs o v l ev eo eu es =
    rw (eu, es, ev, eo) (two-parts 4 (1 + root_limit) xs (0x4C ∷ 0x53 ∷ 2 ∷ r.via % 256 ∷ []) (spaced root_limit r.root) l refl (space-length root_limit r.root))

-- what stands before the name of a label in use
abbrev pub state_of : Form → ℕ → ℕ → ℕ → List ℕ
state_of f l s n = marked (use_kind f) (four l ++ (s ∷ n ∷ []))

pub state-put : (f : Form) (l s n m : ℕ) (a xs us vs : List ℕ) → m ≡ length xs → length xs ≡ use_beside + name_size f a → us ≡ state_of f l s n → vs ≡ name_saved f a → mid 9 (m - 9) (mid 0 9 xs us) vs ≡ marked (use_kind f) (four l ++ (s ∷ n ∷ name_saved f a))
unfolding marked four
state-put f l s n m a xs us vs em e eu es =
    let q : m - 9 ≡ name_size f a = omega arith in
    rw (eu, es, q) (two-parts 9 (name_size f a) xs (state_of f l s n) (name_saved f a) e refl (name-length f a))

-- ---- a tree: the mark and the name, and what stands behind it

pub tree-name-put : (f : Form) (m : ℕ) (a xs us vs : List ℕ) → m ≡ length xs → length xs ≡ 3 + name_size f a → us ≡ 0x4C ∷ 0x53 ∷ tree_kind f ∷ [] → vs ≡ name_saved f a → mid 3 (m - 3) (mid 0 3 xs us) vs ≡ marked (tree_kind f) (name_saved f a)
unfolding marked
tree-name-put f m a xs us vs em e eu es =
    let q : m - 3 ≡ name_size f a = omega arith in
    rw (eu, es, q) (two-parts 3 (name_size f a) xs (0x4C ∷ 0x53 ∷ tree_kind f ∷ []) (name_saved f a) e refl (name-length f a))

pub tree-rest-put : (t : Tree) (xs us vs : List ℕ) (f : ℕ) → length xs ≡ 65 → length t.branches ≡ neighbour_count → f ≡ pick t.leaf 1 0 → us ≡ f ∷ [] → vs ≡ fours_of t.branches → mid 1 64 (mid 0 1 xs us) vs ≡ pick t.leaf 1 0 ∷ fours_of t.branches
tree-rest-put t xs us vs f e lb ef eu es =
    let b : length (fours_of t.branches) ≡ 64 = fours-length t.branches ∙ ap (λ (k : ℕ). 4 * k) lb in
    rw (eu, es, ef) (two-parts 1 64 xs (pick t.leaf 1 0 ∷ []) (fours_of t.branches) e refl b)

marked_more : (k : ℕ) (o s : List ℕ) → marked k o ++ s ≡ marked k (o ++ s)
unfolding marked
marked_more k o s = refl

marked-length : (k : ℕ) (o : List ℕ) → length (marked k o) ≡ 3 + length o
unfolding marked
marked-length k o = omega arith

pub tree-put : (f : Form) (t : Tree) (m k : ℕ) (a xs us vs : List ℕ) → length xs ≡ tree_beside + name_size f t.name → length t.branches ≡ neighbour_count → a ≡ t.name → k ≡ name_size f a → m ≡ length xs
    → us ≡ marked (tree_kind f) (name_saved f a) → vs ≡ pick t.leaf 1 0 ∷ fours_of t.branches → mid (3 + k) (m - (3 + k)) (mid 0 (3 + k - 0) xs us) vs ≡ tree_saved f t
unfolding tree_saved
tree-put f t m k a xs us vs l lb ea ek em eu ev =
    let kk : k ≡ name_size f t.name = ek ∙ ap (name_size f) ea in
    let b : length (fours_of t.branches) ≡ 64 = fours-length t.branches ∙ ap (λ (n : ℕ). 4 * n) lb in
    let h : length (marked (tree_kind f) (name_saved f t.name)) ≡ 3 + k = omega (arith, marked-length (tree_kind f) (name_saved f t.name), name-length f t.name) in
    let q : m - (3 + k) ≡ 65 = omega arith in
    let z : 3 + k - 0 ≡ 3 + k = omega arith in
    rw (z, eu, ev, ea, q) (two-parts (3 + k) 65 xs (marked (tree_kind f) (name_saved f t.name)) (pick t.leaf 1 0 ∷ fours_of t.branches) (omega arith) h (omega arith)
    ∙ marked_more (tree_kind f) (name_saved f t.name) (pick t.leaf 1 0 ∷ fours_of t.branches))

-- ---- the head

head-front : (f : Form) (c : Card) → take (head_size f) (marked (head_kind f) (four c.base ++ (four c.next ++ (length c.routes ∷ length c.trees ∷ (two (label_count - free_labels c) ++ four c.last))))) ≡ head_saved f c
unfolding head_saved last_saved marked four two
head-front old c = refl
head-front new c = refl

pub head-is : (f : Form) (ns os : List ℕ) (k b i r t u l n : ℕ) → k ≡ head_kind f → b ≡ base_in ns → i ≡ (card_of ns os).next → r ≡ route_count ns → t ≡ tree_count ns → u ≡ free_labels (card_of ns os) → l ≡ (card_of ns os).last → n ≡ head_size f
    → take (n - 0) (marked k (four b ++ (four i ++ (r ∷ t ∷ (two (256 - u) ++ four l))))) ≡ head_saved f (card_of ns os)
head-is f ns os k b i r t u l n ek eb ei er et eu el en =
    let z : n - 0 ≡ head_size f = omega arith in
    rw (z, ek, eb, ei, er, et, eu, el) (rw (sym (routes-length ns os), sym (trees-length ns os)) (unfold card_of in head-front f (card_of ns os)))

-- the last label given is by its turn: the place after it
last-case : (ns os : List ℕ) → (((card_of ns os).last ≡ 0 → ⊥) → (card_of ns os).base ≤ (card_of ns os).last)
unfolding card_of last_in label_before
last-case ns os some =
    by-test (ltb 0 (turn_in ns) && leb (turn_in ns) label_count)
    (λ e. rw e (let p = both (ltb 0 (turn_in ns)) (leb (turn_in ns) label_count) e in omega (arith, ltb-true 0 (turn_in ns) p.0)))
    (λ e. absurd ((rw e at some) refl))

pub last_none : (ns os : List ℕ) (v : ℕ) → v ≡ turn (card_of ns os) → v ≡ 0 → 0 ≡ (card_of ns os).last
unfolding turn
last_none ns os v e z =
    by-test (eqb (card_of ns os).last 0)
    (λ k. sym (eqb-true _ _ k))
    (λ k. absurd (let low = last-case ns os (eqb-false _ _ k) in omega arith))

pub last_some : (ns os : List ℕ) (b v : ℕ) → b ≡ base_in ns → v ≡ turn (card_of ns os) → (v ≡ 0 → ⊥) → b + v - 1 ≡ (card_of ns os).last
unfolding turn card_of
last_some ns os b v eb e some = by-test (eqb v 0) (λ k. absurd (some (eqb-true _ _ k))) (λ k. let z = eqb-false v 0 k in omega arith)

-- ---- sixteen fours

abbrev pub four_row : List ℕ → ℕ → List ℕ
four_row bs k = four (get_or bs k 0)

module _ (bs xs : List ℕ) (l : length bs ≡ 16) (e : length xs ≡ 64) where
  pub fours-rows : fours_of bs ≡ joined 16 (four_row bs)
  unfolding fours_of
  fours-rows = ap fours_of (tab-is bs 16 (λ k. get_or bs k 0) 0 l (λ k h. refl)) ∙ all-joined four fours_of refl (λ x xs. refl) 16 (λ k. get_or bs k 0)

  pub sized : length (fours_of bs) ≡ 64
  sized = fours-length bs ∙ ap (λ (k : ℕ). 4 * k) l

  abbrev pub fours-lot : Lot
  fours-lot = record { row = four_row bs; many = 16; from = 0; whole = fours_of bs; out = xs; all = fours-rows; fits = omega (arith, sized) }

  pub fours-next : (k : ℕ) (ys r : List ℕ) → k < neighbour_count → Stand fours-lot k (k * 4) ys → r ≡ four_row bs k → Stand fours-lot (k + 1) ((k + 1) * 4) (mid (k * 4) (k * 4 + 4 - k * 4) ys r)
  fours-next k ys r h p er =
      let q : (k + 1) * 4 ≡ k * 4 + 4 = omega arith in
      rw q (rows-lent fours-lot k (k * 4) ys p 4 r h er (unfold four in refl))

  pub fours-done : (k : ℕ) (ys : List ℕ) → 16 ≤ k → Stand fours-lot k (k * 4) ys → ys ≡ fours_of bs
  fours-done k ys h p = (rows-done fours-lot k (k * 4) ys p h).0 ∙ laid-all (fours_of bs) xs (omega (arith, sized))

-- ---- a label in use

module _ (f : Form) (u : Use) (l k n : ℕ) (a b ys : List ℕ) (el : k ≡ l) (ea : a ≡ b) where
  pub use-mapped : u ≡ mapped n b → ys ≡ marked (use_kind f) (four k ++ (1 ∷ n ∷ name_saved f a)) → ys ≡ use_saved f l u
  unfolding use_saved
  use-mapped e ey = rw (e, ← ea, ← el) ey

  pub use-awaiting : u ≡ awaiting n b → ys ≡ marked (use_kind f) (four k ++ (2 ∷ n ∷ name_saved f a)) → ys ≡ use_saved f l u
  unfolding use_saved
  use-awaiting e ey = rw (e, ← ea, ← el) ey
