-- Routes and trees, one after the other: what the loops know after i of them. Assumes nothing.
use Prim.Native.Nat.{ℕ, zero, suc, ◌+◌, ◌*◌, ◌≤◌, ◌<◌}
use native.Mathlib.Nat.{suc-mul, zero-mul, not-suc-le-zero, le_of_suc-le-suc}
use native.Mathlib.Numerals.{add-one}
use native.Mathlib.Omega.{arith}
use mathlib.Core.Path.{◌≡◌, refl, sym, ap, ◌∙◌}
use mathlib.Core.Bool.{Bool, not}
use mathlib.Core.List.{List, [], ◌∷◌, ◌++◌}
use lib.ListN.{length, take, drop, get_or, set, length-append, length-set}
use lib.Seq.{drop-drop, get_or-take, get_or-drop, ext_get_or, set_at, get_or_at, set-set, set-get_or, get_or-set_same}
use lib.Dec.{eqb}
use Rattle.meaning.specs.Octets.{two_at, four_at}
use Rattle.meaning.specs.Wire.{root_limit}
use Rattle.meaning.specs.Card.{Route, Tree, Card, fresh, with_next, with_routes, with_trees, with_branch, with_leaf, bare, tree_at, neighbour_count}
use Rattle.meaning_save.specs.Save.{Form, spaced_in, name_in, extent, route_read, tree_read, tree_end, fours_in, routes_read, trees_read, trees_end, head_size, route_size, tree_beside}
use Rattle.meaning_laws.specs.SavePlaces.{tree-there, trees-end-more, trees-read-more}
use Rattle.octets.proofs.Parts.{front, front-more, copy_done}
use Rattle.memory.specs.Memory.{card_of, tree_count, route_count}
use Rattle.memory.proofs.Memory.{trees-length, routes-length}
use Rattle.memory.proofs.Trees.{branches-length}
use Rattle.save_rows.specs.Stages.{with_branches, head_read, trees_begin, rows_read, labels_begin}
use Rattle.save_fields.proofs.Read.{four-drop}

-- ---- n records of w octets, one after the other

module _ {ℓ} {A : Type ℓ} (f : List ℕ → A) (w : ℕ) where
  unfoldable pub reads : ℕ → List ℕ → List A
  reads zero o = []
  reads (suc n) o = f o ∷ reads n (drop w o)

  pub reads-length : (n : ℕ) (o : List ℕ) → length (reads n o) ≡ n
  unfolding reads
  reads-length zero o = refl
  reads-length (suc n) o = ap suc (reads-length n (drop w o))

  further : (i : ℕ) (o : List ℕ) → f (drop (i * w) (drop w o)) ≡ f (drop (suc i * w) o)
  further i o =
      let e : w + i * w ≡ suc i * w = omega (arith, suc-mul i w) in
      ap f (drop-drop (i * w) w o ∙ ap (λ (k : ℕ). drop k o) e)

  at_first : (o : List ℕ) → f o ≡ f (drop (zero * w) o)
  at_first o = rw (zero-mul w) refl

  pub reads-next : (i : ℕ) (o : List ℕ) → reads (suc i) o ≡ reads i o ++ (f (drop (i * w) o) ∷ [])
  unfolding reads
  reads-next zero o = ap (λ (x : A). x ∷ []) (at_first o)
  reads-next (suc i) o = ap (λ (l : List A). f o ∷ l) (reads-next i (drop w o) ∙ ap (λ (x : A). reads i (drop w o) ++ (x ∷ [])) (further i o))

  pub reads-get : (n i : ℕ) (o : List ℕ) (d : A) → i < n → get_or (reads n o) i d ≡ f (drop (i * w) o)
  unfolding reads
  reads-get zero i o d h = absurd (not-suc-le-zero h)
  reads-get (suc n) zero o d h = at_first o
  reads-get (suc n) (suc i) o d h = reads-get n i (drop w o) d (le_of_suc-le-suc h) ∙ further i o

  -- from a place on
  pub reads_more : (i at : ℕ) (o : List ℕ) → reads (i + 1) (drop at o) ≡ reads i (drop at o) ++ (f (drop (at + i * w) o) ∷ [])
  reads_more i at o = ap (λ (k : ℕ). reads k (drop at o)) (add-one i) ∙ reads-next i (drop at o) ∙ ap (λ (l : List ℕ). reads i (drop at o) ++ (f l ∷ [])) (drop-drop (i * w) at o)

routes-are : (n : ℕ) (o : List ℕ) → routes_read n o ≡ reads route_read route_size n o
unfolding routes_read reads
routes-are zero o = refl
routes-are (suc n) o = ap (λ (l : List Route). route_read o ∷ l) (routes-are n (drop route_size o))

abbrev first_four : List ℕ → ℕ
first_four o = four_at o 0

fours-are : (n : ℕ) (o : List ℕ) → fours_in n o ≡ reads first_four 4 n o
unfolding fours_in reads
fours-are zero o = refl
fours-are (suc n) o = ap (λ (l : List ℕ). four_at o 0 ∷ l) (fours-are n (drop 4 o))

fours-length : (n : ℕ) (o : List ℕ) → length (fours_in n o) ≡ n
fours-length n o = ap length (fours-are n o) ∙ reads-length first_four 4 n o

fours-get : (n i : ℕ) (o : List ℕ) → i < n → get_or (fours_in n o) i 0 ≡ four_at o (i * 4)
fours-get n i o lt =
    let here : i * 4 + 0 ≡ i * 4 = omega arith in
    ap (λ (l : List ℕ). get_or l i 0) (fours-are n o) ∙ reads-get first_four 4 n i o 0 lt ∙ four-drop o (i * 4) 0 ∙ ap (four_at o) here

-- numbers that a part reaches are read from it as from the whole
four-within : (m k : ℕ) (o : List ℕ) → k + 4 ≤ m → four_at (take m o) k ≡ four_at o k
unfolding four_at two_at
four-within m k o h =
    rw (get_or-take m o k 0 (omega arith), get_or-take m o (k + 1) 0 (omega arith), get_or-take m o (k + 2) 0 (omega arith), get_or-take m o (k + 2 + 1) 0 (omega arith)) refl

pub fours-within : (n m : ℕ) (o : List ℕ) → n * 4 ≤ m → fours_in n (take m o) ≡ fours_in n o
fours-within n m o h =
    ext_get_or 0 (fours_in n (take m o)) (fours_in n o) (fours-length n (take m o) ∙ sym (fours-length n o)) (λ i lt.
    let in-n : i < n = omega (arith, fours-length n (take m o)) in
    fours-get n i (take m o) in-n ∙ four-within m (i * 4) o (omega arith) ∙ sym (fours-get n i o in-n))

-- ---- routes

pub routes-many : (n : ℕ) (o : List ℕ) → length (routes_read n o) ≡ n
routes-many n o = ap length (routes-are n o) ∙ reads-length route_read route_size n o

pub route-read : (o root : List ℕ) (at via : ℕ) → root ≡ spaced_in root_limit (drop (at + 4) o) → via ≡ get_or o (at + 3) 0 → ◌≡◌ {A = Route} (record { root = root; via = via; standing = 0; lone = 0 }) (route_read (drop at o))
unfolding route_read
route-read o root at via hr hv = rw (hr, hv, ← drop-drop 4 at o, ← get_or-drop at o 3 0) refl

module _ (c : Card) (o : List ℕ) (at : ℕ) where
  pub routes-none : c.routes ≡ [] → c ≡ with_routes (routes_read 0 (drop at o)) c
  unfolding with_routes routes_read
  routes-none e = ap (λ (rs : List Route). with_routes rs c) e

  pub routes-more : (i : ℕ) (ns os ns' os' : List ℕ) → card_of ns os ≡ with_routes (routes_read i (drop at o)) c
      → card_of ns' os' ≡ with_routes ((card_of ns os).routes ++ (route_read (drop (at + i * route_size) o) ∷ [])) (card_of ns os)
      → card_of ns' os' ≡ with_routes (routes_read (i + 1) (drop at o)) c
  unfolding with_routes
  routes-more i ns os ns' os' e h = rw (h, e, routes-are (i + 1) (drop at o), reads_more route_read route_size i at o, ← routes-are i (drop at o)) refl

  pub routes-room : (i : ℕ) (ns os : List ℕ) → card_of ns os ≡ with_routes (routes_read i (drop at o)) c → route_count ns ≡ i
  unfolding with_routes
  routes-room i ns os e = sym (routes-length ns os) ∙ ap (λ (x : Card). length x.routes) e ∙ routes-many i (drop at o)

-- ---- trees

pub trees-many : (f : Form) (n : ℕ) (o : List ℕ) → length (trees_read f n o) ≡ n
unfolding trees_read
trees-many f zero o = refl
trees-many f (suc n) o = ap suc (trees-many f n (tree_end f o))

-- none carries a label, and neither does what stands for an absent one
pub trees-bare : (f : Form) (n j : ℕ) (o : List ℕ) → (get_or (trees_read f n o) j (bare [])).label ≡ 0
unfolding trees_read tree_read bare
trees-bare f zero j o = refl
trees-bare f (suc n) zero o = refl
trees-bare f (suc n) (suc j) o = trees-bare f n j (tree_end f o)

-- one tree more, and one tree anew
pub entered : (ns os ns' os' : List ℕ) (t : Tree) → card_of ns' os' ≡ with_trees ((card_of ns os).trees ++ (t ∷ [])) (card_of ns os) → tree_count ns' ≡ tree_count ns + 1
unfolding with_trees
entered ns os ns' os' t e =
    sym (trees-length ns' os') ∙ ap (λ (x : Card). length x.trees) e ∙ length-append (card_of ns os).trees (t ∷ []) ∙ ap (λ (k : ℕ). k + 1) (trees-length ns os)

pub changed : (ns ns' os : List ℕ) (i : ℕ) (t : Tree) → card_of ns' os ≡ with_trees (set (card_of ns os).trees i t) (card_of ns os) → tree_count ns' ≡ tree_count ns
unfolding with_trees
changed ns ns' os i t e = sym (trees-length ns' os) ∙ ap (λ (x : Card). length x.trees) e ∙ length-set (card_of ns os).trees i t ∙ trees-length ns os

-- the last tree anew
module _ (c : Card) (ts : List Tree) (t : Tree) (i : ℕ) (h : i ≡ length ts) where
  last-at : tree_at i (with_trees (ts ++ (t ∷ [])) c) ≡ t
  unfolding tree_at with_trees
  last-at = get_or_at ts t [] (bare []) i (sym h)

  last_set : (u : Tree) → with_trees (set (with_trees (ts ++ (t ∷ [])) c).trees i u) (with_trees (ts ++ (t ∷ [])) c) ≡ with_trees (ts ++ (u ∷ [])) c
  unfolding with_trees
  last_set u = rw (set_at ts t [] u i (sym h)) refl

-- a tree at a place, whose name takes e octets
module _ (f : Form) (o : List ℕ) (at e : ℕ) (he : e ≡ extent f (drop (at + 3) o)) where
  tree-read : with_branches (fours_in neighbour_count (drop (at + (4 + e)) o)) (with_leaf (not (eqb (get_or o (at + (3 + e)) 0) 0)) (bare (name_in f (drop (at + 3) o)))) ≡ tree_read f (drop at o)
  unfolding tree_read with_branches with_leaf bare
  tree-read =
      let n : ℕ = extent f (drop 3 (drop at o)) in
      let k : e ≡ n = he ∙ ap (extent f) (sym (drop-drop 3 at o)) in
      rw (k, ← drop-drop (4 + n) at o, ← drop-drop 3 at o, ← get_or-drop at o (3 + n) 0) refl

  pub tree-made : (c c₁ c₂ c₃ : Card) (i : ℕ) (leaf : Bool) → i ≡ length c.trees
      → c₁ ≡ with_trees (c.trees ++ (bare (name_in f (drop (at + 3) o)) ∷ [])) c
      → c₂ ≡ with_trees (set c₁.trees i (with_leaf leaf (tree_at i c₁))) c₁ → leaf ≡ not (eqb (get_or o (at + (3 + e)) 0) 0)
      → c₃ ≡ with_trees (set c₂.trees i (with_branches (fours_in neighbour_count (drop (at + (4 + e)) o)) (tree_at i c₂))) c₂
      → c₃ ≡ with_trees (c.trees ++ (tree_read f (drop at o) ∷ [])) c
  tree-made c c₁ c₂ c₃ i leaf h e₁ e₂ ef e₃ =
      let a : Tree = bare (name_in f (drop (at + 3) o)) in
      let k₂ : c₂ ≡ with_trees (c.trees ++ (with_leaf leaf a ∷ [])) c = rw (e₂, e₁, last-at c c.trees a i h) (last_set c c.trees a i h (with_leaf leaf a)) in
      rw (e₃, k₂, last-at c c.trees (with_leaf leaf a) i h, last_set c c.trees (with_leaf leaf a) i h (with_branches (fours_in neighbour_count (drop (at + (4 + e)) o)) (with_leaf leaf a)), ← tree-read, ← ef) refl

  -- and the place behind it
  pub tree-behind : (i from : ℕ) → drop at o ≡ trees_end f i (drop from o) → drop (at + (tree_beside + e)) o ≡ trees_end f (i + 1) (drop from o)
  tree-behind i from here =
      ap (λ (k : ℕ). drop (at + (tree_beside + k)) o) he
      ∙ sym (tree-there f o at)
      ∙ ap (tree_end f) here
      ∙ sym (trees-end-more f i (drop from o))
      ∙ ap (λ (k : ℕ). trees_end f k (drop from o)) (sym (add-one i))

module _ (f : Form) (c : Card) (o : List ℕ) (from : ℕ) where
  pub trees-none : c.trees ≡ [] → c ≡ with_trees (trees_read f 0 (drop from o)) c
  unfolding with_trees trees_read
  trees-none e = ap (λ (ts : List Tree). with_trees ts c) e

  pub none-behind : drop from o ≡ trees_end f 0 (drop from o)
  unfolding trees_end
  none-behind = refl

  pub trees-more : (i at : ℕ) (ns os ns' os' : List ℕ) → card_of ns os ≡ with_trees (trees_read f i (drop from o)) c → drop at o ≡ trees_end f i (drop from o)
      → card_of ns' os' ≡ with_trees ((card_of ns os).trees ++ (tree_read f (drop at o) ∷ [])) (card_of ns os)
      → card_of ns' os' ≡ with_trees (trees_read f (i + 1) (drop from o)) c
  unfolding with_trees
  trees-more i at ns os ns' os' e here h = rw (h, e, here, add-one i, trees-read-more f i (drop from o)) refl

  pub trees-room : (i : ℕ) (ns os : List ℕ) → card_of ns os ≡ with_trees (trees_read f i (drop from o)) c → tree_count ns ≡ i
  unfolding with_trees
  trees-room i ns os e = sym (trees-length ns os) ∙ ap (λ (x : Card). length x.trees) e ∙ trees-many f i (drop from o)

-- ---- branches: n of them were set

abbrev pub Branched : List ℕ → List ℕ → List ℕ → ℕ → ℕ → ℕ → List ℕ → Type 0
Branched ns₀ os o at i n ns = card_of ns os ≡ with_trees (set (card_of ns₀ os).trees i (with_branches (front n (fours_in neighbour_count (drop at o)) (tree_at i (card_of ns₀ os)).branches) (tree_at i (card_of ns₀ os)))) (card_of ns₀ os)

module _ (ns₀ os o : List ℕ) (at i : ℕ) (h : i < tree_count ns₀) where
  fours-many : length (fours_in neighbour_count (drop at o)) ≡ 16
  fours-many = fours-length 16 (drop at o)

  place_in : i < length (card_of ns₀ os).trees
  place_in = rw trees-length h

  pub branched-none : Branched ns₀ os o at i 0 ns₀
  unfolding with_trees with_branches tree_at
  branched-none = rw (set-get_or (card_of ns₀ os).trees i (bare [])) refl

  pub branched-in : (n : ℕ) (ns : List ℕ) → Branched ns₀ os o at i n ns → tree_count ns ≡ tree_count ns₀
  unfolding with_trees
  branched-in n ns e = sym (trees-length ns os) ∙ ap (λ (x : Card). length x.trees) e ∙ length-set (card_of ns₀ os).trees i _ ∙ trees-length ns₀ os

  pub branched-more : (n v : ℕ) (ns ns' : List ℕ) → n < 16 → Branched ns₀ os o at i n ns → v ≡ four_at o (at + n * 4)
      → card_of ns' os ≡ with_trees (set (card_of ns os).trees i (with_branch n v (tree_at i (card_of ns os)))) (card_of ns os) → Branched ns₀ os o at i (n + 1) ns'
  unfolding with_trees with_branches with_branch tree_at
  branched-more n v ns ns' lt e hv k =
      let t : Tree = get_or (card_of ns₀ os).trees i (bare []) in
      let v' : v ≡ get_or (fours_in neighbour_count (drop at o)) n 0 =
      hv ∙ sym (fours-get 16 n (drop at o) lt ∙ four-drop o at (n * 4)) in
      let f = front-more (fours_in neighbour_count (drop at o)) t.branches _ 0 v n (omega (arith, fours-many)) (omega (arith, branches-length ns₀ os i h)) refl v' in
      rw (k, e, get_or-set_same (card_of ns₀ os).trees i _ (bare []) place_in, set-set) (rw f refl)

  pub branched-all : (n : ℕ) (ns : List ℕ) → neighbour_count ≤ n → Branched ns₀ os o at i n ns → card_of ns os ≡ with_trees (set (card_of ns₀ os).trees i (with_branches (fours_in neighbour_count (drop at o)) (tree_at i (card_of ns₀ os)))) (card_of ns₀ os)
  branched-all n ns le e =
      let d = copy_done (fours_in neighbour_count (drop at o)) (tree_at i (card_of ns₀ os)).branches _ n (omega (arith, fours-many)) (fours-many ∙ sym (branches-length ns₀ os i h)) refl in
      rw (← d) e

-- ---- head, routes and trees

module _ (f : Form) (o : List ℕ) where
  pub rows_whole : (b id head routes trees r : ℕ) (c₁ c₂ c₃ c₄ : Card) → b ≡ four_at o 3 → id ≡ four_at o 7 → head ≡ head_size f → routes ≡ get_or o 11 0 → trees ≡ get_or o 12 0
      → c₁ ≡ fresh b → c₂ ≡ with_next id c₁ → c₃ ≡ with_routes (routes_read routes (drop head o)) c₂
      → c₄ ≡ with_trees (trees_read f trees (drop (head + routes * route_size) o)) c₃ → drop r o ≡ trees_end f trees (drop (head + routes * route_size) o)
      → (c₄ ≡ rows_read f o) × (drop r o ≡ labels_begin f o)
  unfolding rows_read head_read trees_begin labels_begin
  rows_whole b id head routes trees r c₁ c₂ c₃ c₄ hb hi hh hr ht e₁ e₂ e₃ e₄ e₅ = (rw (e₄, e₃, e₂, e₁, hb, hi, hh, hr, ht) refl, e₅ ∙ rw (hh, hr, ht) refl)

pub head-empty : (b id : ℕ) (c₁ c₂ : Card) → c₁ ≡ fresh b → c₂ ≡ with_next id c₁ → (c₂.routes ≡ []) × (c₂.trees ≡ [])
unfolding fresh with_next
head-empty b id c₁ c₂ e₁ e₂ = (rw (e₂, e₁) refl, rw (e₂, e₁) refl)

pub still-empty : (rs : List Route) (c₂ c₃ : Card) → c₂.trees ≡ [] → c₃ ≡ with_routes rs c₂ → c₃.trees ≡ []
unfolding with_routes
still-empty rs c₂ c₃ h e = rw e h
