-- The card that the lent memory denotes: any content denotes one. docs/MEMORY.md draws the layout. Assumes nothing.
use Rattle.std.specs.Prelude.{ℕ, ◌+◌, ◌*◌, ◌-◌, ◌/◌, ◌%◌, ◌≤◌, ◌<◌, Bool, true, not, ◌&&◌, ◌≡◌, List, length, get_or, drop, eqb, leb, ltb}
use Rattle.meaning.specs.Octets.{pick, place}
use Rattle.meaning.specs.Wire.{root_limit, name_limit}
use Rattle.meaning.specs.Card.{Route, Tree, Use, free, mapped, awaiting, Card, is_free, use_of, tree_limit, route_limit, label_count, neighbour_count}
use Rattle.meaning.specs.Events.{base_outside}
use Rattle.octets.specs.Part.{tab}
use Rattle.octets.specs.Bits.{bit}
use Rattle.memory.specs.Sizes.{root_space, name_space, turn_place, route_column, own_column, row_width, row_column, branch_column, mark_column, word_column, label_names, root_names, octet_count}

-- at most k
unfoldable pub up_to : ℕ → ℕ → ℕ
up_to k n = pick (ltb n k) n k

-- ---- names and roots: a length, and then that many octets, at most k

unfoldable pub text_at : ℕ → List ℕ → ℕ → List ℕ
text_at k os p = tab (up_to k (get_or os p 0)) (λ j. get_or os (p + 1 + j) 0)

-- the text o stands in the space at place a, which has room for its length and k octets; all outside that space is as it was
pub record Placed (k a : ℕ) (o xs ys : List ℕ) : Type 0 where
  pub reads : text_at k ys a ≡ o
  pub rest : (j : ℕ) → (a ≤ j → j < a + 1 + k → ⊥) → get_or ys j 0 ≡ get_or xs j 0

unfoldable pub tree_name : List ℕ → ℕ → List ℕ
tree_name os i = text_at name_limit os (i * name_space)

unfoldable pub label_name : List ℕ → ℕ → List ℕ
label_name os p = text_at name_limit os (label_names + p * name_space)

unfoldable pub root_name : List ℕ → ℕ → List ℕ
root_name os i = text_at root_limit os (root_names + i * root_space)

-- a column: n texts of at most k octets each, one behind the other from a place on; and the jth of them
abbrev pub Column : ℕ → ℕ → ℕ → Type 0
Column k from n = (k < octet_count) × (n ≤ octet_count) × (from + n * (k + 1) ≤ octet_count)

unfoldable pub in_column : ℕ → ℕ → List ℕ → ℕ → List ℕ
in_column k from os j = text_at k os (from + j * (k + 1))

-- ---- numbers

-- outside its range the base reads as 16, so that no label of the block is 0
unfoldable pub base_in : List ℕ → ℕ
base_in ns = pick (base_outside (get_or ns 0 0)) 16 (get_or ns 0 0)

unfoldable pub next_in : List ℕ → ℕ
next_in ns = get_or ns 1 0 % 4294967296

unfoldable pub route_count : List ℕ → ℕ
route_count ns = up_to route_limit (get_or ns 2 0)

unfoldable pub tree_count : List ℕ → ℕ
tree_count ns = up_to tree_limit (get_or ns 3 0)

-- a tree stands at place i. The limit follows, and is said too: a place in a column needs it
abbrev pub StandsAt : List ℕ → ℕ → Type 0
StandsAt ns i = (i < tree_count ns) × (i < tree_limit)

-- the number of root i's entry holds its route and its counts, an octet each: via + 256 * standing + 65536 * lone
abbrev pub route_number : List ℕ → ℕ → ℕ
route_number ns i = get_or ns (route_column + i) 0

-- an entry, of its root's octets and its number
unfoldable pub entry_in : List ℕ → ℕ → Route
entry_in r x = record { root = r; via = x % 256; standing = x / 256 % 256; lone = x / 65536 % 256 }

unfoldable pub route_in : List ℕ → List ℕ → ℕ → Route
route_in ns os i = entry_in (root_name os i) (route_number ns i)

-- ---- labels: each has a bit and a mark

-- the words of free labels, 64 labels to a word
abbrev pub word_at : List ℕ → ℕ → ℕ
word_at ns w = get_or ns (word_column + w) 0

-- whether the label at place p of the block is free: said here, and nowhere else
unfoldable pub is_free_at : List ℕ → ℕ → Bool
is_free_at ns p = bit (p % 64) (word_at ns (p / 64))

-- the mark of the label at place p, read where the label is not free: use + 256 * place, its use and the place of the tree that carries it
abbrev pub mark_at : List ℕ → ℕ → ℕ
mark_at ns p = get_or ns (mark_column + p) 0

abbrev pub mark_use : ℕ → ℕ
mark_use m = m % 256

abbrev pub mark_place : ℕ → ℕ
mark_place m = m / 256

-- what a label that is not free is used for, for the name a: 0 to 15 are mapped to that neighbour, 16 to 31 await release from
-- neighbour 0 to 15 (nothing writes a use above 31; it would await what no neighbour can send)
unfoldable pub use_in : ℕ → List ℕ → Use
use_in u a = pick (ltb u neighbour_count) (mapped u a) (awaiting (u - neighbour_count) a)

unfoldable pub is_mapped_at : List ℕ → ℕ → Bool
is_mapped_at ns p = not (is_free_at ns p) && ltb (mark_use (mark_at ns p)) neighbour_count

unfoldable pub label_in : List ℕ → List ℕ → ℕ → Use
label_in ns os p = pick (is_free_at ns p) free (use_in (mark_use (mark_at ns p)) (label_name os p))

-- ---- trees

-- the place in the block of the label that the tree at place i has for its own; any number that is no place is none
abbrev pub own_place : List ℕ → ℕ → ℕ
own_place ns i = get_or ns (own_column + i) 0

-- the tree at place i carries the label at place p: the label is mapped, and its mark names the tree.
-- A mark names one place, so no label has two carriers, whatever the memory holds, and a label's mark leads to its carrier
unfoldable pub carries_at : List ℕ → ℕ → ℕ → Bool
carries_at ns i p = ltb p label_count && (is_mapped_at ns p && eqb (mark_place (mark_at ns p)) i)

-- the label of the tree at place i, by the place p that it has for its own; 0, as for none, where it does not carry that one
unfoldable pub own_label : List ℕ → ℕ → ℕ → ℕ
own_label ns i p = pick (carries_at ns i p) (base_in ns + p) 0

unfoldable pub tree_in : List ℕ → List ℕ → ℕ → Tree
tree_in ns os i = record {
  name = tree_name os i;
  branches = tab neighbour_count (λ n. get_or ns (branch_column + i * row_width + n) 0);
  leaf = not (eqb (get_or ns (row_column + i * row_width) 0) 0);
  label = own_label ns i (own_place ns i);
}

-- ---- the last label given

-- the place after that of the last label given, from 1 to label_count; any other number is none
abbrev pub turn_in : List ℕ → ℕ
turn_in ns = get_or ns turn_place 0

-- the label before place v of the block of a base; 0 where v is none of 1 to label_count
unfoldable pub label_before : ℕ → ℕ → ℕ
label_before base v = pick (ltb 0 v && leb v label_count) (base + v - 1) 0

unfoldable pub last_in : List ℕ → ℕ
last_in ns = label_before (base_in ns) (turn_in ns)

-- ---- the card

unfoldable pub card_of : List ℕ → List ℕ → Card
card_of ns os = record {
  base = base_in ns;
  next = next_in ns;
  routes = tab (route_count ns) (route_in ns os);
  trees = tab (tree_count ns) (tree_in ns os);
  labels = tab label_count (label_in ns os);
  last = last_in ns;
}

-- ---- a change of one label

-- the bit and the mark of the label at place p are anew, and all else is as it was
pub record Relabelled (p : ℕ) (ns ms : List ℕ) : Type 0 where
  pub long : length ms ≡ length ns
  pub rest : (k : ℕ) → k < mark_column → get_or ms k 0 ≡ get_or ns k 0
  pub marks : (q : ℕ) → q < label_count → (q ≡ p → ⊥) → mark_at ms q ≡ mark_at ns q
  pub frees : (q : ℕ) → q < label_count → (q ≡ p → ⊥) → is_free_at ms q ≡ is_free_at ns q

-- ---- a label of any number

-- p is its place in the block; label_count or more where it is not of the block, and then it is used for nothing
pub record InBlock (ns : List ℕ) (label p : ℕ) : Type 0 where
  pub inside : p < label_count → label ≡ base_in ns + p
  pub outside : label_count ≤ p → (os : List ℕ) → use_of label (card_of ns os) ≡ free

-- ---- a search for a free label

-- the first free one from place i on is at place r; label_count where none is free there
abbrev pub FirstFree : List ℕ → ℕ → ℕ → Type 0
FirstFree ns i r = ((os : List ℕ) → r ≡ i + place is_free (drop i (card_of ns os).labels)) × (r ≤ label_count) × (r < label_count → is_free_at ns r ≡ true)
