-- The card's table: routes, trees, labels, and what can be asked of it.
-- Places do for absence: a search gives the list's length where it finds nothing, and reading there gives "no route", an empty tree, a free label.
-- Assumes nothing: every definition means something on any table.
use Rattle.std.specs.Prelude.{ℕ, suc, ◌+◌, ◌*◌, ◌-◌, Bool, true, false, not, ◌&&◌, ◌||◌, List, [], ◌∷◌, get_or, length, set, replicate, eqb, leb, ltb}
use Rattle.meaning.specs.Octets.{pick, place, place_from, count, any, same}
use Rattle.meaning.specs.Wire.{root_in, element_refusal, record_limit, most_label}

-- ---- sizes

abbrev pub tree_limit : ℕ
tree_limit = 64

abbrev pub route_limit : ℕ
route_limit = 32

abbrev pub label_count : ℕ
label_count = 256

abbrev pub neighbour_count : ℕ
neighbour_count = 16

-- the highest base: its block ends with the highest label
abbrev pub most_base : ℕ
most_base = most_label + 1 - label_count

-- the most octets that one call sends: two messages for each tree
abbrev pub sent_limit : ℕ
sent_limit = tree_limit * 2 * record_limit

-- ---- what the table holds

-- a route, as the route order's number: 0 to 15 a neighbour, 16 this node, 17 no route
abbrev pub this_node : ℕ
this_node = 16

abbrev pub no_route : ℕ
no_route = 17

-- in the place of a neighbour's number: nobody, told by the number that is no route
abbrev pub nobody : ℕ
nobody = no_route

-- standing: how many trees of the root stand; lone: how many of these have only one branch, held or not, and no leaf
pub record Route : Type 0 where
  pub root : List ℕ
  pub via : ℕ
  pub standing : ℕ
  pub lone : ℕ

-- name: the octets of its P2MP element
-- branches: sixteen places, one for each neighbour, with the label that it gave; 0 for no branch (no label is under 16)
-- label: our own label for the tree, or 0 for none
pub record Tree : Type 0 where
  pub name : List ℕ
  pub branches : List ℕ
  pub leaf : Bool
  pub label : ℕ

-- what a label of ours is used for: with the neighbour, and the tree's name
pub data Use : Type 0 where
  free : Use
  mapped : ℕ → List ℕ → Use
  awaiting : ℕ → List ℕ → Use

-- next: the next message's identifier; trees: oldest first; labels: place i is the use of label base + i
-- last: the last label given out, or 0 for none
pub record Card : Type 0 where
  pub base : ℕ
  pub next : ℕ
  pub routes : List Route
  pub trees : List Tree
  pub labels : List Use
  pub last : ℕ

unfoldable pub fresh : ℕ → Card
fresh b = record { base = b; next = 1; routes = []; trees = []; labels = replicate label_count free; last = 0 }

-- ---- one field anew

unfoldable pub with_next : ℕ → Card → Card
with_next n c = record { base = c.base; next = n; routes = c.routes; trees = c.trees; labels = c.labels; last = c.last }

unfoldable pub with_routes : List Route → Card → Card
with_routes rs c = record { base = c.base; next = c.next; routes = rs; trees = c.trees; labels = c.labels; last = c.last }

unfoldable pub with_trees : List Tree → Card → Card
with_trees ts c = record { base = c.base; next = c.next; routes = c.routes; trees = ts; labels = c.labels; last = c.last }

unfoldable pub with_labels : List Use → Card → Card
with_labels ls c = record { base = c.base; next = c.next; routes = c.routes; trees = c.trees; labels = ls; last = c.last }

unfoldable pub with_last : ℕ → Card → Card
with_last l c = record { base = c.base; next = c.next; routes = c.routes; trees = c.trees; labels = c.labels; last = l }

abbrev pub with_counts : ℕ → ℕ → Route → Route
with_counts standing lone x = record { root = x.root; via = x.via; standing = standing; lone = lone }

unfoldable pub with_branch : ℕ → ℕ → Tree → Tree
with_branch n l t = record { name = t.name; branches = set t.branches n l; leaf = t.leaf; label = t.label }

unfoldable pub with_leaf : Bool → Tree → Tree
with_leaf b t = record { name = t.name; branches = t.branches; leaf = b; label = t.label }

unfoldable pub with_label : ℕ → Tree → Tree
with_label l t = record { name = t.name; branches = t.branches; leaf = t.leaf; label = l }

-- ---- routes

unfoldable pub is_for : List ℕ → Route → Bool
is_for r x = same x.root r

unfoldable pub route_place : List ℕ → Card → ℕ
route_place r c = place (is_for r) c.routes

-- a root without an entry has no route
abbrev pub no_entry : List ℕ → Route
no_entry r = record { root = r; via = no_route; standing = 0; lone = 0 }

unfoldable pub route_of : List ℕ → Card → ℕ
route_of r c = (get_or c.routes (route_place r c) (no_entry r)).via

-- ---- trees

unfoldable pub named : List ℕ → Tree → Bool
named a t = same t.name a

-- with neither branch nor leaf nor label
unfoldable pub bare : List ℕ → Tree
bare a = record { name = a; branches = replicate neighbour_count 0; leaf = false; label = 0 }

unfoldable pub tree_place : List ℕ → Card → ℕ
tree_place a c = place (named a) c.trees

-- the tree of that name; a bare one where it doesn't stand
unfoldable pub tree_of : List ℕ → Card → Tree
tree_of a c = get_or c.trees (tree_place a c) (bare a)

-- the tree at a place
unfoldable pub tree_at : ℕ → Card → Tree
tree_at i c = get_or c.trees i (bare [])

unfoldable pub stands : List ℕ → Card → Bool
stands a c = ltb (tree_place a c) (length c.trees)

unfoldable pub is_branch : ℕ → Bool
is_branch l = ltb 0 l

unfoldable pub is_empty : Tree → Bool
is_empty t = not (any is_branch t.branches) && not t.leaf

-- one branch, held or not, and no leaf
unfoldable pub is_lone : Tree → Bool
is_lone t = eqb (count is_branch t.branches) 1 && not t.leaf

-- A branch from the upstream is HELD: it stays in the table, and leads nowhere, since a feed would go back to whom it came from.
-- These are the branches that are not held where u is the upstream (16 or 17: no neighbour is).
unfoldable pub not_held : ℕ → Tree → List ℕ
not_held u t = set t.branches u 0

-- whether the tree has a leaf, or a branch from a neighbour other than u
unfoldable pub leads_on : ℕ → Tree → Bool
leads_on u t = any is_branch (not_held u t) || t.leaf

-- ---- labels

unfoldable pub is_free : Use → Bool
is_free free = true
is_free (mapped n a) = false
is_free (awaiting n a) = false

unfoldable pub is_awaiting : ℕ → List ℕ → Use → Bool
is_awaiting r a free = false
is_awaiting r a (mapped n t) = false
is_awaiting r a (awaiting n t) = eqb n r && same t a

-- the neighbour to which a label is mapped; nobody where it is not mapped
unfoldable pub mapped_to : Use → ℕ
mapped_to free = nobody
mapped_to (mapped n a) = n
mapped_to (awaiting n a) = nobody

-- what the label numbered l is used for; a number outside the block is never in use
unfoldable pub use_of : ℕ → Card → Use
use_of l c = pick (leb c.base l) (get_or c.labels (l - c.base) free) free

-- the neighbour for which the tree holds its label; nobody where it holds none (no label is 0)
unfoldable pub held_for : Card → Tree → ℕ
held_for c t = mapped_to (use_of t.label c)

-- the place of the block at which the search for a free label begins: that after the last one given, or 0 where none was (no base is 0)
unfoldable pub turn : Card → ℕ
turn c = suc c.last - c.base

-- A label given out is the first free one after the last given, going round the block.
unfoldable pub next_free : Card → ℕ
next_free c = c.base + place_from is_free (turn c) c.labels

unfoldable pub free_labels : Card → ℕ
free_labels c = count is_free c.labels

-- ---- lookups

pub record Branch : Type 0 where
  pub neighbour : ℕ
  pub label : ℕ

-- Nothing is no branch and no leaf: so leads a label that is not mapped or a name that doesn't stand, and a tree all of whose branches are held.
pub record Feed : Type 0 where
  pub branches : List Branch
  pub leaf : Bool

unfoldable pub nothing : Feed
nothing = record { branches = []; leaf = false }

-- the branches by rising neighbour number, of places from n on
unfoldable pub branches_from : ℕ → List ℕ → List Branch
branches_from n [] = []
branches_from n (l ∷ ls) =
    let later = branches_from (suc n) ls in
    let here : List Branch = record { neighbour = n; label = l } ∷ later in
    pick (is_branch l) here later

-- where the tree leads while u is its upstream
unfoldable pub feed_of : ℕ → Tree → Feed
feed_of u t = record { branches = branches_from 0 (not_held u t); leaf = t.leaf }

-- the first tree that carries the label
unfoldable pub carries : ℕ → Tree → Bool
carries l t = eqb t.label l

unfoldable pub carrier : ℕ → Card → Tree
carrier l c = tree_at (place (carries l) c.trees) c

-- who sends on a mapped label is the neighbour that it is mapped to
unfoldable pub feed_of_use : ℕ → Card → Use → Feed
feed_of_use l c free = nothing
feed_of_use l c (mapped n a) = feed_of n (carrier l c)
feed_of_use l c (awaiting n a) = nothing

unfoldable pub lookup_label : ℕ → Card → Feed
lookup_label l c = feed_of_use l c (use_of l c)

-- by the octets of an element; those that 6, 7 or 18 refuse name none
unfoldable pub lookup_name : List ℕ → Card → Feed
lookup_name e c = pick (eqb (element_refusal e) 0) (feed_of (route_of (root_in e) c) (tree_of e c)) nothing
