-- A tree that stands, and one that does not: what the search by a name finds. Assumes nothing.
use Rattle.std.specs.Prelude.{ℕ, ◌≤◌, ◌<◌, ◌≡◌, List, [], length}
use Rattle.meaning.specs.Lists.{same-eq, place-finds, get_d-out, get_d-same}
use Rattle.meaning.specs.Card.{Card, named, bare, tree_place, tree_of, tree_at}

pub standing-at : (c : Card) (a : List ℕ) → tree_place a c < length c.trees → tree_of a c ≡ tree_at (tree_place a c) c
unfolding tree_of tree_at
standing-at c a h = get_d-same c.trees (tree_place a c) (bare a) (bare []) h

pub standing-name : (c : Card) (a : List ℕ) → tree_place a c < length c.trees → (tree_at (tree_place a c) c).name ≡ a
unfolding tree_place tree_at named
standing-name c a h = same-eq _ _ (place-finds (named a) c.trees (bare []) h)

pub not-standing : (c : Card) (a : List ℕ) → length c.trees ≤ tree_place a c → tree_of a c ≡ bare a
unfolding tree_of
not-standing c a h = get_d-out c.trees (tree_place a c) (bare a) h
