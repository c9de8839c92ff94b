-- What is said of trees that are made ready to stand one place lower. Assumes nothing.
use Rattle.std.specs.Prelude.{ℕ, ◌+◌, ◌*◌, ◌≤◌, ◌<◌, ◌≡◌, List, length, get_or}
use Rattle.meaning.specs.Card.{label_count, tree_limit}
use Rattle.memory.specs.Sizes.{name_space, own_column, row_column, mark_column, word_column}
use Rattle.memory.specs.Memory.{tree_name, label_in, own_place, own_label}

-- Before the gap at place i is closed: the trees at the places i + 1 to j are ready to stand one place lower. Each carries the same label there.
-- Those before the gap and those behind j carry theirs as they did; what every label is used for, and all else, is as it was.
pub record Lowered (i j : ℕ) (ns ms : List ℕ) : Type 0 where
  pub long : length ms ≡ length ns
  pub rest : (k : ℕ) → (own_column ≤ k → k < row_column → ⊥) → (mark_column ≤ k → k < word_column → ⊥) → get_or ms k 0 ≡ get_or ns k 0
  pub uses : (os : List ℕ) (p : ℕ) → p < label_count → label_in ms os p ≡ label_in ns os p
  pub before : (q : ℕ) → q < i → q < tree_limit → own_label ms q (own_place ms q) ≡ own_label ns q (own_place ns q)
  pub moved : (q : ℕ) → i ≤ q → q < j → own_label ms q (own_place ms (q + 1)) ≡ own_label ns (q + 1) (own_place ns (q + 1))
  pub behind : (q : ℕ) → j < q → q < tree_limit → own_label ms q (own_place ms q) ≡ own_label ns q (own_place ns q)

-- one of them, from place j + 1 to place j: a tree at another place q carries what it did, read as at any place a but these two
pub record LoweredOne (j : ℕ) (ns ms : List ℕ) : Type 0 where
  pub long : length ms ≡ length ns
  pub rest : (k : ℕ) → (own_column ≤ k → k < row_column → ⊥) → (mark_column ≤ k → k < word_column → ⊥) → get_or ms k 0 ≡ get_or ns k 0
  pub uses : (os : List ℕ) (p : ℕ) → p < label_count → label_in ms os p ≡ label_in ns os p
  pub moved : own_label ms j (own_place ms (j + 1)) ≡ own_label ns (j + 1) (own_place ns (j + 1))
  pub others : (q a : ℕ) → q < tree_limit → (q ≡ j + 1 → ⊥) → (a ≡ j → ⊥) → (a ≡ j + 1 → ⊥) → own_label ms a (own_place ms q) ≡ own_label ns a (own_place ns q)

-- The names of the trees at the places i + 1 to j stand one place lower. What the spaces of the places i to j hold beside a name is not said.
pub record NamesLowered (i j : ℕ) (os qs : List ℕ) : Type 0 where
  pub long : length qs ≡ length os
  pub moved : (q : ℕ) → i ≤ q → q < j → tree_name qs q ≡ tree_name os (q + 1)
  pub rest : (k : ℕ) → (i * name_space ≤ k → k < (j + 1) * name_space → ⊥) → get_or qs k 0 ≡ get_or os k 0
