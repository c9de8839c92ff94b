-- The table without all that is a lost neighbour's, part by part: branches, labels. Assumes nothing.
use Rattle.std.specs.Prelude.{ℕ, ◌+◌, ◌≤◌, ◌<◌, ◌≡◌, Bool, true, false, not, ◌&&◌, ◌||◌, List, [], ◌∷◌, length, get_or, eqb}
use Rattle.meaning.specs.Octets.{pick}
use Rattle.meaning.specs.Card.{Tree, Card, with_branch, with_label, held_for, label_count, neighbour_count}
use Rattle.memory.specs.Sizes.{mark_column}
use Rattle.memory.specs.Memory.{is_free_at, mark_at, mark_use}

-- the trees, each without n's branch
unfoldable pub branches_without : ℕ → List Tree → List Tree
branches_without n [] = []
branches_without n (t ∷ ts) = with_branch n 0 t ∷ branches_without n ts

-- trees of the card c, each without its label where it held that for n
unfoldable pub labels_without : ℕ → Card → List Tree → List Tree
labels_without n c [] = []
labels_without n c (t ∷ ts) = with_label (pick (eqb (held_for c t) n) 0 t.label) t ∷ labels_without n c ts

-- whether the label at place p is n's: mapped to it, or awaiting its release
unfoldable pub is_of_at : ℕ → List ℕ → ℕ → Bool
is_of_at n ns p = not (is_free_at ns p) && (eqb (mark_use (mark_at ns p)) n || eqb (mark_use (mark_at ns p)) (neighbour_count + n))

-- Of the labels from place a on and before place e those that are n's are free, and all else is as it was. (The mark of a free label is not read.)
pub record Freed (n a e : ℕ) (ns ms : List ℕ) : Type 0 where
  pub long : length ms ≡ length ns
  pub rest : (k : ℕ) → k < mark_column → get_or ms k 0 ≡ get_or ns k 0
  pub gone : (q : ℕ) → q < label_count → a ≤ q → q < e → is_of_at n ns q ≡ true → is_free_at ms q ≡ true
  pub kept : (q : ℕ) → q < label_count → (a ≤ q → q < e → is_of_at n ns q ≡ false) → (is_free_at ms q ≡ is_free_at ns q) × (mark_at ms q ≡ mark_at ns q)
