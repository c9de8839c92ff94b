use Prim.Native.Nat.{ℕ}
use mathlib.Core.Path.{◌≡◌}
use lib.ListN.{drop}
use mathlib.Core.List.{List}
use Rattle.meaning.specs.Octets.{all}
use Rattle.meaning.specs.Card.{tree_at}
use Rattle.meaning_save.specs.Save.{is_branch_label}
use Rattle.memory.specs.Memory.{card_of}
use Rattle.save_rules_rows.proofs.branches_good.Given as goal

abbrev pub invariant-loop-k : goal.invariant-loop-k
invariant-loop-k l = (os : List ℕ) → all is_branch_label (tree_at l.i (card_of l.numbers os)).branches ≡ all is_branch_label (drop l.k (tree_at l.i (card_of l.numbers os)).branches)
