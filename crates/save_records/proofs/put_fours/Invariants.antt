-- `save_records::put_fours` meets its contract: the invariant is that k fours stand. Assumes nothing.
use Prim.Native.Nat.{ℕ, ◌*◌}
use mathlib.Core.Path.{◌≡◌}
use mathlib.Core.List.{List}
use lib.ListN.{length}
use Rattle.meaning.specs.Card.{tree_at, neighbour_count}
use Rattle.memory.specs.Memory.{card_of}
use Rattle.save_records.proofs.Rows.{Rows}
use Rattle.save_records.proofs.Records.{four_row}
use Rattle.save_records.proofs.put_fours.Given as goal

abbrev pub invariant-loop-k : goal.invariant-loop-k
invariant-loop-k l = (length l.out ≡ length l.initial.out) × ((os : List ℕ) → Rows (four_row (tree_at l.i (card_of l.numbers os)).branches) neighbour_count 0 l.initial.out l.k (l.k * 4) l.out)
