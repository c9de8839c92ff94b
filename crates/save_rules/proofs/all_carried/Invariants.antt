use Prim.Native.Nat.{ℕ, ◌+◌}
use mathlib.Core.Path.{◌≡◌}
use mathlib.Core.Bool.{true}
use mathlib.Core.List.{List}
use lib.ListN.{drop}
use Rattle.meaning.specs.Octets.{all}
use Rattle.meaning_save.specs.Save.{all_carried, carries_own, once_each, same_name}
use Rattle.memory.specs.Memory.{card_of, base_in}
use Rattle.save_rules.proofs.all_carried.Given as goal

abbrev pub invariant-loop-p : goal.invariant-loop-p
invariant-loop-p l = (os : List ℕ) → once_each same_name (card_of l.numbers os).trees ≡ true → all (carries_own (card_of l.numbers os)) (card_of l.numbers os).trees ≡ true
    → all_carried (card_of l.numbers os) (card_of l.numbers os).base (card_of l.numbers os).labels ≡ all_carried (card_of l.numbers os) (base_in l.numbers + l.p) (drop l.p (card_of l.numbers os).labels)
