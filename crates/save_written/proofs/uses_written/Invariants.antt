-- `save_written::uses_written` meets its contract: what is left decides. Assumes nothing.
use Prim.Native.Nat.{◌+◌, ◌*◌, ◌-◌, ◌≤◌}
use mathlib.Core.Path.{◌≡◌}
use lib.ListN.{drop}
use Rattle.meaning_save.specs.Save.{form_of, use_beside}
use Rattle.save_written.specs.Written.{uses_written}
use Rattle.save_written.proofs.uses_written.Given as goal

abbrev pub invariant-loop : goal.invariant-loop
invariant-loop l = (uses_written (form_of l.second) l.base l.base l.n (drop l.from l.octets) ≡ uses_written (form_of l.second) l.base l.least (l.n - l.counter) (drop l.at l.octets)) × (l.at ≤ l.from + l.counter * (use_beside + 256))
