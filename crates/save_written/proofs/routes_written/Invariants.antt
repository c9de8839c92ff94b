-- `save_written::routes_written` meets its contract: what is left decides. Assumes nothing.
use Prim.Native.Nat.{◌+◌, ◌*◌, ◌-◌, ◌≤◌}
use mathlib.Core.Path.{◌≡◌}
use lib.ListN.{drop}
use Rattle.meaning_save.specs.Save.{route_size}
use Rattle.save_written.specs.Written.{routes_written}
use Rattle.save_written.proofs.routes_written.Given as goal

abbrev pub invariant-loop : goal.invariant-loop
invariant-loop l = (routes_written l.n (drop l.from l.octets) ≡ routes_written (l.n - l.counter) (drop l.at l.octets)) × (l.at ≤ l.from + l.counter * route_size)
