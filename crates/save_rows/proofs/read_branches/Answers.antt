-- `save_rows::read_branches` meets its contract: the part that is lent has all of them. Assumes nothing.
use Prim.Native.Nat.{◌+◌, ◌*◌, ◌-◌}
use native.Mathlib.Omega.{arith}
use mathlib.Core.Path.{◌≡◌}
use lib.ListN.{take, drop}
use Rattle.meaning.specs.Card.{neighbour_count}
use Rattle.meaning_save.specs.Save.{fours_in}
use Rattle.save_rows.proofs.Rows.{fours-within}
use Rattle.save_rows.proofs.read_branches.Goals as goal

pub returns-then-e-octets : goal.returns-then-e-octets
returns-then-e-octets c =
    let a = c.args in
    let size = a.at + 4 * neighbour_count - a.at in
    let part : fours_in neighbour_count (take size (drop a.at a.octets.now)) ≡ fours_in neighbour_count (drop a.at a.octets.now) =
    fours-within neighbour_count size (drop a.at a.octets.now) (omega arith) in
    λ os. let e = c.lay_branches.ensures os in rw part at e
