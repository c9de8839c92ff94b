-- `save_written::is_name` meets its contract. Assumes nothing.
use native.Mathlib.Omega.{arith}
use mathlib.Core.Path.{refl}
use Rattle.save_written.proofs.Places.{name-there, old-there, takes-spaces, takes_one}
use Rattle.save_written.proofs.is_name.Goals as goal

pub bounds-octets-at : goal.bounds-octets-at
bounds-octets-at c =
    takes_one c.args.octets.now c.args.at _ c.if-second.true c.requires

pub overflow_cast-result : goal.overflow_cast-result
overflow_cast-result c = omega (arith, c.shared_slice_known-then-second-1.given c.args.at)

pub returns-then-second : goal.returns-then-second
returns-then-second c =
    name-there c.args.octets.now c.args.at _ _ c.if-second.true c.requires refl

pub is_two_spaces-requires : goal.is_two_spaces-requires
is_two_spaces-requires c =
    takes-spaces c.args.octets.now c.args.at _ c.if-second.false c.requires

pub returns : goal.returns
returns c =
    old-there c.args.octets.now c.args.at _ _ c.if-second.false c.is_two_spaces.ensures
