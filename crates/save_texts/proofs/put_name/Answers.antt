-- `save_texts::put_name` meets its contract, in either form: a text in a space of its own length, or two spaces. Assumes nothing.
use native.Mathlib.Omega.{arith}
use Rattle.save_texts.proofs.Texts.{name_new, name-old, room-new, room-old}
use Rattle.save_texts.proofs.put_name.Goals as goal

pub put_space-requires : goal.put_space-requires
put_space-requires c =
    (room-new _ _ _ _ c.if-second.true c.fitting-room.ensures.0 c.requires, omega arith)

pub returns-then-second : goal.returns-then-second
returns-then-second c =
    name_new _ _ _ _ c.if-second.true c.fitting-room.ensures.0 c.put_space.ensures

pub put_spaces-requires : goal.put_spaces-requires
put_spaces-requires c =
    room-old _ _ _ c.if-second.false c.requires

pub returns-else-second : goal.returns-else-second
returns-else-second c = name-old _ _ _ c.if-second.false c.put_spaces.ensures
