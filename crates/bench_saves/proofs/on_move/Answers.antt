-- `bench_saves::on_move` meets its contract: the space is that of the other form. Assumes nothing.
use Rattle.bench_saves.proofs.Saves.{other-old, other-new}
use Rattle.bench_saves.proofs.on_move.Goals as goal

pub move_into-requires : goal.move_into-requires
move_into-requires c = (c.requires.0, c.requires.1, other-old _ _ c.if-second.true c.longest_old-space.ensures)

pub move_into-requires-else-second : goal.move_into-requires-else-second
move_into-requires-else-second c = (c.requires.0, c.requires.1, other-new _ _ c.if-second.false c.longest_save-space.ensures)
