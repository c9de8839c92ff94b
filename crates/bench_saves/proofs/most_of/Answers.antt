-- `bench_saves::most_of` meets its contract, in either form. Assumes nothing.
use Rattle.bench_saves.proofs.Saves.{most-new, most-old}
use Rattle.bench_saves.proofs.most_of.Goals as goal

pub returns-then-second : goal.returns-then-second
returns-then-second c = most-new _ c.if-second.true

pub returns-else-second : goal.returns-else-second
returns-else-second c = most-old _ c.if-second.false
