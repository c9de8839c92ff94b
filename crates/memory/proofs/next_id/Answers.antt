use mathlib.Core.Path.{refl}
use Rattle.memory.specs.Memory.{next_in, card_of}
use Rattle.memory.proofs.next_id.Goals as goal

pub returns : goal.returns
unfolding next_in card_of
returns c = λ os. refl
