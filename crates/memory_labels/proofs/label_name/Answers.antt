use Rattle.memory.specs.Memory.{label_name}
use Rattle.memory_labels.proofs.label_name.Goals as goal

pub returns : goal.returns
unfolding label_name
returns c = c.text.ensures.0
