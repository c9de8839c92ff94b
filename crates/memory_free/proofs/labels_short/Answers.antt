use mathlib.Core.Path.{refl}
use Rattle.meaning.specs.Events.{labels_short}
use Rattle.memory_free.proofs.labels_short.Goals as goal

pub returns : goal.returns
returns c os = rw (c.free_labels.ensures.0 os) (unfold labels_short in refl)
