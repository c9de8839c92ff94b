-- `save_writer::use_size` meets its contract. Assumes nothing.
use Rattle.meaning_laws.specs.SaveFields.{name_size}
use Rattle.meaning_save.specs.Save.{use_beside}
use Prim.Native.Nat.{ℕ, ◌+◌}
use mathlib.Core.Path.{ap, ◌∙◌}
use native.Mathlib.Omega.{arith}
use Rattle.save_writer.proofs.use_size.Goals as goal

pub returns : goal.returns
returns c = (ap (λ (k : ℕ). use_beside + k) (c.name_size.ensures.0 ∙ ap (name_size _) c.label_name.ensures), omega (arith, c.name_size.ensures.3))
