-- `save_writer::tree_size` meets its contract. Assumes nothing.
use Rattle.meaning_laws.specs.SaveFields.{name_size}
use Rattle.meaning_save.specs.Save.{tree_beside}
use Prim.Native.Nat.{ℕ, ◌+◌}
use mathlib.Core.Path.{ap, ◌∙◌}
use native.Mathlib.Omega.{arith}
use Rattle.save_writer.proofs.tree_size.Goals as goal

pub returns : goal.returns
returns c = ((λ ns h. ap (λ (k : ℕ). tree_beside + k) (c.name_size.ensures.0 ∙ ap (name_size _) (c.tree_name.ensures.0 ns h))), omega (arith, c.name_size.ensures.3))
