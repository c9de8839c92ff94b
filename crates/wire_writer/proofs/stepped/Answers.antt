-- `wire_writer::stepped` meets its contract: the field is the wrapping sum. Assumes nothing.
use Rattle.std.proofs.Common.{ℕ, ap}
use Rattle.meaning.specs.Wire.{next_id}
use Rattle.wire_writer.proofs.stepped.Goals as goal

pub returns : goal.returns
unfolding next_id
returns c = ap (λ (n : ℕ). record { next = n }) c.wrapping_add_u32.ensures.value
