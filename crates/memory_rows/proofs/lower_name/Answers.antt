use Rattle.memory_rows.proofs.Lower.{name-lowered}
use Rattle.memory_rows.proofs.lower_name.Goals as goal

pub returns : goal.returns
returns c =
    name-lowered _ _ _ _ c.used_octets-used.ensures.0 c.used_octets-used.ensures.1 c.close_octets.ensures
