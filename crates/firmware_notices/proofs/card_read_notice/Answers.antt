-- `firmware_notices::card_read_notice` meets its contract: it tells what `read_notice` answers. Assumes nothing.
use Rattle.std.proofs.Common.{refl}
use Rattle.firmware_notices.specs.Fields.{fields_of}
use Rattle.firmware_notices.proofs.card_read_notice.Goals as goal

pub returns-in-Ok : goal.returns-in-Ok
unfolding fields_of
returns-in-Ok c = rw (← c.read_notice.ensures, c.in-Ok.is) (refl, refl)

pub returns-in-Err : goal.returns-in-Err
unfolding fields_of
returns-in-Err c = rw (← c.read_notice.ensures, c.in-Err.is) (c.number.ensures, refl)
