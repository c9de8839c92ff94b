-- `save_fields::read_name` meets its contract, in either form. Assumes nothing.
use Rattle.save_fields.proofs.Read.{name_new, name-old}
use Rattle.save_fields.proofs.read_name.Goals as goal

pub returns-then-second : goal.returns-then-second
returns-then-second c =
    let the-if1 = c.if-second in
    (name_new _ _ _ the-if1.true c.read_whole.ensures.0, c.read_whole.ensures.1)

pub returns : goal.returns
returns c =
    let the-if1 = c.if-second in
    (name-old _ _ _ the-if1.false c.read_spaces.ensures.0, c.read_spaces.ensures.1)
