-- `save_fields::read_whole` meets its contract. Assumes nothing.
use Rattle.save_fields.proofs.Read.{whole_in}
use Rattle.save_fields.proofs.read_whole.Goals as goal

pub returns : goal.returns
returns c =
    let the-spaced = c.spaced-name in
    (whole_in c.args.octets.now _ c.args.out.now _ c.args.at c.requires the-spaced.ensures.1 c.copy_text.ensures the-spaced.ensures.0, the-spaced.ensures.1)
