-- `save_texts::put_space` meets its contract: two parts of the output, one behind the other, are the space. Assumes nothing.
use Rattle.save_texts.proofs.Texts.{space-put}
use Rattle.save_texts.proofs.put_space.Goals as goal

pub returns : goal.returns
returns c =
    space-put c.args.out.now _ _ _ _ _ c.requires.0 c.fitting.ensures.0 c.copy.ensures c.put_padded.ensures
