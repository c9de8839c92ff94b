-- `save_texts::put_cut` meets its contract: two spaces, one behind the other, are the name. Assumes nothing.
use Rattle.save_texts.proofs.Texts.{name-put}
use Rattle.save_texts.proofs.put_cut.Goals as goal

pub returns : goal.returns
returns c =
    name-put _ c.args.out.now _ _ _ _ c.requires c.root_of.ensures c.opaque_of.ensures c.put_space.ensures c.put_space-2.ensures
