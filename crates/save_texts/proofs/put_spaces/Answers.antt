-- `save_texts::put_spaces` meets its contract: the two parts of a whole name are its root and its opaque value. Assumes nothing.
use Rattle.wire_name.proofs.Name.{root-all}
use Rattle.save_texts.proofs.Texts.{name-put, opaque-all}
use Rattle.save_texts.proofs.put_spaces.Goals as goal

pub returns : goal.returns
returns c =
    let k = c.root_length-k in
    name-put _ c.args.out.now _ _ _ _ c.requires (root-all _ _ k.ensures.0) (opaque-all _ _ k.ensures.0) c.put_space.ensures c.put_space-2.ensures
