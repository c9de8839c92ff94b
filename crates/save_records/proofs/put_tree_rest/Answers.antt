use Rattle.memory.proofs.Trees.{branches-length}
use Rattle.memory.specs.Memory.{card_of}
use Rattle.meaning.specs.Card.{tree_at}
use Rattle.save_records.proofs.Records.{tree-rest-put}
use Rattle.save_records.proofs.put_tree_rest.Goals as goal

pub returns : goal.returns
returns c =
    let the-leaf-octet = c.leaf_octet in
    let the_copy = c.copy in
    let ns = c.args.numbers.now in
    λ os. tree-rest-put (tree_at c.args.i (card_of ns os)) c.args.out.now _ _ _ c.requires.1 (branches-length ns os c.args.i c.requires.2.0) (the-leaf-octet.ensures os) the_copy.ensures (c.put_fours.ensures os)
