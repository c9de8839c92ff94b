use Rattle.meaning_save.specs.Save.{marked}
use Rattle.meaning.specs.Octets.{two, four}
use mathlib.Core.Path.{◌∙◌}
use Rattle.save_records.proofs.Records.{head-is}
use Rattle.save_records.proofs.put_save_head.Goals as goal

pub returns : goal.returns
unfolding marked four two
returns c =
    let the-head-kind = c.head_kind-kind in
    let the-base = c.base-base in
    let the-next-id = c.next_id-next in
    let the-route-count = c.route_count-routes in
    let the-tree-count = c.tree_count-trees in
    let the-free-labels = c.free_labels-uses in
    let the-last-given = c.last_given-last in
    let the-head-size = c.head_size-n in
    let ns = c.args.numbers.now in
    λ os. (rw (c.to_be_bytes.ensures, c.to_be_bytes-2.ensures, c.to_be_bytes-3.ensures, c.to_be_bytes-4.ensures) at c.copy.ensures) ∙ head-is _ ns os _ _ _ _ _ _ _ _ the-head-kind.ensures the-base.ensures.0 (the-next-id.ensures os) the-route-count.ensures.0 the-tree-count.ensures.0 (the-free-labels.ensures.0 os) (the-last-given.ensures os) the-head-size.ensures.0
