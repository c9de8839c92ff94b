-- `save_tags::tree_tags` meets its contract: the invariant is that the first i names are tagged. Assumes nothing.
use native.Mathlib.Omega.{arith}
use mathlib.Core.Path.{refl, ap, ◌∙◌}
use lib.ListN.{length-set}
use Rattle.save_tags.specs.Tags.{tag_of}
use Rattle.save_tags.proofs.Tags.{tagged-more}
use Rattle.save_tags.proofs.tree_tags.Goals as goal

pub loop-i-init : goal.loop-i-init
loop-i-init c = (refl, (λ j h. absurd (omega arith)))

pub bounds-tags-i : goal.bounds-tags-i
bounds-tags-i c =
    let the-tree-count = c.tree_count-n in
    let l = c.loop-i in
    omega (arith, l.invariant.0, c.requires.2, the-tree-count.ensures)

pub loop-i-preserved : goal.loop-i-preserved
loop-i-preserved c =
    let the-tree-count = c.tree_count-n in
    let l = c.loop-i in
    (simp length-set l.invariant.0, tagged-more l.tags c.args.names.now l.i _ l.invariant.1 (omega (arith, l.invariant.0, c.requires.2, the-tree-count.ensures)) (c.tag.ensures ∙ ap tag_of c.tree_name.ensures.2))

pub shape_of-tags : goal.shape_of-tags
shape_of-tags c = c.loop-i.invariant.0

pub returns : goal.returns
returns c =
    let l = c.loop-i in
    λ j h. l.invariant.1 j (omega (arith, c.tree_count-n.ensures.0))
