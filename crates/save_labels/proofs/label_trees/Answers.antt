-- `save_labels::label_trees` meets its contract: the invariant is that the trees carry what the first p labels give them. Assumes nothing.
use native.Mathlib.Omega.{arith}
use mathlib.Core.Path.{refl, ◌∙◌}
use borrow.Author.Rules.{rules}
use Rattle.save_labels.proofs.Labels.{labelled-none, labelled-many, labelled-once, labelled-alone, labelled-more, labelled-all}
use Rattle.save_labels.proofs.label_trees.Goals as goal

pub loop-p-init : goal.loop-p-init
loop-p-init c =
    (refl, labelled-none _ _ c.requires.2)

pub give_label-requires : goal.give_label-requires
give_label-requires c =
    let the-tree-tags = c.tree_tags in
    let l = c.loop-p in
    let h = c.loop-p-test.true in
    let many = labelled-many c.args.numbers.now c.args.names.now l.p _ l.invariant.1 in (
      l.invariant.0 ∙ c.requires.0,
      c.requires.1,
      search rules,
      (λ j k. the-tree-tags.ensures j (omega (arith, many))),
      h,
      labelled-once c.args.numbers.now c.args.names.now l.p _ l.invariant.1 c.requires.3,
      labelled-alone c.args.numbers.now c.args.names.now l.p _ l.invariant.1 h,
      search rules,
    )

pub loop-p-preserved : goal.loop-p-preserved
loop-p-preserved c =
    let the-loop-test = c.loop-p-test in
    let l = c.loop-p in
    (c.numbers-1.given ∙ l.invariant.0, labelled-more c.args.numbers.now c.args.names.now l.p _ l.invariant.1 the-loop-test.true _ c.give_label.ensures)

pub shape_of-numbers : goal.shape_of-numbers
shape_of-numbers c = c.loop-p.invariant.0

pub returns : goal.returns
returns c =
    labelled-all c.args.numbers.now c.args.names.now c.loop-p.p _ c.loop-p-test.false c.loop-p.invariant.1
