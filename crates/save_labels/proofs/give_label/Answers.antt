-- `save_labels::give_label` meets its contract: the tree of the label's name alone is changed, if any. Assumes nothing.
use mathlib.Core.Path.{sym, ◌∙◌}
use native.Mathlib.Omega.{arith}
use Rattle.save_labels.proofs.Labels.{given-none, given_out, given-before, given-now, none_has}
use Rattle.save_labels.proofs.give_label.Goals as goal

pub returns-then-mapped_at-eq-NOBODY : goal.returns-then-mapped_at-eq-NOBODY
returns-then-mapped_at-eq-NOBODY c =
    given-none c.args.numbers.now c.args.names.now c.args.p (c.mapped_at.ensures.2 c.if-mapped_at-eq-NOBODY.true)

pub returns-then-tree_count-i : goal.returns-then-tree_count-i
returns-then-tree_count-i c =
    given_out c.args.numbers.now c.args.names.now c.args.p _ _ (c.mapped_at.ensures.3 c.if-mapped_at-eq-NOBODY.false) c.label_name.ensures c.tagged_near-i.ensures.0 c.requires.5 _ c.tree_count.ensures.0 c.if-tree_count-i.true

pub returns-then-tree_label-ne0 : goal.returns-then-tree_label-ne0
returns-then-tree_label-ne0 c =
    given-before c.args.numbers.now c.args.names.now c.args.p _ _ (c.mapped_at.ensures.3 c.if-mapped_at-eq-NOBODY.false) c.label_name.ensures c.tagged_near-i.ensures.0 c.requires.5 (λ z. c.if-tree_label-ne0.true (c.tree_label.ensures _ ∙ z))

pub attach-requires : goal.attach-requires
attach-requires c =
    let the-tree-count = c.tree_count in
    let the-if2 = c.if-tree_count-i in
    let n = the-tree-count.ensures in
    (c.requires.0, c.requires.4, c.mapped_at.ensures.3 c.if-mapped_at-eq-NOBODY.false, none_has c.args.numbers.now c.args.names.now c.args.p c.requires.6, (omega (arith, n.0, the-if2.false), omega (arith, n, the-if2.false)))

pub returns : goal.returns
returns c =
    let the-if3 = c.if-tree_label-ne0 in
    given-now c.args.numbers.now c.args.names.now c.args.p _ _ (c.mapped_at.ensures.3 c.if-mapped_at-eq-NOBODY.false) c.label_name.ensures c.tagged_near-i.ensures.0 c.requires.5 _ (omega (arith, c.tree_count.ensures.0, c.if-tree_count-i.false)) (sym (c.tree_label.ensures _) ∙ the-if3.false) (c.attach.ensures _)
