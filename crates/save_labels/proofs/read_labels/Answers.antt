-- `save_labels::read_labels` meets its contract: the labels, then the label of each tree, then the last one given. Assumes nothing.
use Rattle.save_labels.proofs.Labels.{rows-unlabelled, rows-uncounted, unlabelled-kept, once-kept, base_kept, block-kept, table-whole, table-held}
use Rattle.memory.specs.Memory.{card_of}
use Rattle.meaning.specs.Card.{Card}
use mathlib.Core.Path.{refl, ◌∙◌}
use native.Mathlib.Omega.{arith}
use borrow.Author.Rules.{rules}
use Rattle.save_labels.proofs.read_labels.Goals as goal

pub read_uses-requires : goal.read_uses-requires
read_uses-requires c =
    (c.requires.0, c.requires.1, omega (arith, c.two_at-labels.ensures.1), c.requires.2, rows-unlabelled _ c.args.octets.now _ c.requires.4)

pub label_trees-requires : goal.label_trees-requires
label_trees-requires c =
    let the-numbers = c.numbers-1 in
    let the-read-uses = c.read_uses in
    let card : Card = card_of c.args.numbers.now c.args.names.now in
    (the-numbers.given ∙ c.requires.0, c.names-1.given ∙ c.requires.1, unlabelled-kept card _ _ (rows-unlabelled _ c.args.octets.now card c.requires.4) the-read-uses.ensures, once-kept card _ _ c.requires.5 the-read-uses.ensures)

pub settle-requires : goal.settle-requires
settle-requires c =
    let the-read-uses = c.read_uses in
    let the-numbers = c.numbers-1 in
    let base = base_kept _ c.args.octets.now _ _ _ _ _ _ c.requires.4 the-read-uses.ensures c.label_trees.ensures in
    (c.numbers-2-1.given ∙ the-numbers.given ∙ c.requires.0, block-kept _ _ _ _ base c.requires.7)

pub work_out_all-requires : goal.work_out_all-requires
work_out_all-requires c =
    let the-read-uses = c.read_uses in
    let the-label-trees = c.label_trees in
    let the-settle = c.settle in
    let rows = rows-uncounted _ c.args.octets.now (card_of c.args.numbers.now c.args.names.now) _ _ _ _ _ _ c.requires.4 the-read-uses.ensures the-label-trees.ensures (the-settle.ensures _) c.requires.6 in
    (search rules, search rules, rows.0, rows.1)

pub returns : goal.returns
returns c =
    let the-read-uses = c.read_uses in
    let the-label-trees = c.label_trees in
    let the-two-at = c.two_at-labels in
    let worked = c.work_out_all.ensures in
    let whole = table-whole _ c.args.octets.now _ c.args.at _ _ _ _ _ c.requires.4 c.requires.3 the-read-uses.ensures the-label-trees.ensures the-two-at.ensures.0 (c.settle.ensures _) refl in
    (table-held _ c.args.octets.now _ _ whole worked.0, (λ t. worked.1 t ∙ whole))
