-- `save_writer::labels_size` meets its contract: in the new form the invariant is that the sum is that of p labels. Assumes nothing.
use Rattle.meaning_save.specs.Save.{form_of}
use Rattle.meaning.specs.Card.{label_count}
use Rattle.save_writer.proofs.Saved.{label_row, labels-rows, sum-none, sum_more, sum_done, labels-old}
use native.Mathlib.Omega.{arith}
use Rattle.save_writer.proofs.labels_size.Goals as goal

pub returns-then-not-second : goal.returns-then-not-second
returns-then-not-second c =
    let a = c.args in
    let k = c.spaced_labels_size.ensures in
    (labels-old _ _ _ _ c.if-not-second.true (k.0 a.names.now), omega (arith, k.1))

pub loop-p-init : goal.loop-p-init
loop-p-init c = (sum-none _, omega arith)

pub loop-p-preserved : goal.loop-p-preserved
loop-p-preserved c =
    let a = c.args in
    let l = c.loop-p in
    let k = c.label_size-total.ensures in
    (sum_more (label_row (form_of a.second) a.numbers.now a.names.now) _ _ _ l.invariant.0 k.0, omega (arith, l.invariant.1, k.1))

pub returns : goal.returns
returns c =
    let a = c.args in
    let l = c.loop-p in
    (sum_done (label_row (form_of a.second) a.numbers.now a.names.now) l.p label_count _ _ (labels-rows (form_of a.second) a.numbers.now a.names.now) (omega arith) (omega arith) l.invariant.0, omega (arith, l.invariant.1))
