use Rattle.meaning_save.specs.Save.{form_of}
use Prim.Native.Nat.{◌≤◌, ◌<◌}
use native.Mathlib.Omega.{arith}
use mathlib.Core.Path.{refl}
use borrow.Author.Rules.{rules}
use Rattle.meaning.specs.Card.{label_count}
use Rattle.save_records.proofs.Rows.{rows_none, rows-room, rows_more, rows-done}
use Rattle.save_writer.proofs.Saved.{label_row, labels-lot}
use Rattle.save_writer.proofs.put_labels.Goals as goal

-- `save_writer::put_labels` meets its contract: the invariant is that the rows of p labels stand; that of a free label is empty. Assumes nothing.

pub loop-p-init : goal.loop-p-init
loop-p-init c = let a = c.args in rows_none (labels-lot (form_of a.second) a.numbers.now a.names.now a.from a.out.now c.requires.2)

pub put_label-at-requires : goal.put_label-at-requires
put_label-at-requires c =
    let a = c.args in
    let lt : c.loop-p.p < label_count = omega arith in
    (search rules, search rules, search rules, rows-room (labels-lot (form_of a.second) a.numbers.now a.names.now a.from a.out.now c.requires.2) _ _ _ c.loop-p.invariant _ lt refl)

pub loop-p-preserved : goal.loop-p-preserved
loop-p-preserved c =
    let a = c.args in
    let lt : c.loop-p.p < label_count = omega arith in
    rw c.put_label-at.ensures.1
    (rows_more (labels-lot (form_of a.second) a.numbers.now a.names.now a.from a.out.now c.requires.2) _ _ _ c.loop-p.invariant _ (label_row (form_of a.second) a.numbers.now a.names.now c.loop-p.p) _ lt refl refl c.put_label-at.ensures.0)

pub shape_of-out : goal.shape_of-out
shape_of-out c = c.loop-p.invariant.1

pub returns : goal.returns
returns c =
    let a = c.args in
    let all : label_count ≤ c.loop-p.p = omega arith in
    rows-done (labels-lot (form_of a.second) a.numbers.now a.names.now a.from a.out.now c.requires.2) _ _ _ c.loop-p.invariant all
