-- `save_writer::put_label` meets its contract: of a free label the record is empty. Assumes nothing.
use Rattle.memory.specs.Memory.{base_in}
use Rattle.meaning_save.specs.Save.{form_of}
use Prim.Native.Nat.{◌+◌}
use Rattle.save_writer.proofs.Saved.{label-skip, label-put, use-sized}
use mathlib.Core.Path.{sym, ◌∙◌}
use native.Mathlib.Omega.{arith}
use borrow.Author.Rules.{rules}
use Rattle.save_writer.proofs.put_label.Goals as goal

pub returns-then-is_free : goal.returns-then-is_free
returns-then-is_free c =
    label-skip _ _ _ _ _ c.args.at _ (sym (c.is_free.ensures.1 c.args.names.now) ∙ c.if-is_free.true)

pub overflow_add-e : goal.overflow_add-e
overflow_add-e c =
    omega (arith, c.use_size.ensures.0, use-sized (form_of c.args.second) c.args.numbers.now c.args.names.now c.args.p (base_in c.args.numbers.now + c.args.p) (sym (c.is_free.ensures.1 c.args.names.now) ∙ c.if-is_free.false))

pub slice_bounds-put_use_record-end : goal.slice_bounds-put_use_record-end
slice_bounds-put_use_record-end c =
    omega (arith, c.use_size.ensures.0, use-sized (form_of c.args.second) c.args.numbers.now c.args.names.now c.args.p (base_in c.args.numbers.now + c.args.p) (sym (c.is_free.ensures.1 c.args.names.now) ∙ c.if-is_free.false))

pub put_use_record-requires : goal.put_use_record-requires
put_use_record-requires c = (search rules, search rules, search rules, sym c.is_free.ensures.0 ∙ c.if-is_free.false, omega (arith, c.use_size.ensures.0))

pub returns : goal.returns
returns c =
    let the-is-free = c.is_free in
    let the-if1 = c.if-is_free in
    let the-use-size = c.use_size in
    label-put _ _ _ _ _ c.args.at c.args.out.now _ _ (sym (the-is-free.ensures.1 c.args.names.now) ∙ the-if1.false) the-use-size.ensures.0 c.put_use_record.ensures
