-- `save_writer::label_size` meets its contract: nothing is written of a free label. Assumes nothing.
use Rattle.save_writer.proofs.Saved.{label-none, use-sized}
use mathlib.Core.Path.{sym, ◌∙◌}
use native.Mathlib.Omega.{arith}
use Rattle.save_writer.proofs.label_size.Goals as goal

pub returns-then-is_free : goal.returns-then-is_free
returns-then-is_free c =
    (label-none _ _ _ _ _ (sym (c.is_free.ensures.1 c.args.names.now) ∙ c.if-is_free.true), omega arith)

pub returns : goal.returns
returns c =
    (c.use_size.ensures.0 ∙ sym (use-sized _ _ _ _ _ (sym (c.is_free.ensures.1 c.args.names.now) ∙ c.if-is_free.false)), c.use_size.ensures.1)
