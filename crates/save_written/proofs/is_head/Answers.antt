-- `save_written::is_head` meets its contract. Assumes nothing.
use Rattle.save_written.proofs.Whole.{head_few, head-there}
use mathlib.Core.Path.{◌∙◌}
use borrow.Author.Tests.{lt-leb}
use Rattle.save_written.proofs.is_head.Goals as goal

pub returns-then-head_size-octets : goal.returns-then-head_size-octets
returns-then-head_size-octets c =
    head-there _ c.args.octets.now _ c.head_size.ensures.0 c.if-head_size-octets.true _ c.head_kind.ensures _ c.is_marked.ensures

pub returns-else-head_size-octets : goal.returns-else-head_size-octets
returns-else-head_size-octets c =
    lt-leb _ _ c.if-head_size-octets.false ∙ head_few _ c.args.octets.now _ c.head_size.ensures.0 c.if-head_size-octets.false
