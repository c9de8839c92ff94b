use mathlib.Core.Path.{sym, ◌∙◌}
use borrow.Author.Tests.{lt-ltb, le-ltb}
use Rattle.event_tree.proofs.Tests.{when-first, when-second, when-none}
use Rattle.event_tree.proofs.check_standing.Goals as goal

pub returns-then-no_label_for : goal.returns-then-no_label_for
returns-then-no_label_for c = when-first 12 16 _ _ (sym (c.no_label_for.ensures _) ∙ c.if-no_label_for.true)

pub returns-then-room-first : goal.returns-then-room-first
returns-then-room-first c = when-second 12 16 _ _ (sym (c.no_label_for.ensures _) ∙ c.if-no_label_for.false) (lt-ltb _ _ (rw c.relabel_size.ensures.0 at c.if-room-first.true))

pub returns-else-room-first : goal.returns-else-room-first
returns-else-room-first c = when-none 12 16 _ _ (sym (c.no_label_for.ensures _) ∙ c.if-no_label_for.false) (le-ltb _ _ (rw c.relabel_size.ensures.0 at c.if-room-first.false))
