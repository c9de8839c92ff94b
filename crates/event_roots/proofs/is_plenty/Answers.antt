use mathlib.Core.Path.{sym, ◌∙◌}
use borrow.Author.Tests.{not-true}
use Rattle.event_roots.proofs.Roots.{plenty}
use Rattle.event_roots.proofs.is_plenty.Goals as goal

pub returns-then-n-room : goal.returns-then-n-room
returns-then-n-room c =
    let the-tree-count = c.tree_count-n in
    let the-if1 = c.if-n-room in
    let the-labels-short = c.labels_short in
    λ e os root u. plenty root u _ os _ _ the-tree-count.ensures.0 the-if1.true (sym (the-labels-short.ensures os) ∙ not-true _ e)
