use Rattle.std.proofs.Common.{sym, ◌∙◌}
use Rattle.layers.proofs.Printed.{shows-old, shows-new}
use Rattle.layers.proofs.is_taken.Goals as goal

pub returns-then-is_taken : goal.returns-then-is_taken
returns-then-is_taken c =
    let e = c.if-is_taken.true in
    rw e (shows-old _ _ (sym c.is_taken.ensures.0 ∙ e) (c.is_taken.ensures.1 e))

pub returns-else-is_taken : goal.returns-else-is_taken
returns-else-is_taken c =
    let t = c.is_taken-else-is_taken.ensures in
    shows-new _ _ _ (sym c.is_taken.ensures.0 ∙ c.if-is_taken.false) t.0 t.1
