-- `save_written::is_written` meets its contract. Assumes nothing.
use mathlib.Core.Path.{sym, ◌∙◌}
use Rattle.save_written.proofs.Whole.{no-head, no-routes, whole-there}
use Rattle.save_written.proofs.is_written.Goals as goal

pub returns-then-not-is_head : goal.returns-then-not-is_head
returns-then-not-is_head c =
    let a = c.args in
    no-head _ a.octets.now (sym c.is_head.ensures ∙ c.if-not-is_head.true)

pub returns-then-routes_written : goal.returns-then-routes_written
returns-then-routes_written c =
    let the_size = c.head_size-head in
    whole-there _ c.args.octets.now _ _ (sym c.is_head.ensures ∙ c.if-not-is_head.false) the_size.ensures.0 c.at-routes.ensures.0
    (sym c.routes_written.ensures ∙ c.if-routes_written.true) _ c.rows_written.ensures

pub returns-else-routes_written : goal.returns-else-routes_written
returns-else-routes_written c =
    c.if-routes_written.false
    ∙ no-routes _ c.args.octets.now _ _ (sym c.is_head.ensures ∙ c.if-not-is_head.false) c.head_size-head.ensures.0 c.at-routes.ensures.0
    (sym c.routes_written.ensures ∙ c.if-routes_written.false)
