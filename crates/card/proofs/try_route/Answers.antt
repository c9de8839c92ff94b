use mathlib.Core.Path.{sym, ◌∙◌}
use Rattle.card.proofs.Calls.{route-far, route-odd, route-is}
use borrow.Author.Rules.{rules}
use Rattle.meaning_laws.specs.Refusals.{root-fits}
use Rattle.card.proofs.try_route.Goals as goal

pub returns-then-to-gt-NO_ROUTE : goal.returns-then-to-gt-NO_ROUTE
returns-then-to-gt-NO_ROUTE c = route-far _ _ _ c.if-to-gt-NO_ROUTE.true _

pub returns-then-not_root : goal.returns-then-not_root
returns-then-not_root c =
    let the-if1 = c.if-to-gt-NO_ROUTE in
    route-odd _ _ _ the-if1.false (sym c.not_root.ensures ∙ c.if-not_root.true) _

pub change_route-requires : goal.change_route-requires
change_route-requires c =
    let the-not-root = c.not_root in
    let the-if2 = c.if-not_root in
    (search rules, search rules, root-fits _ (sym the-not-root.ensures ∙ the-if2.false), search rules)

pub returns-else-not_root : goal.returns-else-not_root
returns-else-not_root c =
    let the-if1 = c.if-to-gt-NO_ROUTE in
    let the-not-root = c.not_root in
    let the-if2 = c.if-not_root in
    let the-change-route = c.change_route in
    rw (← (route-is _ _ _ the-if1.false (sym the-not-root.ensures ∙ the-if2.false) _)) the-change-route.ensures
