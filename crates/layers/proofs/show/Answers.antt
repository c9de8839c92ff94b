use mathlib.Core.Path.{◌∙◌}
use Rattle.layers.proofs.Printed.{shown-taken, shown-none}
use borrow.Author.Rules.{rules}
use Rattle.layers.proofs.show.Goals as goal

pub put_trees-requires : goal.put_trees-requires
put_trees-requires c =
    let the-is-taken-input = c.is_taken_input in
    let the-if1 = c.if-is_taken_input in
    (search rules, search rules, the-is-taken-input.ensures.named the-if1.true, search rules)

pub returns-then-is_taken_input : goal.returns-then-is_taken_input
returns-then-is_taken_input c =
    let the-is-taken-input = c.is_taken_input in
    let the-if1 = c.if-is_taken_input in
    let put = c.put_trees.ensures in
    record { text_after = put.text_after ∙ shown-taken the-is-taken-input.ensures the-if1.true; upper_bound = put.upper_bound }

pub returns : goal.returns
returns c =
    let put = c.put_refused.ensures in
    record { text_after = put.text_after ∙ shown-none c.is_taken_input.ensures c.if-is_taken_input.false; upper_bound = put.upper_bound }
