use native.Mathlib.Omega.{arith}
use mathlib.Core.Path.{sym, ap, ◌∙◌}
use mathlib.Core.Bool.{not}
use Rattle.save_rules_rows.proofs.RowRules.{all-hit, all-miss, all_none}
use Rattle.plan_check.proofs.Checking.{entry-there, entries-end}
use Rattle.plan_check.proofs.all_moves.Goals as goal

pub returns-then-not-is_move : goal.returns-then-not-is_move
returns-then-not-is_move c =
    sym (c.loop-i.invariant ∙ all-miss _ _ _ (entry-there c.args.list.now c.loop-i.i (omega arith)) _ _ c.is_move.ensures (ap not c.if-not-is_move.true))

pub loop-i-preserved : goal.loop-i-preserved
loop-i-preserved c =
    c.loop-i.invariant ∙ all-hit _ _ _ (entry-there c.args.list.now c.loop-i.i (omega arith)) _ _ c.is_move.ensures (ap not c.if-not-is_move.false)

pub returns : goal.returns
returns c = sym (c.loop-i.invariant ∙ all_none _ _ (entries-end c.args.list.now c.loop-i.i (omega arith)) _)
