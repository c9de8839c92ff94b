-- `save_reader::is_ruled` meets its contract, in either form. Assumes nothing.
use Rattle.save_reader.proofs.Whole.{not-ruled, ruled-new, ruled-old}
use mathlib.Core.Path.{sym, ◌∙◌}
use mathlib.Core.Path.{ap}
use mathlib.Core.Bool.{not}
use Rattle.save_reader.proofs.is_ruled.Goals as goal

pub returns-then-not-second : goal.returns-then-not-second
returns-then-not-second c =
    ap not c.if-not-second.true ∙ ruled-old _ _ c.if-not-second.true (sym c.keeps_rules.ensures ∙ c.if-keeps_rules.true)

pub returns-else-not-second : goal.returns-else-not-second
returns-else-not-second c =
    ruled-new _ _ c.if-not-second.false (sym c.keeps_rules.ensures ∙ c.if-keeps_rules.true) _ (c.is_last_right.ensures c.args.names.now)

pub returns-else-keeps_rules : goal.returns-else-keeps_rules
returns-else-keeps_rules c = c.if-keeps_rules.false ∙ not-ruled _ _ (sym c.keeps_rules.ensures ∙ c.if-keeps_rules.false)
