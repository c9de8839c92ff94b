-- `save_rules::keeps_rules` meets its contract: what is asked, and what is known. Assumes nothing.
use Rattle.save_rules.proofs.Rules.{kept}
use Rattle.save_rules.proofs.keeps_rules.Goals as goal

pub returns : goal.returns
returns c =
    kept _ c.args.names.now _ _ _ _ _
    c.requires.2
    c.requires.3
    c.requires.4
    c.routes_good.ensures
    c.trees_good.ensures
    c.uses_good.ensures
    (c.all_carried.ensures _ c.requires.2)
    c.own_labels.ensures
