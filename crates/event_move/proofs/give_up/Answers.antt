use native.Mathlib.Omega.{arith}
use mathlib.Core.Path.{sym, ap, ◌∙◌}
use lib.ListN.{length}
use Rattle.event_move.proofs.Steps.{gave-up}
use borrow.Author.Rules.{rules}
use Rattle.event_move.proofs.give_up.Goals as goal

pub send-id-requires : goal.send-id-requires
send-id-requires c =
    (omega (arith, ap length (c.tree_name-name.ensures.0 _ c.requires.4.0), c.requires.3), omega arith)

pub end_label-requires : goal.end_label-requires
end_label-requires c =
    (search rules, λ os z. c.requires.2 (sym (c.tree_label-label.ensures _) ∙ c.tree_label-label.ensures os ∙ z), search rules)

pub returns : goal.returns
returns c =
    rw c.record_size.ensures (gave-up c.args.i c.args.from.id c.args.from.at _ _ _ _ _ c.args.names.now _ _ _ c.requires.4.0 c.requires.2 (c.held_for-to.ensures.0 _) (c.tree_label-label.ensures _) (c.tree_name-name.ensures.0 _ c.requires.4.0) c.send-id.ensures.0 c.send-id.ensures.1 (c.end_label.ensures _))
