use Prim.Native.Nat.{◌%◌}
use mathlib.Core.Path.{refl, ap}
use lib.Dec.{eqb}
use Rattle.save_labels.proofs.Labels.{use-out, use-put, none-carries}
use Rattle.save_labels.proofs.read_use.Goals as goal

pub returns-then-p-ge-LABELS : goal.returns-then-p-ge-LABELS
returns-then-p-ge-LABELS c =
    let the-four-at = c.four_at-label in
    use-out c.args.numbers.now c.args.names.now c.args.octets.now c.args.at _ _ _ c.saturating_sub-p.ensures the-four-at.ensures.0 c.base.ensures.0 _ c.if-p-ge-LABELS.true

pub returns : goal.returns
returns c =
    let the-lay-name = c.lay_name in
    let entered = c.enter_use.ensures _ _ _ the-lay-name.ensures (none-carries _ _ _ c.requires.3) in
    use-put c.args.numbers.now c.args.names.now c.args.octets.now c.args.at _ _ _ c.saturating_sub-p.ensures c.four_at-label.ensures.0 c.base.ensures.0 _ _ _ _ _ entered (ap (λ x. eqb x 1) c.at-held.ensures.0) (ap (λ x. x % 16) c.at-neighbour.ensures.0) refl
