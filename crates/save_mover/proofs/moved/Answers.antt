-- `save_mover::moved` meets its contract: octets that are no save are refused, of others the table is saved. Assumes nothing.
use Rattle.save_mover.proofs.Moving.{moves-none, moves-saved}
use mathlib.Core.Path.{sym, ◌∙◌}
use Rattle.save_mover.proofs.moved.Goals as goal

pub returns-then-not-is_taken : goal.returns-then-not-is_taken
returns-then-not-is_taken c =
    moves-none _ _ _ c.args.octets.now c.args.out.now (sym c.is_taken.ensures.0 ∙ c.if-not-is_taken.true)

pub returns : goal.returns
returns c =
    let the-is-taken = c.is_taken in
    let the-if1 = c.if-not-is_taken in
    let t = the-is-taken.ensures in
    let e = the-if1.false in
    moves-saved _ _ _ c.args.octets.now _ _ _ c.args.out.now _ (sym t.0 ∙ e) (t.1 e) c.save_into.ensures
