use Rattle.std.proofs.Common.{sym, ◌∙◌}
use Rattle.session_orders.proofs.Asked.{gives_none, no_number, no-hex, gives-pair}
use Rattle.session_orders.proofs.pair_at.Goals as goal

pub returns-in_err-number : goal.returns-in_err-number
returns-in_err-number c =
    rw c.from_residual.ensures (gives_none _ _ (no_number _ _ (sym (rw c.of.ensures at c.read_number.ensures) ∙ c.in_err-number.was)))

pub returns-then-is_hex : goal.returns-then-is_hex
returns-then-is_hex c =
    gives-pair _ _ _ _ _ c.requires.1 (sym (rw c.of.ensures at c.read_number.ensures) ∙ c.in_ok-number.was) (rw c.of-2.ensures at c.is_hex.ensures) c.if-is_hex.true

pub returns-else-is_hex : goal.returns-else-is_hex
returns-else-is_hex c =
    gives_none _ _ (no-hex _ _ _ _ (sym (rw c.of.ensures at c.read_number.ensures) ∙ c.in_ok-number.was) (rw c.of-2.ensures at c.is_hex.ensures) c.if-is_hex.false)
