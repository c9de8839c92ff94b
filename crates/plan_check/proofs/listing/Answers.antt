use native.Mathlib.Omega.{arith}
use mathlib.Core.Path.{◌∙◌}
use Rattle.plan_check.proofs.Checking.{entry-equal, entry_counts, bool_byte-le}
use Rattle.plan_check.proofs.listing.Goals as goal

pub returns : goal.returns
returns c =
    let s = c.args in
    (c.from.ensures ∙ entry_counts s.list.now s.at _ _ (entry-equal s.list.now s.at _ _ _ c.root_at.ensures.0 c.equal.ensures), omega (arith, c.from.ensures, bool_byte-le c.equal.result))
