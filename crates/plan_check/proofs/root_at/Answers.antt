-- `plan_check::root_at` meets its contract: none, or what stands in the space. Assumes nothing.
use Rattle.plan_check.proofs.Checking.{root_none, root-there}
use mathlib.Core.Path.{refl}
use Rattle.plan_check.proofs.root_at.Goals as goal

pub returns-then-at-gt-ROOT_LIMIT : goal.returns-then-at-gt-ROOT_LIMIT
returns-then-at-gt-ROOT_LIMIT c =
    let s = c.args in
    root_none s.octets.now s.at _ c.at.ensures.0 _ c.if-at-gt-ROOT_LIMIT.true refl

pub returns : goal.returns
returns c =
    let s = c.args in
    (root-there s.octets.now s.at _ c.at.ensures.0 _ c.if-at-gt-ROOT_LIMIT.false c.spaced.ensures.0, c.spaced.ensures.1)
