use mathlib.Core.Path.{refl}
use Rattle.plan_check.proofs.Checking.{checked-far, checked-near, verdict-pick}
use Rattle.plan_check.specs.Verdict.{verdict_of}
use Rattle.plan_check.proofs.check_list.Goals as goal

pub returns-then-n-gt15 : goal.returns-then-n-gt15
unfolding verdict_of
returns-then-n-gt15 c = rw (checked-far _ _ _ _ c.if-n-gt15.true) refl

pub returns : goal.returns
returns c = rw (checked-near _ _ _ _ c.if-n-gt15.false _ c.is_accepted.ensures) (verdict-pick _)
