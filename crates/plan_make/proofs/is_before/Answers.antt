use Rattle.std.specs.Prelude.{refl}
use Rattle.std.proofs.Common.{lt-ltb, le-ltb, eq-eqb, ne_eqb}
use Rattle.meaning_plan.specs.Plan.{is_before}
use Rattle.plan_make.proofs.is_before.Goals as goal

pub returns-then-a-b : goal.returns-then-a-b
unfolding is_before
returns-then-a-b c = rw (lt-ltb _ _ c.if-a-b.true) refl

pub returns-then-a-b-2 : goal.returns-then-a-b-2
unfolding is_before
returns-then-a-b-2 c = rw (le-ltb _ _ c.if-a-b.false, eq-eqb _ _ c.if-a-b-2.true) c.is_below.ensures

pub returns-else-a-b-2 : goal.returns-else-a-b-2
unfolding is_before
returns-else-a-b-2 c = rw (le-ltb _ _ c.if-a-b.false, ne_eqb _ _ c.if-a-b-2.false) refl
