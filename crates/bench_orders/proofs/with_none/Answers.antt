use borrow.Enum.Refused.{opened}
use Rattle.bench_verbs.specs.Line.{does}
use Rattle.bench_orders.specs.Tells.{meant}
use Rattle.bench_orders.proofs.Verbs.{none-bad}
use Rattle.bench_orders.proofs.with_none.Goals as goal

pub returns-in-Free : goal.returns-in-Free
unfolding does meant
returns-in-Free c = λ l. record { means = rw c.in-Free.is; lies = tt }

pub returns-in-Save : goal.returns-in-Save
unfolding does meant
returns-in-Save c = λ l. record { means = rw c.in-Save.is; lies = tt }

pub returns-in_default : goal.returns-in_default
returns-in_default c = λ l. none-bad c.args.verb (opened c.in_default.in_default-own.keys3)
