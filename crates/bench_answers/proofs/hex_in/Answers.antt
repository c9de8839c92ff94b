-- `bench_answers::hex_in` meets its contract, by the order's variant. Assumes nothing.
use mathlib.Core.Path.{refl}
use Rattle.bench_answers.specs.Held.{no_hex, hex_in}
use Rattle.bench_answers.proofs.Held.{no-hex}
use borrow.Author.Rules.{rules}
use borrow.Enum.Refused.{opened}
use Rattle.bench_answers.proofs.hex_in.Goals as goal

pub returns-in-Take : goal.returns-in-Take
unfolding hex_in
returns-in-Take c = rw c.in-Take.is refl

pub returns-in-Join : goal.returns-in-Join
unfolding hex_in
returns-in-Join c = rw c.in-Join.is refl

pub returns-in-Leave : goal.returns-in-Leave
unfolding hex_in
returns-in-Leave c = rw c.in-Leave.is refl

pub returns-in-Route : goal.returns-in-Route
unfolding hex_in
returns-in-Route c = rw c.in-Route.is refl

pub returns-in-Notice : goal.returns-in-Notice
unfolding hex_in
returns-in-Notice c = rw c.in-Notice.is refl

pub returns-in_default : goal.returns-in_default
unfolding no_hex
returns-in_default c = no-hex c.args.order (opened c.in_default.in_default-own.keys6)
