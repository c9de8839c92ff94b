-- `bench_answers::call` meets its contract, by the order's variant. Assumes nothing.
use Rattle.bench_replies.specs.Kinds.{Kind}
use Rattle.bench_replies.proofs.Arms.{of_others}
use Rattle.bench_answers.specs.Held.{call_of}
use borrow.Author.Rules.{rules}
use borrow.Enum.Refused.{opened}
use Rattle.bench_answers.proofs.call.Goals as goal

pub returns-in-Take : goal.returns-in-Take
unfolding call_of
returns-in-Take c =
    let the-order = c.in-Take in
    rw the-order.is c.receive_core.ensures

pub returns-in-Join : goal.returns-in-Join
unfolding call_of
returns-in-Join c =
    let the-enum-told = c.in-Join in
    rw the-enum-told.is c.join_core.ensures

pub returns-in-Leave : goal.returns-in-Leave
unfolding call_of
returns-in-Leave c =
    let the-enum-told2 = c.in-Leave in
    rw the-enum-told2.is c.leave_core.ensures

pub returns-in-Route : goal.returns-in-Route
unfolding call_of
returns-in-Route c =
    let the-order2 = c.in-Route in
    rw the-order2.is c.route_core.ensures

pub returns-in-Notice : goal.returns-in-Notice
unfolding call_of
returns-in-Notice c =
    let the-order3 = c.in-Notice in
    rw the-order3.is (c.notice_core.ensures _)

pub returns-in-Lost : goal.returns-in-Lost
unfolding call_of
returns-in-Lost c =
    let the-order4 = c.in-Lost in
    rw the-order4.is c.lost_core.ensures

pub returns-in_default : goal.returns-in_default
returns-in_default c = absurd (of_others Kind.records c.args.order (opened c.in_default.in_default-own.keys7) c.requires)
