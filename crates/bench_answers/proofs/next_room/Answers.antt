use Rattle.bench_replies.proofs.Reply.{room-stays}
use Rattle.bench_replies.specs.Reply.{only, reply_to}
use Rattle.bench_orders.specs.Tells.{meant}
use borrow.Author.Rules.{rules}
use borrow.Enum.Refused.{opened}
use Rattle.bench_answers.proofs.next_room.Goals as goal

pub returns-in-Room : goal.returns-in-Room
unfolding meant reply_to only
returns-in-Room c = λ number d l. rw c.in-Room.is

pub returns-in_default : goal.returns-in_default
returns-in_default c = λ number d l. room-stays number _ d l c.args.order (opened c.in_default.in_default-own.keys2)
