-- `bench_answers::word_of` meets its contract, by the order's variant. Assumes nothing.
use Rattle.std.proofs.Common.{refl, arith}
use borrow.Enum.Refused.{opened}
use Rattle.bench_words.specs.Words.{ascii}
use Rattle.bench_replies.specs.Kinds.{Kind}
use Rattle.bench_replies.proofs.Arms.{of_others}
use Rattle.bench_answers.specs.Held.{word_of}
use Rattle.bench_answers.proofs.word_of.Goals as goal

pub returns-in-Take : goal.returns-in-Take
unfolding word_of ascii
returns-in-Take c = rw c.in-Take.is (refl, omega arith)

pub returns-in-Join : goal.returns-in-Join
unfolding word_of ascii
returns-in-Join c = rw c.in-Join.is (refl, omega arith)

pub returns-in-Leave : goal.returns-in-Leave
unfolding word_of ascii
returns-in-Leave c = rw c.in-Leave.is (refl, omega arith)

pub returns-in-Route : goal.returns-in-Route
unfolding word_of ascii
returns-in-Route c = rw c.in-Route.is (refl, omega arith)

pub returns-in-Notice : goal.returns-in-Notice
unfolding word_of ascii
returns-in-Notice c = rw c.in-Notice.is (refl, omega arith)

pub returns-in-Lost : goal.returns-in-Lost
unfolding word_of ascii
returns-in-Lost c = rw c.in-Lost.is (refl, omega arith)

pub returns-in_default : goal.returns-in_default
returns-in_default c = absurd (of_others Kind.records c.args.order (opened c.in_default.in_default-own.keys7) c.requires)
