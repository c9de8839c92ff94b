-- `bench_answers::on_counted` meets its contract, by the order's variant. Assumes nothing.
use Rattle.bench_orders.specs.Tells.{meant}
use Rattle.bench_words.specs.Words.{ascii}
use Rattle.bench_lines.specs.Text.{count_line}
use Rattle.meaning.specs.Events.{start}
use Rattle.bench_replies.specs.Kinds.{Kind}
use Rattle.bench_replies.specs.Reply.{only, counted, reply_to}
use Rattle.bench_replies.proofs.Arms.{of_others}
use Rattle.bench_replies.proofs.Reply.{says-only, says-counted}
use mathlib.Core.Path.{ap, ◌∙◌}
use native.Mathlib.Omega.{arith}
use borrow.Author.Rules.{rules}
use borrow.Enum.Refused.{opened}
use Rattle.bench_answers.proofs.on_counted.Goals as goal

pub returns-in-Bad : goal.returns-in-Bad
unfolding meant reply_to only ascii
returns-in-Bad c =
    let the-enum-told = c.in-Bad in
    λ room l os. rw the-enum-told.is (says-only _ _ _ _ _ (omega arith) c.put_count.ensures.text_after)

pub returns-in-Start : goal.returns-in-Start
unfolding meant reply_to counted ascii
returns-in-Start c =
    let the-order = c.in-Start in
    λ room l os. rw the-order.is (says-counted (start _) _ _ _ _ c.start.ensures.0 (c.start.ensures.1 _) (omega arith) c.put_count-in-Start.ensures.text_after)

pub returns-in-Room : goal.returns-in-Room
unfolding meant reply_to only ascii
returns-in-Room c =
    let the-order2 = c.in-Room in
    λ room l os. rw the-order2.is (says-only _ _ _ _ _ (omega arith) c.put_count-in-Room.ensures.text_after)

pub returns-in-Free : goal.returns-in-Free
unfolding meant reply_to only ascii
returns-in-Free c =
    let the-enum-told2 = c.in-Free in
    λ room l os. rw the-enum-told2.is (says-only _ _ _ _ _ (omega arith) (c.put_count-in-Free.ensures.text_after ∙ ap (count_line (ascii "free")) (c.free_labels.ensures os)))

pub returns-in_default : goal.returns-in_default
returns-in_default c = λ room l os. absurd (of_others Kind.count c.args.order (opened c.in_default.in_default-own.keys5) c.requires.0)
