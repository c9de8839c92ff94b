use Rattle.memory.specs.Memory.{card_of}
use Rattle.bench_replies.proofs.Reply.{says-fed}
use Rattle.bench_replies.specs.Reply.{reply_to}
use Rattle.bench_words.specs.Words.{ascii}
use borrow.Author.Rules.{rules}
use Rattle.bench_answers.proofs.on_label.Goals as goal

pub returns : goal.returns
unfolding reply_to ascii
returns c =
    let a = c.args in
    λ number room os. says-fed _ _ (card_of a.numbers.now os) room _ (c.lookup_label_core-leaf.ensures os) c.put_feed.ensures.upper_bound c.put_feed.ensures.text_after
