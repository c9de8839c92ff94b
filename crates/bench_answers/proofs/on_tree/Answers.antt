use Rattle.memory.specs.Memory.{card_of}
use mathlib.Core.Path.{ap, ◌∙◌}
use Rattle.bench_replies.proofs.Reply.{says-fed}
use Rattle.bench_replies.specs.Reply.{reply_to}
use Rattle.meaning.specs.Card.{lookup_name}
use Rattle.bench_words.specs.Words.{ascii}
use borrow.Author.Rules.{rules}
use Rattle.bench_words.proofs.Words.{front-is}
use Rattle.bench_answers.proofs.on_tree.Goals as goal

pub returns : goal.returns
unfolding reply_to ascii
returns c =
    let a = c.args in
    λ number room. says-fed _ _ (card_of a.numbers.now a.names.now) room _ (c.lookup_name_core-leaf.ensures ∙ ap (λ s. lookup_name s (card_of a.numbers.now a.names.now)) (front-is c.decode_hex-n.ensures.puts)) c.put_feed.ensures.upper_bound c.put_feed.ensures.text_after
