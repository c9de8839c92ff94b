-- `bench_wraps::on_wrap` meets its contract. Assumes nothing.
use native.Mathlib.Omega.{arith}
use Rattle.bench_words.specs.Words.{ascii}
use Rattle.bench_replies.specs.Reply.{reply_to}
use Rattle.bench_wraps.proofs.Told.{wrap-short, says-wrap}
use borrow.Author.Rules.{rules}
use Rattle.bench_wraps.proofs.on_wrap.Goals as goal

pub put_event-requires : goal.put_event-requires
put_event-requires c =
    (omega arith, wrap-short _ c.output-out.ensures c.lent.ensures.1 c.decode_hex-k.ensures.puts c.decode_hex-m.ensures.puts c.decode_hex-n.ensures.puts c.wrap-wrapped.ensures.0, c.requires.3)

pub returns : goal.returns
unfolding reply_to ascii
returns c =
    λ number d. says-wrap _ c.output-out.ensures c.lent.ensures.1 c.decode_hex-k.ensures.puts c.decode_hex-m.ensures.puts c.decode_hex-n.ensures.puts c.wrap-wrapped.ensures.0 _ d _ c.put_event.ensures.upper_bound c.put_event.ensures.text_after
