-- `bench_wraps::on_layers` meets its contract. Assumes nothing.
use Rattle.bench_replies.specs.Reply.{reply_to}
use Rattle.bench_wraps.proofs.Told.{says-layers}
use borrow.Author.Rules.{rules}
use Rattle.bench_wraps.proofs.on_layers.Goals as goal

pub returns : goal.returns
unfolding reply_to
returns c =
    let the-decode-hex = c.decode_hex-n in
    λ number room d. says-layers the-decode-hex.ensures.puts _ d room _ c.put_layers.ensures.upper_bound c.put_layers.ensures.text_after
