-- `bench_wraps::on_unwrap` meets its contract. Assumes nothing.
use Rattle.bench_replies.specs.Reply.{reply_to}
use Rattle.bench_wraps.proofs.Told.{says-unwrap}
use borrow.Author.Rules.{rules}
use Rattle.bench_wraps.proofs.on_unwrap.Goals as goal

pub returns : goal.returns
unfolding reply_to
returns c =
    λ number d. says-unwrap _ c.output-out.ensures c.lent.ensures.1 c.decode_hex-n.ensures.puts _ d _ c.tell_unwrapped.ensures.1 c.tell_unwrapped.ensures.0
