-- `session_replies::on_octets` meets its contract: the octets are those that are decoded. Assumes nothing.
use Rattle.bench_words.proofs.Words.{front-is}
use Rattle.session_replies.proofs.on_octets.Goals as goal

pub returns : goal.returns
returns c = rw (front-is c.decode_hex-k.ensures.puts) at c.put_turns.ensures
