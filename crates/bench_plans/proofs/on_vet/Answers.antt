use Rattle.memory.specs.Memory.{card_of}
use Rattle.bench_plans.proofs.Telling.{says-verdict}
use Rattle.bench_plans.proofs.on_vet.Goals as goal

pub returns : goal.returns
returns c =
    λ number room. says-verdict (card_of c.args.numbers.now c.args.names.now) _ room _ c.decode_hex-n.ensures.puts c.decode_hex-k.ensures.puts c.put_verdict.ensures.text_after c.put_verdict.ensures.upper_bound number
