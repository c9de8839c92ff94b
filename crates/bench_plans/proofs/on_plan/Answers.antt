use Rattle.memory.specs.Memory.{card_of}
use Rattle.bench_plans.proofs.Telling.{says-plan}
use Rattle.bench_plans.proofs.on_plan.Goals as goal

pub returns : goal.returns
returns c =
    λ number room. says-plan (card_of c.args.numbers.now c.args.names.now) _ room _ c.decode_hex-n.ensures.puts c.put_plan.ensures.text_after c.put_plan.ensures.upper_bound number
