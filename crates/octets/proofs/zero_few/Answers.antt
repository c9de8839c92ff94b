use Rattle.std.proofs.Common.{rules}
use Rattle.std.specs.Prelude.{◌≡◌, ◌↔◌, IsTrue, EachIndex, get_or}
use Rattle.octets.proofs.Zeros.{zeros_by}
use Rattle.octets.proofs.zero_few.Goals as goal

pub returns : goal.returns
returns c =
    let s = c.args.s.now in
    let each : IsTrue c.all.result ↔ EachIndex s (λ k. get_or s k 0 ≡ 0) = Prim.search rules in
    zeros_by s c.all.result each
