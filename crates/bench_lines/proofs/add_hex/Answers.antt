use native.Mathlib.Omega.{arith}
use Rattle.bench_lines.proofs.Text.{adds-part}
use borrow.Author.Rules.{rules}
use Rattle.bench_lines.proofs.add_hex.Goals as goal

pub returns : goal.returns
returns c =
    record { adds = adds-part c.args.text.now _ c.args.at (omega arith) c.put_hex.ensures.puts; value = omega arith }
