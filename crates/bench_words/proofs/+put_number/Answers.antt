use native.Mathlib.Omega.{arith}
use Prim.Native.Nat.{◌/◌}
use lib.ListN.{length-set}
use Rattle.bench_words.proofs.Words.{puts-digit, puts-digits, numeral-short}
use Rattle.bench_words.proofs.+put_number.Goals as goal

pub returns-then-n-lt10 : goal.returns-then-n-lt10
returns-then-n-lt10 t c = record { puts = puts-digit _ _ c.if-n-lt10.true (omega arith); upper_bound = omega arith }

pub put_number-k-requires : goal.put_number-k-requires
put_number-k-requires t c = (omega arith, omega arith)

pub bounds-out-k : goal.bounds-out-k
bounds-out-k t c =
    let few = numeral-short 18 (c.args.n / 10) (omega arith) in
    omega (arith, c.put_number-k.ensures.puts.count, c.put_number-k.auto.out)

pub returns : goal.returns
returns t c =
    let few = numeral-short 18 (c.args.n / 10) (omega arith) in
    let n = c.put_number-k.ensures.puts.count in
    record { puts = puts-digits _ _ _ _ c.if-n-lt10.false c.put_number-k.ensures.puts (omega arith); upper_bound = omega arith }
