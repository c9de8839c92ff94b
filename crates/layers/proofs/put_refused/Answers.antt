use native.Mathlib.Omega.{arith}
use Rattle.bench_words.specs.Words.{ascii}
use Rattle.layers.specs.Shown.{no_save}
use Rattle.layers.proofs.put_refused.Goals as goal

pub returns : goal.returns
unfolding no_save ascii
returns c = record { text_after = c.put_count.ensures.text_after; upper_bound = omega (arith, c.put_count.ensures.upper_bound) }
