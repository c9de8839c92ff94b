use native.Mathlib.Omega.{arith}
use Rattle.bench_lines.proofs.Text.{adds_then}
use Rattle.bench_words.specs.Words.{ascii}
use Rattle.bench_layers.specs.LayerText.{unwrapped_line}
use borrow.Author.Rules.{rules}
use Rattle.bench_layers.proofs.put_unwrapped.Goals as goal

pub returns : goal.returns
unfolding unwrapped_line ascii
returns c = record { text_after = (adds_then c.add-at.ensures (adds_then c.add_hex-at.ensures.adds (adds_then c.add_outer-at.ensures.adds c.add.ensures))).text; upper_bound = omega (arith, c.add-at.ensures.count, c.add_hex-at.ensures.value, c.add_outer-at.ensures.upper_bound, c.add.ensures.count, c.requires) }
