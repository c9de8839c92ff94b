-- `bench_wraps::tell_unwrapped` meets its contract: the name inside is handed back, and the root and the eight octets are parts of the name. Assumes nothing.
use native.Mathlib.Omega.{arith}
use mathlib.Core.Path.{◌∙◌}
use lib.ListN.{length}
use Rattle.bench_words.specs.Words.{ascii}
use Rattle.bench_wraps.proofs.Told.{not-unwrapped, inner-short, root-short, eight-short, unwrapped}
use borrow.Author.Rules.{rules}
use Rattle.bench_wraps.proofs.tell_unwrapped.Goals as goal

pub returns-then-answer-ne0 : goal.returns-then-answer-ne0
unfolding ascii
returns-then-answer-ne0 c =
    (c.put_count.ensures.text_after ∙ not-unwrapped (length c.args.out.now) c.args.name.now c.unwrap-inner.ensures.0.0 c.if-answer-ne0.true, omega (arith, c.put_count.ensures.upper_bound))

pub put_unwrapped-requires : goal.put_unwrapped-requires
put_unwrapped-requires c =
    let l = length c.args.out.now in
    let name = c.args.name.now in
    let h = c.unwrap-inner.ensures.0.0 in (
      omega (arith, inner-short l name h c.if-answer-ne0.false, c.requires.0),
      root-short l name h c.if-answer-ne0.false _ c.root_of.ensures,
      eight-short name _ c.eight_of.ensures,
      c.requires.1,
    )

pub returns : goal.returns
returns c =
    (c.put_unwrapped.ensures.text_after ∙ unwrapped (length c.args.out.now) c.args.name.now c.unwrap-inner.ensures.0.0 c.if-answer-ne0.false _ _ c.root_of.ensures c.eight_of.ensures, c.put_unwrapped.ensures.upper_bound)
