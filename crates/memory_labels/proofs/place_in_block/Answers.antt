use Rattle.std.proofs.Common.{◌≡◌, ◌-◌, ltb, arith, ltb-false, ltb-true}
use Rattle.meaning.specs.Lists.{by-test}
use Rattle.memory.proofs.Labels.{block-under, block-from}
use Rattle.memory_labels.proofs.place_in_block.Goals as goal

pub returns : goal.returns
returns c =
    let w = c.wrapping_sub_u64 in
    let b = c.base in
    by-test (ltb c.args.label b.result)
    (λ t. let under = ltb-true c.args.label b.result t in block-under _ _ _ b.ensures.0 _ under (omega (arith, w.ensures, c.ranges.label, b.ensures.2, under)))
    (λ t.
    let from = ltb-false c.args.label b.result t in
    let e : c.args.label - b.result ≡ w.result = omega (arith, w.ensures, c.ranges.label, b.ensures.2, from) in
    rw (← e) (block-from _ _ _ b.ensures.0 from))
