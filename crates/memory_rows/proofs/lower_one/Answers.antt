use native.Mathlib.Omega.{arith}
use mathlib.Core.Path.{sym, ◌∙◌}
use Rattle.memory_rows.proofs.Lower.{own-inside, own-named, lower-carried, lower-cleared}
use Rattle.memory_rows.proofs.lower_one.Goals as goal

pub overflow_add-k-then-own_counts : goal.overflow_add-k-then-own_counts
overflow_add-k-then-own_counts c =
    let h = sym c.own_counts.ensures ∙ c.if-own_counts.true in
    omega (arith, own-inside c.args.numbers.now c.args.j c.requires.0 c.requires.1 h)

pub offset_bounds-numbers-k : goal.offset_bounds-numbers-k
offset_bounds-numbers-k c =
    let h = sym c.own_counts.ensures ∙ c.if-own_counts.true in
    omega (arith, own-inside c.args.numbers.now c.args.j c.requires.0 c.requires.1 h)

pub bounds-numbers-k : goal.bounds-numbers-k
bounds-numbers-k c =
    let h = sym c.own_counts.ensures ∙ c.if-own_counts.true in
    omega (arith, own-inside c.args.numbers.now c.args.j c.requires.0 c.requires.1 h)

pub overflow_sub-numbers : goal.overflow_sub-numbers
overflow_sub-numbers c =
    let h = sym c.own_counts.ensures ∙ c.if-own_counts.true in
    omega (arith, own-named c.args.numbers.now c.args.j c.requires.0 c.requires.1 h)

pub offset_bounds-numbers-k-then-own_counts : goal.offset_bounds-numbers-k-then-own_counts
offset_bounds-numbers-k-then-own_counts c =
    let h = sym c.own_counts.ensures ∙ c.if-own_counts.true in
    omega (arith, own-inside c.args.numbers.now c.args.j c.requires.0 c.requires.1 h)

pub bounds-numbers-k-then-own_counts : goal.bounds-numbers-k-then-own_counts
bounds-numbers-k-then-own_counts c =
    let h = sym c.own_counts.ensures ∙ c.if-own_counts.true in
    omega (arith, own-inside c.args.numbers.now c.args.j c.requires.0 c.requires.1 h)

pub returns-then-own_counts : goal.returns-then-own_counts
returns-then-own_counts c =
    lower-carried c.args.numbers.now c.args.j c.requires.0 c.requires.1 (sym c.own_counts.ensures ∙ c.if-own_counts.true)

pub returns : goal.returns
returns c =
    lower-cleared c.args.numbers.now c.args.j c.requires.0 c.requires.1 (sym c.own_counts.ensures ∙ c.if-own_counts.false)
