use native.Mathlib.Omega.{arith}
use mathlib.Core.Path.{refl, ◌∙◌}
use Rattle.save_rows.proofs.Rows.{branched-none, branched-in, branched-more, branched-all}
use Rattle.save_rows.proofs.lay_branches.Goals as goal

pub loop-n-init : goal.loop-n-init
loop-n-init c =
    (refl, (λ os. branched-none c.args.numbers.now os c.args.octets.now c.args.at c.args.i c.requires.2.0))

pub set_branch-requires : goal.set_branch-requires
set_branch-requires c =
    let v = c.loop-n.invariant in
    (v.0 ∙ c.requires.0, omega arith, (omega (arith, branched-in c.args.numbers.now c.args.octets.now c.args.octets.now c.args.at c.args.i c.requires.2.0 c.loop-n.n _ (v.1 c.args.octets.now)), c.requires.2.1))

pub loop-n-preserved : goal.loop-n-preserved
loop-n-preserved c =
    let the-loop-test = c.loop-n-test in
    let the-four-at = c.four_at-label in
    let v = c.loop-n.invariant in
    (c.numbers-1.given ∙ v.0, (λ os. branched-more c.args.numbers.now os c.args.octets.now c.args.at c.args.i c.requires.2.0 _ _ _ _ the-loop-test.true (v.1 os) the-four-at.ensures.0 (c.set_branch.ensures os)))

pub shape_of-numbers : goal.shape_of-numbers
shape_of-numbers c = c.loop-n.invariant.0

pub returns : goal.returns
returns c =
    λ os. branched-all c.args.numbers.now os c.args.octets.now c.args.at c.args.i c.requires.2.0 _ _ c.loop-n-test.false (c.loop-n.invariant.1 os)
