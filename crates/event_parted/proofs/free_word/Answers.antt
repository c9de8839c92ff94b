-- `event_parted::free_word` meets its contract: label by label, or none where all are free. Assumes nothing.
use Prim.Native.Nat.{◌+◌, ◌*◌}
use native.Mathlib.Omega.{arith}
use mathlib.Core.Path.{◌≡◌, ◌∙◌}
use Rattle.event_parted.proofs.Labels.{freed-none, freed-then, freed-whole}
use borrow.Author.Rules.{rules}
use Rattle.event_parted.proofs.free_word.Goals as goal

pub returns-then-is_whole : goal.returns-then-is_whole
returns-then-is_whole c = freed-whole _ _ _ _ (c.is_whole.ensures c.if-is_whole.true)

pub loop-p-init : goal.loop-p-init
loop-p-init c = freed-none _ _ _

pub free_one-requires : goal.free_one-requires
free_one-requires c =
    (c.loop-p.invariant.long ∙ c.requires.0, search rules, c.requires.2)

pub loop-p-preserved : goal.loop-p-preserved
loop-p-preserved c =
    let the-loop = c.loop-p in
    freed-then _ _ _ _ _ _ _ the-loop.auto.p (omega arith) the-loop.invariant c.free_one.ensures

pub shape_of-numbers : goal.shape_of-numbers
shape_of-numbers c = c.loop-p.invariant.long

pub returns : goal.returns
returns c =
    let v = c.loop-p.invariant in
    let w = c.args.w in
    let e : c.loop-p.p ≡ w * 64 + 64 = omega arith in
    rw e at v
