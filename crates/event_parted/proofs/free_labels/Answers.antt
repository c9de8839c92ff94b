use Prim.Native.Nat.{◌+◌, ◌*◌}
use native.Mathlib.Omega.{arith}
use mathlib.Core.Path.{◌≡◌, ◌∙◌}
use Rattle.meaning.specs.Card.{label_count}
use Rattle.event_parted.proofs.Labels.{freed-none, freed-then, freed-card}
use borrow.Author.Rules.{rules}
use Rattle.event_parted.proofs.free_labels.Goals as goal

pub loop-w-init : goal.loop-w-init
loop-w-init c = freed-none _ 0 _

pub free_word-requires : goal.free_word-requires
free_word-requires c =
    (c.loop-w.invariant.long ∙ c.requires.0, search rules, c.requires.1)

pub loop-w-preserved : goal.loop-w-preserved
loop-w-preserved c =
    let next : (c.loop-w.w + 1) * 64 ≡ c.loop-w.w * 64 + 64 = omega arith in
    rw next (freed-then _ 0 _ _ _ _ _ (omega arith) (omega arith) c.loop-w.invariant c.free_word.ensures)

pub shape_of-numbers : goal.shape_of-numbers
shape_of-numbers c = c.loop-w.invariant.long

pub returns : goal.returns
returns c = λ os.
    let v = c.loop-w.invariant in
    let e : c.loop-w.w * 64 ≡ label_count = omega arith in
    freed-card _ c.requires.1 _ _ (rw e at v) os
