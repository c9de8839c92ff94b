-- `save_records::put_fours` meets its contract: the invariant is that k fours stand. Assumes nothing.
use Prim.Native.Nat.{ℕ, ◌+◌, ◌*◌, ◌-◌}
use mathlib.Core.Path.{refl, ap, ◌∙◌}
use mathlib.Core.List.{List, []}
use Rattle.meaning.specs.Octets.{four}
use Rattle.meaning.specs.Card.{tree_at, neighbour_count}
use Rattle.memory.specs.Memory.{card_of}
use Rattle.memory.proofs.Trees.{branches-length}
use Rattle.octets.specs.Part.{mid}
use Rattle.save_records.proofs.Rows.{Rows, rows_none}
use Rattle.save_records.proofs.Records.{four_row, fours-lot, fours-next, fours-done}
use Rattle.save_records.proofs.put_fours.Goals as goal

pub loop-k-init : goal.loop-k-init
loop-k-init c = (refl, λ os. rows_none (fours-lot (tree_at c.args.i (card_of c.args.numbers.now os)).branches c.args.out.now (branches-length _ os _ c.requires.2.0) c.requires.1))

pub loop-k-preserved : goal.loop-k-preserved
loop-k-preserved c =
    let v = c.loop-k.invariant in
    let next : (os : List ℕ) → Rows (four_row (tree_at c.args.i (card_of c.args.numbers.now os)).branches) neighbour_count 0 c.args.out.now (c.loop-k.k + 1) ((c.loop-k.k + 1) * 4) (mid (c.loop-k.k * 4) (c.loop-k.k * 4 + 4 - c.loop-k.k * 4) c.loop-k.out c.put_four.new.out) =
    λ os. fours-next (tree_at c.args.i (card_of c.args.numbers.now os)).branches c.args.out.now (branches-length _ os _ c.requires.2.0) c.requires.1 _ _ _ c.loop-k-test.true (v.1 os) (c.put_four.ensures ∙ ap four (c.branch-numbers.ensures os)) in
    ((next []).1, next)

pub shape_of-out : goal.shape_of-out
shape_of-out c = c.loop-k.invariant.0

pub returns : goal.returns
returns c =
    λ os. fours-done (tree_at c.args.i (card_of c.args.numbers.now os)).branches c.args.out.now (branches-length _ os _ c.requires.2.0) c.requires.1 _ _ c.loop-k-test.false (c.loop-k.invariant.1 os)
