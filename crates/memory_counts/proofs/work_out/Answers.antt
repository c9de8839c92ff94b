use Rattle.memory_counts.proofs.Counting.{total-more, total-past, total-all}
use Rattle.memory.proofs.Memory.{trees-length}
use Rattle.memory.specs.Memory.{card_of}
use Rattle.meaning.specs.Events.{total, in_root, one_standing, one_lone}
use lib.ListN.{drop, length}
use mathlib.Core.Path.{sym, ap, ◌∙◌}
use native.Mathlib.Omega.{arith}
use Prim.Native.Nat.{ℕ, ◌+◌, ◌≤◌, ◌<◌}
use Rattle.memory_counts.proofs.work_out.Goals as goal
use Rattle.memory_counts.proofs.work_out.Goals.{then-is_of_root, else-is_of_root}

pub loop-i-init : goal.loop-i-init
loop-i-init c = (omega arith, omega arith, omega arith, omega arith)

pub loop-i-preserved : goal.loop-i-preserved
loop-i-preserved c =
    let the-tree-count = c.tree_count-k in
    let card = card_of c.args.numbers.now c.args.names.now in
    let many = the-tree-count.ensures.0 in
    let within : c.loop-i.i < length card.trees = rw trees-length (omega arith) in
    let ours = c.is_of_root.ensures c.args.numbers.now (omega arith) in (
      elim c.if-is_of_root.branch [ then-is_of_root w ↦ omega (arith, w.standing-is, w.counts_at-t.ensures.1) | else-is_of_root w ↦ omega (arith, w.standing-is) ],
      elim c.if-is_of_root.branch [ then-is_of_root w ↦ omega (arith, w.lone-is, w.counts_at-t.ensures.2) | else-is_of_root w ↦ omega (arith, w.lone-is) ],
      elim c.if-is_of_root.branch [ then-is_of_root w ↦ ap (λ (k : ℕ). k + total (in_root c.args.root.now one_standing) (drop (c.loop-i.i + 1) card.trees)) w.standing-is ∙ total-more c.args.root.now one_standing card c.loop-i.i c.loop-i.standing _ c.loop-i.invariant.2 _ within (sym w.if-is_of_root.true ∙ ours) (w.counts_at-t.ensures.0 _).0 | else-is_of_root w ↦ ap (λ (k : ℕ). k + total (in_root c.args.root.now one_standing) (drop (c.loop-i.i + 1) card.trees)) w.standing-is ∙ total-past c.args.root.now one_standing card c.loop-i.i c.loop-i.standing _ c.loop-i.invariant.2 within (sym w.if-is_of_root.false ∙ ours) ],
      elim c.if-is_of_root.branch [ then-is_of_root w ↦ ap (λ (k : ℕ). k + total (in_root c.args.root.now one_lone) (drop (c.loop-i.i + 1) card.trees)) w.lone-is ∙ total-more c.args.root.now one_lone card c.loop-i.i c.loop-i.lone _ c.loop-i.invariant.3 _ within (sym w.if-is_of_root.true ∙ ours) (w.counts_at-t.ensures.0 _).1 | else-is_of_root w ↦ ap (λ (k : ℕ). k + total (in_root c.args.root.now one_lone) (drop (c.loop-i.i + 1) card.trees)) w.lone-is ∙ total-past c.args.root.now one_lone card c.loop-i.i c.loop-i.lone _ c.loop-i.invariant.3 within (sym w.if-is_of_root.false ∙ ours) ],
    )

pub returns : goal.returns
returns c =
    let v = c.loop-i.invariant in
    let card = card_of c.args.numbers.now c.args.names.now in
    let done : length card.trees ≤ c.loop-i.i = rw trees-length (omega (arith, c.tree_count-k.ensures.0)) in
    (total-all c.args.root.now one_standing card _ _ _ v.2 done, total-all c.args.root.now one_lone card _ _ _ v.3 done, omega arith, omega arith)
