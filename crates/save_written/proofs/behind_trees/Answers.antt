-- `save_written::behind_trees` meets its contract: what is left decides, and ends where all of them end. Assumes nothing.
use Prim.Native.Nat.{ℕ, ◌+◌, ◌-◌, ◌<◌}
use native.Mathlib.Omega.{arith}
use mathlib.Core.Path.{◌≡◌, sym, ◌∙◌}
use lib.ListN.{drop}
use Rattle.meaning_save.specs.Save.{form_of, tree_beside, trees_end}
use Rattle.save_written.specs.Written.{trees_written}
use Rattle.save_written.proofs.Steps.{trees-stop, trees-next, trees-further, trees-done}
use mathlib.Core.Path.{ap}
use Rattle.save_written.proofs.behind_trees.Goals as goal

pub returns-then-not-is_tree : goal.returns-then-not-is_tree
returns-then-not-is_tree c =
    let l = c.loop in
    l.invariant.0 ∙ trees-stop _ l.at (c.args.n - l.counter) (omega (arith, c.loop-test.true)) _ (sym c.is_tree.ensures ∙ c.if-not-is_tree.true)

pub loop-preserved : goal.loop-preserved
loop-preserved c =
    let l = c.loop in
    let n = c.args.n in
    let some : 0 < n - l.counter = omega (arith, c.loop-test.true) in
    let one_less : n - l.counter - 1 ≡ n - (l.counter + 1) = omega arith in
    let rest = drop (l.at + (tree_beside + c.extent_at-e.result)) c.args.octets.now in
    let e = c.extent_at-e.ensures in (
      l.invariant.0 ∙ trees-next _ l.at (n - l.counter) some _ _ e.0 (sym c.is_tree.ensures ∙ c.if-not-is_tree.false) ∙ ap (λ (k : ℕ). trees_written (form_of c.args.second) k rest) one_less,
      l.invariant.1 ∙ trees-further _ l.at (n - l.counter) some _ _ e.0 ∙ ap (λ (k : ℕ). trees_end (form_of c.args.second) k rest) one_less,
      omega (arith, l.invariant.2, e.1),
    )

pub returns : goal.returns
returns c =
    let l = c.loop in
    let o = c.args.octets.now in
    let done = trees-done o l.at (form_of c.args.second) (c.args.n - l.counter) (omega (arith, c.loop-test.false)) in
    (l.invariant.0 ∙ done.0, sym (l.invariant.1 ∙ done.1), omega (arith, l.invariant.2))
