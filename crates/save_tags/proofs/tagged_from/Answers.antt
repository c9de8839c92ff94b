-- `save_tags::tagged_from` meets its contract: a search, in which a tag that is another says that the name is. Assumes nothing.
use native.Mathlib.Omega.{arith}
use mathlib.Core.Path.{refl, sym, ◌∙◌}
use Rattle.octets.proofs.Tab.{place-hit, place-miss, place_none}
use Rattle.memory.proofs.Trees.{named-at}
use Rattle.save_tags.proofs.Tags.{trees-from}
use Rattle.save_tags.proofs.tagged_from.Goals as goal

pub loop-i-init : goal.loop-i-init
loop-i-init c =
    trees-from _ _ _ _ _ c.tree_count-n.ensures.0

pub is_named-requires : goal.is_named-requires
is_named-requires c =
    let n = c.tree_count-n.ensures in
    let h = c.loop-i-test.true in
    (c.requires.1, c.requires.2, omega (arith, n, h), c.requires.3 _ (omega (arith, n.0, h)), c.tag-t.ensures)

pub returns-then-is_named : goal.returns-then-is_named
returns-then-is_named c =
    let n = c.tree_count-n.ensures in
    (sym (c.loop-i.invariant ∙ place-hit _ _ _ _ c.loop-i-test.true (named-at _ _ _ _ _ refl ∙ sym c.is_named.ensures ∙ c.if-is_named.true)), omega (arith, n, c.loop-i-test.true), omega (arith, n, c.loop-i-test.true))

pub loop-i-preserved : goal.loop-i-preserved
loop-i-preserved c =
    c.loop-i.invariant ∙ place-miss _ _ _ _ c.loop-i-test.true (named-at _ _ _ _ _ refl ∙ sym c.is_named.ensures ∙ c.if-is_named.false)

pub returns : goal.returns
returns c =
    let n = c.tree_count-n.ensures in
    (sym (c.loop-i.invariant ∙ place_none _ _ _ _ c.loop-i-test.false (omega (arith, c.requires.4, n.0))), omega (arith, n), omega (arith, n))
