-- `save_tags::tagged_near` meets its contract: where no two trees have one name, whoever has it is the one. Assumes nothing.
use native.Mathlib.Omega.{arith}
use mathlib.Core.Path.{sym, ◌∙◌}
use Rattle.save_tags.proofs.Tags.{from_front, named-there}
use Rattle.save_tags.proofs.tagged_near.Goals as goal

pub overflow_cast-i : goal.overflow_cast-i
overflow_cast-i c = omega (arith, c.shared_slice_known-6-1.given c.hint_place-k.result)

pub is_named-requires : goal.is_named-requires
is_named-requires c =
    let the-tag = c.tag-t in
    let n = c.tree_count.ensures in
    let h = c.if-i-tree_count.true in
    (c.requires.1, c.requires.2, omega (arith, n, h), c.requires.3 _ (omega (arith, n.0, h)), the-tag.ensures)

pub returns-then-is_named : goal.returns-then-is_named
returns-then-is_named c =
    let n = c.tree_count.ensures in
    let h = c.if-i-tree_count.true in
    (named-there _ _ _ _ (omega (arith, n.0, h)) c.requires.4 (sym c.is_named.ensures ∙ c.if-is_named.true), omega (arith, n.0, h), omega (arith, n, h))

pub returns : goal.returns
returns c =
    let found = c.tagged_from.ensures in
    (from_front _ _ _ found.0, found.1, found.2)
