-- `session_pack::pack_all` meets its contract: 1, 16, and the PDUs. Assumes nothing.
use mathlib.Core.Path.{sym, ◌∙◌}
use borrow.Author.Tests.{leb-true}
use Rattle.session_pack.proofs.Counting.{packs-far, packs-short, packs-all}
use borrow.Author.Rules.{rules}
use Rattle.session_pack.proofs.pack_all.Goals as goal

pub returns-then-neighbour-gt15 : goal.returns-then-neighbour-gt15
returns-then-neighbour-gt15 c = packs-far _ _ _ _ _ c.if-neighbour-gt15.true

pub returns-then-not-has_room : goal.returns-then-not-has_room
returns-then-not-has_room c = packs-short _ _ _ _ _ c.if-neighbour-gt15.false (sym c.has_room.ensures ∙ c.if-not-has_room.true)

pub put_all-requires : goal.put_all-requires
put_all-requires c = (search rules, leb-true _ _ (sym c.has_room.ensures ∙ c.if-not-has_room.false))

pub returns : goal.returns
returns c =
    let the-if1 = c.if-neighbour-gt15 in
    let the-has-room = c.has_room in
    let the-if2 = c.if-not-has_room in
    packs-all _ _ _ _ _ the-if1.false (sym the-has-room.ensures ∙ the-if2.false) _ _ c.put_all.ensures.0 c.put_all.ensures.1
