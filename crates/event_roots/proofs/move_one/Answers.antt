use native.Mathlib.Omega.{arith}
use mathlib.Core.Path.{sym, ◌∙◌}
use Rattle.meaning.specs.Card.{Card, tree_at}
use Rattle.memory.specs.Memory.{card_of}
use Rattle.memory.proofs.Memory.{trees-length}
use Rattle.event_holder.proofs.Held.{holder-range}
use Rattle.event_roots.proofs.Roots.{need-of, one-fills, one_of, one-nothing}
use Rattle.event_roots.proofs.move_one.Goals as goal

pub move_label-requires : goal.move_label-requires
move_label-requires c =
    let the-if1 = c.if-is_of_root in
    let the-is-of-root = c.is_of_root in
    let card : Card = card_of c.args.numbers.now c.args.names.now in
    let e = sym the-if1.true ∙ the-is-of-root.ensures c.args.numbers.now (omega (arith, c.requires.6.0)) in
    let h = c.holder-h.ensures c.args.names.now in
    let range = holder-range c.args.u (tree_at c.args.i card) c.requires.2 c.requires.3 in
    (c.requires.0, c.requires.1, rw h range.0, (λ z. range.1 (sym h ∙ z)), rw h (omega (arith, c.requires.4, need-of _ _ c.args.u e)), rw h (omega (arith, c.requires.5, one-fills _ c.args.u _ c.args.from.id card (rw trees-length c.requires.6.0) e)), c.requires.6)

pub returns-then-is_of_root : goal.returns-then-is_of_root
returns-then-is_of_root c =
    let the-if1 = c.if-is_of_root in
    let the-is-of-root = c.is_of_root in
    let the-holder = c.holder-h in
    let the-move-label = c.move_label in
    let card : Card = card_of c.args.numbers.now c.args.names.now in
    let e = sym the-if1.true ∙ the-is-of-root.ensures c.args.numbers.now (omega (arith, c.requires.6.0)) in
    let h = the-holder.ensures c.args.names.now in
    rw (one_of _ c.args.u c.args.i card e, need-of _ _ c.args.u e, ← h) the-move-label.ensures

pub returns-else-is_of_root : goal.returns-else-is_of_root
returns-else-is_of_root c =
    one-nothing _ c.args.u c.args.i c.args.from.id c.args.from.at (card_of c.args.numbers.now c.args.names.now) c.args.out.now (sym c.if-is_of_root.false ∙ c.is_of_root.ensures c.args.numbers.now (omega (arith, c.requires.6.0)))
