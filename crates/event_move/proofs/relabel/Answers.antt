use native.Mathlib.Omega.{arith}
use mathlib.Core.Path.{◌≡◌, sym, ◌∙◌}
use Rattle.meaning.specs.Card.{Card, tree_at, held_for}
use Rattle.memory.specs.Memory.{card_of}
use Rattle.event_move.proofs.Records.{wrote_nothing}
use Rattle.event_holder.proofs.Sizes.{need-other, resize-some}
use Rattle.event_move.proofs.Steps.{relabel-none, relabel-some}
use Rattle.event_move.proofs.relabel.Goals as goal

pub returns-then-held_for-u : goal.returns-then-held_for-u
returns-then-held_for-u c =
    let card : Card = card_of c.args.numbers.now c.args.names.now in
    rw (relabel-none c.args.i c.args.u card (sym (c.held_for.ensures.0 _) ∙ c.if-held_for-u.true)) (wrote_nothing card c.args.id c.args.at c.args.out.now)

pub move_label-requires : goal.move_label-requires
move_label-requires c =
    let the-held-for = c.held_for in
    let card : Card = card_of c.args.numbers.now c.args.names.now in
    let ne : held_for card (tree_at c.args.i card) ≡ c.args.u → ⊥ = λ z. c.if-held_for-u.false (the-held-for.ensures.0 _ ∙ z) in
    (c.requires.0, c.requires.1, c.requires.2, c.requires.3, omega (arith, c.requires.4, need-other _ _ _ ne), omega (arith, c.requires.5, resize-some _ _ _ ne), c.requires.6)

pub returns-else-held_for-u : goal.returns-else-held_for-u
returns-else-held_for-u c =
    let the-if1 = c.if-held_for-u in
    let the-held-for = c.held_for in
    let the-move-label = c.move_label in
    let card : Card = card_of c.args.numbers.now c.args.names.now in
    rw (relabel-some c.args.i c.args.u card (λ z. the-if1.false (the-held-for.ensures.0 _ ∙ z))) the-move-label.ensures.0
