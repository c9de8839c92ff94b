use native.Mathlib.Omega.{arith}
use mathlib.Core.Path.{◌≡◌, sym, ◌∙◌}
use Rattle.meaning.specs.Card.{tree_at}
use Rattle.memory.specs.Memory.{card_of}
use Rattle.event_move.proofs.Steps.{let-nothing, let-go-some, let-go-room}
use Rattle.event_move.proofs.let_go.Goals as goal

pub returns-then-tree_label-eq0 : goal.returns-then-tree_label-eq0
returns-then-tree_label-eq0 c =
    let-nothing c.args.i c.args.id c.args.at (card_of c.args.numbers.now c.args.names.now) c.args.out.now (sym (c.tree_label.ensures _) ∙ c.if-tree_label-eq0.true)

pub give_up-requires : goal.give_up-requires
give_up-requires c =
    let ne : (tree_at c.args.i (card_of c.args.numbers.now c.args.names.now)).label ≡ 0 → ⊥ = λ z. c.if-tree_label-eq0.false (c.tree_label.ensures _ ∙ z) in
    (c.requires.0, c.requires.1, ne, omega (arith, c.requires.2, let-go-room c.args.id c.args.i (card_of c.args.numbers.now c.args.names.now) ne), c.requires.3)

pub returns-else-tree_label-eq0 : goal.returns-else-tree_label-eq0
returns-else-tree_label-eq0 c =
    let the-if1 = c.if-tree_label-eq0 in
    let the-tree-label = c.tree_label in
    let the-give-up = c.give_up in
    rw (let-go-some c.args.i (card_of c.args.numbers.now c.args.names.now) (λ z. the-if1.false (the-tree-label.ensures _ ∙ z))) the-give-up.ensures
