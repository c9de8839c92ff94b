use mathlib.Core.Path.{sym, ◌∙◌}
use Rattle.memory.specs.Memory.{card_of}
use Rattle.event_lost.proofs.Sizes.{held-label}
use Rattle.event_lost.proofs.Shed.{shed-bare, shed-stays, shed-goes}
use Rattle.event_lost.proofs.shed_one.Goals as goal

pub returns-then-u-eq-NOBODY : goal.returns-then-u-eq-NOBODY
returns-then-u-eq-NOBODY c =
    let u = c.held_for-u.ensures.0 c.args.names.now in
    shed-bare _ _ _ u _ _ _ (held-label _ _ _ c.requires.3.0 (sym u ∙ c.if-u-eq-NOBODY.true))

pub let_go-requires : goal.let_go-requires
let_go-requires c =
    let the-held-for = c.held_for-u in
    let the-if1 = c.if-u-eq-NOBODY in
    let goes = shed-goes _ (card_of c.args.numbers.now c.args.names.now) _ (the-held-for.ensures.0 c.args.names.now) _ (c.holder.ensures c.args.names.now) the-if1.false c.if-holder-eq-NOBODY.true in
    (c.requires.0, c.requires.1, rw (← goes) c.requires.2, c.requires.3)

pub returns-then-holder-eq-NOBODY : goal.returns-then-holder-eq-NOBODY
returns-then-holder-eq-NOBODY c =
    let the-held-for = c.held_for-u in
    let the-holder = c.holder in
    let the-if1 = c.if-u-eq-NOBODY in
    let the-if2 = c.if-holder-eq-NOBODY in
    let the-let-go = c.let_go in
    let goes = shed-goes _ (card_of c.args.numbers.now c.args.names.now) _ (the-held-for.ensures.0 c.args.names.now) _ (the-holder.ensures c.args.names.now) the-if1.false the-if2.true in
    rw goes the-let-go.ensures.0

pub returns : goal.returns
returns c =
    let the-held-for = c.held_for-u in
    shed-stays _ (card_of c.args.numbers.now c.args.names.now) _ (the-held-for.ensures.0 c.args.names.now) _ _ _ _ (c.holder.ensures c.args.names.now) c.if-holder-eq-NOBODY.false
