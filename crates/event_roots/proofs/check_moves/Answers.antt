use mathlib.Core.Path.{sym, ◌∙◌}
use Rattle.event_roots.proofs.Roots.{moves-freely, moves-short, moves-tight, moves-well}
use Rattle.event_roots.proofs.check_moves.Goals as goal

pub returns-then-is_plenty : goal.returns-then-is_plenty
returns-then-is_plenty c =
    let the-is-plenty = c.is_plenty in
    let well = the-is-plenty.ensures c.if-is_plenty.true _ _ _ in
    moves-freely _ _ _ _ well.0 well.1

pub returns-then-labels_short : goal.returns-then-labels_short
returns-then-labels_short c =
    let the-take-all = c.take_all-t in
    let the-labels-short = c.labels_short in
    moves-short _ _ _ _ _ the-take-all.ensures.0 (sym (the-labels-short.ensures _) ∙ c.if-labels_short.true)

pub returns-then-room-t : goal.returns-then-room-t
returns-then-room-t c =
    let the-take-all = c.take_all-t in
    let the-labels-short = c.labels_short in
    let the-if2 = c.if-labels_short in
    moves-tight _ _ _ _ _ the-take-all.ensures.0 _ (sym (the-labels-short.ensures _) ∙ the-if2.false) the-take-all.ensures.1 c.if-room-t.true

pub returns : goal.returns
returns c =
    let the-take-all = c.take_all-t in
    let the-labels-short = c.labels_short in
    let the-if2 = c.if-labels_short in
    moves-well _ _ _ _ _ the-take-all.ensures.0 _ (sym (the-labels-short.ensures _) ∙ the-if2.false) the-take-all.ensures.1 c.if-room-t.false
