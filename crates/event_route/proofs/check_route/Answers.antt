use Rattle.event_route.proofs.Route.{full_is, quick-is, few-quick, few-walk}
use Rattle.event_tree.proofs.Tests.{when-1, when-2}
use Rattle.memory.specs.Memory.{card_of}
use mathlib.Core.Path.{sym, ◌∙◌}
use Rattle.event_route.proofs.check_route.Goals as goal

pub returns-then-routes_full : goal.returns-then-routes_full
returns-then-routes_full c =
    let the-routes-full = c.routes_full in
    let card = card_of c.args.numbers.now c.args.names.now in
    sym (when-1 15 12 16 _ _ _ (sym (full_is card _ _ _ c.requires.6 c.requires.3) ∙ sym (the-routes-full.ensures _) ∙ c.if-routes_full.true))

pub returns-then-surely_short : goal.returns-then-surely_short
returns-then-surely_short c =
    let the-routes-full = c.routes_full in
    let the-if1 = c.if-routes_full in
    let the-surely-short = c.surely_short in
    let card = card_of c.args.numbers.now c.args.names.now in
    let full = sym (full_is card _ _ _ c.requires.6 c.requires.3) ∙ sym (the-routes-full.ensures _) ∙ the-if1.false in
    sym (when-2 15 12 16 _ _ _ full (few-quick card _ _ (sym (quick-is card _ _ _ _ c.requires.4 c.requires.5) ∙ sym (the-surely-short.ensures _) ∙ c.if-surely_short.true)))

pub returns : goal.returns
returns c =
    let the-routes-full = c.routes_full in
    let the-if1 = c.if-routes_full in
    let the-surely-short = c.surely_short in
    let the-if2 = c.if-surely_short in
    let the-check-moves = c.check_moves in
    let card = card_of c.args.numbers.now c.args.names.now in
    let full = sym (full_is card _ _ _ c.requires.6 c.requires.3) ∙ sym (the-routes-full.ensures _) ∙ the-if1.false in
    let quick = sym (quick-is card _ _ _ _ c.requires.4 c.requires.5) ∙ sym (the-surely-short.ensures _) ∙ the-if2.false in
    few-walk card _ _ _ _ _ full quick c.requires.2 the-check-moves.ensures
