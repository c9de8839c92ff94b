-- `session_replies::put_turns` meets its contract: call after call. Assumes nothing.
use Prim.Native.Nat.{◌-◌}
use native.Mathlib.Omega.{arith}
use mathlib.Core.Path.{◌≡◌, refl}
use lib.ListN.{length}
use Rattle.card.specs.Table.{card_of}
use Rattle.session.specs.Lent.{stream_of}
use Rattle.session.proofs.Lent.{lent_fits}
use Rattle.bench_words.specs.Words.{ascii}
use Rattle.session_replies.specs.Turns.{turns}
use Rattle.session_replies.proofs.Telling.{Goes, goes-start, goes-next, goes-out}
use borrow.Author.Rules.{rules}
use Rattle.session_replies.proofs.put_turns.Goals as goal

pub loop-left-init : goal.loop-left-init
unfolding ascii
loop-left-init c =
    (refl, refl, goes-start _ _ c.args.octets.now (card_of c.args.numbers.now c.args.names.now) (stream_of c.args.stream.now c.args.buffer.now) c.requires.1 (lent_fits _ _) c.add-at.ensures)

pub turn-done-requires : goal.turn-done-requires
turn-done-requires c =
    let the-loop = c.loop-left in
    let the-loop-test = c.loop-left-test in
    let inv = the-loop.invariant in
    (omega arith, inv.2.within, omega (arith, inv.2.space the-loop-test.true))

pub loop-left-preserved : goal.loop-left-preserved
loop-left-preserved c =
    let the-loop = c.loop-left in
    let the-loop-test = c.loop-left-test in
    let the-turn = c.turn-done in
    (omega arith, omega arith, goes-next _ _ _ _ the-loop.invariant.2 the-loop-test.true the-turn.ensures _ c.left_after-left.ensures.0)

pub add-requires : goal.add-requires
add-requires c = let inv = c.loop-left.invariant in omega (arith, inv.2.ends)

pub returns : goal.returns
returns c =
    let the-loop = c.loop-left in
    let the-loop-test = c.loop-left-test in
    goes-out _ _ _ _ the-loop.invariant.2 the-loop-test.false c.add.ensures
