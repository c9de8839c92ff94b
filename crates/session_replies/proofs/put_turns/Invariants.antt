-- `session_replies::put_turns` meets its contract: call after call. Assumes nothing.
use Prim.Native.Nat.{◌-◌}
use native.Mathlib.Omega.{arith}
use mathlib.Core.Path.{◌≡◌, refl}
use lib.ListN.{length}
use Rattle.card.specs.Table.{card_of}
use Rattle.session.specs.Lent.{stream_of}
use Rattle.session.proofs.Lent.{lent_fits}
use Rattle.bench_words.specs.Words.{ascii}
use Rattle.session_replies.specs.Turns.{turns}
use Rattle.session_replies.proofs.Telling.{Goes, goes-start, goes-next, goes-out}
use borrow.Author.Rules.{rules}
use Rattle.session_replies.proofs.put_turns.Given as goal

abbrev pub invariant-loop-left : goal.invariant-loop-left
invariant-loop-left l =
    (length l.buffer ≡ length l.initial.buffer) × (length l.text ≡ length l.initial.text)
    × Goes l.neighbour l.room l.octets (turns l.neighbour l.room (card_of l.initial.numbers l.initial.names) (stream_of l.initial.stream l.initial.buffer) l.octets) l.left l.from l.at l.text (card_of l.numbers l.names) (stream_of l.stream l.buffer)

abbrev pub decreases-loop-left : goal.decreases-loop-left
decreases-loop-left l = l.left
