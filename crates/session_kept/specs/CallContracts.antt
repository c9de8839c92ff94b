-- The calls of the session box by their contracts, and nothing more: each constructor takes what a caller learns of one call (`Learnt`), and says of it what went in and what came back.
-- a are the call's arguments, r is its result, and s are its parameters as they are right after it, in the order of the source (`.0`, `.1 .0`, `.1 .1 .0`, ..):
-- numbers, names, stream, buffer, neighbour, expected, offered, out, answer, eaten. Assumes nothing.
use Rattle.std.specs.Prelude.{ℕ, List, take, length}
use Rattle.meaning.specs.Card.{Card}
use Rattle.card.specs.Table.{card_of}
use Rattle.session.specs.Stream.{Stream}
use Rattle.session.specs.Session.{label, called}
use Rattle.session.specs.Calls.{HandsOver}
use Rattle.session.specs.Lent.{stream_of}
use Rattle.session_calls.proofs.Serving.{handed-over}
use Rattle.session_calls.proofs.serve.Reads as serve-reads
use Rattle.session_calls.proofs.serve_core.Reads as serve-core-reads

-- what the caller lends: the card's two arrays, the stream's four numbers and its buffer
pub record Lent : Type 0 where
  pub numbers : List ℕ
  pub names : List ℕ
  pub stream : List ℕ
  pub buffer : List ℕ

abbrev pub card_in : Lent → Card
card_in m = card_of m.numbers m.names

abbrev pub stream_in : Lent → Stream
stream_in m = stream_of m.stream m.buffer

-- a call as its caller sees it: whose octets, the identifier expected of it, the octets and the room for records; the answer, how many octets were eaten, and the records that were handed back
pub record Call : Type 0 where
  pub neighbour : ℕ
  pub identifier : List ℕ
  pub offered : List ℕ
  pub room : ℕ
  pub answer : ℕ
  pub eaten : ℕ
  pub part : List ℕ

pub data Served : Lent → Call → Lent → Type 0 where
  by-serve : (κs : _) (a : _) (r : _) (s : _) → serve-reads.Learnt κs a r s
      → Served (record { numbers = a.0.now; names = a.1.0.now; stream = a.1.1.0.now; buffer = a.1.1.1.0.now }) (record { neighbour = a.1.1.1.1.0; identifier = a.1.1.1.1.1.0.now; offered = a.1.1.1.1.1.1.0.now; room = length a.1.1.1.1.1.1.1.0.now; answer = s.1.1.1.1.1.1.1.1.0.now; eaten = s.1.1.1.1.1.1.1.1.1.0.now; part = r.now }) (record { numbers = s.0.now; names = s.1.0.now; stream = s.1.1.0.now; buffer = s.1.1.1.0.now })
  by-serve-core : (κs : _) (a : _) (r : _) (s : _) → serve-core-reads.Learnt κs a r s
      → Served (record { numbers = a.0.now; names = a.1.0.now; stream = a.1.1.0.now; buffer = a.1.1.1.0.now }) (record { neighbour = a.1.1.1.1.0; identifier = a.1.1.1.1.1.0.now; offered = a.1.1.1.1.1.1.0.now; room = length a.1.1.1.1.1.1.1.0.now; answer = s.1.1.1.1.1.1.1.1.0.now; eaten = s.1.1.1.1.1.1.1.1.1.0.now; part = take r s.1.1.1.1.1.1.1.0.now }) (record { numbers = s.0.now; names = s.1.0.now; stream = s.1.1.0.now; buffer = s.1.1.1.0.now })

pub served : {m : Lent} {k : Call} {m' : Lent} → Served m k m'
    → HandsOver (called label k.identifier k.neighbour k.room (length m.buffer) (card_in m) (stream_in m) k.offered) k.answer k.eaten k.part (card_in m') (stream_in m')
served (by-serve κs a r s h) = h.0
served (by-serve-core κs a r s h) = handed-over _ _ _ _ _ _ _ _ h
