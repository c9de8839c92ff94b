-- What a line makes of the room and the card. Assumes nothing.
use Rattle.std.specs.Prelude.{◌≡◌, ℕ, List, length}
use Rattle.meaning.specs.Card.{Card}
use Rattle.bench_verbs.specs.Line.{line_limit, order_of}
use Rattle.bench_replies.specs.Reply.{reply_to}
use Rattle.bench_input.specs.Kept.{Keeps}
use Rattle.bench_input.specs.Input.{Stand}

-- what a line finds and leaves
pub record Seat : Type 0 where
  pub room : ℕ
  pub card : Card

-- by the reply to the line of this number
unfoldable pub seat_after : ℕ → Seat → List ℕ → Seat
seat_after number s line = let reply = reply_to number s.room s.card (order_of line) in record { room = reply.room; card = reply.card }

-- the program's state is that
pub record Stands (s : Stand Seat) (number room : ℕ) (card : Card) (line : List ℕ) (kept : ℕ) : Type 0 where
  pub long : length line ≡ line_limit
  pub numbers : number ≡ s.number
  pub rooms : room ≡ s.state.room
  pub cards : card ≡ s.state.card
  pub keeps : Keeps line kept s.octets
