-- What one call of the loop did. Assumes nothing.
use Rattle.std.specs.Prelude.{ℕ, ◌+◌, ◌≤◌, ◌≡◌, Bool, false, List, drop, length}
use Rattle.meaning.specs.Card.{Card}
use Rattle.session.specs.Stream.{Stream}
use Rattle.session.specs.Session.{Called}
use Rattle.bench_lines.specs.Text.{Adds}
use Rattle.session_replies.specs.Turns.{call_text, is_last, space_for}

-- The call k on the octets from a place on, where the stream was this one: its text goes on the text that was there, the place has moved by what was eaten, and a further call finds its text too.
pub record Did (k : Called) (octets : List ℕ) (from : ℕ) (was : Stream) (before after : List ℕ) (at to next : ℕ) (last : Bool) (card : Card) (stream : Stream) : Type 0 where
  pub tells : Adds (call_text k.answer k.eaten k.octets) before after at to
  pub moves : drop next octets ≡ drop k.eaten (drop from octets)
  pub within : next ≤ length octets
  pub lasts : last ≡ is_last k.answer (length (drop k.eaten (drop from octets))) k.stream
  pub leaves : card ≡ k.card
  pub streams : stream ≡ k.stream
  pub ends : to + 1 ≤ at + space_for was (drop from octets)
  pub goes : last ≡ false → to + space_for stream (drop next octets) ≤ at + space_for was (drop from octets)
