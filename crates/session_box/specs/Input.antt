-- What a line makes of the box. Assumes nothing.
use Rattle.std.specs.Prelude.{◌≡◌, ℕ, List, length}
use Rattle.bench_verbs.specs.Line.{line_limit}
use Rattle.bench_input.specs.Kept.{Keeps}
use Rattle.bench_input.specs.Input.{Stand}
use Rattle.session_replies.specs.Done.{Box, box_reply}

-- by the reply to the line of this number
unfoldable pub box_left : ℕ → Box → List ℕ → Box
box_left number b line = (box_reply number b line).box

-- the program's state is that
pub record Stands (s : Stand Box) (number : ℕ) (box : Box) (line : List ℕ) (kept : ℕ) : Type 0 where
  pub long : length line ≡ line_limit
  pub numbers : number ≡ s.number
  pub boxes : box ≡ s.state
  pub keeps : Keeps line kept s.octets
