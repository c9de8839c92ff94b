-- The lines that tell of a plan. Assumes nothing.
use Rattle.std.specs.Prelude.{ℕ, ◌+◌, ◌*◌, List, [], ◌∷◌, ◌++◌}
use Rattle.meaning.specs.Wire.{root_limit}
use Rattle.meaning.specs.Card.{route_limit}
use Rattle.bench_words.specs.Words.{ascii, numeral, hex_of}
use Rattle.bench_lines.specs.Text.{count_line}
use Rattle.meaning_plan.specs.Plan.{Move, Verdict, refusal, rejected, accepted, Plan, refused, none, listed}

-- `WORD SAID`
unfoldable pub said_line : List ℕ → List ℕ → List ℕ
said_line word said = word ++ (32 ∷ said ++ (10 ∷ []))

-- ` ROOT:NEIGHBOUR`
unfoldable pub move_text : Move → List ℕ
move_text m = 32 ∷ hex_of m.root ++ (58 ∷ numeral m.via)

-- the space of it: the digits of the longest root and of any number, and what stands before each
abbrev pub move_space : ℕ
move_space = (1 + 2 * root_limit) + (1 + 20)

unfoldable pub moves_text : List Move → List ℕ
moves_text [] = []
moves_text (m ∷ ms) = move_text m ++ moves_text ms

-- of as many as there are routes
abbrev pub moves_space : ℕ
moves_space = route_limit * move_space

-- `plan 0`, and each entry
unfoldable pub moves_line : List Move → List ℕ
moves_line ms = ascii "plan 0" ++ (moves_text ms ++ (10 ∷ []))

unfoldable pub plan_line : Plan → List ℕ
plan_line (refused n) = count_line (ascii "plan") n
plan_line none = said_line (ascii "plan") (ascii "none")
plan_line (listed ms) = moves_line ms

unfoldable pub verdict_line : Verdict → List ℕ
verdict_line (refusal n) = count_line (ascii "vet") n
verdict_line rejected = said_line (ascii "vet") (ascii "rejected")
verdict_line accepted = count_line (ascii "vet") 0
