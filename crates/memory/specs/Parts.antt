-- What a function that writes a part of a list says of it, place by place. Assumes nothing.
use Rattle.std.specs.Prelude.{ℕ, ◌+◌, ◌≤◌, ◌<◌, ◌≡◌, List, length, get_or}

-- the values vs stand from place a on, and all else is as it was
pub record Written (a : ℕ) (vs xs ys : List ℕ) : Type 0 where
  pub long : length ys ≡ length xs
  pub here : (j : ℕ) → j < length vs → get_or ys (a + j) 0 ≡ get_or vs j 0
  pub rest : (j : ℕ) → (a ≤ j → j < a + length vs → ⊥) → get_or ys j 0 ≡ get_or xs j 0

-- of the rows of width w between the places a and e the first has gone: those behind it stand one row lower
pub record Closed (a e w : ℕ) (xs ys : List ℕ) : Type 0 where
  pub long : length ys ≡ length xs
  pub down : (j : ℕ) → a ≤ j → j + w < e → get_or ys j 0 ≡ get_or xs (j + w) 0
  pub rest : (j : ℕ) → (a ≤ j → j < e → ⊥) → get_or ys j 0 ≡ get_or xs j 0
