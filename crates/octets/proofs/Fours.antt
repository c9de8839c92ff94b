-- Four octets by themselves say the same number as where they stand. Assumes nothing.
use Prim.Native.Nat.{ℕ, ◌+◌}
use native.Mathlib.Omega.{arith}
use mathlib.Core.Path.{◌≡◌, refl}
use mathlib.Core.List.{List}
use lib.ListN.{take, drop}
use lib.Seq.{get_or-take, get_or-drop}
use Rattle.meaning.specs.Octets.{two_at, four_at}

pub four-part : (s : List ℕ) (i n : ℕ) → n ≡ 4 → four_at (take n (drop i s)) 0 ≡ four_at s i
unfolding four_at two_at
four-part s i n four =
    let first : i + 0 ≡ i = omega arith in
    let last : i + 3 ≡ i + 2 + 1 = omega arith in
    rw (
      four,
      get_or-take 4 (drop i s) 0 0 (omega arith),
      get_or-take 4 (drop i s) 1 0 (omega arith),
      get_or-take 4 (drop i s) 2 0 (omega arith),
      get_or-take 4 (drop i s) 3 0 (omega arith),
      get_or-drop i s 0 0,
      get_or-drop i s 1 0,
      get_or-drop i s 2 0,
      get_or-drop i s 3 0,
      first,
      last,
    ) refl
