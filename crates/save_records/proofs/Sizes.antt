-- The sizes of the records: each is the same for every card that a memory denotes. Assumes nothing.
use Prim.Native.Nat.{ℕ}
use native.Mathlib.Omega.{arith}
use mathlib.Core.Path.{◌≡◌, refl}
use mathlib.Core.Bool.{true}
use mathlib.Core.List.{[]}
use Rattle.meaning.specs.Card.{Use, free, mapped, awaiting, is_free}
use Rattle.meaning_save.specs.Save.{Form, use_saved}

pub use-none : (f : Form) (l : ℕ) (u : Use) → is_free u ≡ true → use_saved f l u ≡ []
unfolding use_saved is_free
use-none f l free e = refl
use-none f l (mapped n a) e = let z : ◌≡◌ {A = ℕ} 0 1 = cc in absurd (omega arith)
use-none f l (awaiting n a) e = let z : ◌≡◌ {A = ℕ} 0 1 = cc in absurd (omega arith)
