-- Head, routes, trees and labels, as the code tests them one after the other. Assumes nothing.
use Prim.Native.Nat.{ℕ, ◌+◌, ◌*◌, ◌≤◌, ◌<◌}
use mathlib.Core.Path.{◌≡◌, refl, sym, ◌∙◌}
use mathlib.Core.Bool.{Bool, true, false}
use mathlib.Core.List.{List}
use lib.ListN.{drop, get_or, length}
use borrow.Author.Tests.{le-leb, lt-leb}
use Rattle.meaning.specs.Octets.{two_at, four_at}
use Rattle.meaning_save.specs.Save.{Form, head_kind, head_size, route_size, trees_end}
use Rattle.save_written.specs.Written.{marked_as, head_written, routes_written, trees_written, uses_written, rows_written, written}

module _ (f : Form) (o : List ℕ) where
  -- ---- the head, which has n octets

  module _ (n : ℕ) (en : n ≡ head_size f) where
    pub head_few : length o < n → false ≡ head_written f o
    unfolding head_written
    head_few h = sym (rw (← en, lt-leb n (length o) h) refl)

    pub head-there : n ≤ length o → (k : ℕ) → k ≡ head_kind f → (r : Bool) → r ≡ marked_as k o → r ≡ head_written f o
    unfolding head_written
    head-there h k ek r er = sym (rw (← en, le-leb n (length o) h, ← ek) (sym er))

  -- ---- the trees, n of them, and the labels behind them

  module _ (from n : ℕ) (en : n ≡ get_or o 12 0) where
    pub no-trees : trees_written f n (drop from o) ≡ false → false ≡ rows_written f (drop from o) o
    unfolding rows_written
    no-trees h = sym (rw (← en, h) refl)

    pub rows-there : (at base labels : ℕ) → (trees_written f n (drop from o) ≡ true) × (drop at o ≡ trees_end f n (drop from o)) → base ≡ four_at o 3 → labels ≡ two_at o 13
        → (r : Bool) → r ≡ uses_written f base base labels (drop at o) → r ≡ rows_written f (drop from o) o
    unfolding rows_written
    rows-there at base labels h eb el r er = er ∙ sym (rw (← en, h.0, ← h.1, ← eb, ← el) refl)

  -- ---- the whole, with n routes behind the head

  pub no-head : head_written f o ≡ false → false ≡ written f o
  unfolding written
  no-head h = sym (rw h refl)

  module _ (head n : ℕ) (stands : head_written f o ≡ true) (eh : head ≡ head_size f) (en : n ≡ get_or o 11 0) where
    pub no-routes : routes_written n (drop head o) ≡ false → false ≡ written f o
    unfolding written
    no-routes h = sym (rw (stands, ← en, ← eh, h) refl)

    pub whole-there : routes_written n (drop head o) ≡ true → (r : Bool) → r ≡ rows_written f (drop (head + n * route_size) o) o → r ≡ written f o
    unfolding written
    whole-there h r er = er ∙ sym (rw (stands, ← en, ← eh, h) refl)
