-- The four numbers: how many octets may be held, and where they lie. Assumes nothing.
use Prim.Native.Nat.{ℕ, zero, suc, ◌+◌, ◌-◌, min, ◌≤◌}
use native.Mathlib.Omega.{arith}
use mathlib.Core.Path.{◌≡◌, refl}
use mathlib.Core.List.{List}
use lib.ListN.{get_or}
use Rattle.session.specs.Stream.{body_limit, pdu_head, limit}
use Rattle.session.specs.Session.{stream_room}
use Rattle.session.specs.Lent.{left_in, place_in, count_in}

pub limit-none : (left : ℕ) → left ≡ 0 → (pdu_head ≡ limit left) × (left ≤ pdu_head) × (pdu_head ≤ body_limit)
unfolding limit
limit-none zero e = (refl, omega arith, omega arith)
limit-none (suc n) e = absurd (omega arith)

pub limit-left : (left : ℕ) → (left ≡ 0 → ⊥) → left ≤ body_limit → (left ≡ limit left) × (left ≤ left) × (left ≤ body_limit)
unfolding limit
limit-left zero e h = absurd (e refl)
limit-left (suc n) e h = (refl, omega arith, h)

module _ (ns : List ℕ) (left a r : ℕ) (is : left ≡ left_in ns) (most : a ≡ limit left) (fits : a ≤ body_limit) where
  pub place_is : r ≡ min (get_or ns 2 0) (stream_room - a) → (r ≡ place_in ns) × (r + limit left ≤ stream_room)
  unfolding place_in
  place_is e = (rw (← is, ← most) e, rw (← most) (omega arith))

  pub count-is : r ≡ min (get_or ns 3 0) a → (r ≡ count_in ns) × (r ≤ limit left)
  unfolding count_in
  count-is e = (rw (← is, ← most) e, rw (← most) (omega arith))
