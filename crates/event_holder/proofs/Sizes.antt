-- What a move takes: a label or none, and how many octets. Assumes nothing.
use Prim.Native.Nat.{ℕ, ◌*◌, ◌≤◌, ◌<◌}
use native.Mathlib.Omega.{arith}
use mathlib.Core.Path.{◌≡◌, refl}
use mathlib.Core.Bool.{false}
use borrow.Author.Tests.{eq-eqb, ne_eqb, lt-ltb, le-ltb}
use Rattle.meaning.specs.Wire.{record_size}
use Rattle.meaning.specs.Card.{Tree, Card, held_for, free_labels, neighbour_count, nobody, this_node}
use Rattle.meaning.specs.Events.{need_move, need, labels_short, upstream}
use Rattle.event_holder.specs.Move.{move_size, relabel_size}

-- ---- u is a neighbour, or none

pub need-none : (u : ℕ) → u ≡ nobody → need_move u ≡ 0
unfolding need_move
need-none u e = rw (eq-eqb u nobody e) refl

pub need-one : (u : ℕ) → (u ≡ nobody → ⊥) → need_move u ≡ 1
unfolding need_move
need-one u ne = rw (ne_eqb u nobody ne) refl

-- ---- sizes

module _ (t : Tree) (u size : ℕ) (e : size ≡ record_size t.name) where
  pub size_none : t.label ≡ 0 → u ≡ nobody → 0 ≡ move_size t u
  unfolding move_size
  size_none l k = rw (eq-eqb t.label 0 l, need-none u k) (omega arith)

  pub size-taken : t.label ≡ 0 → (u ≡ nobody → ⊥) → size ≡ move_size t u
  unfolding move_size
  size-taken l k = rw (eq-eqb t.label 0 l, need-one u k) (omega arith)

  pub size-given : (t.label ≡ 0 → ⊥) → u ≡ nobody → size ≡ move_size t u
  unfolding move_size
  size-given l k = rw (ne_eqb t.label 0 l, need-none u k) (omega arith)

  pub size-both : (t.label ≡ 0 → ⊥) → (u ≡ nobody → ⊥) → 2 * size ≡ move_size t u
  unfolding move_size
  size-both l k = rw (ne_eqb t.label 0 l, need-one u k) (omega arith)

module _ (c : Card) (t : Tree) (u : ℕ) where
  pub resize-none : held_for c t ≡ u → 0 ≡ relabel_size c t u
  unfolding relabel_size
  resize-none e = rw (eq-eqb (held_for c t) u e) refl

  pub resize-some : (held_for c t ≡ u → ⊥) → relabel_size c t u ≡ move_size t u
  unfolding relabel_size
  resize-some ne = rw (ne_eqb (held_for c t) u ne) refl

  pub need-same : held_for c t ≡ u → need c t u ≡ 0
  unfolding need
  need-same e = rw (eq-eqb (held_for c t) u e) refl

  pub need-other : (held_for c t ≡ u → ⊥) → need c t u ≡ need_move u
  unfolding need
  need-other ne = rw (ne_eqb (held_for c t) u ne) refl

-- ---- labels short

pub short_none : (c : Card) (n : ℕ) → n ≡ 0 → false ≡ labels_short c n
unfolding labels_short
short_none c n e = rw (le-ltb (free_labels c) n (omega arith)) refl

-- ---- upstream

abbrev pub Upstream : ℕ → ℕ → Type 0
Upstream r via = (r ≡ upstream via) × (r ≤ nobody) × (r ≡ this_node → ⊥)

pub upstream-some : (via : ℕ) → via < neighbour_count → Upstream via via
unfolding upstream
upstream-some via h = (rw (lt-ltb via neighbour_count h) refl, omega arith, λ e. omega arith)

pub upstream-none : (via : ℕ) → neighbour_count ≤ via → Upstream nobody via
unfolding upstream
upstream-none via h = (rw (le-ltb via neighbour_count h) refl, omega arith, λ e. omega arith)
