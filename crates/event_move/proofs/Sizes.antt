-- How many octets a move writes. Assumes nothing.
use Prim.Native.Nat.{ℕ, zero, suc, ◌+◌, ◌*◌, ◌≤◌, ◌<◌}
use native.Mathlib.Omega.{arith}
use mathlib.Core.Path.{◌≡◌, refl, ap, ap₂, ◌∙◌}
use lib.ListN.{length, length-append}
use lib.Dec.{eqb}
use Rattle.meaning.specs.Octets.{pick}
use Rattle.meaning.specs.Lists.{by-test, picked}
use Rattle.meaning.specs.Wire.{records, ids_after, record_size}
use Rattle.meaning.specs.Card.{Card, no_route, tree_at, held_for}
use Rattle.meaning.specs.Events.{still, followed_by, give_up, give, let_go, take_up, move_label, relabel, need_move}
use Rattle.event_holder.specs.Move.{move_size, relabel_size}
use Rattle.event_move.proofs.Alike.{let-go-stays}
use Rattle.event_move.proofs.Records.{records-append, records-one}
use Rattle.meaning_laws.specs.Losses.{record-size}

-- ---- how many octets a move writes

module _ (id i : ℕ) (c : Card) where
  pub let-go-size : length (records id (let_go i c).sent) ≡ pick (eqb (tree_at i c).label 0) 0 1 * record_size (tree_at i c).name
  unfolding let_go still give_up
  let-go-size =
      by-test (eqb (tree_at i c).label 0)
      (λ e. rw e (unfold records in omega arith))
      (λ e. rw e (ap length (records-one id _) ∙ record-size id _ ∙ omega arith))

  pub take-up-size : (u : ℕ) → length (records id (take_up i u c).sent) ≡ need_move u * record_size (tree_at i c).name
  unfolding take_up still give need_move
  take-up-size u =
      by-test (eqb u no_route)
      (λ e. rw e (unfold records in omega arith))
      (λ e. rw e (ap length (records-one id _) ∙ record-size id _ ∙ omega arith))

spread : (a b n : ℕ) → a ≤ 1 → b ≤ 1 → a * n + b * n ≡ (a + b) * n
spread zero zero n h k = omega arith
spread zero (suc zero) n h k = omega arith
spread (suc zero) zero n h k = omega arith
spread (suc zero) (suc zero) n h k = omega arith
spread zero (suc (suc b)) n h k = absurd (omega arith)
spread (suc zero) (suc (suc b)) n h k = absurd (omega arith)
spread (suc (suc a)) b n h k = absurd (omega arith)

pub need_move-le : (u : ℕ) → need_move u ≤ 1
unfolding need_move
need_move-le u = picked (λ (k : ℕ). k ≤ 1) (eqb u no_route) (λ _. omega arith) (λ _. omega arith)

pub move-size : (id i u : ℕ) (c : Card) → i < length c.trees → length (records id (move_label i u c).sent) ≡ move_size (tree_at i c) u
unfolding move_label followed_by move_size
move-size id i u c h =
    let p = let-go-stays i c h in
    let few : pick (eqb (tree_at i c).label 0) 0 1 ≤ 1 = picked (λ (k : ℕ). k ≤ 1) (eqb (tree_at i c).label 0) (λ _. omega arith) (λ _. omega arith) in
    ap length (records-append id (let_go i c).sent (take_up i u (let_go i c).card).sent)
    ∙ length-append (records id (let_go i c).sent) _
    ∙ ap₂ ◌+◌ (let-go-size id i c) (take-up-size (ids_after id (let_go i c).sent) i (let_go i c).card u ∙ rw p.tree.name refl)
    ∙ spread _ (need_move u) _ few (need_move-le u)

pub relabel-size : (id i u : ℕ) (c : Card) → i < length c.trees → length (records id (relabel i u c).sent) ≡ relabel_size c (tree_at i c) u
unfolding relabel relabel_size still
relabel-size id i u c h =
    by-test (eqb (held_for c (tree_at i c)) u)
    (λ e. rw e (unfold records in refl))
    (λ e. rw e (move-size id i u c h))
