-- What each function leaves in the memory is the card that its move leaves. Assumes nothing.
use Prim.Native.Nat.{ℕ, ◌+◌, ◌*◌, ◌-◌, ◌≤◌, ◌<◌}
use native.Mathlib.Omega.{arith}
use mathlib.Core.Path.{◌≡◌, refl, sym, ap, ap₂, ◌∙◌}
use mathlib.Core.List.{List}
use lib.ListN.{get_or, length}
use borrow.Author.Tests.{eq-eqb, ne_eqb, le-leb}
use Rattle.meaning.specs.Wire.{record_of, next_id, records, ids_after, record_size}
use Rattle.meaning.specs.Card.{Card, Use, free, mapped, with_trees, with_labels, with_last, tree_at, use_of, held_for, free_labels, next_free, label_count, nobody}
use Rattle.meaning_laws.specs.NextFree.{next_place, next-free}
use Rattle.meaning.specs.Events.{still, tell, set_use, set_label, ended, give_up, give, let_go, take_up, move_label, relabel, need_move}
use Rattle.octets.specs.Part.{mid}
use Rattle.memory.specs.Memory.{card_of, base_in, tree_count, label_before}
use Rattle.memory.proofs.Memory.{trees-length, labels_length}
use Rattle.memory.proofs.Head.{label-before}
use Rattle.memory.proofs.Trees.{label-some, label-carried}
use Rattle.event_holder.specs.Move.{Wrote, move_size}
use Rattle.event_move.proofs.Records.{wrote_nothing, wrote_one, then-length}
use Rattle.event_move.proofs.Alike.{let-go-stays}
use Rattle.event_move.proofs.Sizes.{let-go-size, take-up-size, move-size}
use Rattle.event_move.proofs.Trees.{give-up-free, give-free}
use Rattle.event_holder.proofs.Sizes.{need-none, need-one}

-- ---- the number of trees, after one change

module _ (ns ns' os os' : List ℕ) where
  pub as_many : length (card_of ns' os').trees ≡ length (card_of ns os).trees → tree_count ns' ≡ tree_count ns
  as_many e = sym (trees-length ns' os') ∙ e ∙ trees-length ns os

-- ---- a tree's own label

module _ (ns os : List ℕ) (i : ℕ) (h : i < tree_count ns) where
  own-least : ((tree_at i (card_of ns os)).label ≡ 0 → ⊥) → base_in ns ≤ (tree_at i (card_of ns os)).label
  own-least ne = omega (arith, label-some ns os i h (base_in ns) refl (label-carried ns os i h ne))

  own-used : ((tree_at i (card_of ns os)).label ≡ 0 → ⊥) → use_of (tree_at i (card_of ns os)).label (card_of ns os) ≡ get_or (card_of ns os).labels ((tree_at i (card_of ns os)).label - (card_of ns os).base) free
  unfolding use_of card_of
  own-used ne = rw (le-leb (base_in ns) _ (own-least ne)) refl

-- ---- one tree

pub gave-up : (i id at next to label : ℕ) (ns ns' os name s s' : List ℕ) → i < tree_count ns
    → ((tree_at i (card_of ns os)).label ≡ 0 → ⊥)
    → to ≡ held_for (card_of ns os) (tree_at i (card_of ns os))
    → label ≡ (tree_at i (card_of ns os)).label
    → name ≡ (tree_at i (card_of ns os)).name
    → next ≡ next_id id → s' ≡ mid at (record_size name) s (record_of id (tell to 0x0402 name label))
    → card_of ns' os ≡ set_label i 0 (set_use (tree_at i (card_of ns os)).label (ended (use_of (tree_at i (card_of ns os)).label (card_of ns os))) (card_of ns os))
    → Wrote (give_up i (card_of ns os)) id at s s' (card_of ns' os) (at + record_size name) next × (free_labels (card_of ns' os) ≡ free_labels (card_of ns os))
unfolding give_up
gave-up i id at next to label ns ns' os name s s' h ne et el en ei es e =
    let es' : s' ≡ mid at (record_size (tree_at i (card_of ns os)).name) s (record_of id (tell (held_for (card_of ns os) (tree_at i (card_of ns os))) 0x0402 (tree_at i (card_of ns os)).name (tree_at i (card_of ns os)).label)) = rw (← et, ← el, ← en) es in
    (rw en (wrote_one _ _ id at next s s' (card_of ns' os) e es' ei), ap free_labels e ∙ give-up-free i (card_of ns os) (own-used ns os i h ne))

pub let-go-none : (i : ℕ) (c : Card) → (tree_at i c).label ≡ 0 → let_go i c ≡ still c
unfolding let_go
let-go-none i c e = rw (eq-eqb (tree_at i c).label 0 e) refl

pub let-go-some : (i : ℕ) (c : Card) → ((tree_at i c).label ≡ 0 → ⊥) → let_go i c ≡ give_up i c
unfolding let_go
let-go-some i c ne = rw (ne_eqb (tree_at i c).label 0 ne) refl

pub let-go-room : (id i : ℕ) (c : Card) → ((tree_at i c).label ≡ 0 → ⊥) → length (records id (let_go i c).sent) ≡ record_size (tree_at i c).name
let-go-room id i c ne = let-go-size id i c ∙ rw (ne_eqb (tree_at i c).label 0 ne) (omega arith)

-- nothing is done: what the functions below hand back then
pub let-nothing : (i id at : ℕ) (c : Card) (s : List ℕ) → (tree_at i c).label ≡ 0 → Wrote (let_go i c) id at s s c at id × (free_labels c ≡ free_labels c)
let-nothing i id at c s e = (rw (let-go-none i c e) (wrote_nothing c id at s), refl)

-- a label is free: its place, and the label there

pub free-place : (ns os : List ℕ) (p : ℕ) → p ≡ next_place (card_of ns os) → 0 < free_labels (card_of ns os) → p < label_count
free-place ns os p e h = omega (arith, (next-free (card_of ns os) h).0, labels_length ns os)

next-at : (ns os : List ℕ) (p : ℕ) → p ≡ next_place (card_of ns os) → base_in ns + p ≡ next_free (card_of ns os)
unfolding card_of next_free
next-at ns os p e = ap (λ (k : ℕ). base_in ns + k) e

-- the label's own change leaves the base
base-left : (ns ms os qs : List ℕ) (i l : ℕ) (u : Use) → card_of ms qs ≡ set_label i l (set_use l u (card_of ns os)) → base_in ms ≡ base_in ns
unfolding card_of set_label set_use with_trees with_labels
base-left ns ms os qs i l u e = ap (λ (c : Card). c.base) e

pub gave : (i u p b id at next : ℕ) (ns ms ns' os os' name s s' : List ℕ) → b ≡ base_in ns
    → 0 < free_labels (card_of ns os)
    → p ≡ next_place (card_of ns os)
    → name ≡ (tree_at i (card_of ns os)).name
    → next ≡ next_id id → s' ≡ mid at (record_size name) s (record_of id (tell u 0x0400 name (b + p)))
    → card_of ms os' ≡ set_label i (base_in ns + p) (set_use (base_in ns + p) (mapped u (tree_at i (card_of ns os)).name) (card_of ns os))
    → card_of ns' os' ≡ with_last (label_before (base_in ms) (p + 1)) (card_of ms os')
    → Wrote (give i u (card_of ns os)) id at s s' (card_of ns' os') (at + record_size name) next × (free_labels (card_of ns' os') + 1 ≡ free_labels (card_of ns os))
unfolding give
gave i u p b id at next ns ms ns' os os' name s s' eb some ep en ei es e₁ e₂ =
    let l : b + p ≡ next_free (card_of ns os) = ap (λ (n : ℕ). n + p) eb ∙ next-at ns os p ep in
    let given : label_before (base_in ms) (p + 1) ≡ base_in ns + p =
    label-before (base_in ms) p (free-place ns os p ep some) ∙ ap (λ (n : ℕ). n + p) (base-left ns ms os os' i (base_in ns + p) _ e₁) in
    let e : card_of ns' os' ≡ (give i u (card_of ns os)).card =
    e₂ ∙ ap₂ with_last given e₁
    ∙ ap (λ (n : ℕ). with_last n (set_label i n (set_use n (mapped u (tree_at i (card_of ns os)).name) (card_of ns os)))) (next-at ns os p ep) in
    let es' : s' ≡ mid at (record_size (tree_at i (card_of ns os)).name) s (record_of id (tell u 0x0400 (tree_at i (card_of ns os)).name (next_free (card_of ns os)))) = rw (← en, ← l) es in
    (rw en (wrote_one _ _ id at next s s' (card_of ns' os') e es' ei), ap (λ (c : Card). free_labels c + 1) e ∙ give-free i u (card_of ns os) some)

-- ---- u is a neighbour, or none

module _ (i u : ℕ) (c : Card) where
  pub take-up-none : u ≡ nobody → take_up i u c ≡ still c
  unfolding take_up
  take-up-none e = rw (eq-eqb u nobody e) refl

  pub take-up-some : (u ≡ nobody → ⊥) → take_up i u c ≡ give i u c
  unfolding take_up
  take-up-some ne = rw (ne_eqb u nobody ne) refl

  pub take-up-room : (id : ℕ) → (u ≡ nobody → ⊥) → length (records id (take_up i u c).sent) ≡ record_size (tree_at i c).name
  take-up-room id ne = take-up-size id i c u ∙ rw (need-one u ne) (omega arith)

  pub take-nothing : (id at : ℕ) (s : List ℕ) → u ≡ nobody → Wrote (take_up i u c) id at s s c at id × (free_labels c + need_move u ≡ free_labels c)
  take-nothing id at s e = (rw (take-up-none e) (wrote_nothing c id at s), rw (need-none u e) (omega arith))

  pub relabel-none : held_for c (tree_at i c) ≡ u → relabel i u c ≡ still c
  unfolding relabel
  relabel-none e = rw (eq-eqb (held_for c (tree_at i c)) u e) refl

  pub relabel-some : (held_for c (tree_at i c) ≡ u → ⊥) → relabel i u c ≡ move_label i u c
  unfolding relabel
  relabel-some ne = rw (ne_eqb (held_for c (tree_at i c)) u ne) refl

-- what is left for the second, where there is room for both
module _ (i u : ℕ) (ns ns₁ os : List ℕ) (id at : ℕ) (s s₁ : List ℕ) (at₁ id₁ : ℕ) (h : i < tree_count ns) (room : at + move_size (tree_at i (card_of ns os)) u ≤ length s) where
  both : length (records id (let_go i (card_of ns os)).sent) + length (records (ids_after id (let_go i (card_of ns os)).sent) (take_up i u (let_go i (card_of ns os)).card).sent) ≡ move_size (tree_at i (card_of ns os)) u
  unfolding move_label
  both = sym (then-length (let_go i (card_of ns os)) (take_up i u) id) ∙ move-size id i u (card_of ns os) (rw trees-length h)

  pub room-first : at + length (records id (let_go i (card_of ns os)).sent) ≤ length s
  room-first = omega (arith, both)

  -- whatever its identifier
  pub room-then : (k : ℕ) → Wrote (let_go i (card_of ns os)) id at s s₁ (card_of ns₁ os) at₁ id₁ → at₁ + length (records k (take_up i u (card_of ns₁ os)).sent) ≤ length s
  room-then k w =
      let sized : (n : ℕ) → length (records n (take_up i u (let_go i (card_of ns os)).card).sent) ≡ need_move u * record_size (tree_at i (let_go i (card_of ns os)).card).name = λ n. take-up-size n i (let_go i (card_of ns os)).card u in
      rw (w.leaves, w.ends) (omega (arith, both, sized k, sized (ids_after id (let_go i (card_of ns os)).sent)))

  pub let-go-many : Wrote (let_go i (card_of ns os)) id at s s₁ (card_of ns₁ os) at₁ id₁ → tree_count ns₁ ≡ tree_count ns
  let-go-many w = as_many ns ns₁ os os (ap (λ (c : Card). length c.trees) w.leaves ∙ (let-go-stays i (card_of ns os) (rw trees-length h)).many)
