-- The trees of a root, one after the other: what the loops know after i of them. Assumes nothing.
use Prim.Native.Nat.{ℕ, zero, suc, ◌+◌, ◌*◌, ◌-◌, ◌≤◌, ◌<◌}
use native.Mathlib.Nat.{zero-mul, suc-mul, add-le-add}
use native.Mathlib.Numerals.{add-one}
use native.Mathlib.Omega.{arith}
use mathlib.Core.Path.{◌≡◌, refl, sym, ap, ap₂, ◌∙◌}
use mathlib.Core.Bool.{true, false}
use mathlib.Core.List.{List}
use lib.ListN.{length}
use lib.Dec.{eqb, ltb}
use borrow.Author.Tests.{ltb-false, le-ltb, lt-ltb}
use Rattle.meaning.specs.Octets.{◌when◌else◌}
use Rattle.meaning.specs.Lists.{by-test}
use Rattle.meaning.specs.Wire.{records, name_limit, record_limit}
use Rattle.meaning.specs.Card.{Tree, Card, nobody, tree_at, free_labels}
use Rattle.meaning.specs.Events.{still, move_label, need_move, labels_short, holder, of_root, move_one, move_from, move_all, need_one, sum_from, need_all}
use Rattle.memory.specs.Sizes.{name_space}
use Rattle.memory.specs.Memory.{card_of, tree_count, tree_name}
use Rattle.memory.proofs.Memory.{trees-length, text-le}
use Rattle.memory.proofs.Trees.{name-at}
use Rattle.event_holder.specs.Move.{Wrote, move_size, size_one, size_all}
use Rattle.event_move.proofs.Records.{wrote_nothing, wrote_then}
use Rattle.event_move.proofs.Trees.{one-many, one_size, first_more, first-none, first-later, sum_more, sum-none, sum-le}
use Rattle.event_move.proofs.Steps.{as_many}

-- ---- one tree, of the root or not

module _ (r : List ℕ) (t : Tree) where
  pub need-of : (u : ℕ) → true ≡ of_root r t → need_one r u t ≡ need_move (holder u t)
  unfolding need_one
  need-of u e = rw (← e) refl

  pub need-not : (u : ℕ) → false ≡ of_root r t → need_one r u t ≡ 0
  unfolding need_one
  need-not u e = rw (← e) refl

  pub size_of : (u : ℕ) → true ≡ of_root r t → size_one r u t ≡ move_size t (holder u t)
  unfolding size_one
  size_of u e = rw (← e) refl

  pub size-not : (u : ℕ) → false ≡ of_root r t → size_one r u t ≡ 0
  unfolding size_one
  size-not u e = rw (← e) refl

pub one_of : (r : List ℕ) (u i : ℕ) (c : Card) → true ≡ of_root r (tree_at i c) → move_one r u i c ≡ move_label i (holder u (tree_at i c)) c
unfolding move_one
one_of r u i c e = rw (← e) refl

pub one-not : (r : List ℕ) (u i : ℕ) (c : Card) → false ≡ of_root r (tree_at i c) → move_one r u i c ≡ still c
unfolding move_one
one-not r u i c e = rw (← e) refl

pub one-nothing : (r : List ℕ) (u i id at : ℕ) (c : Card) (s : List ℕ) → false ≡ of_root r (tree_at i c) → Wrote (move_one r u i c) id at s s c at id × (free_labels c + need_one r u (tree_at i c) ≡ free_labels c)
one-nothing r u i id at c s e = (rw (one-not r u i c e) (wrote_nothing c id at s), rw (need-not r (tree_at i c) u e) (omega arith))

pub one-fills : (r : List ℕ) (u i id : ℕ) (c : Card) → i < length c.trees → true ≡ of_root r (tree_at i c) → length (records id (move_one r u i c).sent) ≡ move_size (tree_at i c) (holder u (tree_at i c))
one-fills r u i id c h e = one_size r u i id c h ∙ size_of r (tree_at i c) u e

-- ---- sums

pub sum_done : (f : Tree → ℕ) (ns os : List ℕ) (n i sum : ℕ) → n ≡ tree_count ns → i ≤ n → n ≤ i → sum ≡ sum_from f i 0 (card_of ns os) → sum ≡ sum_from f (length (card_of ns os).trees) 0 (card_of ns os)
sum_done f ns os n i sum e le ge s =
    let q : i ≡ length (card_of ns os).trees = omega (arith, trees-length ns os) in
    s ∙ ap (λ (k : ℕ). sum_from f k 0 (card_of ns os)) q

pub sum-next : (f : Tree → ℕ) (c : Card) (i sum x : ℕ) → sum ≡ sum_from f i 0 c → x ≡ f (tree_at i c) → sum + x ≡ sum_from f (i + 1) 0 c
sum-next f c i sum x e k = ap₂ ◌+◌ e k ∙ sym (sum_more f i c)

-- ---- what all trees take at most

-- a name in the memory is within its limit
pub sum-most : (f : Tree → ℕ) (b : ℕ) (ns os : List ℕ) (n : ℕ) → ((t : Tree) → length t.name ≤ name_limit → f t ≤ b) → n ≤ tree_count ns → sum_from f n 0 (card_of ns os) ≤ n * b
sum-most f b ns os zero most h = rw (zero-mul b, sum-none f (card_of ns os)) (omega arith)
sum-most f b ns os (suc n) most h =
    let short : length (tree_at n (card_of ns os)).name ≤ name_limit = rw (name-at ns os n (omega arith)) (unfold tree_name in text-le name_limit (n * name_space) os) in
    rw (suc-mul n b, ← add-one n, sum_more f n (card_of ns os)) (add-le-add (sum-most f b ns os n most (omega arith)) (most (tree_at n (card_of ns os)) short))

module _ (root : List ℕ) (u : ℕ) where
  need-most : (t : Tree) → length t.name ≤ name_limit → need_one root u t ≤ 1
  unfolding need_one need_move
  need-most t h =
      by-test (of_root root t)
      (λ e. rw e (by-test (eqb (holder u t) nobody) (λ k. rw k (omega arith)) (λ k. rw k (omega arith))))
      (λ e. rw e (omega arith))

  size-most : (t : Tree) → length t.name ≤ name_limit → size_one root u t ≤ 2 * record_limit
  unfolding size_one move_size need_move
  size-most t h =
      by-test (of_root root t)
      (λ e. by-test (eqb t.label 0)
      (λ a. by-test (eqb (holder u t) nobody) (λ b. rw (e, a, b) (omega arith)) (λ b. rw (e, a, b) (omega arith)))
      (λ a. by-test (eqb (holder u t) nobody) (λ b. rw (e, a, b) (omega arith)) (λ b. rw (e, a, b) (omega arith))))
      (λ e. rw e (omega arith))

  pub plenty : (ns os : List ℕ) (n room : ℕ) → n ≡ tree_count ns → n * (2 * record_limit) ≤ room → labels_short (card_of ns os) n ≡ false
      → (need_all root u (card_of ns os) ≤ free_labels (card_of ns os)) × (size_all root u (card_of ns os) ≤ room)
  unfolding need_all size_all labels_short
  plenty ns os n room e h few =
      let enough = ltb-false (free_labels (card_of ns os)) n few in
      let many : length (card_of ns os).trees ≡ n = trees-length ns os ∙ sym e in
      rw many (omega (arith, sum-most (need_one root u) 1 ns os n need-most (omega arith)), omega (arith, sum-most (size_one root u) (2 * record_limit) ns os n size-most (omega arith)))

-- ---- 12 and 16 for a move of them all

module _ (root : List ℕ) (u : ℕ) (c : Card) (room : ℕ) where
  abbrev Refusal : ℕ
  Refusal = 12 when labels_short c (need_all root u c) else 16 when ltb room (size_all root u c) else 0

  pub moves-freely : need_all root u c ≤ free_labels c → size_all root u c ≤ room → 0 ≡ Refusal
  unfolding labels_short ◌when◌else◌
  moves-freely n s = rw (le-ltb (free_labels c) (need_all root u c) n, le-ltb room (size_all root u c) s) refl

  module _ (k : ℕ) (ek : k ≡ need_all root u c) where
    pub moves-short : labels_short c k ≡ true → 12 ≡ Refusal
    unfolding ◌when◌else◌
    moves-short e = rw (← ek, e) refl

    module _ (s : ℕ) (few : labels_short c k ≡ false) (es : s ≡ size_all root u c) where
      pub moves-tight : room < s → 16 ≡ Refusal
      unfolding ◌when◌else◌
      moves-tight h = rw (← ek, few, ← es, lt-ltb room s h) refl

      pub moves-well : s ≤ room → 0 ≡ Refusal
      unfolding ◌when◌else◌
      moves-well h = rw (← ek, few, ← es, le-ltb room s h) refl

-- one of them and those before it
sum-part : (f : Tree → ℕ) (c : Card) (i n : ℕ) → i < n → sum_from f i 0 c + f (tree_at i c) ≤ sum_from f n 0 c
sum-part f c i n h =
    let q : i + 1 + (n - (i + 1)) ≡ n = omega arith in
    omega (arith, sum_more f i c, sum-le f (n - (i + 1)) (i + 1) c, ap (λ (k : ℕ). sum_from f k 0 c) q)

-- ---- i trees were moved

pub record Moving (root : List ℕ) (u id : ℕ) (ns₀ os₀ s₀ : List ℕ) (i : ℕ) (ns os s : List ℕ) (at next : ℕ) : Type 0 where
  pub made : Wrote (move_from root u i 0 (card_of ns₀ os₀)) id 0 s₀ s (card_of ns os) at next
  pub takes : free_labels (card_of ns os) + sum_from (need_one root u) i 0 (card_of ns₀ os₀) ≡ free_labels (card_of ns₀ os₀)
  pub fills : at ≡ sum_from (size_one root u) i 0 (card_of ns₀ os₀)
  pub many : tree_count ns ≡ tree_count ns₀

module _ (root : List ℕ) (u id : ℕ) (ns₀ os₀ s₀ : List ℕ) where
  pub moving-none : Moving root u id ns₀ os₀ s₀ 0 ns₀ os₀ s₀ 0 id
  moving-none = record {
    made = rw (first-none root u (card_of ns₀ os₀)) (wrote_nothing (card_of ns₀ os₀) id 0 s₀);
    takes = omega (arith, sum-none (need_one root u) (card_of ns₀ os₀));
    fills = sym (sum-none (size_one root u) (card_of ns₀ os₀));
    many = refl;
  }

  pub moving-all : (n i : ℕ) (ns os s : List ℕ) (at next : ℕ) → n ≡ tree_count ns₀ → i ≤ n → n ≤ i → Moving root u id ns₀ os₀ s₀ i ns os s at next
      → Wrote (move_all root u (card_of ns₀ os₀)) id 0 s₀ s (card_of ns os) at next
  unfolding move_all
  moving-all n i ns os s at next e le ge m =
      let q : length (card_of ns₀ os₀).trees ≡ i = omega (arith, trees-length ns₀ os₀) in
      rw q m.made

  -- the next one
  module _ (i : ℕ) (ns os s : List ℕ) (at next : ℕ) (h : i < tree_count ns₀) (m : Moving root u id ns₀ os₀ s₀ i ns os s at next) where
    pub moving-in : i < tree_count ns
    moving-in = rw m.many h

    pub untouched : tree_at i (card_of ns os) ≡ tree_at i (card_of ns₀ os₀)
    untouched = ap (tree_at i) m.made.leaves ∙ first-later root u i i (card_of ns₀ os₀) (omega arith)

    pub moving-need : need_all root u (card_of ns₀ os₀) ≤ free_labels (card_of ns₀ os₀) → need_one root u (tree_at i (card_of ns os)) ≤ free_labels (card_of ns os)
    unfolding need_all
    moving-need k = rw untouched (omega (arith, sum-part (need_one root u) (card_of ns₀ os₀) i (length (card_of ns₀ os₀).trees) (rw trees-length h), m.takes))

    pub moving-room : (n : ℕ) → size_all root u (card_of ns₀ os₀) ≤ n → at + length (records next (move_one root u i (card_of ns os)).sent) ≤ n
    unfolding size_all
    moving-room n k =
        rw (one_size root u i next (card_of ns os) (rw trees-length moving-in), untouched)
        (omega (arith, sum-part (size_one root u) (card_of ns₀ os₀) i (length (card_of ns₀ os₀).trees) (rw trees-length h), m.fills))

    pub moving-more : (ns' os' s' : List ℕ) (at' next' : ℕ) → at ≤ length s₀
        → Wrote (move_one root u i (card_of ns os)) next at s s' (card_of ns' os') at' next'
        → free_labels (card_of ns' os') + need_one root u (tree_at i (card_of ns os)) ≡ free_labels (card_of ns os)
        → Moving root u id ns₀ os₀ s₀ (i + 1) ns' os' s' at' next'
    moving-more ns' os' s' at' next' room w f = record {
      made = rw (first_more root u i (card_of ns₀ os₀)) (wrote_then (move_from root u i 0 (card_of ns₀ os₀)) (move_one root u i) id 0 s₀ s s' (card_of ns os) (card_of ns' os') at next at' next' (omega (arith, m.made.ends)) m.made w);
      takes = omega (arith, m.takes, f, sum_more (need_one root u) i (card_of ns₀ os₀), ap (need_one root u) untouched);
      fills = w.ends ∙ sum-next (size_one root u) (card_of ns₀ os₀) i at _ m.fills (one_size root u i next (card_of ns os) (rw trees-length moving-in) ∙ ap (size_one root u) untouched);
      many = as_many ns ns' os os' (ap (λ (c : Card). length c.trees) w.leaves ∙ one-many root u i (card_of ns os) (rw trees-length moving-in)) ∙ m.many;
    }
