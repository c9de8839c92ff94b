-- Labels that lead nowhere, given up one tree after the other; and the whole of a loss. Assumes nothing.
use Prim.Native.Nat.{ℕ, zero, suc, ◌+◌, ◌*◌, ◌-◌, ◌≤◌, ◌<◌}
use native.Mathlib.Nat.{add-zero, add-suc, suc-add, zero-add, le_refl}
use native.Mathlib.Numerals.{add-one}
use native.Mathlib.Omega.{arith}
use mathlib.Core.Path.{◌≡◌, refl, sym, ap, ap₂, ◌∙◌, subst}
use mathlib.Core.Bool.{true, false}
use mathlib.Core.List.{List}
use lib.ListN.{length}
use lib.Dec.{eqb, ltb}
use borrow.Author.Tests.{ltb-true, ltb-false, le-ltb}
use Rattle.meaning.specs.Lists.{by-test, picked}
use Rattle.meaning.specs.Wire.{records, ids_after, name_limit, record_limit}
use Rattle.meaning.specs.Card.{Tree, Card, with_next, with_branch, tree_at, leads_on, held_for, nobody}
use Rattle.meaning.specs.Events.{Moved, still, followed_by, let_go, holder, finish, parted, shed, shed_from, swept_below, part}
use Rattle.meaning_laws.specs.Losses.{loss_size, parted-size, loss-size}
use Rattle.meaning.specs.Calls.{Does}
use Rattle.octets.specs.Part.{mid}
use Rattle.memory.specs.Memory.{card_of, tree_count}
use Rattle.memory.proofs.Memory.{trees-length}
use Rattle.memory.proofs.Apart.{memory-apart}
use Rattle.event_holder.specs.Move.{Wrote}
use Rattle.event_move.proofs.Records.{wrote_nothing, wrote_then, then-length}
use Rattle.event_move.proofs.Alike.{let-go-stays}
use Rattle.event_move.proofs.Trees.{still-then, then-then, then-still, then_same}
use Rattle.event_move.proofs.Steps.{as_many, let-go-none}
use Rattle.event_roots.proofs.Roots.{sum-most}
use Rattle.event_tree.specs.End.{Ended}
use Rattle.event_tree.proofs.Ends.{does-short, does-ended}
use Rattle.event_lost.specs.Lost.{lost_to, loss_all}
use Rattle.event_lost.proofs.Sizes.{leads-some, leads-none}

-- ---- one tree

shed-on : (i : ℕ) (c : Card) → leads_on (held_for c (tree_at i c)) (tree_at i c) ≡ true → shed i c ≡ still c
unfolding shed
shed-on i c e = rw e refl

shed-off : (i : ℕ) (c : Card) → leads_on (held_for c (tree_at i c)) (tree_at i c) ≡ false → shed i c ≡ let_go i c
unfolding shed
shed-off i c e = rw e refl

module _ (i : ℕ) (c : Card) (u : ℕ) (eu : u ≡ held_for c (tree_at i c)) where
  -- it has no label
  pub shed-bare : (id at : ℕ) (s : List ℕ) → (tree_at i c).label ≡ 0 → Wrote (shed i c) id at s s c at id
  shed-bare id at s l =
      by-test (leads_on (held_for c (tree_at i c)) (tree_at i c))
      (λ e. rw (shed-on i c e) (wrote_nothing c id at s))
      (λ e. rw (shed-off i c e ∙ let-go-none i c l) (wrote_nothing c id at s))

  pub shed-stays : (id at : ℕ) (s : List ℕ) (r : ℕ) → r ≡ holder u (tree_at i c) → (r ≡ nobody → ⊥) → Wrote (shed i c) id at s s c at id
  shed-stays id at s r er ne = rw (shed-on i c (rw (← eu) (leads-some u (tree_at i c) (λ z. ne (er ∙ z))))) (wrote_nothing c id at s)

  pub shed-goes : (r : ℕ) → r ≡ holder u (tree_at i c) → (u ≡ nobody → ⊥) → r ≡ nobody → shed i c ≡ let_go i c
  shed-goes r er some z = shed-off i c (rw (← eu) (leads-none u (tree_at i c) some (sym er ∙ z)))

shed-many : (i : ℕ) (c : Card) → i < length c.trees → length (shed i c).card.trees ≡ length c.trees
unfolding shed still
shed-many i c h = picked (λ (m : Moved). length m.card.trees ≡ length c.trees) (leads_on (held_for c (tree_at i c)) (tree_at i c)) (λ _. refl) (λ _. (let-go-stays i c h).many)

-- ---- the first of them

shed-first : (n i : ℕ) (c : Card) → shed_from (suc n) i c ≡ followed_by (shed i c) (shed_from n (suc i))
unfolding shed_from
shed-first n i c = refl

shed-snoc : (n i : ℕ) (c : Card) → shed_from (suc n) i c ≡ followed_by (shed_from n i c) (shed (i + n))
shed-snoc zero i c = first ∙ sym (ap (λ (m : Moved). followed_by m (shed (i + 0))) none ∙ still-then c (shed (i + 0)) ∙ ap (λ (k : ℕ). shed k c) (add-zero i))
  where
    none : shed_from 0 i c ≡ still c
    none = unfold shed_from in refl

    first : shed_from 1 i c ≡ shed i c
    first = unfold shed_from in then-still (shed i c)
shed-snoc (suc n) i c =
    shed-first (suc n) i c
    ∙ then_same (shed i c) (shed_from (suc n) (suc i)) (λ (d : Card). followed_by (shed_from n (suc i) d) (shed (suc i + n))) (shed-snoc n (suc i) (shed i c).card)
    ∙ sym (ap₂ (λ (m : Moved) (k : ℕ). followed_by m (shed k)) (shed-first n i c) (add-suc i n ∙ sym (suc-add i n)) ∙ then-then (shed i c) (shed_from n (suc i)) (shed (suc i + n)))

shed-more : (n : ℕ) (c : Card) → shed_from (n + 1) 0 c ≡ followed_by (shed_from n 0 c) (shed n)
shed-more n c = ap (λ (k : ℕ). shed_from k 0 c) (add-one n) ∙ shed-snoc n 0 c ∙ ap (λ (k : ℕ). followed_by (shed_from n 0 c) (shed k)) (zero-add n)

-- the records of the first n are among those of all
shed-le : (id k n : ℕ) (c : Card) → length (records id (shed_from n 0 c).sent) ≤ length (records id (shed_from (n + k) 0 c).sent)
shed-le id zero n c = rw (add-zero n) (le_refl _)
shed-le id (suc k) n c =
    let e : n + suc k ≡ n + k + 1 = omega arith in
    rw (e, shed-more (n + k) c) (omega (arith, shed-le id k n c, then-length (shed_from (n + k) 0 c) (shed (n + k)) id))

-- ---- i trees were passed

pub record Shedding (id : ℕ) (os ns₀ s₀ : List ℕ) (i : ℕ) (ns s : List ℕ) (at next : ℕ) : Type 0 where
  pub made : Wrote (shed_from i 0 (card_of ns₀ os)) id 0 s₀ s (card_of ns os) at next
  pub many : tree_count ns ≡ tree_count ns₀

module _ (id : ℕ) (os ns₀ s₀ : List ℕ) where
  pub shedding-none : Shedding id os ns₀ s₀ 0 ns₀ s₀ 0 id
  shedding-none = record { made = unfold shed_from in wrote_nothing (card_of ns₀ os) id 0 s₀; many = refl }

  pub shedding-all : (k i : ℕ) (ns s : List ℕ) (at next : ℕ) → k ≡ tree_count ns₀ → i ≤ k → k ≤ i → Shedding id os ns₀ s₀ i ns s at next
      → Wrote (shed_from (length (card_of ns₀ os).trees) 0 (card_of ns₀ os)) id 0 s₀ s (card_of ns os) at next
  shedding-all k i ns s at next e le ge m =
      let q : length (card_of ns₀ os).trees ≡ i = omega (arith, trees-length ns₀ os) in
      rw q m.made

  module _ (i : ℕ) (ns s : List ℕ) (at next : ℕ) (h : i < tree_count ns₀) (m : Shedding id os ns₀ s₀ i ns s at next) where
    pub shedding-in : i < tree_count ns
    shedding-in = rw m.many h

    pub shedding-room : (n : ℕ) → length (records id (shed_from (length (card_of ns₀ os).trees) 0 (card_of ns₀ os)).sent) ≤ n → at + length (records next (shed i (card_of ns os)).sent) ≤ n
    shedding-room n k =
        let c : Card = card_of ns₀ os in
        let long = trees-length ns₀ os in
        let q : i + 1 + (length c.trees - (i + 1)) ≡ length c.trees = omega arith in
        let more : length (records id (shed_from (i + 1) 0 c).sent) ≡ length (records id (shed_from i 0 c).sent) + length (records next (shed i (card_of ns os)).sent) =
        ap (λ (x : Moved). length (records id x.sent)) (shed-more i c) ∙ then-length (shed_from i 0 c) (shed i) id
        ∙ ap₂ (λ (j : ℕ) (d : Card). length (records id (shed_from i 0 c).sent) + length (records j (shed i d).sent)) (sym m.made.counts) (sym m.made.leaves) in
        omega (arith, more, m.made.ends, shed-le id (length c.trees - (i + 1)) (i + 1) c, ap (λ (j : ℕ). length (records id (shed_from j 0 c).sent)) q)

    pub shedding-more : (ns' s' : List ℕ) (at' next' : ℕ) → at ≤ length s₀ → Wrote (shed i (card_of ns os)) next at s s' (card_of ns' os) at' next' → Shedding id os ns₀ s₀ (i + 1) ns' s' at' next'
    shedding-more ns' s' at' next' room w = record {
      made = rw (shed-more i (card_of ns₀ os)) (wrote_then (shed_from i 0 (card_of ns₀ os)) (shed i) id 0 s₀ s s' (card_of ns os) (card_of ns' os) at next at' next' (omega (arith, m.made.ends)) m.made w);
      many = as_many ns ns' os os (ap (λ (c : Card). length c.trees) w.leaves ∙ shed-many i (card_of ns os) (rw trees-length shedding-in)) ∙ m.many;
    }

-- ---- the whole

loss-written : (ns os : List ℕ) (n id : ℕ) → length (records id (shed_from (length (card_of ns os).trees) 0 (parted n (card_of ns os))).sent) ≡ loss_all n (card_of ns os)
unfolding loss_all
loss-written ns os n id = loss-size n (card_of ns os) (memory-apart ns os) id

-- the records of what is left to send, once the table is without n
pub loss-fits : (ns os : List ℕ) (n id room : ℕ) (d : Card) → d ≡ parted n (card_of ns os) → loss_all n (card_of ns os) ≤ room → length (records id (shed_from (length d.trees) 0 d).sent) ≤ room
loss-fits ns os n id room d e h =
    let size : length d.trees ≡ length (card_of ns os).trees = ap (λ (x : Card). length x.trees) e ∙ parted-size n (card_of ns os) in
    rw (size, e) (omega (arith, loss-written ns os n id))

shed-all-many : (k i : ℕ) (c : Card) → i + k ≤ length c.trees → length (shed_from k i c).card.trees ≡ length c.trees
unfolding shed_from followed_by still
shed-all-many zero i c h = refl
shed-all-many (suc k) i c h =
    let one = shed-many i c (omega arith) in
    shed-all-many k (suc i) (shed i c).card (omega arith) ∙ one

pub lost-ends : (ns os : List ℕ) (n id : ℕ) (d e f g : Card) (s s' : List ℕ) (end next : ℕ) → id ≡ (card_of ns os).next → d ≡ parted n (card_of ns os)
    → Wrote (shed_from (length d.trees) 0 d) id 0 s s' e end next → f ≡ swept_below (length e.trees) e → g ≡ with_next next f
    → Ended (lost_to (card_of ns os) n) (card_of ns os).next 0 s s' g end
unfolding lost_to
lost-ends ns os n id d e f g s s' end next ei ed w ef eg =
    let c : Card = card_of ns os in
    let size : length d.trees ≡ length c.trees = ap (λ (x : Card). length x.trees) ed ∙ parted-size n c in
    let same : shed_from (length d.trees) 0 d ≡ shed_from (length c.trees) 0 (parted n c) = ap₂ (λ (k : ℕ) (x : Card). shed_from k 0 x) size ed in
    let left : length e.trees ≡ length c.trees = ap (λ (x : Card). length x.trees) w.leaves ∙ shed-all-many (length d.trees) 0 d (omega arith) ∙ size in
    let card : e ≡ (shed_from (length c.trees) 0 (parted n c)).card = w.leaves ∙ ap (λ (m : Moved). m.card) same in
    subst (λ (k : ℕ). Ended (record { sent = (shed_from (length c.trees) 0 (parted n c)).sent; card = swept_below (length c.trees) (shed_from (length c.trees) 0 (parted n c)).card }) k 0 s s' g end) ei
    (record {
      leaves = eg ∙ ap₂ with_next (w.counts ∙ ap (λ (m : Moved). ids_after id m.sent) same) (ef ∙ ap₂ swept_below left card);
      writes = w.writes ∙ ap (λ (m : Moved). mid 0 (length (records id m.sent)) s (records id m.sent)) same;
      ends = w.ends ∙ ap (λ (m : Moved). 0 + length (records id m.sent)) same;
    })

-- room for a record of each tree is room for all
loss-most : (n : ℕ) (c : Card) (t : Tree) → length t.name ≤ name_limit → loss_size n c t ≤ record_limit
unfolding loss_size
loss-most n c t h =
    by-test (eqb (held_for c t) n)
    (λ a. rw a (omega arith))
    (λ a. by-test (leads_on (held_for c t) (with_branch n 0 t))
    (λ b. rw (a, b) (omega arith))
    (λ b. by-test (eqb t.label 0) (λ d. rw (a, b, d) (omega arith)) (λ d. rw (a, b, d) (omega arith))))

pub loss-room : (ns os : List ℕ) (n k room : ℕ) → k ≡ tree_count ns → k * record_limit ≤ room → false ≡ ltb room (loss_all n (card_of ns os))
unfolding loss_all
loss-room ns os n k room e h =
    let many : length (card_of ns os).trees ≡ k = trees-length ns os ∙ sym e in
    sym (le-ltb room _ (rw many (omega (arith, sum-most (loss_size n (card_of ns os)) record_limit ns os k (loss-most n (card_of ns os)) (omega arith)))))

module _ (ns os : List ℕ) (n : ℕ) (s : List ℕ) where
  pub lost-short : ltb (length s) (loss_all n (card_of ns os)) ≡ true → Does (finish (length s) (card_of ns os) (part (card_of ns os) n)) 16 0 s s (card_of ns os)
  unfolding part
  lost-short h = does-short (card_of ns os) _ _ s (omega (arith, ltb-true (length s) (loss_all n (card_of ns os)) h, loss-written ns os n (card_of ns os).next))

  pub lost-done : ltb (length s) (loss_all n (card_of ns os)) ≡ false → (s' : List ℕ) (e : Card) (end : ℕ) → Ended (lost_to (card_of ns os) n) (card_of ns os).next 0 s s' e end → Does (finish (length s) (card_of ns os) (part (card_of ns os) n)) 0 end s s' e
  unfolding part
  lost-done h s' e end w = does-ended (card_of ns os) _ _ s s' e end (omega (arith, ltb-false (length s) (loss_all n (card_of ns os)) h, loss-written ns os n (card_of ns os).next)) (unfold lost_to in w)
