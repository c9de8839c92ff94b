-- What a label's bit and its mark say: whether it is free, its use, and the tree that carries it. Assumes nothing.
use Prim.Native.Nat.{ℕ, ◌+◌, ◌-◌, ◌/◌, ◌%◌, ◌≤◌, ◌<◌}
use native.Mathlib.Omega.{arith}
use mathlib.Core.Path.{◌≡◌, refl, sym, ◌∙◌}
use mathlib.Core.Bool.{Bool, true, false, not, ◌&&◌}
use mathlib.Core.List.{List}
use lib.ListN.{set, length-set}
use lib.Seq.{get_or-set_same, get_or-set_other}
use lib.Dec.{eqb, ltb}
use borrow.Author.Tests.{lt-ltb, le-ltb, ltb-true, ltb-false, eq-eqb, eqb-true, eqb-false, not-true}
use Rattle.meaning.specs.Lists.{by-test, never}
use Rattle.meaning_laws.specs.RoundTrip.{both}
use Rattle.meaning.specs.Card.{free, mapped, awaiting, is_free, label_count, neighbour_count}
use Rattle.octets.specs.Bits.{bit}
use Rattle.memory.specs.Sizes.{mark_column, word_column, word_count, Numbers}
use Rattle.memory.specs.Memory.{label_name, base_in, word_at, is_free_at, mark_at, mark_use, mark_place, use_in, is_mapped_at, label_in, carries_at, own_label, Relabelled}
use Rattle.memory.proofs.Memory.{free-same, own_same, agree-set}

-- ---- the use

module _ (ns : List ℕ) (p : ℕ) where
  pub mapped_at : is_free_at ns p ≡ false → mark_use (mark_at ns p) < neighbour_count → is_mapped_at ns p ≡ true
  unfolding is_mapped_at
  mapped_at e k = rw (e, lt-ltb (mark_use (mark_at ns p)) neighbour_count k) refl

  pub mapped-use : is_mapped_at ns p ≡ true → (is_free_at ns p ≡ false) × (mark_use (mark_at ns p) < neighbour_count)
  unfolding is_mapped_at
  mapped-use e = let b = both (not (is_free_at ns p)) (ltb (mark_use (mark_at ns p)) neighbour_count) e in (not-true _ b.0, ltb-true _ _ b.1)

  -- not mapped: free, or from 16 on
  pub unmapped-free : is_free_at ns p ≡ true → is_mapped_at ns p ≡ false
  unfolding is_mapped_at
  unmapped-free e = rw e refl

  pub unmapped-above : neighbour_count ≤ mark_use (mark_at ns p) → is_mapped_at ns p ≡ false
  unfolding is_mapped_at
  unmapped-above h = by-test (is_free_at ns p) (λ e. rw e refl) (λ e. rw (e, le-ltb (mark_use (mark_at ns p)) neighbour_count h) refl)

  module _ (os : List ℕ) where
    pub label-free : is_free_at ns p ≡ true → label_in ns os p ≡ free
    unfolding label_in
    label-free e = rw e refl

    pub label-mapped : is_free_at ns p ≡ false → mark_use (mark_at ns p) < neighbour_count → label_in ns os p ≡ mapped (mark_use (mark_at ns p)) (label_name os p)
    unfolding label_in use_in
    label-mapped e k = rw (e, lt-ltb (mark_use (mark_at ns p)) neighbour_count k) refl

    pub label-awaiting : is_free_at ns p ≡ false → neighbour_count ≤ mark_use (mark_at ns p) → label_in ns os p ≡ awaiting (mark_use (mark_at ns p) - neighbour_count) (label_name os p)
    unfolding label_in use_in
    label-awaiting e h = rw (e, le-ltb (mark_use (mark_at ns p)) neighbour_count h) refl

    pub free_in : is_free (label_in ns os p) ≡ is_free_at ns p
    free_in =
        by-test (is_free_at ns p)
        (λ e. rw (label-free e, e) (unfold is_free in refl))
        (λ e.
        by-test (ltb (mark_use (mark_at ns p)) neighbour_count)
        (λ t. rw (label-mapped e (ltb-true _ _ t), e) (unfold is_free in refl))
        (λ t. rw (label-awaiting e (ltb-false _ _ t), e) (unfold is_free in refl)))

    -- whatever the mark: free, or mapped to one of the sixteen neighbours, or awaiting release, for the label's name
    pub by-use {ℓ} : {X : Type ℓ} → (label_in ns os p ≡ free → X) → ((n : ℕ) → n < neighbour_count → label_in ns os p ≡ mapped n (label_name os p) → X) → ((n : ℕ) → label_in ns os p ≡ awaiting n (label_name os p) → X) → X
    by-use f m a =
        by-test (is_free_at ns p)
        (λ e. f (label-free e))
        (λ e.
        by-test (ltb (mark_use (mark_at ns p)) neighbour_count)
        (λ t. m _ (ltb-true _ _ t) (label-mapped e (ltb-true _ _ t)))
        (λ t. a _ (label-awaiting e (ltb-false _ _ t))))

-- ---- the tree

module _ (ns : List ℕ) (i p : ℕ) where
  pub carried-in : p < label_count → is_mapped_at ns p ≡ true → mark_place (mark_at ns p) ≡ i → carries_at ns i p ≡ true
  unfolding carries_at
  carried-in h m e = rw (lt-ltb p 256 h, m, eq-eqb (mark_place (mark_at ns p)) i e) refl

  -- a mapped label is carried by the tree that its mark names
  pub carried-by : p < label_count → is_mapped_at ns p ≡ true → carries_at ns i p ≡ eqb (mark_place (mark_at ns p)) i
  unfolding carries_at
  carried-by h m = rw (lt-ltb p 256 h, m) refl

  pub carried-out : carries_at ns i p ≡ true → (p < label_count) × (is_mapped_at ns p ≡ true) × (mark_place (mark_at ns p) ≡ i)
  unfolding carries_at
  carried-out e =
      let a = both (ltb p 256) (is_mapped_at ns p && eqb (mark_place (mark_at ns p)) i) e in
      let b = both (is_mapped_at ns p) (eqb (mark_place (mark_at ns p)) i) a.1 in
      (ltb-true _ _ a.0, b.0, eqb-true _ _ b.1)

  not_carried : (carries_at ns i p ≡ true → ⊥) → carries_at ns i p ≡ false
  not_carried f = by-test (carries_at ns i p) (λ e. absurd (f e)) (λ e. e)

  pub not-far : label_count ≤ p → carries_at ns i p ≡ false
  not-far h = not_carried (λ e. omega (arith, (carried-out e).0))

  pub not-mapped : is_mapped_at ns p ≡ false → carries_at ns i p ≡ false
  not-mapped m = not_carried (λ e. never (sym m ∙ (carried-out e).1))

  pub not_named : (mark_place (mark_at ns p) ≡ i → ⊥) → carries_at ns i p ≡ false
  not_named ne = not_carried (λ e. ne (carried-out e).2)

  pub own-some : carries_at ns i p ≡ true → own_label ns i p ≡ base_in ns + p
  unfolding own_label
  own-some e = rw e refl

  pub own-none : carries_at ns i p ≡ false → own_label ns i p ≡ 0
  unfolding own_label
  own-none e = rw e refl

-- ---- one label anew

-- twice
pub relabelled-again : (p : ℕ) (ns ks ms : List ℕ) → Relabelled p ns ks → Relabelled p ks ms → Relabelled p ns ms
relabelled-again p ns ks ms a b = record {
  long = b.long ∙ a.long;
  rest = λ k lt. b.rest k lt ∙ a.rest k lt;
  marks = λ q lt ne. b.marks q lt ne ∙ a.marks q lt ne;
  frees = λ q lt ne. b.frees q lt ne ∙ a.frees q lt ne;
}

-- its mark alone
pub remarked : (ns : List ℕ) (p v : ℕ) → p < label_count → Relabelled p ns (set ns (mark_column + p) v)
remarked ns p v h = record {
  long = length-set ns (mark_column + p) v;
  rest = λ k lt. get_or-set_other ns (mark_column + p) k v 0 (λ e. omega arith);
  marks = λ q lt ne. get_or-set_other ns (mark_column + p) (mark_column + q) v 0 (λ e. ne (omega arith));
  frees = λ q lt ne. free-same ns (set ns (mark_column + p) v) ns ns (agree-set word_column word_count ns (mark_column + p) v (λ a b. omega arith)) q lt;
}

pub remarked-free : (ns : List ℕ) (p v : ℕ) → p < label_count → is_free_at (set ns (mark_column + p) v) p ≡ is_free_at ns p
remarked-free ns p v h = free-same ns (set ns (mark_column + p) v) ns ns (agree-set word_column word_count ns (mark_column + p) v (λ a b. omega arith)) p h

-- its bit alone, in the word that v takes the place of
module _ (ns : List ℕ) (p v : ℕ) (h : p < label_count) (l : Numbers ns) where
  rebit-at : (q : ℕ) → q < label_count → q / 64 ≡ p / 64 → is_free_at (set ns (word_column + p / 64) v) q ≡ bit (q % 64) v
  unfolding is_free_at
  rebit-at q lt e = rw (e, get_or-set_same ns (word_column + p / 64) v 0 (omega arith)) refl

  rebit-away : (q : ℕ) → q < label_count → (q / 64 ≡ p / 64 → ⊥) → is_free_at (set ns (word_column + p / 64) v) q ≡ is_free_at ns q
  unfolding is_free_at
  rebit-away q lt ne = rw (get_or-set_other ns (word_column + p / 64) (word_column + q / 64) v 0 (λ e. ne (omega arith))) refl

  word-said : (q : ℕ) → q / 64 ≡ p / 64 → bit (q % 64) (word_at ns (p / 64)) ≡ is_free_at ns q
  unfolding is_free_at
  word-said q e = rw e refl

  rebit-others : ((j : ℕ) → j < 64 → (j ≡ p % 64 → ⊥) → bit j v ≡ bit j (word_at ns (p / 64))) → (q : ℕ) → q < label_count → (q ≡ p → ⊥) → is_free_at (set ns (word_column + p / 64) v) q ≡ is_free_at ns q
  rebit-others o q lt ne =
      by-test (eqb (q / 64) (p / 64))
      (λ t.
      let w : q / 64 ≡ p / 64 = eqb-true (q / 64) (p / 64) t in
      rebit-at q lt w ∙ o (q % 64) (omega arith) (λ z. ne (omega arith)) ∙ word-said q w)
      (λ t. rebit-away q lt (eqb-false (q / 64) (p / 64) t))

  pub rebit : (b : Bool) → bit (p % 64) v ≡ b → ((j : ℕ) → j < 64 → (j ≡ p % 64 → ⊥) → bit j v ≡ bit j (word_at ns (p / 64)))
      → Relabelled p ns (set ns (word_column + p / 64) v) × (is_free_at (set ns (word_column + p / 64) v) p ≡ b)
  rebit b e o = (
    record {
      long = length-set ns (word_column + p / 64) v;
      rest = λ k lt. get_or-set_other ns (word_column + p / 64) k v 0 (λ z. omega arith);
      marks = λ q lt ne. get_or-set_other ns (word_column + p / 64) (mark_column + q) v 0 (λ z. omega arith);
      frees = rebit-others o;
    },
    rebit-at p h refl ∙ e,
  )

-- a tree's label is as it was, where the tree has another place for its own, or carries p neither before nor after
pub own-beside : (ns ms : List ℕ) (p i q : ℕ) → Relabelled p ns ms → (q ≡ p → (carries_at ns i q ≡ false) × (carries_at ms i q ≡ false)) → own_label ms i q ≡ own_label ns i q
own-beside ns ms p i q r h =
    by-test (eqb q p)
    (λ t. let n = h (eqb-true q p t) in own-none ms i q n.1 ∙ sym (own-none ns i q n.0))
    (λ t.
    let ne = eqb-false q p t in
    own_same ns ms ns ns i q (λ j a b. r.rest j (omega arith)) (λ l. r.marks q l ne) (λ l. r.frees q l ne))

-- the same use, whatever place the mark names
pub use_kept : (ns ms os : List ℕ) (p : ℕ) → mark_use (mark_at ms p) ≡ mark_use (mark_at ns p) → is_free_at ms p ≡ is_free_at ns p → label_in ms os p ≡ label_in ns os p
unfolding label_in
use_kept ns ms os p e f = rw (e, f) refl
