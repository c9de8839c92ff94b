-- The label that is given out: the first free one after the last given, going round the block.
-- Assumes nothing.
use Rattle.std.specs.Prelude.{ℕ, zero, suc, ◌+◌, ◌-◌, ◌≤◌, ◌<◌, ◌≡◌, Bool, true, false, List, [], ◌∷◌, get_or, length, leb, ltb}
use Rattle.std.proofs.Common.{not-suc-le-zero, le_of_suc-le-suc, arith, sym, ap, ◌∙◌, le-leb, leb-true, leb-false, ltb-true, ltb-false}
use Rattle.std.proofs.Math.Path.{refl}
use Rattle.std.proofs.lemmas.Bool.{lt-leb}
use Rattle.meaning.specs.Octets.{pick, count, place_from}
use Rattle.meaning.specs.Lists.{by-test, picked, from-within, from-passes, from-skips, from-round, from_first}
use Rattle.meaning.specs.Card.{Card, Use, free, is_free, free_labels, turn, next_free}

-- the label's place in the block, and what is said of it
abbrev pub next_place : Card → ℕ
next_place c = place_from is_free (turn c) c.labels

abbrev pub free_at : Card → ℕ → Type 0
free_at c p = is_free (get_or c.labels p free) ≡ true

abbrev pub taken_at : Card → ℕ → Type 0
taken_at c p = is_free (get_or c.labels p free) ≡ false

module _ (c : Card) where
  pub next-is : next_free c ≡ c.base + next_place c
  unfolding next_free
  next-is = refl

  -- where some label is free, it is one of the block, and free
  pub next-free : 0 < free_labels c → (next_place c < length c.labels) × free_at c (next_place c)
  unfolding free_labels
  next-free some = (from-within is_free (turn c) c.labels some, from-passes is_free (turn c) c.labels some free)

  -- none is free from the place after the last one given up to it
  pub next-first : (p : ℕ) → turn c ≤ p → p < next_place c → taken_at c p
  next-first p low high = from-skips is_free (turn c) c.labels free p low high

  -- where it lies before that place, none is free from there to the block's end, and none before it
  pub next-round : next_place c < turn c → ((p : ℕ) → turn c ≤ p → p < length c.labels → taken_at c p) × ((p : ℕ) → p < next_place c → taken_at c p)
  next-round round = (from-round is_free (turn c) c.labels free round, from_first is_free (turn c) c.labels free round)

-- ---- how long a label rests

-- how many places lie between place t and place x, going round a block of n
unfoldable pub between : ℕ → ℕ → ℕ → ℕ
between n t x = pick (leb t x) (x - t) (x + n - t)

module _ (n t x : ℕ) where
  between-on : t ≤ x → between n t x ≡ x - t
  unfolding between
  between-on h = rw (le-leb t x h) refl

  between-round : x < t → between n t x ≡ x + n - t
  unfolding between
  between-round h = rw (lt-leb t x h) refl

-- from place t on, the one or the other
side : (n t x : ℕ) (P : Type 0) → (t ≤ x → between n t x ≡ x - t → P) → (x < t → between n t x ≡ x + n - t → P) → P
side n t x P on round = by-test (leb t x) (λ e. let h = leb-true t x e in on h (between-on n t x h)) (λ e. let h = leb-false t x e in round h (between-round n t x h))

-- No place is farther from the label that was given last than its own.
pub given-farthest : (n l m : ℕ) → l < n → m < n → (m ≡ l → ⊥) → between n (suc l) m < between n (suc l) l
given-farthest n l m hl hm ne =
    let own = between-round n (suc l) l (omega arith) in
    side n (suc l) m _ (λ h e. omega arith) (λ h e. omega arith)

some : (t : Use → Bool) (l : List Use) (m : ℕ) → m < length l → t (get_or l m free) ≡ true → 0 < count t l
unfolding count
some t [] m h f = absurd (not-suc-le-zero h)
some t (x ∷ l) zero h f = rw f (omega arith)
some t (x ∷ l) (suc m) h f = picked (λ (k : ℕ). 0 < k) (t x) (λ _. omega arith) (λ _. some t l m (le_of_suc-le-suc h) f)

module _ (c : Card) where
  abbrev n : ℕ
  n = length c.labels

  abbrev p : ℕ
  p = next_place c

  -- where a label of the block is free, the one that is given is of the block
  within : (m : ℕ) → m < n → free_at c m → p < n
  within m hm fm = (next-free c (unfold free_labels in some is_free c.labels m hm fm)).0

  -- no free label is nearer than the one that is given
  pub next-nearest : (m : ℕ) → turn c ≤ n → m < n → free_at c m → between n (turn c) p ≤ between n (turn c) m
  next-nearest m ht hm fm =
      let inside = within m hm fm in
      side n (turn c) p _
      (λ h e. side n (turn c) m _ (λ k f. by-test (ltb m p) (λ q. absurd (not-both _ fm (next-first c m k (ltb-true m p q)))) (λ q. let le = ltb-false m p q in omega arith)) (λ k f. omega arith))
      (λ h e. let r = next-round c h in
      side n (turn c) m _ (λ k f. absurd (not-both _ fm (r.0 m k hm))) (λ k f. by-test (ltb m p) (λ q. absurd (not-both _ fm (r.1 m (ltb-true m p q)))) (λ q. let le = ltb-false m p q in omega arith)))
    where
      not-both : (b : Bool) → b ≡ true → b ≡ false → ⊥
      not-both b y z = let z' : ◌≡◌ {A = ℕ} 0 1 = ap (λ (x : Bool). pick x 0 1) (sym y ∙ z) in absurd (omega arith)

  -- A LABEL RESTS: while a label that is free lies nearer than another, the other is not given; and it lies nearer until it is given itself.
  -- So a label that was given is not given again before every other label that was free then has been given once: it lies farthest
  -- (`given-farthest`), a label stays free until it is given, and nothing but giving moves the place where the search begins.
  pub rests : (m l : ℕ) → turn c ≤ n → m < n → l < n → free_at c m → between n (turn c) m < between n (turn c) l
      → (p ≡ l → ⊥) × ((p ≡ m → ⊥) → between n (suc p) m < between n (suc p) l)
  rests m l ht hm hl fm near = let q = next-nearest m ht hm fm in ((λ e. let z = ap (between n (turn c)) e in omega arith), (λ ne. nearer ne))
    where
      nearer : (p ≡ m → ⊥) → between n (suc p) m < between n (suc p) l
      nearer ne =
          let q = next-nearest m ht hm fm in
          let inside = within m hm fm in
          side n (turn c) p _ (λ h4 e4. side n (turn c) m _ (λ h3 e3. side n (turn c) l _ (λ h2 e2. side n (suc p) m _ (λ h1 e1. side n (suc p) l _ (λ h0 e0. omega (arith, q, inside)) (λ h0 e0. omega (arith, q, inside))) (λ h1 e1. side n (suc p) l _ (λ h0 e0. omega (arith, q, inside)) (λ h0 e0. omega (arith, q, inside)))) (λ h2 e2. side n (suc p) m _ (λ h1 e1. side n (suc p) l _ (λ h0 e0. omega (arith, q, inside)) (λ h0 e0. omega (arith, q, inside))) (λ h1 e1. side n (suc p) l _ (λ h0 e0. omega (arith, q, inside)) (λ h0 e0. omega (arith, q, inside))))) (λ h3 e3. side n (turn c) l _ (λ h2 e2. side n (suc p) m _ (λ h1 e1. side n (suc p) l _ (λ h0 e0. omega (arith, q, inside)) (λ h0 e0. omega (arith, q, inside))) (λ h1 e1. side n (suc p) l _ (λ h0 e0. omega (arith, q, inside)) (λ h0 e0. omega (arith, q, inside)))) (λ h2 e2. side n (suc p) m _ (λ h1 e1. side n (suc p) l _ (λ h0 e0. omega (arith, q, inside)) (λ h0 e0. omega (arith, q, inside))) (λ h1 e1. side n (suc p) l _ (λ h0 e0. omega (arith, q, inside)) (λ h0 e0. omega (arith, q, inside)))))) (λ h4 e4. side n (turn c) m _ (λ h3 e3. side n (turn c) l _ (λ h2 e2. side n (suc p) m _ (λ h1 e1. side n (suc p) l _ (λ h0 e0. omega (arith, q, inside)) (λ h0 e0. omega (arith, q, inside))) (λ h1 e1. side n (suc p) l _ (λ h0 e0. omega (arith, q, inside)) (λ h0 e0. omega (arith, q, inside)))) (λ h2 e2. side n (suc p) m _ (λ h1 e1. side n (suc p) l _ (λ h0 e0. omega (arith, q, inside)) (λ h0 e0. omega (arith, q, inside))) (λ h1 e1. side n (suc p) l _ (λ h0 e0. omega (arith, q, inside)) (λ h0 e0. omega (arith, q, inside))))) (λ h3 e3. side n (turn c) l _ (λ h2 e2. side n (suc p) m _ (λ h1 e1. side n (suc p) l _ (λ h0 e0. omega (arith, q, inside)) (λ h0 e0. omega (arith, q, inside))) (λ h1 e1. side n (suc p) l _ (λ h0 e0. omega (arith, q, inside)) (λ h0 e0. omega (arith, q, inside)))) (λ h2 e2. side n (suc p) m _ (λ h1 e1. side n (suc p) l _ (λ h0 e0. omega (arith, q, inside)) (λ h0 e0. omega (arith, q, inside))) (λ h1 e1. side n (suc p) l _ (λ h0 e0. omega (arith, q, inside)) (λ h0 e0. omega (arith, q, inside))))))
