-- Laws of a line that comes octet by octet, and of line after line. Assumes nothing.
use Prim.Native.Nat.{ℕ, ◌+◌, ◌≤◌, ◌<◌}
use native.Mathlib.Numerals.{add-one}
use native.Mathlib.Omega.{arith}
use mathlib.Core.Path.{◌≡◌, refl, sym, ◌∙◌}
use mathlib.Core.List.{List, [], ◌∷◌, ◌++◌}
use lib.ListN.{length, take, get_or, set, length-append, length-set}
use lib.Seq.{take-suc, take-suc-set}
use borrow.Author.Tests.{eq-eqb, ne_eqb}
use Rattle.bench_input.specs.Kept.{Keeps}
use Rattle.bench_input.specs.Input.{Stand, ended, longer, after, after_all}

pub keeps-more : (b : List ℕ) (k c : ℕ) (o : List ℕ) → k < length b → Keeps b k o → Keeps (set b k c) (k + 1) (o ++ (c ∷ []))
keeps-more b k c o h p =
    let n : length (o ++ (c ∷ [])) ≡ length o + 1 = length-append o (c ∷ []) in
    let m = length-set b k c in
    let e : k ≡ length o = omega (arith, p.count) in
    let w : take k b ≡ o = rw e (p.front (omega arith)) in
    record {
      count = omega (arith, p.count);
      front = λ _. rw (n, ← e, add-one k) (take-suc-set b k c h ∙ rw w);
    }

pub keeps-over : (b : List ℕ) (k c : ℕ) (o : List ℕ) → length b ≤ k → Keeps b k o → Keeps b (length b + 1) (o ++ (c ∷ []))
keeps-over b k c o h p =
    let n : length (o ++ (c ∷ [])) ≡ length o + 1 = length-append o (c ∷ []) in
    record {
      count = omega (arith, p.count);
      front = λ l. absurd (omega (arith, p.count));
    }

pub keeps_line : (b : List ℕ) (k : ℕ) (o : List ℕ) → k ≤ length b → Keeps b k o → take k b ≡ o
keeps_line b k o h p =
    let e : k ≡ length o = omega (arith, p.count) in
    rw e (p.front (omega arith))

pub keeps-none : (b : List ℕ) → Keeps b 0 []
keeps-none b = record { count = omega arith; front = λ _. refl }

-- ---- the state after octets

module _ {S : Type 0} (line : ℕ → S → List ℕ → S) where
  pub after-end : (s : Stand S) (c : ℕ) → c ≡ 10 → after line s c ≡ ended line s
  unfolding after
  after-end s c e = rw (eq-eqb c 10 e) refl

  pub after_more : (s : Stand S) (c : ℕ) → (c ≡ 10 → ⊥) → after line s c ≡ longer line s c
  unfolding after
  after_more s c h = rw (ne_eqb c 10 h) refl

  pub after_none : (s : Stand S) → after_all line s [] ≡ s
  unfolding after_all
  after_none s = refl

  after-snoc : (s : Stand S) (cs : List ℕ) (c : ℕ) → after_all line s (cs ++ (c ∷ [])) ≡ after line (after_all line s cs) c
  unfolding after_all
  after-snoc s [] c = refl
  after-snoc s (x ∷ cs) c = after-snoc (after line s x) cs c

  pub after_next : (s : Stand S) (l : List ℕ) (i : ℕ) → i < length l → after line (after_all line s (take i l)) (get_or l i 0) ≡ after_all line s (take (i + 1) l)
  after_next s l i h = sym (rw (add-one i, take-suc l i 0 h) (after-snoc s (take i l) (get_or l i 0)))
