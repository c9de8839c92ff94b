-- Laws of a text that goes on. Assumes nothing.
use Prim.Native.Nat.{ℕ, suc, ◌+◌, ◌≤◌, ◌<◌}
use native.Mathlib.Numerals.{add-one}
use native.Mathlib.Omega.{arith}
use mathlib.Core.Path.{◌≡◌, refl, sym, ap, ◌∙◌}
use mathlib.Core.List.{List, [], ◌∷◌, ◌++◌, append_assoc}
use lib.ListN.{length, take, drop, get_or, length-append}
use lib.Seq.{length-take-le, take-append-add, take_at, take-suc}
use lib.Dec.{eqb}
use borrow.Author.Tests.{lt-ltb, eqb-true, eqb-false}
use Rattle.meaning.specs.Octets.{pick}
use Rattle.meaning.specs.Lists.{append-nil, by-test}
use Rattle.meaning.specs.Card.{Branch, is_branch, branches_from}
use Rattle.bench_words.specs.Words.{numeral, hex_of, Puts}
use Rattle.bench_lines.specs.Text.{records_behind, branch_as, branches_as, or_else, Adds}

pub adds_none : (t : List ℕ) (at : ℕ) → Adds [] t t at at
adds_none t at = record { count = omega arith; text = sym (append-nil (take at t)) }

pub adds_then : {xs ys a b c : List ℕ} {p q r : ℕ} → Adds xs a b p q → Adds ys b c q r → Adds (xs ++ ys) a c p r
adds_then {xs} {ys} {a} {b} {c} {p} {q} {r} f g = record {
  count = let n = length-append xs ys in omega (arith, f.count, g.count);
  text = g.text ∙ rw f.text (append_assoc (take p a) xs ys);
}

-- a part that was written at its front
pub adds-part : {ys part new : List ℕ} {r : ℕ} (t rest : List ℕ) (at : ℕ) → at ≤ length t → Puts ys part new r → Adds ys t (take at t ++ (new ++ rest)) at (at + r)
adds-part {ys} {part} {new} {r} t rest at h p = record {
  count = rw p.count refl;
  text =
      let n : length (take at t) ≡ at = length-take-le at t h in
      let w : new ++ rest ≡ ys ++ (drop r part ++ rest) = rw p.whole (append_assoc ys (drop r part) rest) in
      ap (λ (m : ℕ). take (m + r) (take at t ++ (new ++ rest))) (sym n)
      ∙ take-append-add (take at t) (new ++ rest) r
      ∙ ap (λ (l : List ℕ). take at t ++ take r l) w
      ∙ ap (λ (l : List ℕ). take at t ++ l) (take_at ys (drop r part ++ rest) r (sym p.count));
}

-- ---- records

pub records-none : (word l : List ℕ) → length l ≡ 0 → records_behind word l ≡ []
unfolding records_behind
records-none word [] e = refl
records-none word (o ∷ os) e = absurd (omega arith)

pub records-some : (word l : List ℕ) → (length l ≡ 0 → ⊥) → records_behind word l ≡ word ++ hex_of l
unfolding records_behind
records-some word [] e = absurd (e refl)
records-some word (o ∷ os) e = refl

-- ---- branches

pub branches-snoc : (n : ℕ) (xs : List ℕ) (label : ℕ) → branches_from n (xs ++ (label ∷ [])) ≡ branches_from n xs ++ branches_from (n + length xs) (label ∷ [])
unfolding branches_from
branches-snoc n [] label = let e : n ≡ n + 0 = omega arith in ap (λ (m : ℕ). branches_from m (label ∷ [])) e
branches-snoc n (x ∷ xs) label =
    let e : suc n + length xs ≡ n + suc (length xs) = omega arith in
    let later : branches_from (suc n) (xs ++ (label ∷ [])) ≡ branches_from (suc n) xs ++ branches_from (n + suc (length xs)) (label ∷ []) = rw e at (branches-snoc (suc n) xs label) in
    by-test (is_branch x) (λ t. rw (t, later)) (λ t. rw (t, later))

module _ (before between : List ℕ) where
  branches-after : (xs ys : List Branch) → branches_as before between (xs ++ ys) ≡ branches_as before between xs ++ branches_as before between ys
  unfolding branches_as
  branches-after [] ys = refl
  branches-after (b ∷ xs) ys = rw (branches-after xs ys) (sym (append_assoc (branch_as before between b) (branches_as before between xs) (branches_as before between ys)))

  pub branches-more : (l : List ℕ) (i : ℕ) → i < length l
      → branches_as before between (branches_from 0 (take i l)) ++ branches_as before between (branches_from i (get_or l i 0 ∷ [])) ≡ branches_as before between (branches_from 0 (take (i + 1) l))
  branches-more l i h =
      let e : 0 + length (take i l) ≡ i = rw (length-take-le i l (omega arith)) (omega arith) in
      sym (rw (add-one i, take-suc l i 0 h) (ap (branches_as before between) (branches-snoc 0 (take i l) (get_or l i 0) ∙ rw e) ∙ branches-after (branches_from 0 (take i l)) (branches_from i (get_or l i 0 ∷ []))))

  pub branch-none : (n label : ℕ) → label ≡ 0 → branches_as before between (branches_from n (label ∷ [])) ≡ []
  unfolding branches_from branches_as is_branch
  branch-none n label e = rw e refl

  pub branch_one : (n label : ℕ) → (label ≡ 0 → ⊥) → branches_as before between (branches_from n (label ∷ [])) ≡ (before ++ numeral n) ++ (between ++ numeral label)
  unfolding branches_from branches_as branch_as is_branch
  branch_one n label h = rw (lt-ltb 0 label (omega arith)) (append-nil (before ++ (numeral n ++ (between ++ numeral label))) ∙ sym (append_assoc before (numeral n) (between ++ numeral label)))

-- ---- a feed

else-none : (none l : List ℕ) → length l ≡ 0 → l ++ none ≡ or_else none l
unfolding or_else
else-none none [] e = refl
else-none none (c ∷ l) e = absurd (omega arith)

else-some : (none l : List ℕ) → (length l ≡ 0 → ⊥) → l ++ [] ≡ or_else none l
unfolding or_else
else-some none [] e = absurd (e refl)
else-some none (c ∷ l) e = append-nil (c ∷ l)

-- where nothing was added, it is said
pub feed-adds : (none : List ℕ) {l m a b c d : List ℕ} {s p q r : ℕ} → Adds l a b s p → Adds m b c p q → Adds (pick (eqb q s) none []) c d q r → Adds (or_else none (l ++ m)) a d s r
feed-adds none {l} {m} {s = s} {q = q} f g h =
    let both = adds_then f g in
    by-test (eqb q s)
    (λ e. rw (else-none none (l ++ m) (let w = eqb-true q s e in omega (arith, both.count))) at (adds_then both (rw e at h)))
    (λ e. rw (else-some none (l ++ m) (λ z. eqb-false q s e (omega (arith, both.count)))) at (adds_then both (rw e at h)))
