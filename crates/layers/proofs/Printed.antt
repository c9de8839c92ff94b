-- Laws of what the program `layers` prints. Assumes nothing.
use Prim.Native.Nat.{ℕ, ◌+◌, ◌-◌, ◌*◌, ◌≤◌, ◌<◌}
use native.Mathlib.Numerals.{add-one}
use native.Mathlib.Omega.{arith}
use mathlib.Core.Path.{◌≡◌, refl, sym, ap, ◌∙◌}
use mathlib.Core.Bool.{Bool, true, false, ◌&&◌}
use mathlib.Core.List.{List, [], ◌∷◌, ◌++◌, append_assoc}
use lib.Dec.{eqb}
use lib.ListN.{length, take, drop, get_or}
use lib.Pointwise.{pointwise}
use lib.Seq.{take_all, take-suc}
use denote.Ref.{Bor}
use Rattle.std.proofs.Common.{Option, Some, None}
use Rattle.std.specs.Option.{MatchOption, unwrap_or}
use Rattle.meaning.specs.Lists.{append-nil, never}
use Rattle.meaning.specs.Card.{Tree, Card, tree_at, bare}
use Rattle.meaning_save.specs.Save.{Form, new, form_of, save_limit, table_in, is_save, is_tree}
use Rattle.meaning_laws.specs.SaveLists.{tree-ok}
use Rattle.meaning_laws.specs.SaveLaws.{ruled-keeps, taken-is-save}
use Rattle.meaning_laws.specs.SaveRules.{all-at, Rules, rules}
use Rattle.bench_words.specs.Words.{is_hex_to, octets_of, Puts}
use Rattle.layers.specs.TreeText.{tree_line}
use Rattle.layers.specs.Shown.{trees_text, table_text, no_save, shown_of, hex_in, shown, AllNamed, Shows}
use Rattle.bench_words.proofs.Words.{front-is}

-- ---- the lines

trees-after : (c : Card) (ts us : List Tree) → trees_text c (ts ++ us) ≡ trees_text c ts ++ trees_text c us
unfolding trees_text
trees-after c [] us = refl
trees-after c (t ∷ ts) us = rw (trees-after c ts us) (sym (append_assoc (tree_line c t) (trees_text c ts) (trees_text c us)))

one_line : (c : Card) (t : Tree) → trees_text c (t ∷ []) ≡ tree_line c t
unfolding trees_text
one_line c t = append-nil (tree_line c t)

pub trees-more : (c : Card) (i : ℕ) → i < length c.trees → trees_text c (take i c.trees) ++ tree_line c (tree_at i c) ≡ trees_text c (take (i + 1) c.trees)
unfolding tree_at
trees-more c i h = sym (rw (add-one i, take-suc c.trees i (bare []) h) (trees-after c (take i c.trees) (get_or c.trees i (bare []) ∷ []) ∙ ap (λ (l : List ℕ). trees_text c (take i c.trees) ++ l) (one_line c (get_or c.trees i (bare [])))))

pub table-whole : (c : Card) (i : ℕ) → length c.trees ≤ i → trees_text c (take i c.trees) ≡ table_text c
unfolding table_text
table-whole c i h = ap (trees_text c) (take_all i c.trees h)

-- ---- a save

tree-named : (c : Card) → ((i : ℕ) → i < length c.trees → is_tree (tree_at i c) ≡ true) → AllNamed c
tree-named c h i k = (tree-ok (tree_at i c) (h i k)).name

trees-at : (c : Card) → Rules c → (i : ℕ) → i < length c.trees → is_tree (tree_at i c) ≡ true
unfolding tree_at
trees-at c r i k = all-at is_tree c.trees (bare []) r.trees i k

-- the names of a table that was taken pass 6, 7 and 18
taken-named : (f : Form) (o : List ℕ) (c : Card) → is_save f o ≡ true → c ≡ table_in f o → AllNamed c
taken-named f o c h e =
    let t = table_in f o in
    let all : AllNamed t = tree-named t (trees-at t (rules t (ruled-keeps f t (taken-is-save f o h).0))) in
    rw e all

module _ (o : List ℕ) (c : Card) where
  pub shows-old : is_save (form_of false) o ≡ true → c ≡ table_in (form_of false) o → Shows true (shown_of o) c
  unfolding shown_of form_of
  shows-old h e = record { shows = rw h (ap table_text (sym e)); named = λ _. taken-named (form_of false) o c h e }

  pub shows-new : (b : Bool) → is_save (form_of false) o ≡ false → b ≡ is_save (form_of true) o → (b ≡ true → c ≡ table_in (form_of true) o) → Shows b (shown_of o) c
  unfolding shown_of form_of
  shows-new true h k e = record { shows = rw (h, ← k) (ap table_text (sym (e refl))); named = λ _. taken-named (form_of true) o c (sym k) (e refl) }
  shows-new false h k e = record { shows = rw (h, ← k) refl; named = λ z. taken-named (form_of true) o c (sym k ∙ z) (e z) }

module _ {b : Bool} {t : List ℕ} {c : Card} (s : Shows b t c) where
  pub shown-taken : b ≡ true → table_text c ≡ t
  shown-taken e = sym (rw e at s.shows)

  pub shown-none : b ≡ false → no_save ≡ t
  shown-none e = sym (rw e at s.shows)

-- ---- the input

last-by : (x : ℕ) (l : List ℕ) → pointwise eqb (drop (length l) (x ∷ l)) (10 ∷ []) ≡ eqb (get_or (x ∷ l) (length l) 0) 10
last-by x [] = and-true (eqb x 10)
  where
    and-true : (b : Bool) → (b && true) ≡ b
    and-true true = refl
    and-true false = refl
last-by x (y ∷ ys) = last-by y ys

ends-by : (l : List ℕ) → pointwise eqb (drop (length l - 1) l) (10 ∷ []) ≡ eqb (get_or l (length l - 1) 0) 10
ends-by [] = refl
ends-by (x ∷ l) = let e : length (x ∷ l) - 1 ≡ length l = omega arith in rw e (last-by x l)

module _ (l : List ℕ) where
  hex-ended : (w : List ℕ) → pointwise eqb (drop (length l - 1) l) (10 ∷ []) ≡ true → w ≡ take (length l - 1) l → w ≡ hex_in l
  unfolding hex_in
  hex-ended w h e = rw (sym (ends-by l) ∙ h) e

  hex-open : pointwise eqb (drop (length l - 1) l) (10 ∷ []) ≡ false → l ≡ hex_in l
  unfolding hex_in
  hex-open h = rw (sym (ends-by l) ∙ h) refl

-- the input without the line's end, where it has one
pub hex-or : (l : Bor (List ℕ)) (r : Option (Bor (List ℕ))) → MatchOption r (pointwise eqb (drop (length l.now - 1) l.now) (10 ∷ []) ≡ false) (λ x. (pointwise eqb (drop (length l.now - 1) l.now) (10 ∷ []) ≡ true) × (x.now ≡ take (length l.now - 1) l.now) × (length x.now + 1 ≡ length l.now)) → (unwrap_or r l).now ≡ hex_in l.now
hex-or l None h = hex-open l.now h
hex-or l (Some x) h = hex-ended l.now x.now h.0 h.1

module _ (l w : List ℕ) (p : w ≡ hex_in l) (b : Bool) (q : b ≡ is_hex_to (2 * save_limit new) w) {card : Card} where
  pub shows-hex : {taken : Bool} → b ≡ true → Shows taken (shown_of (octets_of w)) card → Shows taken (shown l) card
  unfolding shown
  shows-hex t s = rw (sym p, sym q ∙ t) s

  pub shows-other : b ≡ false → Shows false (shown l) card
  unfolding shown
  shows-other t = record { shows = rw (sym p, sym q ∙ t) refl; named = λ z. absurd (never z) }

pub shows-decoded : {ys before after : List ℕ} {n : ℕ} {taken : Bool} {card : Card} → Puts ys before after n → Shows taken (shown_of (take n after)) card → Shows taken (shown_of ys) card
shows-decoded p s = rw (front-is p) at s
