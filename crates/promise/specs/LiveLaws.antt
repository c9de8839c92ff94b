-- The labels' uses against the live labels of `Promise`, and against the labels that trees carry: each by itself, with no table.
-- Assumes nothing.
use Prim.Native.Nat.{ℕ, suc, ◌+◌, ◌≤◌, ◌<◌, zero-le}
use Rattle.std.proofs.Common.{le_refl, arith, ◌∙◌, subst}
use Rattle.std.specs.Prelude.{◌≡◌, Bool, length, eqb, leb}
use Rattle.std.proofs.Math.Path.{refl, sym, ap}
use Rattle.std.proofs.Math.Bool.{true, false}
use mathlib.Core.List.{List, [], ◌∷◌}
use borrow.Author.Tests.{eqb-true, eqb-false, eq-eqb, ne_eqb, leb-false}
use Rattle.meaning.specs.Octets.{pick, count, same}
use Rattle.meaning.specs.Wire.{Message}
use Rattle.meaning.specs.Card.{Use, free, mapped, awaiting, nobody, is_free, is_awaiting, mapped_to, neighbour_count}
use Rattle.promise.specs.Promise.{Given, of_label, is_about, is_standing, mark, remove, Each}
use Rattle.meaning.specs.Lists.{by-test, picked, same-eq, same_refl, same-no, never}

-- ---- a label's use

unfoldable pub is_mapped : List ℕ → Use → Bool
is_mapped a free = false
is_mapped a (mapped n t) = same t a
is_mapped a (awaiting n t) = false

-- mapped to no neighbour: above 15
unfoldable pub stray : Use → Bool
stray free = false
stray (mapped n t) = leb neighbour_count n
stray (awaiting n t) = false

pub mapped-eq : (a : List ℕ) (u : Use) → is_mapped a u ≡ true → u ≡ mapped (mapped_to u) a
unfolding is_mapped mapped_to
mapped-eq a free e = cc
mapped-eq a (mapped n t) e = ap (mapped n) (same-eq t a e)
mapped-eq a (awaiting n t) e = cc

pub mapped-one : (a b : List ℕ) (u : Use) → is_mapped a u ≡ true → is_mapped b u ≡ true → a ≡ b
unfolding is_mapped
mapped-one a b free e k = cc
mapped-one a b (mapped n t) e k = sym (same-eq t a e) ∙ same-eq t b k
mapped-one a b (awaiting n t) e k = cc

pub mapped-not-free : (a : List ℕ) (u : Use) → is_mapped a u ≡ true → u ≡ free → ⊥
unfolding is_mapped
mapped-not-free a u e f = let z : false ≡ true = sym (ap (is_mapped a) f) ∙ e in let z' : ◌≡◌ {A = ℕ} 0 1 = cc in omega arith

pub free-eq : (u : Use) → is_free u ≡ true → u ≡ free
unfolding is_free
free-eq free e = refl
free-eq (mapped n t) e = cc
free-eq (awaiting n t) e = cc

-- a label that is held for somebody is mapped
pub held_mapped : (u : Use) → (mapped_to u ≡ nobody → ⊥) → (a : List ℕ) × (u ≡ mapped (mapped_to u) a)
unfolding mapped_to
held_mapped free h = absurd (h refl)
held_mapped (mapped n t) h = (t, refl)
held_mapped (awaiting n t) h = absurd (h refl)

pub mapped-near : (a : List ℕ) (u : Use) → is_mapped a u ≡ true → stray u ≡ false → mapped_to u < neighbour_count
unfolding is_mapped stray mapped_to
mapped-near a free e s = absurd (let z : ◌≡◌ {A = ℕ} 0 1 = cc in omega arith)
mapped-near a (mapped n t) e s = leb-false 16 n s
mapped-near a (awaiting n t) e s = absurd (let z : ◌≡◌ {A = ℕ} 0 1 = cc in omega arith)

pub stray-not : (a : List ℕ) (u : Use) → is_mapped a u ≡ true → stray u ≡ false → mapped_to u ≡ nobody → ⊥
stray-not a u e s z = let near = mapped-near a u e s in omega arith

-- ---- trees and labels: the tree named a carries lab a, the label l has use U l

pub record Linked (lab : List ℕ → ℕ) (U : ℕ → Use) : Type 0 where
  pub zero-free : U 0 ≡ free
  pub real : (l : ℕ) → stray (U l) ≡ false
  pub own : (a : List ℕ) → (lab a ≡ 0 → ⊥) → is_mapped a (U (lab a)) ≡ true
  pub led : (a : List ℕ) (l : ℕ) → is_mapped a (U l) ≡ true → lab a ≡ l

pub linked-eq : (lab lab' : List ℕ → ℕ) (U U' : ℕ → Use) → ((a : List ℕ) → lab' a ≡ lab a) → ((l : ℕ) → U' l ≡ U l) → Linked lab U → Linked lab' U'
linked-eq lab lab' U U' e k L = record {
  zero-free = k 0 ∙ L.zero-free;
  real = λ l. rw (k l) (L.real l);
  own = λ a nz. rw (e a, k (lab a)) (L.own a (λ z. nz (e a ∙ z)));
  led = λ a l h. e a ∙ L.led a l (rw (k l) at h);
}

-- the use of the label m changes
abbrev pub upd : (ℕ → Use) → ℕ → Use → ℕ → Use
upd U m u l = pick (eqb m l) u (U l)

abbrev pub carry : (List ℕ → ℕ) → List ℕ → ℕ → List ℕ → ℕ
carry lab a m b = pick (same a b) m (lab b)

module _ (lab : List ℕ → ℕ) (U : ℕ → Use) (L : Linked lab U) where
  -- a free label's use is nobody's
  pub free-linked : (m : ℕ) (h : ℕ) (a : List ℕ) → is_awaiting h a (U m) ≡ true → Linked lab (upd U m free)
  unfolding is_mapped stray is_awaiting
  free-linked m h a w = record {
    zero-free = picked (λ (u : Use). u ≡ free) (eqb m 0) (λ _. refl) (λ _. L.zero-free);
    real = λ l. picked (λ (u : Use). stray u ≡ false) (eqb m l) (λ _. refl) (λ _. L.real l);
    own = λ b nz. by-test (eqb m (lab b))
        (λ e. absurd (never (sym (awaits-not b (U m) w) ∙ ap (λ (k : ℕ). is_mapped b (U k)) (eqb-true m (lab b) e) ∙ L.own b nz)))
        (λ e. rw e (L.own b nz));
    led = λ b l e. by-test (eqb m l)
        (λ k. let z : false ≡ true = rw k at e in absurd (never z))
        (λ k. L.led b l (rw k at e));
  }
    where
      awaits-not : (b : List ℕ) (u : Use) → is_awaiting h a u ≡ true → is_mapped b u ≡ false
      awaits-not b free e = refl
      awaits-not b (mapped n t) e = absurd (never e)
      awaits-not b (awaiting n t) e = refl

  pub up-linked : (a : List ℕ) (m h : ℕ) → is_mapped a (U m) ≡ true → Linked (carry lab a 0) (upd U m (awaiting h a))
  unfolding is_mapped stray
  up-linked a m h mp = record {
    zero-free = rw (ne_eqb m 0 (λ z. mapped-not-free a (U m) mp (ap U z ∙ L.zero-free))) L.zero-free;
    real = λ l. picked (λ (u : Use). stray u ≡ false) (eqb m l) (λ _. refl) (λ _. L.real l);
    own = λ b nzb. by-test (same a b)
        (λ e. absurd ((rw e at nzb) refl))
        (λ e. let nzb' : lab b ≡ 0 → ⊥ = rw e at nzb in rw e (by-test (eqb m (lab b))
        (λ k. absurd (same-no a b e (mapped-one a b (U (lab b)) (subst (λ (x : ℕ). is_mapped a (U x) ≡ true) (eqb-true _ _ k) mp) (L.own b nzb'))))
        (λ k. rw k (L.own b nzb'))));
    led = λ b l e. by-test (eqb m l)
        (λ k. let z : false ≡ true = rw k at e in absurd (never z))
        (λ k. let e' : is_mapped b (U l) ≡ true = rw k at e in by-test (same a b)
        (λ s. absurd (eqb-false m l k (sym (L.led a m mp) ∙ ap lab (same-eq a b s) ∙ L.led b l e')))
        (λ s. rw s (L.led b l e')));
  }

  -- another tree's label keeps its use
  pub up-keeps : (a : List ℕ) (m : ℕ) (v : Use) (b : List ℕ) → is_mapped a (U m) ≡ true → same a b ≡ false → upd U m v (lab b) ≡ U (lab b)
  up-keeps a m v b mp n =
      by-test (eqb m (lab b))
      (λ k. let mp' : is_mapped a (U (lab b)) ≡ true = subst (λ (x : ℕ). is_mapped a (U x) ≡ true) (eqb-true m (lab b) k) mp in
      absurd (same-no a b n (mapped-one a b (U (lab b)) mp' (L.own b (λ z. mapped-not-free a (U (lab b)) mp' (ap U z ∙ L.zero-free))))))
      (λ k. rw k refl)

  pub give-keeps : (m : ℕ) (v : Use) (b : List ℕ) → U m ≡ free → (m ≡ 0 → ⊥) → upd U m v (lab b) ≡ U (lab b)
  give-keeps m v b fr nz =
      by-test (eqb m (lab b))
      (λ k. absurd (mapped-not-free b (U (lab b)) (L.own b (λ z. nz (eqb-true m (lab b) k ∙ z))) (ap U (sym (eqb-true m (lab b) k)) ∙ fr)))
      (λ k. rw k refl)

  pub give-linked : (a : List ℕ) (m u : ℕ) → lab a ≡ 0 → U m ≡ free → (m ≡ 0 → ⊥) → leb neighbour_count u ≡ false → Linked (carry lab a m) (upd U m (mapped u a))
  unfolding is_mapped stray
  give-linked a m u none fr nz ok = record {
    zero-free = rw (ne_eqb m 0 nz) L.zero-free;
    real = λ l. picked (λ (x : Use). stray x ≡ false) (eqb m l) (λ _. ok) (λ _. L.real l);
    own = λ b nzb. by-test (same a b)
        (λ e. rw (e, eq-eqb m m refl) e)
        (λ e. let nzb' : lab b ≡ 0 → ⊥ = rw e at nzb in rw e (by-test (eqb m (lab b))
        (λ k. absurd (mapped-not-free b (U (lab b)) (L.own b nzb') (ap U (sym (eqb-true _ _ k)) ∙ fr)))
        (λ k. rw k (L.own b nzb'))));
    led = λ b l e. by-test (eqb m l)
        (λ k. let s : same a b ≡ true = rw k at e in rw s (eqb-true m l k))
        (λ k. let e' : is_mapped b (U l) ≡ true = rw k at e in by-test (same a b)
        (λ s. let l0 : l ≡ 0 = sym (L.led b l e') ∙ ap lab (sym (same-eq a b s)) ∙ none in
        absurd (mapped-not-free b (U l) e' (ap U l0 ∙ L.zero-free)))
        (λ s. rw s (L.led b l e')));
  }

-- ---- live labels, by label

unfoldable pub only : ℕ → List Given → List Given
only l [] = []
only l (g ∷ gs) = pick (of_label l g) (g ∷ only l gs) (only l gs)

unfoldable pub givens : ℕ → Use → List Given
givens l free = []
givens l (mapped n a) = record { to = n; tree = a; label = l; withdrawn = false } ∷ []
givens l (awaiting n a) = record { to = n; tree = a; label = l; withdrawn = true } ∷ []

-- the live labels are those in use, each as it is used
unfoldable pub Books : (ℕ → Use) → List Given → Type 0
Books U gs = (l : ℕ) → only l gs ≡ givens l (U l)

pub books-eq : (U U' : ℕ → Use) (gs : List Given) → ((l : ℕ) → U' l ≡ U l) → Books U gs → Books U' gs
unfolding Books
books-eq U U' gs e B l = rw (e l) (B l)

pub count-only : (l : ℕ) (gs : List Given) → count (of_label l) gs ≡ length (only l gs)
unfolding count only
count-only l [] = refl
count-only l (g ∷ gs) = by-test (of_label l g) (λ e. rw e (ap suc (count-only l gs))) (λ e. rw e (count-only l gs))

givens-one : (l : ℕ) (u : Use) → length (givens l u) ≤ 1
unfolding givens
givens-one l free = zero-le
givens-one l (mapped n a) = le_refl 1
givens-one l (awaiting n a) = le_refl 1

pub books-one : (U : ℕ → Use) (gs : List Given) → Books U gs → (l : ℕ) → count (of_label l) gs ≤ 1
unfolding Books
books-one U gs B l = rw (count-only l gs, B l) (givens-one l (U l))

pub books-free : (U : ℕ → Use) (gs : List Given) → Books U gs → (l : ℕ) → U l ≡ free → count (of_label l) gs ≡ 0
unfolding Books givens
books-free U gs B l e = rw (count-only l gs, B l, e) refl

pub books-none : (l : ℕ) (u : Use) → length (givens l u) ≡ 0 → u ≡ free
unfolding givens
books-none l free e = refl
books-none l (mapped n a) e = absurd (omega arith)
books-none l (awaiting n a) e = absurd (omega arith)

pub each-only : (P : Given → Type 0) (gs : List Given) → ((l : ℕ) → Each P (only l gs)) → Each P gs
unfolding Each only of_label
each-only P [] h = tt
each-only P (g ∷ gs) h = (
  (rw (eq-eqb g.label g.label refl) at (h g.label)).0,
  each-only P gs (λ l. by-test (eqb g.label l) (λ e. (rw e at (h l)).1) (λ e. rw e at (h l))),
)

module _ (n : ℕ) (m : Message) where
  only-mark : (l : ℕ) (gs : List Given) → only l (mark n m gs) ≡ mark n m (only l gs)
  unfolding only mark of_label
  only-mark l [] = refl
  only-mark l (g ∷ gs) =
      by-test (is_about n m g)
      (λ k. by-test (eqb g.label l) (λ e. rw (k, e) (rw (only-mark l gs, k) refl)) (λ e. rw (k, e) (only-mark l gs)))
      (λ k. by-test (eqb g.label l) (λ e. rw (k, e) (rw (only-mark l gs, k) refl)) (λ e. rw (k, e) (only-mark l gs)))

  only-remove : (l : ℕ) (gs : List Given) → only l (remove n m gs) ≡ remove n m (only l gs)
  unfolding only remove of_label
  only-remove l [] = refl
  only-remove l (g ∷ gs) =
      by-test (is_about n m g)
      (λ k. by-test (eqb g.label l) (λ e. rw (k, e) (rw k (only-remove l gs))) (λ e. rw (k, e) (only-remove l gs)))
      (λ k. by-test (eqb g.label l) (λ e. rw (k, e) (rw k (ap (λ (x : List Given). g ∷ x) (only-remove l gs)))) (λ e. rw (k, e) (only-remove l gs)))

  -- of another label
  not-about : (l : ℕ) (g : Given) → eqb m.label l ≡ false → eqb g.label l ≡ true → is_about n m g ≡ false
  unfolding is_about
  not-about l g d e = rw (ne_eqb g.label m.label (λ k. eqb-false m.label l d (sym k ∙ eqb-true _ _ e))) refl

  mark-other : (l : ℕ) (gs : List Given) → eqb m.label l ≡ false → mark n m (only l gs) ≡ only l gs
  unfolding only mark of_label
  mark-other l [] d = refl
  mark-other l (g ∷ gs) d = by-test (eqb g.label l) (λ e. rw e (rw (not-about l g d e, mark-other l gs d) refl)) (λ e. rw e (mark-other l gs d))

  remove-other : (l : ℕ) (gs : List Given) → eqb m.label l ≡ false → remove n m (only l gs) ≡ only l gs
  unfolding only remove of_label
  remove-other l [] d = refl
  remove-other l (g ∷ gs) d = by-test (eqb g.label l) (λ e. rw e (rw (not-about l g d e, remove-other l gs d) refl)) (λ e. rw e (remove-other l gs d))

  pub mark-length : (gs : List Given) → length (mark n m gs) ≡ length gs
  unfolding mark
  mark-length [] = refl
  mark-length (g ∷ gs) = ap suc (mark-length gs)

  remove-length : (gs : List Given) → count (is_about n m) gs + length (remove n m gs) ≡ length gs
  unfolding remove count
  remove-length [] = refl
  remove-length (g ∷ gs) = by-test (is_about n m g) (λ k. rw k (omega (arith, remove-length gs))) (λ k. rw k (omega (arith, remove-length gs)))

  about-label : (g : Given) → eqb g.label m.label ≡ false → is_about n m g ≡ false
  unfolding is_about
  about-label g e = rw e refl

  count-about : (gs : List Given) → count (is_about n m) gs ≡ count (is_about n m) (only m.label gs)
  unfolding count only of_label
  count-about [] = refl
  count-about (g ∷ gs) =
      by-test (eqb g.label m.label)
      (λ e. rw e (rw (count-about gs) refl))
      (λ e. rw (e, about-label g e) (count-about gs))

  standing-label : (g : Given) → eqb g.label m.label ≡ false → is_standing n m g ≡ false
  unfolding is_standing
  standing-label g e = rw (about-label g e) refl

  count-standing : (gs : List Given) → count (is_standing n m) gs ≡ count (is_standing n m) (only m.label gs)
  unfolding count only of_label
  count-standing [] = refl
  count-standing (g ∷ gs) =
      by-test (eqb g.label m.label)
      (λ e. rw e (rw (count-standing gs) refl))
      (λ e. rw (e, standing-label g e) (count-standing gs))

module _ (U : ℕ → Use) (gs : List Given) (B : Books U gs) where
  -- a label that is mapped is noted so
  pub books-standing : (a : List ℕ) (m h k : ℕ) → U m ≡ mapped h a → count (is_standing h (record { kind = k; name = a; label = m })) gs ≡ 1
  unfolding Books givens count is_standing is_about
  books-standing a m h k us = count-standing h (record { kind = k; name = a; label = m }) gs ∙ rw (B m, us) (rw (eq-eqb m m refl, eq-eqb h h refl, same_refl a) refl)

  pub books-give : (a : List ℕ) (m u : ℕ) → U m ≡ free → Books (upd U m (mapped u a)) (record { to = u; tree = a; label = m; withdrawn = false } ∷ gs)
  unfolding Books only of_label givens
  books-give a m u fr l =
      by-test (eqb m l)
      (λ e. rw e (subst (λ (x : ℕ). record { to = u; tree = a; label = m; withdrawn = false } ∷ only x gs ≡ record { to = u; tree = a; label = x; withdrawn = false } ∷ []) (eqb-true m l e)
      (rw (B m, fr) refl)))
      (λ e. rw e (B l))

  pub books-mark : (a : List ℕ) (m h k : ℕ) → U m ≡ mapped h a → Books (upd U m (awaiting h a)) (mark h (record { kind = k; name = a; label = m }) gs)
  unfolding Books givens mark is_about
  books-mark a m h k us l =
      only-mark h (record { kind = k; name = a; label = m }) l gs
      ∙ by-test (eqb m l)
      (λ e. rw e (subst (λ (x : ℕ). mark h (record { kind = k; name = a; label = m }) (only x gs) ≡ record { to = h; tree = a; label = x; withdrawn = true } ∷ []) (eqb-true m l e)
      (rw (B m, us) (rw (eq-eqb m m refl, eq-eqb h h refl, same_refl a) refl))))
      (λ e. rw e (mark-other h (record { kind = k; name = a; label = m }) l gs e ∙ B l))

  pub books-remove : (a : List ℕ) (m h k : ℕ) → U m ≡ awaiting h a → Books (upd U m free) (remove h (record { kind = k; name = a; label = m }) gs)
  unfolding Books givens remove is_about
  books-remove a m h k us l =
      only-remove h (record { kind = k; name = a; label = m }) l gs
      ∙ by-test (eqb m l)
      (λ e. rw e (subst (λ (x : ℕ). remove h (record { kind = k; name = a; label = m }) (only x gs) ≡ []) (eqb-true m l e)
      (rw (B m, us) (rw (eq-eqb m m refl, eq-eqb h h refl, same_refl a) refl))))
      (λ e. rw e (remove-other h (record { kind = k; name = a; label = m }) l gs e ∙ B l))

  pub books-removed : (a : List ℕ) (m h k : ℕ) → U m ≡ awaiting h a → suc (length (remove h (record { kind = k; name = a; label = m }) gs)) ≡ length gs
  unfolding Books givens count is_about
  books-removed a m h k us =
      let one : count (is_about h (record { kind = k; name = a; label = m })) gs ≡ 1 =
      count-about h (record { kind = k; name = a; label = m }) gs ∙ rw (B m, us) (rw (eq-eqb m m refl, eq-eqb h h refl, same_refl a) refl) in
      omega (arith, remove-length h (record { kind = k; name = a; label = m }) gs)
