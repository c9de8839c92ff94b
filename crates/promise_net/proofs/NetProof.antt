-- Every line of a net is as two boxes on one line are.
-- Assumes nothing.
use Rattle.std.specs.Prelude.{ℕ, ◌≡◌, Bool, true, ◌&&◌, ◌||◌, eqb}
use Rattle.std.proofs.Common.{arith, sym, ap₂, ◌∙◌}
use Rattle.std.proofs.Math.Path.{refl}
use Rattle.std.proofs.Math.Bool.{false}
use mathlib.Core.List.{List, [], ◌∷◌}
use borrow.Author.Tests.{eqb-true, eqb-false, eq-eqb, ne_eqb}
use Rattle.meaning.specs.Events.{Event, receive, join, leave, route, lost}
use Rattle.meaning.specs.Lists.{by-test, append-nil}
use Rattle.meaning_laws.specs.RoundTrip.{both}
use Rattle.promise.specs.Promise.{Step}
use Rattle.promise_line.specs.Line.{ready, hearing, is_from, sent_by, refuses, after, gets}
use Rattle.promise_line.specs.Line
use Rattle.promise_line.specs.LineProof.{Bound}
use Rattle.promise_line.proofs.LineProof.{ready-bound, user-heard, user-does, giver-heard, giver-does}
use Rattle.promise_net.specs.Net.{Far, nobody, box, Wires, Wired, Net, box_at, laid, arriving, stepped, anew, heard, is_box, over_line, losing, parted, severed, Turn, hears, does, cuts, turn, turns}
use Rattle.promise_net.specs.Cuts.{anew_at, cut-bound}
use Rattle.promise_net.specs.NetProof.{AllBound}

-- ---- the boxes at the two ends of a line, after a step of box k

module _ (far : Wires) (W : Wired far) (w : Net) (k : ℕ) (s : Step) (inbox : ℕ → ℕ → List (List ℕ)) (refused : ℕ → ℕ → Bool) (i p j q : ℕ) (e : far i p ≡ box j q) where
  abbrev next : Net
  next = stepped far w k s inbox refused

  -- box i has done it
  acting : k ≡ i → box_at next i p ≡ after (box_at w i p) s (inbox i p) (refused i p)
  unfolding box_at stepped arriving after
  acting h = rw (h, e, eq-eqb i i refl, ne_eqb j i (λ z. W.apart i p j q e (sym z)), append-nil (inbox i p)) refl

  -- the other has
  facing : k ≡ j → inbox i p ≡ w.inbox i p → refused i p ≡ w.refused i p → box_at next i p ≡ gets (sent_by (box_at w j q) s) (box_at w i p)
  unfolding stepped arriving gets
  facing h a b = unfold box_at in (rw (h, e, a, b, eq-eqb j j refl, ne_eqb i j (W.apart i p j q e)) refl)

  -- neither has
  aside : (i ≡ k → ⊥) → (j ≡ k → ⊥) → inbox i p ≡ w.inbox i p → refused i p ≡ w.refused i p → box_at next i p ≡ box_at w i p
  unfolding box_at stepped arriving
  aside m n a b = rw (e, a, b, ne_eqb i k m, ne_eqb j k n, append-nil (w.inbox i p)) refl

not-from : (far : Wires) (i p j q : ℕ) → far i p ≡ box j q → (v : Event) → over_line far i v ≡ false → is_from p v ≡ false
unfolding over_line is_from is_box
not-from far i p j q e (receive n s) d =
    by-test (eqb n p)
    (λ k. let z : true ≡ false = rw (eqb-true n p k, e) at d in cc)
    (λ k. k)
not-from far i p j q e (join v) d = refl
not-from far i p j q e (leave v) d = refl
not-from far i p j q e (route r via) d = refl
not-from far i p j q e (lost n) d =
    by-test (eqb n p)
    (λ k. let z : true ≡ false = rw (eqb-true n p k, e) at d in cc)
    (λ k. k)

module _ (w : Net) (i p j q : ℕ) (s : Step) (B : Bound (box_at w i p) (box_at w j q)) where
  user-at : is_from p s.does ≡ false → Bound (after (box_at w i p) s (w.inbox i p) (w.refused i p)) (gets (sent_by (box_at w i p) s) (box_at w j q))
  unfolding box_at
  user-at d = user-does (box_at w i p) (box_at w j q) s d B

  giver-at : is_from q s.does ≡ false → Bound (gets (sent_by (box_at w j q) s) (box_at w i p)) (after (box_at w j q) s (w.inbox j q) (w.refused j q))
  unfolding box_at
  giver-at d = giver-does (box_at w i p) (box_at w j q) s d B

module _ (w : Net) (i p j q room : ℕ) (s : List ℕ) (rest : List (List ℕ)) (B : Bound (box_at w i p) (box_at w j q)) where
  user-hears : w.inbox i p ≡ s ∷ rest
      → Bound (after (box_at w i p) (hearing room p s) rest (w.refused i p || refuses (box_at w i p) (hearing room p s))) (gets (sent_by (box_at w i p) (hearing room p s)) (box_at w j q))
  unfolding box_at Line.heard Line.answered
  user-hears u = user-heard (box_at w i p) (box_at w j q) room (s ∷ rest) u B

  giver-hears : w.inbox j q ≡ s ∷ rest
      → Bound (gets (sent_by (box_at w j q) (hearing room q s)) (box_at w i p)) (after (box_at w j q) (hearing room q s) rest (w.refused j q || refuses (box_at w j q) (hearing room q s)))
  unfolding box_at Line.heard Line.answered
  giver-hears u = giver-heard (box_at w i p) (box_at w j q) room (s ∷ rest) u B

-- ---- a step that is no message of another box

-- seen from one line: it is no message of the other end, nor its loss
does-line : (far : Wires) → Wired far → (w : Net) (k : ℕ) (s : Step) (i p j q : ℕ) → far i p ≡ box j q → (k ≡ i → is_from p s.does ≡ false) → (k ≡ j → is_from q s.does ≡ false)
    → Bound (box_at w i p) (box_at w j q) → Bound (box_at (stepped far w k s w.inbox w.refused) i p) (box_at (stepped far w k s w.inbox w.refused) j q)
does-line far W w k s i p j q e not-p not-q B =
    let b : far j q ≡ box i p = W.back i p j q e in
    by-test (eqb k i)
    (λ h. let f : k ≡ i = eqb-true k i h in
    rw (acting far W w k s w.inbox w.refused i p j q e f, facing far W w k s w.inbox w.refused j q i p b f refl refl)
    (user-at w i p j q s B (not-p f)))
    (λ h. by-test (eqb k j)
    (λ g. let f : k ≡ j = eqb-true k j g in
    rw (acting far W w k s w.inbox w.refused j q i p b f, facing far W w k s w.inbox w.refused i p j q e f refl refl)
    (giver-at w i p j q s B (not-q f)))
    (λ g. rw (
      aside far W w k s w.inbox w.refused i p j q e (λ z. eqb-false k i h (sym z)) (λ z. eqb-false k j g (sym z)) refl refl,
      aside far W w k s w.inbox w.refused j q i p b (λ z. eqb-false k j g (sym z)) (λ z. eqb-false k i h (sym z)) refl refl,
    ) B))

does-bound : (far : Wires) → Wired far → (w : Net) → AllBound far w → (k : ℕ) (s : Step) → over_line far k s.does ≡ false → AllBound far (stepped far w k s w.inbox w.refused)
does-bound far W w A k s d i p j q e =
    does-line far W w k s i p j q e
    (λ f. not-from far i p j q e s.does (rw f at d))
    (λ f. not-from far j q i p (W.back i p j q e) s.does (rw f at d))
    (A i p j q e)

-- ---- a message of another box

pub anew-here {ℓ} : {X : Type ℓ} (i p : ℕ) (x : X) (f : ℕ → ℕ → X) → anew i p x f i p ≡ x
unfolding anew
anew-here i p x f = rw (eq-eqb i i refl, eq-eqb p p refl) refl

pub anew-box {ℓ} : {X : Type ℓ} (i p : ℕ) (x : X) (f : ℕ → ℕ → X) (k n : ℕ) → (k ≡ i → ⊥) → anew i p x f k n ≡ f k n
unfolding anew
anew-box i p x f k n d = rw (ne_eqb k i d) refl

pub anew-number {ℓ} : {X : Type ℓ} (i p : ℕ) (x : X) (f : ℕ → ℕ → X) (k n : ℕ) → (n ≡ p → ⊥) → anew i p x f k n ≡ f k n
unfolding anew
anew-number i p x f k n d = rw (ne_eqb n p d) (by-test (eqb k i) (λ e. rw e refl) (λ e. rw e refl))

module _ (far : Wires) (W : Wired far) (w : Net) (A : AllBound far w) (k n room : ℕ) (s : List ℕ) (rest : List (List ℕ)) (u : w.inbox k n ≡ s ∷ rest) where
  abbrev st : Step
  st = hearing room n s

  abbrev under : ℕ → ℕ → List (List ℕ)
  under = anew k n rest w.inbox

  abbrev marks : ℕ → ℕ → Bool
  marks = anew k n (w.refused k n || refuses (box_at w k n) st) w.refused

  hears-bound : AllBound far (stepped far w k st under marks)
  hears-bound i p j q e =
      let b : far j q ≡ box i p = W.back i p j q e in
      by-test (eqb k i)
      (λ h. let f : k ≡ i = eqb-true k i h in
      let o : j ≡ k → ⊥ = λ z. W.apart i p j q e (sym (z ∙ f)) in
      rw (acting far W w k st under marks i p j q e f, facing far W w k st under marks j q i p b f (anew-box k n _ w.inbox j q o) (anew-box k n _ w.refused j q o))
      (by-test (eqb n p)
      (λ g. user-here i p j q f (eqb-true n p g) (A i p j q e))
      (λ g. user-there i p j q (λ z. eqb-false n p g (sym z)) (A i p j q e))))
      (λ h. by-test (eqb k j)
      (λ g. let f : k ≡ j = eqb-true k j g in
      let o : i ≡ k → ⊥ = λ z. W.apart i p j q e (z ∙ f) in
      rw (acting far W w k st under marks j q i p b f, facing far W w k st under marks i p j q e f (anew-box k n _ w.inbox i p o) (anew-box k n _ w.refused i p o))
      (by-test (eqb n q)
      (λ m. giver-here i p j q f (eqb-true n q m) (A i p j q e))
      (λ m. giver-there i p j q (λ z. eqb-false n q m (sym z)) (A i p j q e))))
      (λ g. let o : i ≡ k → ⊥ = λ z. eqb-false k i h (sym z) in
      let o' : j ≡ k → ⊥ = λ z. eqb-false k j g (sym z) in
      rw (aside far W w k st under marks i p j q e o o' (anew-box k n _ w.inbox i p o) (anew-box k n _ w.refused i p o), aside far W w k st under marks j q i p b o' o (anew-box k n _ w.inbox j q o') (anew-box k n _ w.refused j q o')) (A i p j q e)))
    where
      user-here : (i p j q : ℕ) → k ≡ i → n ≡ p → Bound (box_at w i p) (box_at w j q) → Bound (after (box_at w i p) st (under i p) (marks i p)) (gets (sent_by (box_at w i p) st) (box_at w j q))
      user-here i p j q f g B = rw (← f, ← g, anew-here k n rest w.inbox, anew-here k n (w.refused k n || refuses (box_at w k n) st) w.refused) (user-hears w k n j q room s rest (rw (← f, ← g) at B) u)

      user-there : (i p j q : ℕ) → (p ≡ n → ⊥) → Bound (box_at w i p) (box_at w j q) → Bound (after (box_at w i p) st (under i p) (marks i p)) (gets (sent_by (box_at w i p) st) (box_at w j q))
      user-there i p j q d B = rw (anew-number k n rest w.inbox i p d, anew-number k n (w.refused k n || refuses (box_at w k n) st) w.refused i p d) (user-at w i p j q st B (unfold is_from in ne_eqb n p (λ z. d (sym z))))

      giver-here : (i p j q : ℕ) → k ≡ j → n ≡ q → Bound (box_at w i p) (box_at w j q) → Bound (gets (sent_by (box_at w j q) st) (box_at w i p)) (after (box_at w j q) st (under j q) (marks j q))
      giver-here i p j q f g B = rw (← f, ← g, anew-here k n rest w.inbox, anew-here k n (w.refused k n || refuses (box_at w k n) st) w.refused) (giver-hears w i p k n room s rest (rw (← f, ← g) at B) u)

      giver-there : (i p j q : ℕ) → (q ≡ n → ⊥) → Bound (box_at w i p) (box_at w j q) → Bound (gets (sent_by (box_at w j q) st) (box_at w i p)) (after (box_at w j q) st (under j q) (marks j q))
      giver-there i p j q d B = rw (anew-number k n rest w.inbox j q d, anew-number k n (w.refused k n || refuses (box_at w k n) st) w.refused j q d) (giver-at w i p j q st B (unfold is_from in ne_eqb n q (λ z. d (sym z))))

heard-bound : (far : Wires) → Wired far → (w : Net) → AllBound far w → (k n room : ℕ) (under : List (List ℕ)) → w.inbox k n ≡ under → AllBound far (heard far w k n room under)
unfolding heard
heard-bound far W w A k n room [] u = A
heard-bound far W w A k n room (s ∷ rest) u = hears-bound far W w A k n room s rest u

-- ---- a line that is cut

anew-else {ℓ} : {X : Type ℓ} (i p : ℕ) (x : X) (f : ℕ → ℕ → X) (k n : ℕ) → (eqb k i && eqb n p) ≡ false → anew i p x f k n ≡ f k n
unfolding anew
anew-else i p x f k n d = rw d refl

not-both : (a b c d : ℕ) → (a ≡ b → c ≡ d → ⊥) → (eqb a b && eqb c d) ≡ false
not-both a b c d n =
    by-test (eqb a b)
    (λ e. rw e (ne_eqb c d (n (eqb-true a b e))))
    (λ e. rw e refl)

box-one : {i j p q : ℕ} → box i p ≡ box j q → (i ≡ j) × (p ≡ q)
box-one e = (cc, cc)

module _ (far : Wires) (W : Wired far) (w : Net) (A : AllBound far w) (i p j q : ℕ) (e : far i p ≡ box j q) where
  abbrev there : far j q ≡ box i p
  there = W.back i p j q e

  abbrev cut : Net
  cut = severed far w i p (box j q)

  cut-here : box_at cut i p ≡ anew_at (w.past i) p
  unfolding box_at severed parted stepped
  cut-here = rw (anew-here i p [] (anew j q [] (parted far w i p j q).inbox), anew-here i p false (anew j q false (parted far w i p j q).refused), ne_eqb i j (W.apart i p j q e), eq-eqb i i refl) refl

  cut-there : box_at cut j q ≡ anew_at (w.past j) q
  unfolding box_at severed parted stepped
  cut-there =
      let o : j ≡ i → ⊥ = λ z. W.apart i p j q e (sym z) in
      rw (
        anew-box i p [] (anew j q [] (parted far w i p j q).inbox) j q o,
        anew-here j q [] (parted far w i p j q).inbox,
        anew-box i p false (anew j q false (parted far w i p j q).refused) j q o,
        anew-here j q false (parted far w i p j q).refused,
        eq-eqb j j refl,
        ne_eqb j i o,
      ) refl

  cut-else : (k n : ℕ) → (eqb k i && eqb n p) ≡ false → (eqb k j && eqb n q) ≡ false → box_at cut k n ≡ box_at (parted far w i p j q) k n
  unfolding box_at severed
  cut-else k n a b =
      rw (
        anew-else i p [] (anew j q [] (parted far w i p j q).inbox) k n a,
        anew-else j q [] (parted far w i p j q).inbox k n b,
        anew-else i p false (anew j q false (parted far w i p j q).refused) k n a,
        anew-else j q false (parted far w i p j q).refused k n b,
      ) refl

  -- another line: neither of its ends is one of the two
  module _ (k n m r : ℕ) (f : far k n ≡ box m r) (a : k ≡ i → n ≡ p → ⊥) (b : k ≡ j → n ≡ q → ⊥) where
    a' : m ≡ i → r ≡ p → ⊥
    a' x y = let z = box-one (sym there' ∙ e) in b z.0 z.1
      where
        there' : far i p ≡ box k n
        there' = ap₂ far (sym x) (sym y) ∙ W.back k n m r f

    b' : m ≡ j → r ≡ q → ⊥
    b' x y = let z = box-one (sym there' ∙ there) in a z.0 z.1
      where
        there' : far j q ≡ box k n
        there' = ap₂ far (sym x) (sym y) ∙ W.back k n m r f

    else-bound : Bound (box_at cut k n) (box_at cut m r)
    unfolding parted is_from
    else-bound =
        rw (cut-else k n (not-both k i n p a) (not-both k j n q b), cut-else m r (not-both m i r p a') (not-both m j r q b'))
        (does-line far W (stepped far w i (losing p) w.inbox w.refused) j (losing q) k n m r f
        (λ z. ne_eqb q n (λ y. b (sym z) (sym y))) (λ z. ne_eqb q r (λ y. b' (sym z) (sym y)))
        (does-line far W w i (losing p) k n m r f (λ z. ne_eqb p n (λ y. a (sym z) (sym y))) (λ z. ne_eqb p r (λ y. a' (sym z) (sym y))) (A k n m r f)))

  here-bound : Bound (box_at cut i p) (box_at cut j q)
  here-bound = rw (cut-here, cut-there) (cut-bound (w.past i) (w.past j) (unfold box_at in (A i p j q e).user) (unfold box_at in (A i p j q e).giver) p q (W.near i p j q e) (W.near j q i p there))

  there-bound : Bound (box_at cut j q) (box_at cut i p)
  there-bound = rw (cut-here, cut-there) (cut-bound (w.past j) (w.past i) (unfold box_at in (A i p j q e).giver) (unfold box_at in (A i p j q e).user) q p (W.near j q i p there) (W.near i p j q e))

  cuts-bound : AllBound far cut
  cuts-bound k n m r f =
      by-test (eqb k i && eqb n p)
      (λ h. let at = both (eqb k i) (eqb n p) h in
      let x : k ≡ i = eqb-true k i at.0 in
      let y : n ≡ p = eqb-true n p at.1 in
      let z = box-one (sym (ap₂ far (sym x) (sym y) ∙ f) ∙ e) in
      rw (x, y, z.0, z.1) here-bound)
      (λ h. by-test (eqb k j && eqb n q)
      (λ g. let at = both (eqb k j) (eqb n q) g in
      let x : k ≡ j = eqb-true k j at.0 in
      let y : n ≡ q = eqb-true n q at.1 in
      let z = box-one (sym (ap₂ far (sym x) (sym y) ∙ f) ∙ there) in
      rw (x, y, z.0, z.1) there-bound)
      (λ g. else-bound k n m r f (apart_from k i n p h) (apart_from k j n q g)))
    where
      apart_from : (a b c d : ℕ) → (eqb a b && eqb c d) ≡ false → a ≡ b → c ≡ d → ⊥
      apart_from a b c d h x y = let t : true ≡ false = sym (rw (eq-eqb a b x, eq-eqb c d y) refl) ∙ h in let t' : ◌≡◌ {A = ℕ} 0 1 = cc in omega arith

severed-bound : (far : Wires) → Wired far → (w : Net) → AllBound far w → (i p : ℕ) (f : Far) → far i p ≡ f → AllBound far (severed far w i p f)
severed-bound far W w A i p nobody e = unfold severed in A
severed-bound far W w A i p (box j q) e = cuts-bound far W w A i p j q e

-- ---- any turns

turn-bound : (far : Wires) → Wired far → (w : Net) → AllBound far w → (t : Turn) → AllBound far (turn far w t)
unfolding turn
turn-bound far W w A (hears i p room) = heard-bound far W w A i p room (w.inbox i p) refl
turn-bound far W w A (cuts i p) = severed-bound far W w A i p (far i p) refl
turn-bound far W w A (does i s) = by-test (over_line far i s.does) (λ d. rw d A) (λ d. rw d (does-bound far W w A i s d))

pub turns-bound : (far : Wires) → Wired far → (w : Net) → AllBound far w → (ts : List Turn) → AllBound far (turns far w ts)
unfolding turns
turns-bound far W w A [] = A
turns-bound far W w A (t ∷ ts) = turns-bound far W (turn far w t) (turn-bound far W w A t) ts

pub laid-bound : (far : Wires) → Wired far → (base : ℕ → ℕ) → AllBound far (laid base)
unfolding laid box_at ready
laid-bound far W base i p j q e = ready-bound (base i) p (base j) q (W.near i p j q e)
