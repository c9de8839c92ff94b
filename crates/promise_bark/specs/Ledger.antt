-- A label that is live at a neighbour for a tree stays so through every step but two: its Release from that neighbour, and the neighbour's loss.
-- Assumes nothing.
use Rattle.std.specs.Prelude.{ℕ, ◌≡◌, Bool, true, ◌&&◌}
use Rattle.std.proofs.Common.{arith, sym, ◌∙◌}
use Rattle.std.proofs.Math.Path.{refl, subst}
use Rattle.std.proofs.Math.Bool.{false}
use mathlib.Core.List.{List, [], ◌∷◌}
use Rattle.std.proofs.Math.Dec.{eqb}
use borrow.Author.Tests.{eqb-true, eqb-false, eq-eqb}
use Rattle.meaning.specs.Octets.{count}
use Rattle.meaning.specs.Lists.{by-test, picked}
use Rattle.meaning_laws.specs.RoundTrip.{both}
use Rattle.meaning.specs.Wire.{mapping, withdraw, release, Message, message_in, Sent}
use Rattle.meaning.specs.Events.{Event, receive, join, leave, route, lost}
use Rattle.promise.specs.Promise.{Given, of_label, is_about, mark, remove, without, note_sent, note_all, note_taken, Step, Past, is_taken, live_at, sends, then_step, NoneLive}
use Rattle.promise.specs.PromiseProof.{Upheld}
use Rattle.promise.proofs.PromiseProof.{kept}
use Rattle.promise_line.specs.Life.{about}
use Rattle.promise_line.specs.Sends.{is_down}
use Rattle.promise_bark.specs.Bark.{NotGiven, Alive}

-- a Release of l from neighbour q, or the loss of q
unfoldable pub frees : ℕ → ℕ → Event → Bool
frees q l (receive n s) = eqb n q && is_down l (message_in s)
frees q l (join e) = false
frees q l (leave e) = false
frees q l (route r via) = false
frees q l (lost n) = eqb n q

module _ (q : ℕ) (a : List ℕ) (l : ℕ) where
  abbrev M : Message
  M = about mapping a l

  about-place : (n : ℕ) (m : Message) (g : Given) → is_about n m g ≡ true → (g.label ≡ m.label) × (g.to ≡ n)
  unfolding is_about
  about-place n m g k = let at = both (eqb g.label m.label) (eqb g.to n) (both (eqb g.label m.label && eqb g.to n) _ k).0 in (eqb-true _ _ at.0, eqb-true _ _ at.1)

  -- a Release of another label, or of another neighbour
  about-other : (n : ℕ) (m : Message) (g : Given) → (eqb n q && eqb m.label l) ≡ false → is_about n m g ≡ true → is_about q M g ≡ false
  about-other n m g d k =
      by-test (is_about q M g)
      (λ h. let x = about-place n m g k in
      let y = about-place q M g h in
      let z : true ≡ false = sym (rw (eq-eqb n q (sym x.1 ∙ y.1), eq-eqb m.label l (sym x.0 ∙ y.0)) refl) ∙ d in
      absurd (let z' : ◌≡◌ {A = ℕ} 0 1 = cc in omega arith))
      (λ h. h)

  alive-remove : (n : ℕ) (m : Message) (gs : List Given) → (eqb n q && eqb m.label l) ≡ false → count (is_about q M) (remove n m gs) ≡ count (is_about q M) gs
  unfolding count remove
  alive-remove n m [] d = refl
  alive-remove n m (g ∷ gs) d =
      by-test (is_about n m g)
      (λ k. rw (k, about-other n m g d k) (alive-remove n m gs d))
      (λ k. by-test (is_about q M g) (λ h. rw (k, h) (rw (alive-remove n m gs d) refl)) (λ h. rw (k, h) (alive-remove n m gs d)))

  alive-without : (n : ℕ) (gs : List Given) → eqb n q ≡ false → count (is_about q M) (without n gs) ≡ count (is_about q M) gs
  unfolding count without
  alive-without n [] d = refl
  alive-without n (g ∷ gs) d =
      by-test (eqb g.to n)
      (λ k. rw (k, elsewhere g (eqb-true _ _ k)) (alive-without n gs d))
      (λ k. rw k (rw (alive-without n gs d) refl))
    where
      elsewhere : (g : Given) → g.to ≡ n → is_about q M g ≡ false
      elsewhere g e = by-test (is_about q M g) (λ h. absurd (eqb-false n q d (sym e ∙ (about-place q M g h).1))) (λ h. h)

  about-marked : (g : Given) → is_about q M (record { to = g.to; tree = g.tree; label = g.label; withdrawn = true }) ≡ is_about q M g
  unfolding is_about
  about-marked g = refl

  alive-mark : (n : ℕ) (m : Message) (gs : List Given) → count (is_about q M) (mark n m gs) ≡ count (is_about q M) gs
  unfolding count mark
  alive-mark n m [] = refl
  alive-mark n m (g ∷ gs) =
      by-test (is_about n m g)
      (λ k. rw (k, about-marked g, alive-mark n m gs) refl)
      (λ k. rw (k, alive-mark n m gs) refl)

  none-about : (gs : List Given) → count (of_label l) gs ≡ 0 → count (is_about q M) gs ≡ 0
  unfolding count of_label is_about
  none-about [] e = refl
  none-about (g ∷ gs) e =
      by-test (eqb g.label l)
      (λ k. absurd (let z = rw k at e in omega arith))
      (λ k. rw k (none-about gs (rw k at e)))

  -- a Mapping of a label that is not live
  alive-map : (n : ℕ) (m : Message) (gs : List Given) → count (of_label m.label) gs ≡ 0 → Alive q gs a l → Alive q (record { to = n; tree = m.name; label = m.label; withdrawn = false } ∷ gs) a l
  unfolding count is_about
  alive-map n m gs none alive =
      by-test (eqb m.label l)
      (λ k. absurd (let same-label : m.label ≡ l = eqb-true _ _ k in let z = none-about gs (rw same-label at none) in omega arith))
      (λ k. rw k alive)

  alive-note : (n : ℕ) (m : Message) (gs : List Given) → (m.kind ≡ mapping → count (of_label m.label) gs ≡ 0) → Alive q gs a l → Alive q (note_sent n m gs) a l
  unfolding note_sent
  alive-note n m gs none alive =
      by-test (eqb m.kind mapping)
      (λ k. rw k (alive-map n m gs (none (eqb-true _ _ k)) alive))
      (λ k. rw k (picked (λ (x : List Given). Alive q x a l) (eqb m.kind withdraw) (λ _. alive-mark n m gs ∙ alive) (λ _. alive)))

  alive-all : (ms : List Sent) (gs : List Given) → NoneLive ms gs → Alive q gs a l → Alive q (note_all ms gs) a l
  unfolding note_all NoneLive
  alive-all [] gs f alive = alive
  alive-all (m ∷ ms) gs f alive = alive-all ms (note_sent m.to m.message gs) f.1 (alive-note m.to m.message gs f.0 alive)

  alive-taken : (e : Event) (gs : List Given) → frees q l e ≡ false → Alive q gs a l → Alive q (note_taken e gs) a l
  unfolding note_taken frees is_down
  alive-taken (receive n s) gs d alive =
      by-test (eqb (message_in s).kind release)
      (λ k. rw k (alive-remove n (message_in s) gs (rw k at d) ∙ alive))
      (λ k. rw k alive)
  alive-taken (join e) gs d alive = alive
  alive-taken (leave e) gs d alive = alive
  alive-taken (route r via) gs d alive = alive
  alive-taken (lost n) gs d alive = alive-without n gs d ∙ alive

  alive-at : (p : Past) (s : Step) → frees q l s.does ≡ false → Alive q p.live a l → Alive q (live_at p s) a l
  unfolding live_at
  alive-at p s d alive = picked (λ (gs : List Given). Alive q gs a l) (is_taken p.card s) (λ _. alive-taken s.does p.live d alive) (λ _. alive)

  pub alive-then : (p : Past) → Upheld p → (s : Step) → frees q l s.does ≡ false → Alive q p.live a l → Alive q (then_step p s).live a l
  unfolding then_step
  alive-then p u s d alive = alive-all (sends p.card s) (live_at p s) ((kept p u).anew s) (alive-at p s d alive)

  -- and no step but that one gives it again
  not-given : (ms : List Sent) (gs : List Given) → NoneLive ms gs → Alive q gs a l → NotGiven l ms
  unfolding NoneLive NotGiven
  not-given [] gs f alive = tt
  not-given (m ∷ ms) gs f alive = (
    (λ k e. let none : count (of_label l) gs ≡ 0 = subst (λ (x : ℕ). count (of_label x) gs ≡ 0) e (f.0 k) in let z = none-about gs none in omega arith),
    not-given ms (note_sent m.to m.message gs) f.1 (alive-note m.to m.message gs f.0 alive),
  )

  pub step-not-given : (p : Past) → Upheld p → (s : Step) → frees q l s.does ≡ false → Alive q p.live a l → NotGiven l (sends p.card s)
  step-not-given p u s d alive = not-given (sends p.card s) (live_at p s) ((kept p u).anew s) (alive-at p s d alive)
