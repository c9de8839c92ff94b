-- THE SOFT TICK OF THE CODE: in a net of memories, once orders have stopped, no more messages are heard than the measure says, whatever packets travel meanwhile. Of the calls it takes their contracts and nothing more.
-- Assumes nothing.
use Prim.Native.Nat.{ℕ, ◌+◌, ◌≤◌}
use Rattle.std.proofs.Common.{arith, sym, ap₂, ◌∙◌, subst}
use Rattle.std.proofs.Math.Path.{◌≡◌, refl, ap}
use Rattle.std.proofs.Math.Bool.{Bool}
use Rattle.std.specs.Prelude.{true, ◌||◌}
use mathlib.Core.List.{List, [], ◌∷◌, ◌++◌}
use Rattle.meaning.specs.Lists.{append-nil}
use Rattle.meaning.specs.Card.{Feed}
use Rattle.promise_line.specs.Line.{hearing, refuses}
use Rattle.promise_net.specs.Net.{Wires, Wired, Net, box_at, anew}
use Rattle.promise_net.specs.Net
use Rattle.promise_bark.specs.Bark.{Item, letter, packet, Traffic, messages, talk, copies_to, passed, taken, turn}
use Rattle.promise_bark.specs.Bark
use Rattle.promise_bark.proofs.Queues.{messages-append, messages-passed}
use Rattle.promise_bark.proofs.BarkProof.{anew-at, messages-anew, messages-copies-to, talk-steps}
use Rattle.promise_tick.specs.Tick.{Ear, Rank, ahead, Within, some, delivered, hearings}
use Rattle.promise_tick.specs.TickProof.{Fit, Ready}
use Rattle.promise_tick.proofs.TickProof.{later-ready, later-most, none_ahead}
use Rattle.promise_kept.specs.BarkKept.{Plant, copied, past_at, traffic_of, Goes, hears, sends, does, tells, puts, comes, loses, passes, cuts}
use Rattle.promise_kept.proofs.BarkKept.{heard-path, reached-sure}
use Rattle.promise_kept.specs.TickKept.{talk_of, is_quiet, heard_by, Serves, still, then, TickOfMemories}

-- ---- what goes on among the boxes

-- a packet is no talk
copied-talk : (far : Wires) (w : Plant) (i : ℕ) (a : List ℕ) (f : Feed) (under : ℕ → ℕ → List Item) → ((k q : ℕ) → messages (under k q) ≡ messages (w.line k q)) → talk_of (copied far w i a f under) ≡ talk_of w
unfolding talk traffic_of copied
copied-talk far w i a f under e = λ t. record {
  past = λ x. past_at (w.at x);
  inbox = λ x q. (messages-append (under x q) (copies_to i a f.branches (far x q)) ∙ ap₂ ◌++◌ (e x q) (messages-copies-to i a f.branches (far x q)) ∙ append-nil (messages (w.line x q))) t;
  refused = w.refused;
}

off-line : (w : Plant) (i p : ℕ) (a : List ℕ) (l : ℕ) (rest : List Item) → w.line i p ≡ packet a l ∷ rest → (k q : ℕ) → messages (anew i p rest w.line k q) ≡ messages (w.line k q)
off-line w i p a l rest e k q = anew-at (λ (x y : ℕ) (xs : List Item). messages xs ≡ messages (w.line x y)) i p rest w.line k q (unfold messages in (ap messages (sym e))) (λ _. refl)

-- a message is heard as in `Net`
heard-talk : (far : Wires) (x : Traffic) (i p room : ℕ) (s : List ℕ) (rest : List Item) → x.line i p ≡ letter s ∷ rest → talk (turn far x (Bark.takes i p room)) ≡ Net.turn far (talk x) (Net.hears i p room)
heard-talk far x i p room s rest e =
    ap talk first
    ∙ talk-steps far x i (hearing room p s) (anew i p rest x.line) (anew i p (messages rest) (talk x).inbox) marks (λ k q. unfold talk in messages-anew i p rest x.line k q)
    ∙ last
  where
    marks : ℕ → ℕ → Bool
    marks = anew i p (x.refused i p || refuses (box_at (talk x) i p) (hearing room p s)) x.refused

    first : turn far x (Bark.takes i p room) ≡ Bark.stepped far x i (hearing room p s) (anew i p rest x.line) marks
    first = unfold turn taken in rw e refl

    last : Net.stepped far (talk x) i (hearing room p s) (anew i p (messages rest) (talk x).inbox) marks ≡ Net.turn far (talk x) (Net.hears i p room)
    last = unfold Net.turn Net.heard talk in rw e (unfold messages in refl)

-- ---- one of them

module _ (far : Wires) (W : Wired far) (n : ℕ) (I : Within far n) (rank : Rank) (P : List ℕ → Type 0) where
  -- the measure is no higher by more than was heard, and all that it asks for stays
  abbrev Goes_on : Net → Net → ℕ → Type 0
  Goes_on w v m = Ready far rank P v × (m + ahead rank n v ≤ ahead rank n w)

  same-on : (w v : Net) → v ≡ w → Ready far rank P w → Goes_on w v 0
  same-on w v e R = (subst (Ready far rank P) (sym e) R, rw e (omega arith))

  heard-on : (w v : Net) (i p room : ℕ) (s : List ℕ) (rest : List (List ℕ)) → w.inbox i p ≡ s ∷ rest → v ≡ Net.turn far w (Net.hears i p room) → Ready far rank P w → Goes_on w v 1
  unfolding hearings Net.turns delivered some
  heard-on w v i p room s rest u e R =
      let ear : Ear = record { at = i; from = p; room = room } in
      let less = rw u at (later-most far W n I rank P w R (ear ∷ [])) in
      (subst (Ready far rank P) (sym e) (later-ready far W n I rank P w R (ear ∷ [])), rw e (omega arith))

  goes_on : (w v : Plant) (g : Goes far w v) → is_quiet g ≡ true → Ready far rank P (talk_of w) → Goes_on (talk_of w) (talk_of v) (heard_by g)
  unfolding is_quiet heard_by
  goes_on w v (hears {k = k} {ns = ns} {os = os} i p s rest e h m) q R =
      heard-on (talk_of w) _ i p k.room s (messages rest) (unfold talk traffic_of messages in ap messages e)
      (ap talk (heard-path far w i p s rest k ns os e (λ z. record { room = k.room; does = h z }) m) ∙ heard-talk far (traffic_of w) i p k.room s rest (unfold traffic_of in e)) R
  goes_on w v (sends i p a l rest e m) q R = same-on (talk_of w) _ (copied-talk far w i a _ _ (off-line w i p a l rest e)) R
  goes_on w v (does i d m) q R = absurd (let z : ◌≡◌ {A = ℕ} 0 1 = cc in omega arith)
  goes_on w v (tells i m) q R = absurd (let z : ◌≡◌ {A = ℕ} 0 1 = cc in omega arith)
  goes_on w v (puts i a m) q R = same-on (talk_of w) _ (copied-talk far w i a _ _ (λ k r. refl)) R
  goes_on w v (comes i p a l d m) q R = same-on (talk_of w) _ (copied-talk far w i a _ _ (λ k r. refl)) R
  goes_on w v (loses i p a l rest e) q R = same-on (talk_of w) _ (copied-talk far w i a _ _ (off-line w i p a l rest e)) R
  goes_on w v (passes i p x) q R = same-on (talk_of w) _ (copied-talk far w i [] _ _ (λ k r. anew-at (λ (y z : ℕ) (xs : List Item). messages xs ≡ messages (w.line y z)) i p (passed x (w.line i p)) w.line k r (messages-passed x (w.line i p)) (λ _. refl))) R
  goes_on w v (cuts i p j r e h c u o g d) q R = absurd (let z : ◌≡◌ {A = ℕ} 0 1 = cc in omega arith)

  serves_on : (w v : Plant) (m : ℕ) → Serves far w v m → Ready far rank P (talk_of w) → Goes_on (talk_of w) (talk_of v) m
  serves_on w v m still R = (R, omega arith)
  serves_on w v m (then {v = u} {m = k} s g q) R =
      let before = serves_on w u k s R in
      let now = goes_on u v g q before.0 in
      let a = before.1 in
      let b = now.1 in
      (now.0, omega arith)

-- SOFT TICK OF THE CODE
pub tick-of-memories : TickOfMemories
tick-of-memories far W n I base w r rank L v m s =
    let S = reached-sure far W base r in
    let fit : Fit far (talk_of w) = unfold talk in record { upheld = S.upheld; ended = λ i p e. ap messages (S.ended i p e) ∙ (unfold messages in refl) } in
    let on = serves_on far W n I rank _ w v m s (record { fit = fit; names = L; climbs = λ a h. h }) in
    let most = on.1 in
    (most, (λ h. none_ahead far W n I rank (λ a. a ≡ a) (talk_of v) (omega arith)))
