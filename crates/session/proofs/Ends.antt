-- Calls that offer something do get on: after enough of them all is eaten and no whole message is held.
-- Assumes nothing.
use Prim.Native.Nat.{ℕ, zero, suc, ◌+◌, ◌-◌, ◌*◌, min, ◌≤◌, ◌<◌}
use Rattle.std.proofs.Common.{not-suc-le-zero, arith, ap, ◌∙◌, length-append, length-take, length-drop, take-append-drop}
use Rattle.std.proofs.Math.Path.{◌≡◌, sym}
use Rattle.std.specs.Prelude.{refl, drop, length, eqb}
use Rattle.std.proofs.Math.Bool.{true, false}
use mathlib.Core.List.{List, [], ◌∷◌, ◌++◌}
use Rattle.std.proofs.Math.ListN.{take}
use Rattle.std.proofs.Math.Seq.{take-nil}
use borrow.Author.Tests.{le-ltb, eqb-true, eqb-false}
use Rattle.meaning.specs.Octets.{◌when◌else◌}
use Rattle.meaning.specs.Lists.{by-test, append-nil, positive}
use Rattle.meaning.specs.Card.{Card}
use Rattle.meaning.specs.Events.{no_neighbour}
use Rattle.session.specs.Stream.{body_limit, pdu_head, Look, wait, bad, head, message, look_message, look, Stream, stopped, reading, limit, is_message, holds_message, Filled, space, fill, opened, filled, settled_by, settled, worked_by, worked, eaten_of, taken}
use Rattle.session.specs.StreamLaws.{Tells}
use Rattle.session.proofs.StreamLaws.{look-tells, fill-left}
use Rattle.session.specs.Kept.{Kept, Quiet}
use Rattle.session.proofs.Kept.{kept-fits, kept-quiet, taken-kept, quiet-taken, filled-eaten}
use Rattle.session.specs.Session.{Label, heeded, message_room, stream_room, session_short, call_refusal, accepted, called_by, called, Cut, driven}
use Rattle.session.specs.Cuts.{Over}
use Rattle.session.proofs.Cuts.{rest-drop}
use Rattle.session.specs.Ends.{pending, Serves, AllServe}

-- fewer than b octets are held
unfoldable Under : ℕ → Stream → Type 0
Under b stopped = Unit {0}
Under b (reading left h) = length h < b

settled-under : (id : List ℕ) (left : ℕ) (h : List ℕ) (b : ℕ) → length h < b → Under b (settled id left h)
unfolding settled settled_by Under
settled-under id left h b g = by (look id left h)
  where
    by : (l : Look) → Under b (settled_by l left h)
    by wait = g
    by bad = tt
    by (head n) = g
    by (message k) = g

worked-under : (id : List ℕ) (left : ℕ) (h : List ℕ) (b : ℕ) → length h < b → Under b (worked id left h).stream
unfolding worked worked_by Under
worked-under id left h b g = by (look id left h)
  where
    by : (l : Look) → Under b (worked_by id l left h).stream
    by wait = g
    by bad = tt
    by (head n) = g
    by (message k) = settled-under id (left - k) (drop k h) b (rw length-drop (omega arith))

-- how many octets are held after the first were eaten
pub fill-count : (left : ℕ) (h : List ℕ) (e : ℕ) (o : List ℕ) → length (fill left h e o).held + e ≡ length h + (fill left h e o).eaten
unfolding fill
fill-count left h e o = rw (length-append, length-take) (omega arith)

-- a call on octets of which some may be eaten eats some
fill-some : (left : ℕ) (h : List ℕ) (o : List ℕ) → 0 < length o → length (fill left h 0 o).held < limit left → 0 < (fill left h 0 o).eaten
unfolding fill space
fill-some left h o p q =
    let k = fill-count left h 0 o in
    let l : length h + min (limit left - length h) (length o) < limit left = rw (length-append, length-take) at q in
    omega arith

fill_none : (left : ℕ) (h : List ℕ) → (fill left h 0 []).held ≡ h
unfolding fill
fill_none left h = rw (take-nil, append-nil h) refl

no-octets : (o : List ℕ) → length o ≡ 0 → o ≡ []
no-octets [] z = refl
no-octets (x ∷ o) z = absurd (omega arith)

-- what is held after a call, against what was held and eaten
worked-less : (id : List ℕ) (left : ℕ) (h o : List ℕ) → (length o ≡ 0 → look id left h ≡ wait → ⊥)
    → Under (length h + 2 * (filled id left h o).eaten) (worked id (filled id left h o).left (filled id left h o).held).stream
unfolding filled opened worked worked_by Under Tells
worked-less id left h o g = by (look id left (fill left h 0 o).held) refl
  where
    first : Filled
    first = fill left h 0 o

    stays : (fill left h 0 o).left ≡ left
    stays = fill-left left h 0 o

    count : length first.held + 0 ≡ length h + first.eaten
    count = fill-count left h 0 o

    by : (l : Look) → look id left first.held ≡ l → Under (length h + 2 * (opened l first o).eaten) (worked id (opened l first o).left (opened l first o).held).stream
    by wait e =
        let t : length first.held < limit left = rw e at (look-tells id left first.held) in
        let some : 0 < length o = positive (length o) (λ z. g z (ap (look id left) (sym (ap (λ (l : List ℕ). (fill left h 0 l).held) (no-octets o z) ∙ fill_none left h)) ∙ e)) in
        let eats = fill-some left h o some t in
        rw (stays, e) (omega (arith, count))
    by bad e = rw (stays, e) tt
    by (head n) e =
        let t : (left ≡ 0) × (pdu_head ≤ length first.held) × (8 ≤ n) × (n ≤ body_limit) = rw e at (look-tells id left first.held) in
        let d : List ℕ = drop pdu_head first.held in
        let r : List ℕ = drop first.eaten o in
        let f : Filled = fill n d first.eaten r in
        let again = fill-count n d first.eaten r in
        worked-under id f.left f.held (length h + 2 * f.eaten) (omega (arith, count, t.1, length-drop pdu_head first.held))
    by (message k) e =
        let t : (4 ≤ k) × (k ≤ left) × (k ≤ length first.held) = rw e at (look-tells id left first.held) in
        rw (stays, e) (settled-under id (left - k) (drop k first.held) (length h + 2 * first.eaten) (rw length-drop (omega (arith, count, t.0, t.2))))

-- a call takes from what is pending, unless nothing is offered to a stream at rest
pub taken-less : (id : List ℕ) (s : Stream) (o z : List ℕ) → (length o ≡ 0 → Quiet id s → ⊥)
    → pending (taken id s o).stream (drop (taken id s o).eaten o ++ z) < pending s (o ++ z)
unfolding taken pending Quiet
taken-less id stopped o z g =
    let some = positive (length o) (λ e. g e tt) in
    simp (length-append, length-drop) (omega arith)
taken-less id (reading left h) o z g =
    let f = filled id left h o in
    by (worked id f.left f.held).stream f.eaten (filled-eaten id left h o) (worked-less id left h o g)
  where
    by : (s : Stream) (e : ℕ) → e ≤ length o → Under (length h + 2 * e) s → pending s (drop (eaten_of s (length o) e) o ++ z) < 2 * length (o ++ z) + length h + 1
    by stopped e p u = unfold eaten_of in simp (length-append, length-drop) (omega arith)
    by (reading left h') e p u = unfold eaten_of Under in simp (length-append, length-drop) (omega arith)

pub quiet_none : (id : List ℕ) (s : Stream) → Quiet id s → holds_message s ≡ false
unfolding Quiet holds_message look look_message is_message
quiet_none id stopped q = refl
quiet_none id (reading zero h) q = refl
quiet_none id (reading (suc n) h) q = rw q refl

served : (n : ℕ) (x : Cut) → n ≤ 15 → Serves x → call_refusal n x.room x.lent ≡ 0
unfolding call_refusal no_neighbour session_short ◌when◌else◌
served n x p g = rw (le-ltb 15 n p, le-ltb x.room message_room g.room, le-ltb x.lent stream_room g.lent) refl

some-offered : (k : ℕ) (r : List ℕ) → 0 < k → length (take k r) ≡ 0 → r ≡ []
some-offered k [] p e = refl
some-offered zero (x ∷ r) p e = absurd (not-suc-le-zero p)
some-offered (suc k) (x ∷ r) p e = absurd (omega arith)

none-pending : (s : Stream) (r : List ℕ) → pending s r ≤ 0 → (r ≡ []) × (holds_message s ≡ false)
unfolding pending holds_message
none-pending stopped r e = (no-octets r (omega arith), refl)
none-pending (reading left h) r e = absurd (omega arith)

module _ (step : Label) (id : List ℕ) (n : ℕ) (near : n ≤ 15) where
  -- at rest with nothing left, whatever calls come
  rests : (xs : List Cut) (c : Card) (s : Stream) → AllServe xs → Quiet id s → Over (driven step id n xs c s [])
  unfolding driven AllServe called called_by accepted heeded
  rests [] c s g q = record { eaten = refl; none = quiet_none id s q }
  rests (x ∷ xs) c s g q =
      rw (served n x near g.0, take-nil x.size) (rw (quiet-taken id s q) (rests xs c s g.1 q))

  -- what a call leaves pending, of all that was to come
  less-pending : (s : Stream) (k : ℕ) (r : List ℕ) → (length (take k r) ≡ 0 → Quiet id s → ⊥)
      → pending (taken id s (take k r)).stream (drop (taken id s (take k r)).eaten r) < pending s r
  less-pending s k r h =
      let l = taken-less id s (take k r) (drop k r) h in
      rw (rest-drop step id n s k r, take-append-drop k r) at l

  -- CALLS END: after twice as many calls as there are octets to come, and one more for each octet held, and one, at the latest.
  pub calls-end : (xs : List Cut) (c : Card) (s : Stream) (r : List ℕ) → Kept id s → AllServe xs → pending s r ≤ length xs → Over (driven step id n xs c s r)
  unfolding driven AllServe called called_by accepted
  calls-end [] c s r k g e = let p = none-pending s r e in record { eaten = p.0; none = p.1 }
  calls-end (x ∷ xs) c s r k g e =
      let o : List ℕ = take x.size r in
      let t = taken id s o in
      let more = calls-end xs (heeded step n c t.messages).card t.stream (drop t.eaten r) (taken-kept id s o (kept-fits id s k)) g.1 in
      let less : (length o ≡ 0 → Quiet id s → ⊥) → Over (driven step id n (x ∷ xs) c s r) = (λ h.
      let l = less-pending s x.size r h in
      let v = more (omega arith) in
      rw (served n x near g.0) (record { eaten = v.eaten; none = v.none })) in
      by-test (holds_message s)
      (λ m. less (λ _ q. let z : true ≡ false = sym m ∙ quiet_none id s q in let y : ◌≡◌ {A = ℕ} 0 1 = cc in omega arith))
      (λ m. by-test (eqb (length o) 0)
      (λ z. let nil = some-offered x.size r g.0.size (eqb-true (length o) 0 z) in
      rw nil (rests (x ∷ xs) c s g (kept-quiet id s k m)))
      (λ z. less (λ y _. eqb-false (length o) 0 z y)))
