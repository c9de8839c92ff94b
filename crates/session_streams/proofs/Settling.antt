-- What is held after a message, and what a caller may ask. Assumes nothing.
use Prim.Native.Nat.{ℕ, ◌+◌, ◌-◌, min, ◌≤◌}
use native.Mathlib.Omega.{arith}
use mathlib.Core.Path.{◌≡◌, refl, sym, ap, ◌∙◌}
use mathlib.Core.Bool.{true, false, not}
use mathlib.Core.List.{List, [], ◌∷◌}
use lib.ListN.{length, take, drop, get_or, length-drop, drop_of_length-le}
use lib.Seq.{take_all, take-nil, drop-length}
use lib.Dec.{eqb, ltb}
use borrow.Author.Tests.{ltb-true, ltb-false}
use denote.Enum.Declared.{tag_of}
use types.Run.{OneOf, miss}
use Rattle.meaning.specs.Lists.{by-test}
use Rattle.session.specs.Stream.{bad, look_message, look, Stream, stopped, reading, is_message, holds_message, is_stopped, settled_by, settled}
use Rattle.session.specs.Lent.{mark_in, left_in, place_in, count_in, stream_of}
use Rattle.session_look.specs.Shown.{shown}
use Rattle.session_streams.specs.declared.Held.{Held}
use Rattle.session_streams.specs.Holds.{held_at, IsHeld}
use Rattle.session_look.specs.declared.Shows.{Shows}
use Rattle.session_look.specs.contracts.Shows.{the_type}

pub take_min : (k : ℕ) (o : List ℕ) → take (min k (length o)) o ≡ take k o
take_min k o =
    by-test (ltb k (length o))
    (λ e. let a = ltb-true k (length o) e in let m : min k (length o) ≡ k = omega arith in rw m refl)
    (λ e. let a = ltb-false k (length o) e in let m : min k (length o) ≡ length o = omega arith in rw m (take_all (length o) o (omega arith) ∙ sym (take_all k o a)))

pub part_held : (ns b : List ℕ) (h : Held) → IsHeld ns h → take h.count (drop h.place b) ≡ held_at ns b
unfolding held_at
part_held ns b h is = rw (is.place, is.count) refl

-- numbers that denote a stream that is being read
pub reading-parts : (ns b : List ℕ) (l : ℕ) (h : List ℕ) → stream_of ns b ≡ reading l h → (left_in ns ≡ l) × (held_at ns b ≡ h)
unfolding stream_of held_at
reading-parts ns b l h e =
    by-test (eqb (mark_in ns) 0)
    (λ m. let f : reading (left_in ns) (take (count_in ns) (drop (place_in ns) b)) ≡ reading l h = rw m at e in (cc, cc))
    (λ m. let f : stopped ≡ reading l h = rw m at e in let z : ◌≡◌ {A = ℕ} 0 1 = cc in absurd (omega arith))

pub bad-only : (w : Shows) → OneOf (1 ∷ []) (tag_of the_type w) → shown w ≡ bad
bad-only Shows.Wait h = absurd (miss (1 ∷ []) 0 tt h)
bad-only Shows.Bad h = unfold shown in refl
bad-only (Shows.Head n) h = absurd (miss (1 ∷ []) 2 tt h)
bad-only (Shows.Message k) h = absurd (miss (1 ∷ []) 3 tt h)

not-bad : (w : Shows) → OneOf (0 ∷ 2 ∷ 3 ∷ []) (tag_of the_type w) → (left : ℕ) (h : List ℕ) → settled_by (shown w) left h ≡ reading left h
not-bad Shows.Wait h l s = unfold shown settled_by in refl
not-bad Shows.Bad h l s = absurd (miss (0 ∷ 2 ∷ 3 ∷ []) 1 tt h)
not-bad (Shows.Head n) h l s = unfold shown settled_by in refl
not-bad (Shows.Message k) h l s = unfold shown settled_by in refl

module _ (id ns b : List ℕ) (l : ℕ) (h : List ℕ) (now : Held) (passed : stream_of ns b ≡ reading l h) (is : IsHeld ns now)
    (part : List ℕ) (lent : part ≡ take now.count (drop now.place b)) (w : Shows) (looked : shown w ≡ look id now.left part) where
  settled-look : shown w ≡ look id l h
  settled-look = let p = reading-parts ns b l h passed in looked ∙ rw (lent, part_held ns b now is, is.left, p.0, p.1) refl

  pub settles-bad : (ns' : List ℕ) → OneOf (1 ∷ []) (tag_of the_type w) → stream_of ns' b ≡ stopped → (stream_of ns' b ≡ settled id l h) × (true ≡ is_stopped (settled id l h))
  unfolding settled
  settles-bad ns' k e =
      let s : settled_by (look id l h) l h ≡ stopped = rw (← settled-look, bad-only w k) (unfold settled_by in refl) in
      (e ∙ sym s, rw s (unfold is_stopped in refl))

  pub settles_on : OneOf (0 ∷ 2 ∷ 3 ∷ []) (tag_of the_type w) → (stream_of ns b ≡ settled id l h) × (false ≡ is_stopped (settled id l h))
  unfolding settled
  settles_on k =
      let s : settled_by (look id l h) l h ≡ reading l h = rw (← settled-look) (not-bad w k l h) in
      (passed ∙ sym s, rw s (unfold is_stopped in refl))

-- ---- what a caller may ask

pub asks-stopped : (ns b : List ℕ) → not (eqb (get_or ns 0 0) 0) ≡ is_stopped (stream_of ns b)
unfolding stream_of
asks-stopped ns b = by-test (eqb (mark_in ns) 0) (λ m. rw m (unfold is_stopped in refl)) (λ m. rw m (unfold is_stopped in refl))

-- a stream that is not stopped is being read
pub going : (ns b : List ℕ) → false ≡ is_stopped (stream_of ns b) → stream_of ns b ≡ reading (left_in ns) (held_at ns b)
unfolding stream_of held_at
going ns b e =
    by-test (eqb (mark_in ns) 0)
    (λ m. rw m refl)
    (λ m. let z : false ≡ true = (rw m at e) ∙ (unfold is_stopped in refl) in cc)

pub holds-stopped : (ns b : List ℕ) → true ≡ is_stopped (stream_of ns b) → false ≡ holds_message (stream_of ns b)
holds-stopped ns b e = by (stream_of ns b) e
  where
    by : (s : Stream) → true ≡ is_stopped s → false ≡ holds_message s
    by stopped e = unfold holds_message in refl
    by (reading l h) e = let z : true ≡ false = e ∙ (unfold is_stopped in refl) in cc

-- what a short buffer has of the octets held
pub short-held : (ns b : List ℕ) (p c place end : ℕ) → p ≡ place_in ns → c ≡ count_in ns → place ≡ min p (length b) → end ≡ min (place + c) (length b)
    → take (end - place) (drop place b) ≡ held_at ns b
unfolding held_at
short-held ns b p c place end ep ec e f = rw (← ep, ← ec) (by-test (ltb (length b) p) past within)
  where
    past : ltb (length b) p ≡ true → take (end - place) (drop place b) ≡ take c (drop p b)
    past t =
        let q = ltb-true (length b) p t in
        let z : place ≡ length b = omega arith in
        let none : length b ≤ p = omega (arith, q) in
        rw (z, drop-length b, drop_of_length-le b none) (rw (take-nil (end - length b), take-nil c) refl)

    within : ltb (length b) p ≡ false → take (end - place) (drop place b) ≡ take c (drop p b)
    within t =
        let q = ltb-false (length b) p t in
        let z : place ≡ p = omega arith in
        let m : end - p ≡ min c (length (drop p b)) = rw length-drop (omega arith) in
        rw z (rw m (take_min c (drop p b)))

module _ (ns b : List ℕ) (left place end : ℕ) (goes : false ≡ is_stopped (stream_of ns b))
    (is-left : left ≡ left_in ns) (is_held_lem : take (end - place) (drop place b) ≡ held_at ns b) (w : Shows) (looked : shown w ≡ look_message left (take (end - place) (drop place b))) where
  holds-look : is_message (shown w) ≡ holds_message (stream_of ns b)
  holds-look = rw (going ns b goes) (unfold holds_message in ap is_message (looked ∙ rw (is_held_lem, is-left) refl))

  pub holds-one : (k : ℕ) → w ≡ Shows.Message k → true ≡ holds_message (stream_of ns b)
  holds-one k e = let m : true ≡ is_message (shown w) = rw e (unfold is_message shown in refl) in m ∙ holds-look

  pub holds-none : OneOf (0 ∷ 1 ∷ 2 ∷ []) (tag_of the_type w) → false ≡ holds_message (stream_of ns b)
  holds-none h = by w h ∙ holds-look
    where
      by : (w : Shows) → OneOf (0 ∷ 1 ∷ 2 ∷ []) (tag_of the_type w) → false ≡ is_message (shown w)
      by Shows.Wait h = unfold is_message shown in refl
      by Shows.Bad h = unfold is_message shown in refl
      by (Shows.Head n) h = unfold is_message shown in refl
      by (Shows.Message k) h = absurd (miss (0 ∷ 1 ∷ 2 ∷ []) 3 tt h)
