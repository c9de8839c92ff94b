-- A call on a stream, up to the label part: each return by what the look shows. Assumes nothing.
use Prim.Native.Nat.{ℕ, ◌+◌, ◌-◌, ◌≤◌}
use native.Mathlib.Omega.{arith}
use mathlib.Core.Path.{◌≡◌, refl, sym, ◌∙◌}
use mathlib.Core.Bool.{true, false}
use mathlib.Core.List.{List, [], ◌∷◌}
use lib.ListN.{length, take, drop, length-take}
use mathlib.Core.Logic.{◌⊎◌, inl, inr}
use Rattle.session.specs.Stream.{Look, bad, message, look, Stream, stopped, reading, is_stopped, Filled, filled, Read, worked_by, worked, eaten_of, taken}
use Rattle.session.specs.StreamLaws.{Tells}
use Rattle.session.proofs.StreamLaws.{look-tells}
use Rattle.session.specs.Lent.{left_in, place_in, count_in, stream_of}
use Rattle.session_look.specs.Shown.{shown}
use Rattle.session_streams.specs.Holds.{held_at, IsHeld}
use Rattle.std.specs.Prelude.{Some, None}
use mathlib.Core.Path.{subst}
use Rattle.session_streams.specs.declared.Held.{Held}
use Rattle.session_offer.specs.declared.Offered.{Offered}
use Rattle.session_offer.specs.Offers.{TakesIn, Found, FoundNone, Offers}
use Rattle.session_look.specs.declared.Shows.{Shows}
use Rattle.session_streams.proofs.Settling.{part_held, reading-parts, going}

nothing-found : (id o : List ℕ) (s : Stream) (e : ℕ) (ns b : List ℕ) → FoundNone id o s e ns b → Offers id o s (record { eaten = e; message = None }) ns b
nothing-found id o s e ns b f = record { none = λ _. f; one = λ k z. cc }

-- a stopped stream
pub offer-stopped : (id o ns b : List ℕ) → true ≡ is_stopped (stream_of ns b) → Offers id o (stream_of ns b) (record { eaten = length o; message = None }) ns b
offer-stopped id o ns b e = nothing-found id o (stream_of ns b) (length o) ns b (by (stream_of ns b) refl e)
  where
    by : (s : Stream) → stream_of ns b ≡ s → true ≡ is_stopped s → FoundNone id o s (length o) ns b
    by stopped i e = record { reads = unfold taken in refl; leaves = (unfold taken in sym i); eats = unfold taken in refl }
    by (reading l h) i e = let z : true ≡ false = e ∙ (unfold is_stopped in refl) in let y : ◌≡◌ {A = ℕ} 0 1 = cc in absurd (omega arith)

module _ (id ns0 b0 o ns1 b1 : List ℕ) (took : ℕ) (goes : false ≡ is_stopped (stream_of ns0 b0)) (takes : TakesIn id o (left_in ns0) (held_at ns0 b0) took ns1 b1)
    (now : Held) (is : IsHeld ns1 now) (part : List ℕ) (lent : part ≡ take now.count (drop now.place b1)) (w : Shows) (looked : shown w ≡ look id now.left part) where
  f : Filled
  f = filled id (left_in ns0) (held_at ns0 b0) o

  f-is : (left_in ns1 ≡ f.left) × (held_at ns1 b1 ≡ f.held)
  unfolding f
  f-is = reading-parts ns1 b1 (filled id (left_in ns0) (held_at ns0 b0) o).left (filled id (left_in ns0) (held_at ns0 b0) o).held takes.holds

  looks : look id (left_in ns1) (held_at ns1 b1) ≡ shown w
  looks = sym (looked ∙ rw (lent, part_held ns1 b1 now is, is.left) refl)

  done : Look → Read
  done l = worked_by id l (left_in ns1) (held_at ns1 b1)

  taken_is : taken id (stream_of ns0 b0) o ≡ record { eaten = eaten_of (done (shown w)).stream (length o) took; messages = (done (shown w)).messages; stream = (done (shown w)).stream }
  unfolding taken worked done f
  taken_is = rw (going ns0 b0 goes, ← looks, f-is.0, f-is.1, takes.eats) refl

  pub offer-bad : (ns2 : List ℕ) → w ≡ Shows.Bad → stream_of ns2 b1 ≡ stopped → Offers id o (stream_of ns0 b0) (record { eaten = length o; message = None }) ns2 b1
  unfolding done worked_by eaten_of
  offer-bad ns2 k e =
      let m : shown w ≡ bad = rw k (unfold shown in refl) in
      let t = rw m at taken_is in
      nothing-found id o (stream_of ns0 b0) (length o) ns2 b1 (record { reads = rw t refl; leaves = rw t (sym e); eats = rw t refl })

  found : (k : ℕ) → w ≡ Shows.Message k → Found id o (stream_of ns0 b0) took k ns1 b1
  unfolding done worked_by Tells held_at
  found k e =
      let m : shown w ≡ message k = rw e (unfold shown in refl) in
      let t = rw m at taken_is in
      let tells : (4 ≤ k) × (k ≤ left_in ns1) × (k ≤ length (take (count_in ns1) (drop (place_in ns1) b1))) = rw (looks ∙ m) at (look-tells id (left_in ns1) (held_at ns1 b1)) in
      record { some = omega (arith, tells.0); within = (tells.1, omega (arith, tells.2, length-take (count_in ns1) (drop (place_in ns1) b1))); reads = rw t refl; leaves = rw t refl; eats = rw t refl }

  pub offer-message : (k : ℕ) → w ≡ Shows.Message k → Offers id o (stream_of ns0 b0) (record { eaten = took; message = Some k }) ns1 b1
  offer-message k e = record { none = λ z. cc; one = λ j z. let y : k ≡ j = cc in subst (λ (i : ℕ). Found id o (stream_of ns0 b0) took i ns1 b1) y (found k e) }

  pub offer-wait : (w ≡ Shows.Wait) ⊎ ((n : ℕ) × (w ≡ Shows.Head n)) → Offers id o (stream_of ns0 b0) (record { eaten = took; message = None }) ns1 b1
  unfolding done
  offer-wait k =
      let d : done (shown w) ≡ record { messages = []; stream = reading (left_in ns1) (held_at ns1 b1) } = by k in
      let t = rw d at taken_is in
      let g = takes.holds in
      nothing-found id o (stream_of ns0 b0) took ns1 b1 (record { reads = rw t refl; leaves = rw t (sym (holds ∙ sym (rw (f-is.0, f-is.1) refl))); eats = rw t (unfold eaten_of in refl) })
    where
      holds : stream_of ns1 b1 ≡ reading f.left f.held
      holds = unfold f in takes.holds

      by : (w ≡ Shows.Wait) ⊎ ((n : ℕ) × (w ≡ Shows.Head n)) → worked_by id (shown w) (left_in ns1) (held_at ns1 b1) ≡ record { messages = []; stream = reading (left_in ns1) (held_at ns1 b1) }
      by (inl e) = rw e (unfold shown worked_by in refl)
      by (inr p) = rw p.1 (unfold shown worked_by in refl)
