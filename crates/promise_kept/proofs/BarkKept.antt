-- NO BARK OF THE CODE: a net of memories, whose boxes are calls of `start`, `receive`, `join`, `leave`, `route`, `lost`, `notice` and of both lookups. Of the calls it takes their contracts (`CallContracts`) and nothing more.
-- Assumes nothing beside what `Bark` asks of the world.
use Rattle.std.specs.Prelude.{ℕ, ◌≡◌, Bool, ◌||◌, eqb}
use Rattle.std.proofs.Math.Path.{refl, sym, ap}
use Rattle.std.proofs.Common.{◌∙◌, subst}
use Rattle.std.proofs.Math.Bool.{true, false, not}
use mathlib.Core.List.{List, [], ◌∷◌, ◌++◌}
use Rattle.meaning.specs.Octets.{pick}
use Rattle.meaning.specs.Card.{Feed, lookup_label}
use Rattle.meaning.specs.Calls.{feed_in}
use Rattle.promise.specs.Promise.{leaf_by, Step, Past, answer_to, is_taken, then_step}
use Rattle.promise.specs.Deeds.{then_deed}
use Rattle.promise.specs.Deeds
use Rattle.promise_line.specs.Line.{parcels, addressed, hearing, sent_by, refuses}
use Rattle.promise_net.specs.Net.{Far, nobody, box, Wires, Wired, box_at, arriving, anew, over_line, losing, joined}
use Rattle.promise_net.proofs.PacketProof.{whole-net}
use Rattle.promise_bark.specs.Bark.{Item, letter, packet, Traffic, letters, talk, copies_to, noticed, taken, dropped, passed, is_live, handed, handed_of, hands, EachHand, turn, turns}
use Rattle.promise_bark.specs.Bark
use Rattle.promise_bark.specs.BarkProof.{Sure}
use Rattle.promise_bark.proofs.BarkProof.{turns-sure, laid-sure, no-bark}
use Rattle.promise_kept.specs.CallContracts.{Call, Called, made, Telling, Told, Started, began, LookedUp, looked-up, NameLookedUp, name-looked-up}
use Rattle.promise_kept.specs.CallContracts
use Rattle.promise_kept.specs.Kept.{call, live_by, accepted_by, step_of, past_of}
use Rattle.promise_kept.proofs.Kept.{called-deed, told-deed}
use Rattle.promise_kept.specs.BarkKept.{Memory, Plant, arrived, called, copied, cleared, past_at, traffic_of, after, telling, Goes, hears, sends, does, tells, puts, comes, loses, passes, cuts, Reached, starts, turned, NoBarkOfMemories, WholeTreeOfMemories}

-- ---- a call is a step

pick-of {ℓ κ} : {X : Type ℓ} {Y : Type κ} (f : X → Y) (b : Bool) (x y : X) → f (pick b x y) ≡ pick b (f x) (f y)
pick-of f true x y = refl
pick-of f false x y = refl

module _ (far : Wires) (w : Plant) (i : ℕ) where
  abbrev T : Traffic
  T = traffic_of w

  abbrev here : Past
  here = past_at (w.at i)

  -- the pasts after box i has another
  pasts : (m : Memory) (p : Past) → past_at m ≡ p → (k : ℕ) → past_at (pick (eqb k i) m (w.at k)) ≡ pick (eqb k i) p (past_at (w.at k))
  pasts m p e k = pick-of past_at (eqb k i) m (w.at k) ∙ ap (λ (x : Past). pick (eqb k i) x (past_at (w.at k))) e

  module _ (k : Call) (ns os : List ℕ) (m : Called (w.at i).numbers (w.at i).names k ns os) where
    call-past : past_at (after (w.at i) k ns os) ≡ then_step here (step_of k)
    unfolding past_at
    call-past = unfold then_deed in called-deed (w.at i).done (w.at i).numbers (w.at i).names k ns os m

    call-arrives : (f : Far) → arrived i k.part f ≡ arriving (talk T) i (step_of k) f
    unfolding arrived arriving sent_by box_at talk traffic_of past_at past_of answer_to
    call-arrives nobody = refl
    call-arrives (box j q) = ap (λ (o : List ℕ). pick (eqb j i) (addressed q (parcels o)) []) (made m).hands

    call-refuses : (p : ℕ) → not (eqb k.answer 0) ≡ refuses (box_at (talk T) i p) (step_of k)
    unfolding refuses is_taken box_at talk traffic_of past_at past_of answer_to
    call-refuses p = ap (λ (n : ℕ). not (eqb n 0)) (made m).answers

    call-steps : (under : ℕ → ℕ → List Item) (r r' : ℕ → ℕ → Bool) → r ≡ r' → traffic_of (called far w i (after (w.at i) k ns os) k.part under r) ≡ Bark.stepped far T i (step_of k) under r'
    unfolding traffic_of called Bark.stepped
    call-steps under r r' e = λ t. record {
      past = λ x. pasts (after (w.at i) k ns os) (then_step here (step_of k)) call-past x t;
      line = λ x p. under x p ++ letters (call-arrives (far x p) t);
      refused = e t;
    }

  told-arrives : (t : Telling) (ns : List ℕ) → Told (w.at i).numbers t ns → (f : Far) → arrived i t.part f ≡ noticed here i t.room t.neighbour t.number t.octets f
  unfolding arrived noticed past_at past_of
  told-arrives t ns m nobody = refl
  told-arrives t ns m (box j q) = ap (λ (o : List ℕ). pick (eqb j i) (addressed q (parcels o)) []) (CallContracts.told m (w.at i).names).hands

  told-past : (t : Telling) (ns : List ℕ) → Told (w.at i).numbers t ns → past_at (telling (w.at i) t ns) ≡ then_deed here (Deeds.tells t.room t.neighbour t.number t.octets)
  unfolding past_at
  told-past t ns m = told-deed (w.at i).done (w.at i).numbers (w.at i).names t ns m

  told-steps : (t : Telling) (ns : List ℕ) → Told (w.at i).numbers t ns → traffic_of (called far w i (telling (w.at i) t ns) t.part w.line w.refused) ≡ Bark.told far T i t.room t.neighbour t.number t.octets
  unfolding traffic_of called Bark.told
  told-steps t ns m = λ z. record {
    past = λ x. pasts (telling (w.at i) t ns) _ (told-past t ns m) x z;
    line = λ x p. w.line x p ++ letters (told-arrives t ns m (far x p) z);
    refused = w.refused;
  }

  copy_sent : (a : List ℕ) (f g : Feed) (under : ℕ → ℕ → List Item) → f ≡ g → traffic_of (copied far w i a f under) ≡ Bark.sent far T i a g.branches under
  unfolding traffic_of copied Bark.sent
  copy_sent a f g under e = λ z. record { past = λ x. past_at (w.at x); line = λ x p. under x p ++ copies_to i a (e z).branches (far x p); refused = w.refused }

-- by some turn of `Bark`
abbrev ByTurn : Wires → Plant → Plant → Type 0
ByTurn far w v = (t : Bark.Turn) × (traffic_of v ≡ turn far (traffic_of w) t)

module _ (far : Wires) (w : Plant) where
  pub heard-path : (i p : ℕ) (s : List ℕ) (rest : List Item) (k : Call) (ns os : List ℕ) → w.line i p ≡ letter s ∷ rest → step_of k ≡ hearing k.room p s → (m : Called (w.at i).numbers (w.at i).names k ns os)
      → traffic_of (called far w i (after (w.at i) k ns os) k.part (anew i p rest w.line) (anew i p (w.refused i p || not (eqb k.answer 0)) w.refused)) ≡ turn far (traffic_of w) (Bark.takes i p k.room)
  heard-path i p s rest k ns os e h m =
      call-steps far w i k ns os m (anew i p rest w.line) _ _ (ap (λ (z : Bool). anew i p (w.refused i p || z) w.refused) (call-refuses far w i k ns os m p))
      ∙ ap (λ (st : Step). Bark.stepped far (traffic_of w) i st (anew i p rest w.line) (anew i p (w.refused i p || refuses (box_at (talk (traffic_of w)) i p) st) w.refused)) h
      ∙ unfold turn taken traffic_of in rw e refl

  sent-turn : (i p : ℕ) (a : List ℕ) (l : ℕ) (rest : List Item) (branches : List ℕ) (leaf : Bool) → w.line i p ≡ packet a l ∷ rest → LookedUp (w.at i).numbers l branches leaf → ByTurn far w (copied far w i a (feed_in branches leaf) (anew i p rest w.line))
  sent-turn i p a l rest branches leaf e m = (
    Bark.takes i p 0,
    copy_sent far w i a _ _ (anew i p rest w.line) (looked-up m (w.at i).names) ∙ unfold turn taken traffic_of past_at past_of in rw e refl,
  )

  does-turn : (i : ℕ) (k : Call) (ns os : List ℕ) → over_line far i k.does ≡ false → Called (w.at i).numbers (w.at i).names k ns os → ByTurn far w (called far w i (after (w.at i) k ns os) k.part w.line w.refused)
  does-turn i k ns os d m = (
    Bark.does i (step_of k),
    call-steps far w i k ns os m w.line _ _ refl ∙ unfold turn traffic_of in rw d refl,
  )

  puts-turn : (i : ℕ) (a branches : List ℕ) (leaf : Bool) → NameLookedUp (w.at i).numbers (w.at i).names a branches leaf → ByTurn far w (copied far w i a (feed_in branches leaf) w.line)
  puts-turn i a branches leaf m = (Bark.puts i a, copy_sent far w i a _ _ w.line (name-looked-up m) ∙ unfold turn traffic_of past_at past_of in refl)

  comes-turn : (i p : ℕ) (a : List ℕ) (l : ℕ) (branches : List ℕ) (leaf : Bool) → is_live (traffic_of w) i p a l ≡ true → LookedUp (w.at i).numbers l branches leaf → ByTurn far w (copied far w i a (feed_in branches leaf) w.line)
  comes-turn i p a l branches leaf d m = (
    Bark.comes i p a l,
    copy_sent far w i a _ _ w.line (looked-up m (w.at i).names) ∙ unfold turn in rw d (unfold traffic_of past_at past_of in refl),
  )

  loses-turn : (i p : ℕ) (a : List ℕ) (l : ℕ) (rest : List Item) → w.line i p ≡ packet a l ∷ rest → ByTurn far w (copied far w i a (record { branches = []; leaf = false }) (anew i p rest w.line))
  loses-turn i p a l rest e = (Bark.loses i p, copy_sent far w i a _ _ (anew i p rest w.line) refl ∙ unfold turn dropped traffic_of in rw e refl)

  passes-turn : (i p n : ℕ) → ByTurn far w (copied far w i [] (record { branches = []; leaf = false }) (anew i p (passed n (w.line i p)) w.line))
  passes-turn i p n = (Bark.passes i p n, copy_sent far w i [] _ _ (anew i p (passed n (w.line i p)) w.line) refl ∙ unfold turn traffic_of in refl)

  cuts-turn : (i p j q : ℕ) (k m : Call) (ns os ms ps : List ℕ) → far i p ≡ box j q → step_of k ≡ losing p → Called (w.at i).numbers (w.at i).names k ns os
      → (v : Plant) → v ≡ called far w i (after (w.at i) k ns os) k.part w.line w.refused → step_of m ≡ losing q → Called (v.at j).numbers (v.at j).names m ms ps
      → ByTurn far w (cleared i p j q (called far v j (after (v.at j) m ms ps) m.part v.line v.refused))
  cuts-turn i p j q k m ns os ms ps e h c v u g d = (
    Bark.cuts i p,
    anew-begun ∙ cut-is,
  )
    where
      begins : Traffic → Traffic
      begins x = record { past = x.past; line = anew i p [] (anew j q [] x.line); refused = anew i p false (anew j q false x.refused) }

      cut-is : begins (Bark.parted far (traffic_of w) i p j q) ≡ turn far (traffic_of w) (Bark.cuts i p)
      cut-is = unfold turn Bark.severed in rw e refl

      first : traffic_of v ≡ Bark.stepped far (traffic_of w) i (losing p) w.line w.refused
      first = ap traffic_of u ∙ call-steps far w i k ns os c w.line _ _ refl ∙ ap (λ (st : Step). Bark.stepped far (traffic_of w) i st w.line w.refused) h

      second : traffic_of (called far v j (after (v.at j) m ms ps) m.part v.line v.refused) ≡ Bark.parted far (traffic_of w) i p j q
      second =
          let then : Bark.stepped far (traffic_of v) j (losing q) v.line v.refused ≡ Bark.parted far (traffic_of w) i p j q = unfold Bark.parted traffic_of in ap (λ (x : Traffic). Bark.stepped far x j (losing q) x.line x.refused) first in
          call-steps far v j m ms ps d v.line _ _ refl ∙ ap (λ (st : Step). Bark.stepped far (traffic_of v) j st v.line v.refused) g ∙ then

      anew-begun : traffic_of (cleared i p j q (called far v j (after (v.at j) m ms ps) m.part v.line v.refused)) ≡ begins (Bark.parted far (traffic_of w) i p j q)
      anew-begun = unfold traffic_of cleared in ap begins second

  goes-turn : {v : Plant} → Goes far w v → ByTurn far w v
  goes-turn (hears {k = k} {ns = ns} {os = os} i p s rest e h m) = (Bark.takes i p k.room, heard-path i p s rest k ns os e (λ z. record { room = k.room; does = h z }) m)
  goes-turn (sends {branches = branches} {leaf = leaf} i p a l rest e m) = sent-turn i p a l rest branches leaf e m
  goes-turn (does {k = k} {ns = ns} {os = os} i d m) = does-turn i k ns os d m
  goes-turn (tells {t = t} {ns = ns} i m) = (Bark.tells i t.room t.neighbour t.number t.octets, told-steps far w i t ns m ∙ unfold turn in refl)
  goes-turn (puts {branches = branches} {leaf = leaf} i a m) = puts-turn i a branches leaf m
  goes-turn (comes {branches = branches} {leaf = leaf} i p a l d m) = comes-turn i p a l branches leaf d m
  goes-turn (loses i p a l rest e) = loses-turn i p a l rest e
  goes-turn (passes i p n) = passes-turn i p n
  goes-turn (cuts {k = k} {m = m} {ns = ns} {os = os} {ms = ms} {ps = ps} i p j q e h c v u g d) = cuts-turn i p j q k m ns os ms ps e h c v u g d

-- ---- any number of them

module _ (far : Wires) (W : Wired far) where
  then-sure : (w v : Plant) → ByTurn far w v → Sure far (traffic_of w) → Sure far (traffic_of v)
  then-sure w v r S = subst (Sure far) (sym r.1) (unfold turns in turns-sure far W (traffic_of w) S (r.0 ∷ []))

  begun-sure : (base : ℕ → ℕ) (ns os : ℕ → List ℕ) → ((i : ℕ) → Started (base i) (ns i)) → Sure far (traffic_of (record { at = λ i. record { done = []; numbers = ns i; names = os i }; line = λ i p. []; refused = λ i p. false }))
  begun-sure base ns os h = subst (Sure far) (sym path) (laid-sure far W base)
    where
      path : traffic_of (record { at = λ i. record { done = []; numbers = ns i; names = os i }; line = λ i p. []; refused = λ i p. false }) ≡ Bark.laid base
      path = unfold traffic_of past_at past_of live_by accepted_by Bark.laid in λ t. record { past = λ i. record { card = began (h i) (os i) t; live = []; accepted = [] }; line = λ i p. []; refused = λ i p. false }

  pub reached-sure : (base : ℕ → ℕ) {w : Plant} → Reached far base w → Sure far (traffic_of w)
  reached-sure base (starts ns os h) = begun-sure base ns os h
  reached-sure base (turned {w = w} {v = v} r g) = then-sure w v (goes-turn far w g) (reached-sure base r)

  hand-one : (x : Traffic) (i p : ℕ) (a : List ℕ) (l : ℕ) (rest : List Item) → x.line i p ≡ packet a l ∷ rest → (lookup_label l (x.past i).card).leaf ≡ true → EachHand (Bark.Right x) (hands x (Bark.takes i p 0)) → joined (talk x) a i ≡ true
  unfolding hands handed_of handed EachHand
  hand-one x i p a l rest e z right = (rw (e, z) at right).0.1

  -- the leaf mark that a lookup gives back
  leaf-joined : (w : Plant) → Sure far (traffic_of w) → (i p : ℕ) (a : List ℕ) (l : ℕ) (rest : List Item) (branches : List ℕ) (leaf : Bool) → w.line i p ≡ packet a l ∷ rest → LookedUp (w.at i).numbers l branches leaf → leaf ≡ true → leaf_by a (accepted_by (w.at i).done) ≡ true
  unfolding joined talk traffic_of past_at past_of
  leaf-joined w S i p a l rest branches leaf e m z =
      let mark : (lookup_label l ((traffic_of w).past i).card).leaf ≡ true = unfold traffic_of past_at past_of in ap (λ (f : Feed). f.leaf) (sym (looked-up m (w.at i).names)) ∙ z in
      let its : joined (talk (traffic_of w)) a i ≡ true = hand-one (traffic_of w) i p a l rest (unfold traffic_of in e) mark ((no-bark far W (traffic_of w) S).right (Bark.takes i p 0)) in
      sym ((S.upheld i).reads a).leaf ∙ its

-- NO BARK OF THE CODE
pub no-bark-of-memories : NoBarkOfMemories
no-bark-of-memories far W base w r =
    let S = reached-sure far W base r in
    record { said = no-bark far W (traffic_of w) S; leaf = λ {branches} {leaf} i p a l rest e m z. leaf-joined far W w S i p a l rest branches leaf e m z }

-- THE WHOLE TREE OF THE CODE
pub whole-tree-of-memories : WholeTreeOfMemories
whole-tree-of-memories far W base w r = let S = reached-sure far W base r in whole-net far W (talk (traffic_of w)) S.bound (unfold talk in S.upheld)
