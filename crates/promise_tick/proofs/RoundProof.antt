-- IN ROUNDS: in each round the messages under way come one rank nearer to where they end.
-- Assumes nothing.
use Prim.Native.Nat.{ℕ, zero, suc, ◌+◌, ◌≤◌, ◌<◌, zero-le}
use Rattle.std.proofs.Math.Nat.{le_refl}
use Rattle.std.proofs.Common.{le_trans, not-suc-le-zero, sym, ap, ◌∙◌}
use native.Mathlib.Omega.{arith}
use Rattle.std.specs.Prelude.{◌≡◌, false, ◌&&◌, take, drop, eqb}
use Rattle.std.proofs.Math.Path.{refl, subst}
use mathlib.Core.List.{List, [], ◌∷◌, ◌++◌}
use Rattle.std.proofs.Math.ListN.{length}
use borrow.Author.Tests.{eqb-true, eqb-false, eq-eqb}
use Rattle.meaning.specs.Octets.{pick, count, two_at}
use Rattle.meaning.specs.Lists.{by-test, picked}
use Rattle.meaning_laws.specs.RoundTrip.{both}
use Rattle.meaning.specs.Wire.{mapping, withdraw, release, Message, message_in, Sent, records_f, records_in}
use Rattle.promise.specs.Promise.{Step, answer_to, sends}
use Rattle.promise_line.specs.Line.{parcels_f, parcels, addressed, sent_by}
use Rattle.promise_line.specs.Line
use Rattle.promise_net.specs.Net.{Far, nobody, box, Wires, Wired, Net, box_at, laid, arriving, stepped, anew, turn, turns, via, Climbs}
use Rattle.promise_tick.specs.Tick.{Ear, hearing, hearings, Silent, some, delivered, Rank, ahead, Within, Under, times, Unrefused, Reaches, Round, Rounds, Passes, after, InPasses, InRounds, WholeInRounds}
use Rattle.promise_tick.specs.Heard.{Calls, mute, asks, frees, quits}
use Rattle.promise_tick.specs.TickProof.{Fit, Ready}
use Rattle.promise_tick.proofs.TickProof.{then, next-some, said, about, reached-fit, anew-at, next-none, next-ready, later-ready, later-most, none_ahead, silent-lasts, laid-ready, turns-append, silent-whole}

-- in how many rounds the talk that comes of m, under way to box i, is over
unfoldable depth : Rank → ℕ → Message → ℕ
depth rank i m = pick (eqb m.kind mapping) (1 + rank m.name i) (pick (eqb m.kind withdraw) (2 + rank m.name i) 1)

unfoldable depth_at : Rank → Message → Far → ℕ
depth_at rank m nobody = 0
depth_at rank m (box j q) = depth rank j m

depth-mapping : (rank : Rank) (i : ℕ) (m : Message) → m.kind ≡ mapping → depth rank i m ≡ 1 + rank m.name i
unfolding depth
depth-mapping rank i m k = rw (eq-eqb _ mapping k) refl

depth-withdraw : (rank : Rank) (i : ℕ) (m : Message) → m.kind ≡ withdraw → depth rank i m ≡ 2 + rank m.name i
unfolding depth
depth-withdraw rank i m k = rw k refl

depth-some : (rank : Rank) (i : ℕ) (m : Message) → 1 ≤ depth rank i m
unfolding depth
depth-some rank i m = picked (λ (x : ℕ). 1 ≤ x) (eqb m.kind mapping) (λ _. omega arith) (λ _. picked (λ (x : ℕ). 1 ≤ x) (eqb m.kind withdraw) (λ _. omega arith) (λ _. omega arith))

depth-under : (rank : Rank) (i top : ℕ) (m : Message) → rank m.name i ≤ top → depth rank i m ≤ 2 + top
unfolding depth
depth-under rank i top m h = picked (λ (x : ℕ). x ≤ 2 + top) (eqb m.kind mapping) (λ _. omega arith) (λ _. picked (λ (x : ℕ). x ≤ 2 + top) (eqb m.kind withdraw) (λ _. omega arith) (λ _. omega arith))

-- ---- what is sent, by where it arrives

unfoldable Shallow : Wires → Rank → ℕ → ℕ → List Sent → Type 0
Shallow far rank i d [] = Unit {0}
Shallow far rank i d (m ∷ ms) = (depth_at rank m.message (far i m.to) ≤ d) × Shallow far rank i d ms

-- of the messages under way to box i, the first k are of depth d + 1 at most, and those behind them of depth d
unfoldable Mixed : Rank → ℕ → ℕ → ℕ → List (List ℕ) → Type 0
Mixed rank i d k [] = Unit {0}
Mixed rank i d zero (s ∷ ss) = (depth rank i (message_in s) ≤ d) × Mixed rank i d zero ss
Mixed rank i d (suc k) (s ∷ ss) = (depth rank i (message_in s) ≤ suc d) × Mixed rank i d k ss

module _ (far : Wires) (w : Net) (rank : Rank) (i n d : ℕ) (m : Message) (C : Climbs far w m.name (rank m.name)) (h : depth rank i m ≤ suc d) where
  abbrev v : ℕ
  v = via w m.name i

  mapping-on : (l : ℕ) (f : Far) → far i v ≡ f → depth_at rank (record { kind = mapping; name = m.name; label = l }) f ≤ rank m.name i
  unfolding depth_at depth
  mapping-on l nobody e = zero-le
  mapping-on l (box j q) e = let less : rank m.name j < rank m.name i = C i v j q e refl in omega arith

  withdraw-on : (l : ℕ) (f : Far) → far i v ≡ f → depth_at rank (record { kind = withdraw; name = m.name; label = l }) f ≤ 1 + rank m.name i
  unfolding depth_at depth
  withdraw-on l nobody e = zero-le
  withdraw-on l (box j q) e = let less : rank m.name j < rank m.name i = C i v j q e refl in omega arith

  release-back : (l : ℕ) (f : Far) → depth_at rank (record { kind = release; name = m.name; label = l }) f ≤ 1
  unfolding depth_at depth
  release-back l nobody = zero-le
  release-back l (box j q) = le_refl 1

  calls-shallow : (ms : List Sent) → Calls v n m ms → Shallow far rank i d ms
  unfolding Shallow
  calls-shallow ms mute = tt
  calls-shallow ms (asks l k) = let a = mapping-on l (far i v) refl in let b = depth-mapping rank i m k in (omega arith, tt)
  calls-shallow ms (frees k) = let a = release-back m.label (far i n) in let b = depth-withdraw rank i m k in (omega arith, tt)
  calls-shallow ms (quits l k) = let a = release-back m.label (far i n) in let c = withdraw-on l (far i v) refl in let b = depth-withdraw rank i m k in (omega arith, (omega arith, tt))

depth-end : (far : Wires) (rank : Rank) (i q k p d : ℕ) → far i q ≡ box k p → (m : Message) (x : ℕ) → x ≡ q → depth_at rank m (far i x) ≤ d → depth rank k m ≤ d
unfolding depth_at
depth-end far rank i q k p d e m x y g = rw (y, e) at g

shallow-parcels : (far : Wires) (rank : Rank) (i q k p d : ℕ) → far i q ≡ box k p → (f : ℕ) (s : List ℕ) → Shallow far rank i d (records_f f s) → Mixed rank k d 0 (addressed q (parcels_f f s))
unfolding Shallow Mixed addressed parcels_f records_f
shallow-parcels far rank i q k p d e zero s h = tt
shallow-parcels far rank i q k p d e (suc f) s h =
    by-test (eqb (length s) 0)
    (λ z. rw z tt)
    (λ z. let g : (depth_at rank (message_in (take (4 + two_at s 6) (drop 4 s))) (far i (two_at s 2)) ≤ d) × Shallow far rank i d (records_f f (drop (4 + two_at s 6) (drop 4 s))) = rw z at h in
    let more : Mixed rank k d 0 (addressed q (parcels_f f (drop (4 + two_at s 6) (drop 4 s)))) = shallow-parcels far rank i q k p d e f (drop (4 + two_at s 6) (drop 4 s)) g.1 in
    rw z (by-test (eqb (two_at s 2) q)
    (λ y. rw y (depth-end far rank i q k p d e (message_in (take (4 + two_at s 6) (drop 4 s))) (two_at s 2) (eqb-true _ _ y) g.0, more))
    (λ y. rw y more)))

arriving-shallow : (far : Wires) → Wired far → (rank : Rank) (w : Net) (i : ℕ) (s : Step) (d k p : ℕ) (f : Far) → far k p ≡ f → Shallow far rank i d (sends (w.past i).card s) → Mixed rank k d 0 (arriving w i s f)
unfolding arriving
arriving-shallow far W rank w i s d k p nobody e h = unfold Mixed in tt
arriving-shallow far W rank w i s d k p (box j q) e h =
    picked (Mixed rank k d 0) (eqb j i)
    (λ z. unfold sent_by box_at parcels in shallow-parcels far rank i q k p d (subst (λ (x : ℕ). far x q ≡ box k p) (eqb-true j i z) (W.back k p j q e)) _ (answer_to (w.past i).card s).octets (unfold sends records_in in h))
    (λ _. unfold Mixed in tt)

-- ---- what is under way on one line

unfoldable less : ℕ → ℕ
less zero = zero
less (suc k) = k

module _ (rank : Rank) (i d : ℕ) where
  mixed-any : (k : ℕ) (xs : List (List ℕ)) → Mixed rank i d 0 xs → Mixed rank i d k xs
  unfolding Mixed
  mixed-any k [] h = tt
  mixed-any zero (x ∷ xs) h = h
  mixed-any (suc k) (x ∷ xs) h = (le_trans h.0 (omega arith), mixed-any k xs h.1)

  mixed-append : (k : ℕ) (xs ys : List (List ℕ)) → Mixed rank i d k xs → Mixed rank i d 0 ys → Mixed rank i d k (xs ++ ys)
  unfolding Mixed
  mixed-append k [] ys h g = mixed-any k ys g
  mixed-append zero (x ∷ xs) ys h g = (h.0, mixed-append zero xs ys h.1 g)
  mixed-append (suc k) (x ∷ xs) ys h g = (h.0, mixed-append k xs ys h.1 g)

  mixed-next : (k : ℕ) (x : List ℕ) (xs : List (List ℕ)) → Mixed rank i d k (x ∷ xs) → (depth rank i (message_in x) ≤ suc d) × Mixed rank i d (less k) xs
  unfolding Mixed less
  mixed-next zero x xs h = (le_trans h.0 (omega arith), h.1)
  mixed-next (suc k) x xs h = h

  -- a round begins
  mixed-all : (xs : List (List ℕ)) → Mixed rank i (suc d) 0 xs → Mixed rank i d (length xs) xs
  unfolding Mixed
  mixed-all [] h = tt
  mixed-all (x ∷ xs) h = (h.0, mixed-all xs h.1)

mixed-none : (rank : Rank) (i : ℕ) (xs : List (List ℕ)) → Mixed rank i 0 0 xs → xs ≡ []
unfolding Mixed
mixed-none rank i [] h = refl
mixed-none rank i (x ∷ xs) h = absurd (let a : 1 ≤ depth rank i (message_in x) = depth-some rank i (message_in x) in let b : depth rank i (message_in x) ≤ 0 = h.0 in omega arith)

mixed-under : (rank : Rank) (i top : ℕ) → ((a : List ℕ) → rank a i ≤ top) → (xs : List (List ℕ)) → Mixed rank i (2 + top) 0 xs
unfolding Mixed
mixed-under rank i top h [] = tt
mixed-under rank i top h (x ∷ xs) = (depth-under rank i top (message_in x) (h _), mixed-under rank i top h xs)

-- ---- values anew, of one place

anew-two {ℓ κ μ} : {X : Type ℓ} {Y : Type κ} (P : ℕ → ℕ → X → Y → Type μ) (i p : ℕ) (x : X) (y : Y) (f : ℕ → ℕ → X) (g : ℕ → ℕ → Y) (k n : ℕ) → P i p x y → P k n (f k n) (g k n) → P k n (anew i p x f k n) (anew i p y g k n)
unfolding anew
anew-two P i p x y f g k n at there =
    by-test (eqb k i)
    (λ a. by-test (eqb n p)
    (λ b. rw (a, b) (subst (λ (z : ℕ). P z n x y) (sym (eqb-true k i a)) (subst (λ (z : ℕ). P i z x y) (sym (eqb-true n p b)) at)))
    (λ b. rw (a, b) there))
    (λ a. rw a there)

less-le : (x y : ℕ) → x ≤ suc y → less x ≤ y
unfolding less
less-le zero y h = zero-le
less-le (suc x) y h = omega arith

times_none : (i p x : ℕ) → x ≤ times i p [] → x ≡ 0
unfolding times count
times_none i p x h = omega arith

-- one serving less is to come
times-less : (e : Ear) (es : List Ear) (f : ℕ → ℕ → ℕ) → ((i p : ℕ) → f i p ≤ times i p (e ∷ es)) → (i p : ℕ) → anew e.at e.from (less (f e.at e.from)) f i p ≤ times i p es
unfolding anew times count
times-less e es f h i p =
    by-test (eqb i e.at && eqb p e.from)
    (λ a. let at = both (eqb i e.at) (eqb p e.from) a in
    let same_place : f i p ≡ f e.at e.from = ap (λ (x : ℕ). f x p) (eqb-true _ _ at.0) ∙ ap (f e.at) (eqb-true _ _ at.1) in
    rw a (less-le (f e.at e.from) _ (rw (a, same_place) at (h i p))))
    (λ a. rw a (rw a at (h i p)))

times-other : (e : Ear) (es : List Ear) (i p : ℕ) → (eqb i e.at && eqb p e.from) ≡ false → 1 ≤ times i p (e ∷ es) → 1 ≤ times i p es
unfolding times count
times-other e es i p a h = rw a at h

none_found : (xs : List (List ℕ)) → some xs ≡ 0 → xs ≡ []
unfolding some
none_found [] z = refl
none_found (x ∷ xs) z = absurd (omega arith)

both-none : (far : Wires) (w : Net) (e : Ear) (es : List Ear) → delivered far w (e ∷ es) ≡ 0 → (w.inbox e.at e.from ≡ []) × (delivered far (turn far w (hearing e)) es ≡ 0)
unfolding delivered
both-none far w e es z = (none_found (w.inbox e.at e.from) (omega arith), omega arith)

-- ---- a round

module _ (far : Wires) (W : Wired far) (n : ℕ) (I : Within far n) (rank : Rank) (P : List ℕ → Type 0) where
  module _ (d : ℕ) where
    -- on each line so many old messages at most
    abbrev Under-way : (ℕ → ℕ → ℕ) → Net → Type 0
    Under-way f w = (i p : ℕ) → Mixed rank i d (f i p) (w.inbox i p)

    abbrev fewer : (ℕ → ℕ → ℕ) → Ear → ℕ → ℕ → ℕ
    fewer f e = anew e.at e.from (less (f e.at e.from)) f

    served : (w : Net) → Ready far rank P w → (f : ℕ → ℕ → ℕ) → Under-way f w → (e : Ear) (xs : List (List ℕ)) → w.inbox e.at e.from ≡ xs → Under-way (fewer f e) (turn far w (hearing e))
    served w R f M e [] u i p =
        subst (λ (v : Net). Mixed rank i d (fewer f e i p) (v.inbox i p)) (sym (next-none far W n I rank P w R e.at e.from e.room u))
        (anew-at (λ (x y k : ℕ). Mixed rank x d k (w.inbox x y)) e.at e.from _ f i p (rw u (unfold Mixed in tt)) (M i p))
    served w R f M e (s ∷ rest) u i p =
        subst (λ (v : Net). Mixed rank i d (fewer f e i p) (v.inbox i p)) (sym (next-some far W n I rank P w R e.at e.from e.room s rest u)) (then-mixed i p)
      where
        one : (depth rank e.at (message_in s) ≤ suc d) × Mixed rank e.at d (less (f e.at e.from)) rest
        one = mixed-next rank e.at d (f e.at e.from) s rest (subst (Mixed rank e.at d (f e.at e.from)) u (M e.at e.from))

        shallow : Shallow far rank e.at d (sends (w.past e.at).card (Line.hearing e.room e.from s))
        shallow = calls-shallow far w rank e.at e.from d (message_in s) (R.climbs _ (about far W n I rank P w R e.at e.from e.room s rest u).0) one.0 _ (said far W n I rank P w R e.at e.from e.room s rest u)

        then-mixed : (i p : ℕ) → Mixed rank i d (fewer f e i p) ((then far W n I rank P w R e.at e.from e.room s rest u).inbox i p)
        then-mixed i p =
            unfold stepped in (mixed-append rank i d (fewer f e i p) (anew e.at e.from rest w.inbox i p) _
            (anew-two (λ (x y : ℕ) (k : ℕ) (xs : List (List ℕ)). Mixed rank x d k xs) e.at e.from _ rest f w.inbox i p one.1 (M i p))
            (arriving-shallow far W rank w e.at (Line.hearing e.room e.from s) d i p (far i p) refl shallow))

    in-round : (w : Net) → Ready far rank P w → (f : ℕ → ℕ → ℕ) → Under-way f w → (es : List Ear) → ((i p : ℕ) → f i p ≤ times i p es) → Under-way (λ i p. 0) (turns far w (hearings es))
    unfolding turns hearings
    in-round w R f M [] h i p = subst (λ (k : ℕ). Mixed rank i d k (w.inbox i p)) (times_none i p (f i p) (h i p)) (M i p)
    in-round w R f M (e ∷ es) h i p = in-round (turn far w (hearing e)) (next-ready far W n I rank P w R e.at e.from e.room) (fewer f e) (served w R f M e (w.inbox e.at e.from) refl) es (times-less e es f h) i p

  -- all that is under way is of depth d at most
  abbrev Deep : ℕ → Net → Type 0
  Deep d w = (i p : ℕ) → Mixed rank i d 0 (w.inbox i p)

  a-round : (d : ℕ) (w : Net) → Ready far rank P w → Deep (suc d) w → (es : List Ear) → Round far w es → Deep d (turns far w (hearings es))
  a-round d w R D es h = in-round d w R (λ i p. length (w.inbox i p)) (λ i p. mixed-all rank i d (w.inbox i p) (D i p)) es (λ i p. enough i p (far i p) refl)
    where
      enough : (i p : ℕ) (f : Far) → far i p ≡ f → length (w.inbox i p) ≤ times i p es
      enough i p nobody e = rw (R.fit.ended i p e) zero-le
      enough i p (box j q) e = h i p j q e

  rounds-silent : (w : Net) → Ready far rank P w → Silent far w → (ess : List (List Ear)) → Silent far (after far w ess)
  unfolding after
  rounds-silent w R Z [] = Z
  rounds-silent w R Z (es ∷ ess) = rounds-silent (turns far w (hearings es)) (later-ready far W n I rank P w R es) (silent-lasts far W n I rank P w R.fit Z es) ess

  all-rounds : (d : ℕ) (w : Net) → Ready far rank P w → Deep d w → (ess : List (List Ear)) → Rounds far w ess → d ≤ length ess → Silent far (after far w ess)
  unfolding after Rounds
  all-rounds zero w R D ess T h = rounds-silent w R (λ i p j q e. mixed-none rank i (w.inbox i p) (D i p)) ess
  all-rounds (suc d) w R D [] T h = absurd (not-suc-le-zero h)
  all-rounds (suc d) w R D (es ∷ ess) T h = all-rounds d (turns far w (hearings es)) (later-ready far W n I rank P w R es) (a-round d w R D es T.0) ess T.1 (omega arith)

  under-deep : (top : ℕ) → Under n rank top → (w : Net) → Fit far w → Deep (2 + top) w
  under-deep top U w F i p = at (far i p) refl
    where
      at : (f : Far) → far i p ≡ f → Mixed rank i (2 + top) 0 (w.inbox i p)
      at nobody e = rw (F.ended i p e) (unfold Mixed in tt)
      at (box j q) e = mixed-under rank i top (λ a. U a i (I i p j q e)) (w.inbox i p)

  -- ---- a pass

  -- where no serving finds a message, nothing happens, and the lines served are empty
  idle : (w : Net) → Ready far rank P w → (es : List Ear) → delivered far w es ≡ 0 → (i p : ℕ) → 1 ≤ times i p es → w.inbox i p ≡ []
  idle w R [] z i p h = absurd (let none : 1 ≡ 0 = times_none i p 1 h in omega arith)
  idle w R (e ∷ es) z i p h =
      let parts : (w.inbox e.at e.from ≡ []) × (delivered far (turn far w (hearing e)) es ≡ 0) = both-none far w e es z in
      let same-net : turn far w (hearing e) ≡ w = next-none far W n I rank P w R e.at e.from e.room parts.0 in
      by-test (eqb i e.at && eqb p e.from)
      (λ a. let at = both (eqb i e.at) (eqb p e.from) a in
      subst (λ (x : ℕ). w.inbox x p ≡ []) (sym (eqb-true _ _ at.0)) (subst (λ (x : ℕ). w.inbox e.at x ≡ []) (sym (eqb-true _ _ at.1)) parts.0))
      (λ a. idle w R es (subst (λ (v : Net). delivered far v es ≡ 0) same-net parts.1) i p (times-other e es i p a h))

  pass_on : (w : Net) → Ready far rank P w → (ess : List (List Ear)) → Passes far ess → ahead rank n w ≤ length ess → Silent far (after far w ess)
  unfolding Passes after
  pass_on w R [] T h = none_ahead far W n I rank P w (omega arith)
  pass_on w R (es ∷ ess) T h =
      let on : ahead rank n (turns far w (hearings es)) ≤ length ess → Silent far (after far (turns far w (hearings es)) ess) = pass_on (turns far w (hearings es)) (later-ready far W n I rank P w R es) ess T.1 in
      let most : delivered far w es + ahead rank n (turns far w (hearings es)) ≤ ahead rank n w = later-most far W n I rank P w R es in
      by-test (eqb (delivered far w es) 0)
      (λ z. rounds-silent (turns far w (hearings es)) (later-ready far W n I rank P w R es) (silent-lasts far W n I rank P w R.fit (λ i p j q e. idle w R es (eqb-true _ _ z) i p (T.0 i p j q e)) es) ess)
      (λ z. let some-heard : delivered far w es ≡ 0 → ⊥ = eqb-false _ _ z in on (omega arith))

pub in-passes : InPasses
in-passes far W n I base ts rank S ess T h =
    pass_on far W n I rank (λ a. Climbs far (turns far (laid base) ts) a (rank a)) (turns far (laid base) ts) (laid-ready far W n I base ts rank S) ess T h

-- IN ROUNDS
pub in-rounds : InRounds
in-rounds far W n I base ts rank top U S ess T h =
    all-rounds far W n I rank (λ a. Climbs far (turns far (laid base) ts) a (rank a)) (2 + top) (turns far (laid base) ts)
    (laid-ready far W n I base ts rank S)
    (under-deep far W n I rank (λ a. Climbs far (turns far (laid base) ts) a (rank a)) top U (turns far (laid base) ts) (reached-fit far base ts)) ess T h

-- ---- and then the whole tree

unfoldable flat : List (List Ear) → List Ear
flat [] = []
flat (es ∷ ess) = es ++ flat ess

hearings-append : (es fs : List Ear) → hearings (es ++ fs) ≡ hearings es ++ hearings fs
unfolding hearings
hearings-append [] fs = refl
hearings-append (e ∷ es) fs = ap (◌∷◌ (hearing e)) (hearings-append es fs)

after-flat : (far : Wires) (w : Net) (ess : List (List Ear)) → turns far w (hearings (flat ess)) ≡ after far w ess
unfolding after flat
after-flat far w [] = unfold turns hearings in refl
after-flat far w (es ∷ ess) = ap (turns far w) (hearings-append es (flat ess)) ∙ turns-append far w (hearings es) (hearings (flat ess)) ∙ after-flat far (turns far w (hearings es)) ess

pub whole-in-rounds : WholeInRounds
whole-in-rounds far W n I base ts rank top U S ess T h unrefused a good C =
    let w : Net = turns far (laid base) ts in
    let e : turns far (turns far (laid base) ts) (hearings (flat ess)) ≡ after far (turns far (laid base) ts) ess = after-flat far (turns far (laid base) ts) ess in
    subst (λ (v : Net). Reaches far (turns far (laid base) ts) v a (rank a)) e
    (silent-whole far W n I base ts rank S (flat ess) (subst (Silent far) (sym e) (in-rounds far W n I base ts rank top U S ess T h)) (subst (Unrefused far) (sym e) unrefused) a good C)
