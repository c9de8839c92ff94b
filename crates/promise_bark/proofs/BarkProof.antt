-- NO BARK: packets that travel.
-- Assumes nothing.
use Rattle.std.specs.Prelude.{ℕ, ◌<◌, Bool, ◌&&◌, ◌||◌}
use native.Mathlib.Omega.{arith}
use Rattle.std.proofs.Math.Path.{◌≡◌, refl, sym, ap, subst}
use Rattle.std.proofs.Common.{ap₂, ◌∙◌}
use Rattle.std.proofs.Math.Bool.{true, false}
use mathlib.Core.List.{List, [], ◌∷◌, ◌++◌}
use Rattle.std.proofs.Math.Dec.{eqb}
use borrow.Author.Tests.{eqb-true, eqb-false, eq-eqb, ne_eqb}
use Rattle.meaning.specs.Octets.{pick}
use Rattle.meaning.specs.Lists.{by-test, picked, append-nil}
use Rattle.meaning_laws.specs.RoundTrip.{both}
use Rattle.meaning.specs.Wire.{withdraw, release, Message, message_in, Sent}
use Rattle.meaning.specs.Card.{Card, tree_of, Branch, carrier, lookup_label, lookup_name, neighbour_count}
use Rattle.meaning.specs.Events.{Outcome, outcome, Event, receive, join, leave, route, lost, branch}
use Rattle.promise.specs.Promise.{Given, Step, Past, answer_to, sends, then_step}
use Rattle.promise.specs.PromiseProof.{messages_of, Upheld}
use Rattle.promise.proofs.PromiseProof.{sends-is, then-upheld, started}
use Rattle.promise.proofs.LossKept.{lost-taken, NotTo, Gone, lost-gone}
use Rattle.promise.specs.Deeds.{then_deed}
use Rattle.promise.specs.Deeds
use Rattle.meaning.specs.Notice.{notice}
use Rattle.promise_line.specs.Line.{parcels, addressed, hearing, refuses}
use Rattle.promise_line.specs.Line
use Rattle.promise_line.specs.LineProof.{Bound}
use Rattle.promise_line.proofs.LineProof
use Rattle.promise_line.specs.Notices.{notice-aside}
use Rattle.promise_line.specs.Life.{Life, idle, asked, standing, hasty, leaving, going, stranded}
use Rattle.promise_line.specs.Sends.{is_down, kin}
use Rattle.promise_net.specs.Net.{Far, nobody, box, Wires, Wired, Net, box_at, arriving, anew, is_box, over_line, losing, joined}
use Rattle.promise_net.specs.Net
use Rattle.promise_net.specs.NetProof.{AllBound}
use Rattle.promise_net.proofs.NetProof.{turns-bound, laid-bound}
use Rattle.promise_bark.specs.Bark.{Item, letter, packet, Traffic, letters, messages, talk, laid, stepped, noticed, told, copies, copies_to, sent, taken, passed, dropped, parted, severed, is_live, Turn, takes, does, tells, puts, comes, loses, passes, cuts, turn, turns, handed, handed_of, hands, copied, copied_of, goes, EachPacket, EachHand, EachCopy, Next, order, message, cut, NotGiven, Alive, Right, Asked, NoBark, NoBarkInTime}
use Rattle.promise_bark.specs.Lookups.{EachBranch, Listed, name-fair, label-fair, label-carried}
use Rattle.promise_bark.specs.AtOnce.{listed-alive, at-once}
use Rattle.promise_bark.specs.Ledger.{frees, alive-then, step-not-given}
use Rattle.promise_bark.specs.Queues.{Orderly}
use Rattle.promise_bark.proofs.Queues.{each_of, each_both, each_all, each-letters, messages-append, messages-letters, orderly-live, orderly-map, orderly-append, orderly-letters, messages-passed, orderly-passed, empty-passed}
use Rattle.promise_line.proofs.LineRefusals.{far-off}
use Rattle.promise_bark.specs.BarkProof.{Sure}

-- ---- a value anew

pub anew-at {ℓ κ} : {X : Type ℓ} (P : ℕ → ℕ → X → Type κ) (k n : ℕ) (x : X) (f : ℕ → ℕ → X) (j q : ℕ) → P k n x → ((eqb j k && eqb q n) ≡ false → P j q (f j q)) → P j q (anew k n x f j q)
unfolding anew
anew-at P k n x f j q here there =
    picked (P j q) (eqb j k && eqb q n)
    (λ e. let at = both (eqb j k) (eqb q n) e in subst (λ (y : ℕ). P y q x) (sym (eqb-true j k at.0)) (subst (λ (y : ℕ). P k y x) (sym (eqb-true q n at.1)) here))
    there

pub messages-anew : (k n : ℕ) (rest : List Item) (f : ℕ → ℕ → List Item) (i p : ℕ) → messages (anew k n rest f i p) ≡ anew k n (messages rest) (λ j q. messages (f j q)) i p
unfolding anew
messages-anew k n rest f i p = by-test (eqb i k && eqb p n) (λ e. rw e refl) (λ e. rw e refl)

-- ---- the messages go as they do in `Net`

bound-eq : (far : Wires) (v w : Net) → ((i p : ℕ) → box_at w i p ≡ box_at v i p) → AllBound far v → AllBound far w
bound-eq far v w e A i p j q f = rw (e i p, e j q) (A i p j q f)

stepped-box : (far : Wires) (w : Traffic) (k : ℕ) (s : Step) (under : ℕ → ℕ → List Item) (inbox : ℕ → ℕ → List (List ℕ)) (refused : ℕ → ℕ → Bool) (i p : ℕ) → messages (under i p) ≡ inbox i p
    → box_at (talk (stepped far w k s under refused)) i p ≡ box_at (Net.stepped far (talk w) k s inbox refused) i p
unfolding box_at talk stepped Net.stepped
stepped-box far w k s under inbox refused i p e = rw (messages-append (under i p) (letters (arriving (talk w) k s (far i p))), messages-letters (arriving (talk w) k s (far i p)), e) refl

hears-net : (far : Wires) → Wired far → (v : Net) → AllBound far v → (k n room : ℕ) (s : List ℕ) (rest : List (List ℕ)) → v.inbox k n ≡ s ∷ rest
    → AllBound far (Net.stepped far v k (hearing room n s) (anew k n rest v.inbox) (anew k n (v.refused k n || refuses (box_at v k n) (hearing room n s)) v.refused))
unfolding Net.turns Net.turn Net.heard
hears-net far W v A k n room s rest u = rw u at (turns-bound far W v A (Net.hears k n room ∷ []))

does-net : (far : Wires) → Wired far → (v : Net) → AllBound far v → (k : ℕ) (s : Step) → over_line far k s.does ≡ false → AllBound far (Net.stepped far v k s v.inbox v.refused)
unfolding Net.turns Net.turn
does-net far W v A k s d = rw d at (turns-bound far W v A (Net.does k s ∷ []))

messages-copies : (a : List ℕ) (p : ℕ) (bs : List Branch) → messages (copies a p bs) ≡ []
unfolding messages copies
messages-copies a p [] = refl
messages-copies a p (b ∷ bs) = by-test (eqb b.neighbour p) (λ e. rw e (messages-copies a p bs)) (λ e. rw e (messages-copies a p bs))

pub messages-copies-to : (k : ℕ) (a : List ℕ) (bs : List Branch) (f : Far) → messages (copies_to k a bs f) ≡ []
unfolding messages copies_to
messages-copies-to k a bs nobody = refl
messages-copies-to k a bs (box j q) = by-test (eqb j k) (λ e. rw e (messages-copies a q bs)) (λ e. rw e refl)

sent-box : (far : Wires) (w : Traffic) (k : ℕ) (a : List ℕ) (bs : List Branch) (under : ℕ → ℕ → List Item) (i p : ℕ) → messages (under i p) ≡ messages (w.line i p) → box_at (talk (sent far w k a bs under)) i p ≡ box_at (talk w) i p
unfolding box_at talk sent
sent-box far w k a bs under i p e = rw (messages-append (under i p) (copies_to k a bs (far i p)), messages-copies-to k a bs (far i p), append-nil (messages (under i p)), e) refl

-- ---- what is under way to box j from its number q, after a step of box k

then-orderly : (p : Past) → Upheld p → (s : Step) (q : ℕ) (xs : List Item) → EachPacket (λ a l. frees q l s.does ≡ false) xs → Orderly q p.live xs → Orderly q (then_step p s).live xs
then-orderly p u s q xs c O = orderly-map q p.live (then_step p s).live _ (λ a l d alive. alive-then q a l p u s d alive) xs c O

stepped-orderly : (far : Wires) (w : Traffic) (k : ℕ) (s : Step) (under : ℕ → ℕ → List Item) (refused : ℕ → ℕ → Bool) (j q : ℕ) → Upheld (w.past k)
    → (j ≡ k → EachPacket (λ a l. frees q l s.does ≡ false) (under j q)) → Orderly q (w.past j).live (under j q) → Orderly q ((stepped far w k s under refused).past j).live ((stepped far w k s under refused).line j q)
unfolding stepped
stepped-orderly far w k s under refused j q u c O =
    orderly-append q _ (under j q) _ now (orderly-letters q _ _) (each-letters _ _)
  where
    now : Orderly q (pick (eqb j k) (then_step (w.past k) s) (w.past j)).live (under j q)
    now = picked (λ (p : Past). Orderly q p.live (under j q)) (eqb j k) (λ h. let e : j ≡ k = eqb-true j k h in then-orderly (w.past k) u s q (under j q) (c e) (subst (λ (x : ℕ). Orderly q (w.past x).live (under j q)) e O)) (λ _. O)

stepped-ended : (far : Wires) (w : Traffic) (k : ℕ) (s : Step) (under : ℕ → ℕ → List Item) (refused : ℕ → ℕ → Bool) (j q : ℕ) → far j q ≡ nobody → under j q ≡ [] → (stepped far w k s under refused).line j q ≡ []
unfolding stepped arriving letters
stepped-ended far w k s under refused j q e z = rw (e, z) refl

stepped-upheld : (far : Wires) (w : Traffic) (k : ℕ) (s : Step) (under : ℕ → ℕ → List Item) (refused : ℕ → ℕ → Bool) → ((i : ℕ) → Upheld (w.past i)) → (i : ℕ) → Upheld ((stepped far w k s under refused).past i)
unfolding stepped
stepped-upheld far w k s under refused U i = picked Upheld (eqb i k) (λ _. then-upheld (w.past k) s (U k)) (λ _. U i)

-- ---- a step that is no message of another box

not-freed : (far : Wires) (j q i p : ℕ) → far j q ≡ box i p → (e : Event) → over_line far j e ≡ false → (l : ℕ) → frees q l e ≡ false
unfolding over_line frees is_box
not-freed far j q i p f (receive n s) d l =
    by-test (eqb n q)
    (λ k. absurd (let z : true ≡ false = rw (eqb-true n q k, f) at d in let z' : ◌≡◌ {A = ℕ} 0 1 = cc in omega arith))
    (λ k. rw k refl)
not-freed far j q i p f (join e) d l = refl
not-freed far j q i p f (leave e) d l = refl
not-freed far j q i p f (route r via) d l = refl
not-freed far j q i p f (lost n) d l =
    by-test (eqb n q)
    (λ k. absurd (let z : true ≡ false = rw (eqb-true n q k, f) at d in let z' : ◌≡◌ {A = ℕ} 0 1 = cc in omega arith))
    (λ k. k)

order-keeps : (far : Wires) (w : Traffic) → Sure far w → (k : ℕ) (s : Step) → over_line far k s.does ≡ false → (j q : ℕ) → j ≡ k → EachPacket (λ a l. frees q l s.does ≡ false) (w.line j q)
order-keeps far w S k s d j q e = at (far j q) refl
  where
    at : (f : Far) → far j q ≡ f → EachPacket (λ a l. frees q l s.does ≡ false) (w.line j q)
    at nobody f = rw (S.ended j q f) (unfold EachPacket in tt)
    at (box i p) f = each_all _ (λ a l. not-freed far j q i p f s.does (subst (λ (x : ℕ). over_line far x s.does ≡ false) (sym e) d) l) (w.line j q)

does-sure : (far : Wires) → Wired far → (w : Traffic) → Sure far w → (k : ℕ) (s : Step) → over_line far k s.does ≡ false → Sure far (stepped far w k s w.line w.refused)
unfolding talk
does-sure far W w S k s d = record {
  bound = bound-eq far (Net.stepped far (talk w) k s (talk w).inbox (talk w).refused) _ (λ i p. stepped-box far w k s w.line (talk w).inbox w.refused i p (unfold talk in refl)) (does-net far W (talk w) S.bound k s d);
  upheld = stepped-upheld far w k s w.line w.refused S.upheld;
  orderly = λ j q. stepped-orderly far w k s w.line w.refused j q (S.upheld k) (order-keeps far w S k s d j q) (S.orderly j q);
  ended = λ j q e. stepped-ended far w k s w.line w.refused j q e (S.ended j q e);
}

-- ---- a message of another box

none-freed : (n : ℕ) (gs : List Given) (s : List ℕ) (rest : List Item) → Orderly n gs (letter s ∷ rest) → EachPacket (λ a l. frees n l (receive n s) ≡ false) rest
unfolding Orderly frees is_down
none-freed n gs s rest O =
    by-test (eqb (message_in s).kind release)
    (λ k. each_of _ _ (λ a l d. rw (k, eq-eqb n n refl) (ne_eqb (message_in s).label l (λ z. d (sym z)))) rest (O.0 (message_in s).label (rw (k, eq-eqb (message_in s).label (message_in s).label refl) refl)))
    (λ k. each_all _ (λ a l. rw (k, eq-eqb n n refl) refl) rest)

other-number : (n q l : ℕ) (s : List ℕ) → (q ≡ n → ⊥) → frees q l (receive n s) ≡ false
unfolding frees
other-number n q l s d = rw (ne_eqb n q (λ z. d (sym z))) refl

-- ---- a notice

module _ (far : Wires) (W : Wired far) (w : Traffic) (S : Sure far w) (k room n number : ℕ) (s : List ℕ) where
  abbrev next : Traffic
  next = told far w k room n number s

  abbrev telling : Line.Act
  telling = Line.tells room n number s

  -- the boxes at the two ends of a line: box i tells; the other does; neither does
  acting : (i p j q : ℕ) → far i p ≡ box j q → k ≡ i → box_at (talk next) i p ≡ Line.acts (box_at (talk w) i p) telling
  unfolding box_at talk told noticed Line.acts letters
  acting i p j q e h = rw (h, e, eq-eqb i i refl, ne_eqb j i (λ z. W.apart i p j q e (sym z)), append-nil (w.line i p)) refl

  facing : (i p j q : ℕ) → far i p ≡ box j q → k ≡ j → box_at (talk next) i p ≡ Line.gets (Line.says (box_at (talk w) j q) telling) (box_at (talk w) i p)
  unfolding box_at talk told noticed Line.gets Line.says
  facing i p j q e h =
      let said : List (List ℕ) = addressed q (parcels (notice room (w.past j).card n number s).octets) in
      rw (h, e, eq-eqb j j refl, ne_eqb i j (W.apart i p j q e), messages-append (w.line i p) (letters said), messages-letters said) refl

  aside : (i p j q : ℕ) → far i p ≡ box j q → (i ≡ k → ⊥) → (j ≡ k → ⊥) → box_at (talk next) i p ≡ box_at (talk w) i p
  unfolding box_at talk told noticed letters
  aside i p j q e m o = rw (e, ne_eqb i k m, ne_eqb j k o, append-nil (w.line i p)) refl

  abbrev ends : ℕ → ℕ → ℕ → ℕ → Line.World
  ends i p j q = record { upper = box_at (talk w) i p; lower = box_at (talk w) j q }

  user-tells : (i p j q : ℕ) → far i p ≡ box j q → Bound (Line.acts (box_at (talk w) i p) telling) (Line.gets (Line.says (box_at (talk w) i p) telling) (box_at (talk w) j q))
  unfolding Line.turns Line.turn
  user-tells i p j q e = LineProof.turns-bound (ends i p j q) (Line.above telling ∷ []) (S.bound i p j q e)

  giver-tells : (i p j q : ℕ) → far i p ≡ box j q → Bound (Line.gets (Line.says (box_at (talk w) j q) telling) (box_at (talk w) i p)) (Line.acts (box_at (talk w) j q) telling)
  unfolding Line.turns Line.turn
  giver-tells i p j q e = LineProof.turns-bound (ends i p j q) (Line.below telling ∷ []) (S.bound i p j q e)

  tells-bound : AllBound far (talk next)
  tells-bound i p j q e =
      let b : far j q ≡ box i p = W.back i p j q e in
      by-test (eqb k i)
      (λ h. let f : k ≡ i = eqb-true k i h in rw (acting i p j q e f, facing j q i p b f) (user-tells i p j q e))
      (λ h. by-test (eqb k j)
      (λ g. let f : k ≡ j = eqb-true k j g in rw (facing i p j q e f, acting j q i p b f) (giver-tells i p j q e))
      (λ g. let m : i ≡ k → ⊥ = λ z. eqb-false k i h (sym z) in
      let o : j ≡ k → ⊥ = λ z. eqb-false k j g (sym z) in
      rw (aside i p j q e m o, aside j q i p b o m) (S.bound i p j q e)))

  -- a notice changes neither what is live nor what is so of the card
  told-live : (then_deed (w.past k) (Deeds.tells room n number s)).live ≡ (w.past k).live
  unfolding then_deed
  told-live = (notice-aside (w.past k) room n number s).live

  told-upheld : Upheld (then_deed (w.past k) (Deeds.tells room n number s))
  unfolding then_deed
  told-upheld = let o = notice-aside (w.past k) room n number s in rw o.live (o.upheld (S.upheld k))

  told-orderly : (j q : ℕ) → Orderly q (next.past j).live (next.line j q)
  unfolding told
  told-orderly j q = orderly-append q _ (w.line j q) _ now (orderly-letters q _ _) (each-letters _ _)
    where
      now : Orderly q (pick (eqb j k) (then_deed (w.past k) (Deeds.tells room n number s)) (w.past j)).live (w.line j q)
      now = picked (λ (p : Past). Orderly q p.live (w.line j q)) (eqb j k) (λ h. rw told-live (subst (λ (x : ℕ). Orderly q (w.past x).live (w.line j q)) (eqb-true j k h) (S.orderly j q))) (λ _. S.orderly j q)

  tells-sure : Sure far next
  tells-sure = record {
    bound = tells-bound;
    upheld = λ i. unfold told in (picked Upheld (eqb i k) (λ _. told-upheld) (λ _. S.upheld i));
    orderly = told-orderly;
    ended = λ j q e. unfold told noticed letters in (rw (e, S.ended j q e) refl);
  }

-- ---- what is handed to leaves

puts-right : (w : Traffic) (i : ℕ) (a : List ℕ) → EachHand (Right w) (handed a i a (lookup_name a (w.past i).card))
unfolding handed EachHand joined talk
puts-right w i a = by-test (lookup_name a (w.past i).card).leaf (λ e. rw e ((refl, (name-fair (w.past i).card a).leaf e), tt)) (λ e. rw e tt)

label-right : (w : Traffic) → ((i : ℕ) → Upheld (w.past i)) → (i p : ℕ) (a : List ℕ) (l : ℕ) → Alive p (w.past i).live a l → EachHand (Right w) (handed a i (carrier l (w.past i).card).name (lookup_label l (w.past i).card))
unfolding handed EachHand joined talk
label-right w U i p a l alive =
    by-test (lookup_label l (w.past i).card).leaf
    (λ e. rw e ((label-carried (w.past i) (U i) p a l alive e, (label-fair (w.past i) (U i) p a l alive).leaf e), tt))
    (λ e. rw e tt)

is_live_lem : (w : Traffic) (i p : ℕ) (a : List ℕ) (l : ℕ) → is_live w i p a l ≡ true → Alive p (w.past i).live a l
unfolding is_live
is_live_lem w i p a l e = eqb-true _ 1 e

copied-asked : (w : Traffic) (a : List ℕ) (i : ℕ) (bs : List Branch) → EachBranch (Listed (w.past i).card a) bs → EachCopy (Asked w) (copied a i bs)
unfolding copied EachCopy EachBranch
copied-asked w a i [] h = tt
copied-asked w a i (b ∷ bs) h = (h.0.1, copied-asked w a i bs h.1)

-- ---- a packet is sent on

-- while the box lists the label, no Release of it is under way
life-still : {l q : ℕ} {b : List ℕ → ℕ} {r : Bool} {gs : List Given} {ups downs : List Message} (x : List ℕ) → Life l q b r gs ups downs → b x ≡ l → downs ≡ []
life-still x (idle n) e = refl
life-still x (asked a n) e = refl
life-still x (standing a o k) e = refl
life-still x (hasty a n) e = refl
life-still x (leaving a o) e = refl
life-still x (going a n) e = absurd (n x e)
life-still x (stranded a o n) e = refl

listed-still : (far : Wires) (w : Net) → AllBound far w → (a : List ℕ) (i p j q l : ℕ) → far i p ≡ box j q → (l ≡ 0 → ⊥) → branch (tree_of a (w.past i).card) p ≡ l → kin (is_down l) (w.inbox j q) ≡ []
unfolding box_at
listed-still far w A a i p j q l e nz b = let B = A i p j q e in life-still a (B.lives l nz) b

copies-orderly : (c : Card) (a : List ℕ) (p q : ℕ) (gs : List Given) (ms : List (List ℕ)) → ((l : ℕ) → (l ≡ 0 → ⊥) → branch (tree_of a c) p ≡ l → Alive q gs a l × (kin (is_down l) ms ≡ []))
    → (bs : List Branch) → EachBranch (Listed c a) bs → Orderly q gs (copies a p bs) × EachPacket (λ b l. kin (is_down l) ms ≡ []) (copies a p bs)
unfolding EachBranch copies Orderly EachPacket
copies-orderly c a p q gs ms f [] h = (tt, tt)
copies-orderly c a p q gs ms f (b ∷ bs) h =
    let others = copies-orderly c a p q gs ms f bs h.1 in
    by-test (eqb b.neighbour p)
    (λ e. let here = f b.label h.0.0 (subst (λ (x : ℕ). branch (tree_of a c) x ≡ b.label) (eqb-true _ _ e) h.0.1) in
    rw e ((here.0, others.0), (here.1, others.1)))
    (λ e. rw e others)

module _ (far : Wires) (W : Wired far) (w : Traffic) (S : Sure far w) (k : ℕ) (a : List ℕ) (bs : List Branch) (L : EachBranch (Listed (w.past k).card a) bs) where
  copies-sure : (j q : ℕ) (f : Far) → far j q ≡ f → Orderly q (w.past j).live (copies_to k a bs f) × EachPacket (λ b l. kin (is_down l) (messages (w.line j q)) ≡ []) (copies_to k a bs f)
  unfolding copies_to talk
  copies-sure j q nobody e = unfold Orderly EachPacket in (tt, tt)
  copies-sure j q (box i p) e =
      by-test (eqb i k)
      (λ h. rw h (copies-orderly (w.past k).card a p q (w.past j).live (messages (w.line j q)) (at (eqb-true i k h)) bs L))
      (λ h. rw h (unfold Orderly EachPacket in (tt, tt)))
    where
      at : i ≡ k → (l : ℕ) → (l ≡ 0 → ⊥) → branch (tree_of a (w.past k).card) p ≡ l → Alive q (w.past j).live a l × (kin (is_down l) (messages (w.line j q)) ≡ [])
      at g l nz b =
          let back : far k p ≡ box j q = subst (λ (x : ℕ). far x p ≡ box j q) g (W.back j q i p e) in
          (listed-alive far (talk w) S.bound a k p j q l back nz b, listed-still far (talk w) S.bound a k p j q l back nz b)

  sent-sure : (under : ℕ → ℕ → List Item) → ((j q : ℕ) → messages (under j q) ≡ messages (w.line j q)) → ((j q : ℕ) → Orderly q (w.past j).live (under j q)) → ((j q : ℕ) → far j q ≡ nobody → under j q ≡ []) → Sure far (sent far w k a bs under)
  sent-sure under same-messages O E = record {
    bound = bound-eq far (talk w) _ (λ i p. sent-box far w k a bs under i p (same-messages i p)) S.bound;
    upheld = unfold sent in S.upheld;
    orderly = λ j q. unfold sent in (let c = copies-sure j q (far j q) refl in orderly-append q (w.past j).live (under j q) (copies_to k a bs (far j q)) (O j q) c.0 (rw (same-messages j q) c.1));
    ended = λ j q e. unfold sent copies_to in (rw (e, E j q e) refl);
  }

module _ (far : Wires) (W : Wired far) (w : Traffic) (S : Sure far w) (k n room : ℕ) where
  module _ (s : List ℕ) (rest : List Item) (u : w.line k n ≡ letter s ∷ rest) where
    abbrev st : Step
    st = hearing room n s

    abbrev under : ℕ → ℕ → List Item
    under = anew k n rest w.line

    abbrev marks : ℕ → ℕ → Bool
    marks = anew k n (w.refused k n || refuses (box_at (talk w) k n) st) w.refused

    head : Orderly n (w.past k).live (letter s ∷ rest)
    head = subst (Orderly n (w.past k).live) u (S.orderly k n)

    no-release : (j q : ℕ) → j ≡ k → EachPacket (λ a l. frees q l (receive n s) ≡ false) (under j q)
    no-release j q =
        anew-at (λ (x y : ℕ) (xs : List Item). x ≡ k → EachPacket (λ a l. frees y l (receive n s) ≡ false) xs) k n rest w.line j q
        (λ _. none-freed n (w.past k).live s rest head)
        (λ d e. each_all _ (λ a l. other-number n q l s (λ z. elsewhere d e z)) (w.line j q))
      where
        elsewhere : (eqb j k && eqb q n) ≡ false → j ≡ k → q ≡ n → ⊥
        elsewhere d e z = let t : true ≡ false = sym (rw (eq-eqb j k e, eq-eqb q n z) refl) ∙ d in let t' : ◌≡◌ {A = ℕ} 0 1 = cc in omega arith

    hears-sure : Sure far (stepped far w k st under marks)
    unfolding talk
    hears-sure = record {
      bound = bound-eq far (Net.stepped far (talk w) k st (anew k n (messages rest) (talk w).inbox) marks) _ (λ i p. stepped-box far w k st under (anew k n (messages rest) (talk w).inbox) marks i p (messages-anew k n rest w.line i p))
          (hears-net far W (talk w) S.bound k n room s (messages rest) (unfold messages in ap messages u));
      upheld = stepped-upheld far w k st under marks S.upheld;
      orderly = λ j q. stepped-orderly far w k st under marks j q (S.upheld k) (no-release j q) (anew-at (λ (x y : ℕ) (xs : List Item). Orderly y (w.past x).live xs) k n rest w.line j q (unfold Orderly in head.1) (λ _. S.orderly j q));
      ended = λ j q e. stepped-ended far w k st under marks j q e (anew-at (λ (x y : ℕ) (xs : List Item). far x y ≡ nobody → xs ≡ []) k n rest w.line j q (λ f. absurd (filled (sym u ∙ S.ended k n f))) (λ _. S.ended j q) e);
    }
      where
        filled : letter s ∷ rest ≡ [] → ⊥
        filled z = let t' : ◌≡◌ {A = ℕ} 0 1 = cc in omega arith

  module _ (a : List ℕ) (l : ℕ) (rest : List Item) (u : w.line k n ≡ packet a l ∷ rest) where
    -- what it is looked up by
    label-live : Alive n (w.past k).live a l × Orderly n (w.past k).live rest
    label-live = unfold Orderly in subst (Orderly n (w.past k).live) u (S.orderly k n)

    -- it leaves the line, and goes along some branches
    off-sure : (bs : List Branch) → EachBranch (Listed (w.past k).card a) bs → Sure far (sent far w k a bs (anew k n rest w.line))
    off-sure bs L =
        sent-sure far W w S k a bs L (anew k n rest w.line)
        (λ j q. anew-at (λ (x y : ℕ) (xs : List Item). messages xs ≡ messages (w.line x y)) k n rest w.line j q (unfold messages in (ap messages (sym u))) (λ _. refl))
        (λ j q. anew-at (λ (x y : ℕ) (xs : List Item). Orderly y (w.past x).live xs) k n rest w.line j q label-live.1 (λ _. S.orderly j q))
        (λ j q. anew-at (λ (x y : ℕ) (xs : List Item). far x y ≡ nobody → xs ≡ []) k n rest w.line j q (λ f. absurd (filled (sym u ∙ S.ended k n f))) (λ _. S.ended j q))
      where
        filled : packet a l ∷ rest ≡ [] → ⊥
        filled z = let t' : ◌≡◌ {A = ℕ} 0 1 = cc in omega arith

  taken-sure : (xs : List Item) → w.line k n ≡ xs → Sure far (taken far w k n room xs)
  unfolding taken
  taken-sure [] u = S
  taken-sure (letter s ∷ rest) u = hears-sure s rest u
  taken-sure (packet a l ∷ rest) u = off-sure a l rest u (lookup_label l (w.past k).card).branches (label-fair (w.past k) (S.upheld k) n a l (label-live a l rest u).0).branches

  lost-sure : (xs : List Item) → w.line k n ≡ xs → Sure far (dropped far w k n xs)
  unfolding dropped
  lost-sure [] u = S
  lost-sure (letter s ∷ rest) u = S
  lost-sure (packet a l ∷ rest) u = off-sure a l rest u [] (unfold EachBranch in tt)

  taken-right : (xs : List Item) → w.line k n ≡ xs → EachHand (Right w) (handed_of w k xs)
  unfolding handed_of
  taken-right [] u = unfold EachHand in tt
  taken-right (letter s ∷ rest) u = unfold EachHand in tt
  taken-right (packet a l ∷ rest) u = label-right w S.upheld k n a l (label-live a l rest u).0

  taken-asked : (xs : List Item) → w.line k n ≡ xs → EachCopy (Asked w) (copied_of w k xs)
  unfolding copied_of
  taken-asked [] u = unfold EachCopy in tt
  taken-asked (letter s ∷ rest) u = unfold EachCopy in tt
  taken-asked (packet a l ∷ rest) u = copied-asked w a k (lookup_label l (w.past k).card).branches (label-fair (w.past k) (S.upheld k) n a l (label-live a l rest u).0).branches

-- ---- what overtakes on a line

passes-sure : (far : Wires) → Wired far → (w : Traffic) → Sure far w → (i p n : ℕ) → Sure far (sent far w i [] [] (anew i p (passed n (w.line i p)) w.line))
passes-sure far W w S i p n =
    sent-sure far W w S i [] [] (unfold EachBranch in tt) (anew i p (passed n (w.line i p)) w.line)
    (λ j q. anew-at (λ (x y : ℕ) (xs : List Item). messages xs ≡ messages (w.line x y)) i p (passed n (w.line i p)) w.line j q (messages-passed n (w.line i p)) (λ _. refl))
    (λ j q. anew-at (λ (x y : ℕ) (xs : List Item). Orderly y (w.past x).live xs) i p (passed n (w.line i p)) w.line j q (orderly-passed p (w.past i).live n (w.line i p) (S.orderly i p)) (λ _. S.orderly j q))
    (λ j q. anew-at (λ (x y : ℕ) (xs : List Item). far x y ≡ nobody → xs ≡ []) i p (passed n (w.line i p)) w.line j q (λ f. empty-passed n (w.line i p) (S.ended i p f)) (λ _. S.ended j q))

-- ---- a line that is cut

pub talk-steps : (far : Wires) (w : Traffic) (k : ℕ) (s : Step) (under : ℕ → ℕ → List Item) (inbox : ℕ → ℕ → List (List ℕ)) (refused : ℕ → ℕ → Bool) → ((i p : ℕ) → messages (under i p) ≡ inbox i p)
    → talk (stepped far w k s under refused) ≡ Net.stepped far (talk w) k s inbox refused
unfolding talk stepped Net.stepped
talk-steps far w k s under inbox refused e = λ t. record {
  past = λ x. pick (eqb x k) (then_step (w.past k) s) (w.past x);
  inbox = λ x p. (messages-append (under x p) (letters (arriving (talk w) k s (far x p))) ∙ ap₂ ◌++◌ (e x p) (messages-letters (arriving (talk w) k s (far x p)))) t;
  refused = refused;
}

talk-stepped : (far : Wires) (w : Traffic) (k : ℕ) (s : Step) → talk (stepped far w k s w.line w.refused) ≡ Net.stepped far (talk w) k s (talk w).inbox (talk w).refused
unfolding talk
talk-stepped far w k s = talk-steps far w k s w.line (talk w).inbox w.refused (λ i p. unfold talk in refl)

talk-parted : (far : Wires) (w : Traffic) (i p j q : ℕ) → talk (parted far w i p j q) ≡ Net.parted far (talk w) i p j q
unfolding parted Net.parted
talk-parted far w i p j q = talk-stepped far (stepped far w i (losing p) w.line w.refused) j (losing q) ∙ ap (λ (v : Net). Net.stepped far v j (losing q) v.inbox v.refused) (talk-stepped far w i (losing p))

talk-severed : (far : Wires) (w : Traffic) (i p : ℕ) (f : Far) → talk (severed far w i p f) ≡ Net.severed far (talk w) i p f
unfolding severed Net.severed
talk-severed far w i p nobody = refl
talk-severed far w i p (box j q) = cleared ∙ ap (λ (v : Net). record { past = v.past; inbox = anew i p [] (anew j q [] v.inbox); refused = anew i p false (anew j q false v.refused) }) (talk-parted far w i p j q)
  where
    emptied : (k n : ℕ) → messages (anew i p [] (anew j q [] (parted far w i p j q).line) k n) ≡ anew i p [] (anew j q [] (λ x y. messages ((parted far w i p j q).line x y))) k n
    emptied k n = unfold anew in by-test (eqb k i && eqb n p) (λ e. rw e (unfold messages in refl)) (λ e. rw e (by-test (eqb k j && eqb n q) (λ h. rw h (unfold messages in refl)) (λ h. rw h refl)))

    cleared : talk (severed far w i p (box j q)) ≡ record { past = (talk (parted far w i p j q)).past; inbox = anew i p [] (anew j q [] (talk (parted far w i p j q)).inbox); refused = anew i p false (anew j q false (talk (parted far w i p j q)).refused) }
    cleared = unfold talk in λ t. record { past = (parted far w i p j q).past; inbox = λ k n. emptied k n t; refused = anew i p false (anew j q false (parted far w i p j q).refused) }

cuts-net : (far : Wires) → Wired far → (v : Net) → AllBound far v → (i p : ℕ) → AllBound far (Net.severed far v i p (far i p))
unfolding Net.turns Net.turn
cuts-net far W v A i p = turns-bound far W v A (Net.cuts i p ∷ [])

module _ (far : Wires) (W : Wired far) (w : Traffic) (S : Sure far w) (i p j q : ℕ) (e : far i p ≡ box j q) where
  abbrev one : Traffic
  one = stepped far w i (losing p) w.line w.refused

  -- a packet on another line is on a label that the loss does not end
  else-orderly : (k n : ℕ) → (eqb k i && eqb n p) ≡ false → (eqb k j && eqb n q) ≡ false → Orderly n ((parted far w i p j q).past k).live ((parted far w i p j q).line k n)
  unfolding parted frees
  else-orderly k n a b =
      stepped-orderly far one j (losing q) one.line one.refused k n (stepped-upheld far w i (losing p) w.line w.refused S.upheld j)
      (λ z. each_all _ (λ _ _. ne_eqb q n (λ y. elsewhere k j n q b z (sym y))) (one.line k n))
      (stepped-orderly far w i (losing p) w.line w.refused k n (S.upheld i) (λ z. each_all _ (λ _ _. ne_eqb p n (λ y. elsewhere k i n p a z (sym y))) (w.line k n)) (S.orderly k n))
    where
      elsewhere : (a b c d : ℕ) → (eqb a b && eqb c d) ≡ false → a ≡ b → c ≡ d → ⊥
      elsewhere a b c d h x y = let t : true ≡ false = sym (rw (eq-eqb a b x, eq-eqb c d y) refl) ∙ h in let t' : ◌≡◌ {A = ℕ} 0 1 = cc in omega arith

  cut-orderly : (k n : ℕ) → Orderly n ((severed far w i p (box j q)).past k).live ((severed far w i p (box j q)).line k n)
  unfolding severed anew
  cut-orderly k n =
      by-test (eqb k i && eqb n p)
      (λ a. rw a (unfold Orderly in tt))
      (λ a. rw a (by-test (eqb k j && eqb n q) (λ b. rw b (unfold Orderly in tt)) (λ b. rw b (else-orderly k n a b))))

  cut-ended : (k n : ℕ) → far k n ≡ nobody → (severed far w i p (box j q)).line k n ≡ []
  unfolding severed parted anew
  cut-ended k n f =
      by-test (eqb k i && eqb n p)
      (λ a. rw a refl)
      (λ a. rw a (by-test (eqb k j && eqb n q) (λ b. rw b refl) (λ b. rw b (stepped-ended far one j (losing q) one.line one.refused k n f (stepped-ended far w i (losing p) w.line w.refused k n f (S.ended k n f))))))

severed-sure : (far : Wires) → Wired far → (w : Traffic) → Sure far w → (i p : ℕ) (f : Far) → far i p ≡ f → Sure far (severed far w i p f)
severed-sure far W w S i p nobody e = unfold severed in S
severed-sure far W w S i p (box j q) e = record {
  bound = subst (AllBound far) (sym (talk-severed far w i p (box j q))) (rw e at (cuts-net far W (talk w) S.bound i p));
  upheld = λ k. unfold severed parted in stepped-upheld far _ j (losing q) _ _ (stepped-upheld far w i (losing p) w.line w.refused S.upheld) k;
  orderly = cut-orderly far W w S i p j q e;
  ended = cut-ended far W w S i p j q e;
}

-- ---- any turns

turn-sure : (far : Wires) → Wired far → (w : Traffic) → Sure far w → (t : Turn) → Sure far (turn far w t)
unfolding turn
turn-sure far W w S (takes i p room) = taken-sure far W w S i p room (w.line i p) refl
turn-sure far W w S (does i s) = by-test (over_line far i s.does) (λ d. rw d S) (λ d. rw d (does-sure far W w S i s d))
turn-sure far W w S (tells i room n number s) = tells-sure far W w S i room n number s
turn-sure far W w S (loses i p) = lost-sure far W w S i p 0 (w.line i p) refl
turn-sure far W w S (passes i p n) = passes-sure far W w S i p n
turn-sure far W w S (cuts i p) = severed-sure far W w S i p (far i p) refl
turn-sure far W w S (comes i p a l) =
    by-test (is_live w i p a l)
    (λ d. rw d (sent-sure far W w S i a (lookup_label l (w.past i).card).branches (label-fair (w.past i) (S.upheld i) p a l (is_live_lem w i p a l d)).branches w.line (λ j q. refl) S.orderly S.ended))
    (λ d. rw d S)
turn-sure far W w S (puts i a) = sent-sure far W w S i a (lookup_name a (w.past i).card).branches (name-fair (w.past i).card a).branches w.line (λ j q. refl) S.orderly S.ended

pub turns-sure : (far : Wires) → Wired far → (w : Traffic) → Sure far w → (ts : List Turn) → Sure far (turns far w ts)
unfolding turns
turns-sure far W w S [] = S
turns-sure far W w S (t ∷ ts) = turns-sure far W (turn far w t) (turn-sure far W w S t) ts

pub laid-sure : (far : Wires) → Wired far → (base : ℕ → ℕ) → Sure far (laid base)
unfolding laid
laid-sure far W base = record {
  bound = bound-eq far (Net.laid base) _ (λ i p. unfold talk messages Net.laid in refl) (laid-bound far W base);
  upheld = λ i. started (base i);
  orderly = λ j q. unfold Orderly in tt;
  ended = λ j q e. refl;
}

-- ---- what is said at every moment

-- no message that is next to arrive frees the label of a packet that is under way
message-keeps : (w : Traffic) (j : ℕ) → ((q : ℕ) → Orderly q (w.past j).live (w.line j q)) → (p : ℕ) (o : List ℕ) (rest : List Item) → w.line j p ≡ letter o ∷ rest → (q : ℕ) → EachPacket (λ a l. frees q l (receive p o) ≡ false) (w.line j q)
message-keeps w j O p o rest u q =
    by-test (eqb q p)
    (λ e. subst (λ (x : ℕ). EachPacket (λ a l. frees x l (receive p o) ≡ false) (w.line j x)) (sym (eqb-true q p e)) (rw u (unfold EachPacket in none-freed p (w.past j).live o rest (subst (Orderly p (w.past j).live) u (O p)))))
    (λ e. each_all _ (λ a l. other-number p q l o (eqb-false q p e)) (w.line j q))

-- a loss sends Withdraws alone
only-withdraws : (n l : ℕ) (ms : List Sent) → NotTo n ms → NotGiven l ms
unfolding NotTo NotGiven
only-withdraws n l [] h = tt
only-withdraws n l (m ∷ ms) h = ((λ k _. let w : m.message.kind ≡ withdraw = h.0.1 in omega arith), only-withdraws n l ms h.1)

gone-gives : (n l : ℕ) (o : Outcome) → Gone n o → NotGiven l (messages_of o)
unfolding messages_of
gone-gives n l o G = rw G.so (only-withdraws n l G.sent G.silent)

loss-gives : (p : Past) → Upheld p → (n : ℕ) → n < neighbour_count → (l : ℕ) → NotGiven l (sends p.card (losing n))
loss-gives p u n near l =
    rw (sends-is p (losing n) u)
    (picked (NotGiven l) (eqb (answer_to p.card (losing n)).answer 0) (λ _. gone-gives n l (outcome p.card (lost n)) (rw (lost-taken p.card n (far-off n near)) (lost-gone p.card n near))) (λ _. unfold NotGiven in tt))

next-keeps : (far : Wires) → Wired far → (w : Traffic) → Sure far w → (j : ℕ) {s : Step} → Next far w j s → (q : ℕ) → EachPacket (λ a l. NotGiven l (sends (w.past j).card s)) (w.line j q)
next-keeps far W w S j (order s d) q = each_both _ _ _ (λ a l f alive. step-not-given q a l (w.past j) (S.upheld j) s f alive) (w.line j q) (order-keeps far w S j s d j q refl) (orderly-live q (w.past j).live (w.line j q) (S.orderly j q))
next-keeps far W w S j (cut p i r e) q = each_all _ (λ a l. loss-gives (w.past j) (S.upheld j) p (W.near j p i r e) l) (w.line j q)
next-keeps far W w S j (message p room o rest u) q = each_both _ _ _ (λ a l f alive. step-not-given q a l (w.past j) (S.upheld j) (hearing room p o) f alive) (w.line j q) (message-keeps w j (S.orderly j) p o rest u q) (orderly-live q (w.past j).live (w.line j q) (S.orderly j q))

pub no-bark : (far : Wires) → Wired far → (w : Traffic) → Sure far w → NoBark far w
no-bark far W w S = record { live = λ j q. orderly-live q (w.past j).live (w.line j q) (S.orderly j q); kept = λ j s h q. next-keeps far W w S j h q; right = at_turn; asked = asks; at_once = at-once far (talk w) S.bound }
  where
    at_turn : (t : Turn) → EachHand (Right w) (hands w t)
    at_turn (takes i p room) = unfold hands in taken-right far W w S i p room (w.line i p) refl
    at_turn (does i s) = unfold hands EachHand in tt
    at_turn (tells i room n number s) = unfold hands EachHand in tt
    at_turn (puts i a) = unfold hands in puts-right w i a
    at_turn (comes i p a l) = unfold hands in (picked (EachHand (Right w)) (is_live w i p a l) (λ d. label-right w S.upheld i p a l (is_live_lem w i p a l d)) (λ _. unfold EachHand in tt))
    at_turn (loses i p) = unfold hands EachHand in tt
    at_turn (passes i p n) = unfold hands EachHand in tt
    at_turn (cuts i p) = unfold hands EachHand in tt

    asks : (t : Turn) → EachCopy (Asked w) (goes w t)
    asks (takes i p room) = unfold goes in taken-asked far W w S i p room (w.line i p) refl
    asks (does i s) = unfold goes EachCopy in tt
    asks (tells i room n number s) = unfold goes EachCopy in tt
    asks (puts i a) = unfold goes in copied-asked w a i (lookup_name a (w.past i).card).branches (name-fair (w.past i).card a).branches
    asks (comes i p a l) = unfold goes in (picked (EachCopy (Asked w)) (is_live w i p a l) (λ d. copied-asked w a i (lookup_label l (w.past i).card).branches (label-fair (w.past i) (S.upheld i) p a l (is_live_lem w i p a l d)).branches) (λ _. unfold EachCopy in tt))
    asks (loses i p) = unfold goes EachCopy in tt
    asks (passes i p n) = unfold goes EachCopy in tt
    asks (cuts i p) = unfold goes EachCopy in tt

-- THE SECOND STATEMENT
pub no-bark-in-time : NoBarkInTime
no-bark-in-time far W base ts = no-bark far W (turns far (laid base) ts) (turns-sure far W (laid base) (laid-sure far W base) ts)
