-- WHICH REFUSALS COME UP ON A LINE: a Release that comes over it is taken, with any room; a Withdraw is refused by 16 alone.
-- Assumes nothing.
use Rattle.std.specs.Prelude.{ℕ, zero, suc, ◌+◌, ◌*◌, ◌/◌, ◌%◌, ◌<◌, ◌≡◌, Bool, false, take, drop, length, eqb, ltb}
use native.Mathlib.Omega.{arith}
use Rattle.std.proofs.Math.Path.{refl, sym, ap}
use Rattle.std.proofs.Common.{◌∙◌, subst, eq-eqb, ne_eqb, ltb-true}
use Rattle.std.proofs.Math.Bool.{true}
use mathlib.Core.List.{List, [], ◌∷◌, ◌++◌}
use Rattle.std.proofs.Math.Seq.{take-append_seam, drop-append_seam}
use Rattle.meaning.specs.Octets.{pick, two, four, two_at, ◌when◌else◌}
use Rattle.meaning.specs.Lists.{by-test, picked, same_refl}
use Rattle.meaning.specs.Wire.{mapping, withdraw, release, is_kind, Message, message_in, message_refusal, Sent, octets_of, record_of, next_id, records}
use Rattle.meaning_laws.specs.RoundTrip.{AllSendable, Sendable, length-field, message-taken, heard}
use Rattle.meaning.specs.Card.{Use, free, mapped, awaiting, Card, is_awaiting, use_of, neighbour_count}
use Rattle.meaning.specs.Events.{Out, unless, taken, refuse, accept, room_short, finish, not_awaited, on_release, on_withdraw, become, enter, on_message, no_neighbour, on_octets, receive, outcome, event}
use Rattle.meaning.specs.Notice.{notice_due, notice_record, notice}
use Rattle.meaning_laws.specs.NoticeLaws.{spread, record-spread}
use Rattle.promise.specs.Promise.{Given, Step, Past, answer_to, sends}
use Rattle.promise.specs.LiveLaws.{givens, Books}
use Rattle.promise.proofs.RulesKept.{less-fits}
use Rattle.promise.specs.PromiseProof.{Upheld}
use Rattle.promise.proofs.PromiseProof.{sends-said, kept}
use Rattle.promise_line.specs.Line.{parcels_f, parcels, addressed, Box, Act, hears, does, tells, is_from, hearing, sent_by, after, acts, says, gets, World, Turn, above, below, turn, turns, laid, ready}
use Rattle.promise_line.specs.Line
use Rattle.promise_line.specs.Life.{given, Life, going}
use Rattle.promise_line.specs.Sends.{is_down, kin, mine, mine-only}
use Rattle.promise_line.specs.LineProof.{Bound}
use Rattle.promise_line.proofs.LineProof.{turns-bound, turns-bound', ready-bound}
use Rattle.promise_line.specs.LineRefusals.{Plain, AllPlain, TakesReleases, ShortOfRoomAlone}

plain_ok : (s : List ℕ) → Plain s → is_kind (message_in s).kind ≡ true → message_refusal s ≡ 0
unfolding Plain
plain_ok s h = h

plain-append : (xs ys : List (List ℕ)) → AllPlain xs → AllPlain ys → AllPlain (xs ++ ys)
unfolding AllPlain
plain-append [] ys f g = g
plain-append (x ∷ xs) ys f g = (f.0, plain-append xs ys f.1 g)

module _ (id : ℕ) (m : Sent) (g : Sendable m) (rest : List ℕ) where
  field_back : two_at (record_of id m ++ rest) 6 ≡ two_at (octets_of id m.message) 2
  unfolding record_of octets_of two two_at
  field_back = refl

  size_back : 4 + two_at (record_of id m ++ rest) 6 ≡ length (octets_of id m.message)
  size_back = ap (λ (k : ℕ). 4 + k) field_back ∙ length-field id m.message g.says

  first_back : take (4 + two_at (record_of id m ++ rest) 6) (drop 4 (record_of id m ++ rest)) ≡ octets_of id m.message
  first_back = rw size_back (unfold record_of two in take-append_seam (octets_of id m.message) rest)

  rest_back : drop (4 + two_at (record_of id m ++ rest) 6) (drop 4 (record_of id m ++ rest)) ≡ rest
  rest_back = rw size_back (unfold record_of two in drop-append_seam (octets_of id m.message) rest)

  some-octets : length (record_of id m ++ rest) ≡ 0 → ⊥
  unfolding record_of
  some-octets z = omega arith

parcels-plain : (n f id : ℕ) (ms : List Sent) → AllSendable ms → AllPlain (addressed n (parcels_f f (records id ms)))
unfolding addressed parcels_f records AllSendable AllPlain Plain
parcels-plain n zero id ms g = tt
parcels-plain n (suc f) id [] g = tt
parcels-plain n (suc f) id (m ∷ ms) g =
    let rest : List ℕ = records (next_id id) ms in
    let others : AllPlain (addressed n (parcels_f f rest)) = parcels-plain n f (next_id id) ms g.1 in
    rw (ne_eqb (length (record_of id m ++ rest)) 0 (some-octets id m g.0 rest), first_back id m g.0 rest, rest_back id m g.0 rest)
    (by-test (eqb (two_at (record_of id m ++ rest) 2) n)
    (λ e. rw e ((λ _. message-taken id m.message g.0.says), others))
    (λ e. rw e others))

step-plain : (p : Past) → Upheld p → (s : Step) (n : ℕ) → AllPlain (addressed n (parcels (answer_to p.card s).octets))
unfolding parcels
step-plain p u s n = subst (λ (o : List ℕ). AllPlain (addressed n (parcels_f (length o) o))) (sym ((kept p u).wire s)) (parcels-plain n _ p.card.next (sends p.card s) (sends-said p s u))

no_plain : (n : ℕ) → AllPlain (addressed n (parcels []))
unfolding parcels parcels_f addressed AllPlain
no_plain n = tt

-- (a Notification has type 1)
other-plain : (s : List ℕ) → two_at s 0 ≡ 1 → Plain s
unfolding Plain message_in is_kind
other-plain s e z = absurd (let z' : false ≡ true = rw e at z in let z'' : ◌≡◌ {A = ℕ} 0 1 = cc in omega arith)

either-plain : (b : Bool) (s : List ℕ) → Plain s → AllPlain (pick b (s ∷ []) [])
unfolding AllPlain
either-plain true s h = (h, tt)
either-plain false s h = tt

told-plain : (id to number : ℕ) (s : List ℕ) (n : ℕ) → AllPlain (addressed n (parcels (notice_record id to number s)))
unfolding parcels parcels_f addressed two_at spread two four
told-plain id to number s n = rw (record-spread id to number s) (either-plain (eqb (to / 256 % 256 * 256 + to % 256) n) _ (other-plain _ refl))

notice-plain : (c : Card) (room k number : ℕ) (s : List ℕ) (n : ℕ) → AllPlain (addressed n (parcels (notice room c k number s).octets))
unfolding notice refuse accept
notice-plain c room k number s n =
    picked (λ (o : Out). AllPlain (addressed n (parcels o.octets))) (no_neighbour k) (λ _. no_plain n)
    (λ _. picked (λ (o : Out). AllPlain (addressed n (parcels o.octets))) (notice_due number s)
    (λ _. picked (λ (o : Out). AllPlain (addressed n (parcels o.octets))) (room_short room (notice_record c.next k number s)) (λ _. no_plain n) (λ _. told-plain c.next k number s n))
    (λ _. no_plain n))

-- ---- over any turns

says_plain : (x : Box) → Upheld x.past → (a : Act) → AllPlain (says x a)
unfolding says
says_plain x u (hears room) = go x.inbox
  where
    go : (under : List (List ℕ)) → AllPlain (Line.answered x room under)
    go [] = unfold Line.answered AllPlain in tt
    go (s ∷ rest) = unfold Line.answered sent_by in step-plain x.past u (hearing room x.peer s) x.peer
says_plain x u (does s) = picked AllPlain (is_from x.peer s.does) (λ _. unfold AllPlain in tt) (λ _. unfold sent_by in step-plain x.past u s x.peer)
says_plain x u (tells room n number s) = notice-plain x.past.card room n number s x.peer

acts-plain : (x : Box) (a : Act) → AllPlain x.inbox → AllPlain (acts x a).inbox
unfolding acts
acts-plain x (hears room) h = go x.inbox h
  where
    go : (under : List (List ℕ)) → AllPlain under → AllPlain (Line.heard x room under).inbox
    go [] k = unfold Line.heard in h
    go (s ∷ rest) k = unfold Line.heard after AllPlain in k.1
acts-plain x (does s) h = picked (λ (y : Box). AllPlain y.inbox) (is_from x.peer s.does) (λ _. h) (λ _. unfold after in h)
acts-plain x (tells room n number s) h = h

abbrev Plains : World → Type 0
Plains w = AllPlain w.upper.inbox × AllPlain w.lower.inbox

turn-plain : (w : World) (t : Turn) → Bound w.upper w.lower → Plains w → Plains (turn w t)
unfolding turn gets
turn-plain w (above a) B h = (acts-plain w.upper a h.0, plain-append w.lower.inbox (says w.upper a) h.1 (says_plain w.upper B.user a))
turn-plain w (below a) B h = (plain-append w.upper.inbox (says w.lower a) h.0 (says_plain w.lower B.giver a), acts-plain w.lower a h.1)

turns-plain : (w : World) (ts : List Turn) → Bound w.upper w.lower → Plains w → Plains (turns w ts)
unfolding turns
turns-plain w [] B h = h
turns-plain w (t ∷ ts) B h = turns-plain (turn w t) ts (turns-bound w (t ∷ []) B) (turn-plain w t B h)

-- ---- it is awaited

awaits : (q l : ℕ) (a : List ℕ) (u : Use) → mine q l (givens l u) ≡ given q a l true ∷ [] → is_awaiting q a u ≡ true
unfolding mine givens is_awaiting
awaits q l a free e = cc
awaits q l a (mapped n t) e =
    by-test (eqb n q)
    (λ k. let here : given n t l false ∷ [] ≡ given q a l true ∷ [] = rw (eq-eqb l l refl, k) at e in
    let g : given n t l false ≡ given q a l true = cc in
    let z : false ≡ true = ap (λ (x : Given). x.withdrawn) g in cc)
    (λ k. let here : [] ≡ given q a l true ∷ [] = rw (eq-eqb l l refl, k) at e in cc)
awaits q l a (awaiting n t) e =
    by-test (eqb n q)
    (λ k. let here : given n t l true ∷ [] ≡ given q a l true ∷ [] = rw (eq-eqb l l refl, k) at e in
    let g : given n t l true ≡ given q a l true = cc in
    rw (k, ap (λ (x : Given). x.tree) g) (same_refl a))
    (λ k. let here : [] ≡ given q a l true ∷ [] = rw (eq-eqb l l refl, k) at e in cc)

-- of a Release under way the label is noted as withdrawn, for its tree
life-awaits : {l q : ℕ} {b : List ℕ → ℕ} {r : Bool} {gs : List Given} {ups downs : List Message} {m : Message} → Life l q b r gs ups (m ∷ downs) → gs ≡ given q m.name l true ∷ []
life-awaits (going a n) = refl

kin-first : (l : ℕ) (s : List ℕ) (rest : List (List ℕ)) → is_down l (message_in s) ≡ true → kin (is_down l) (s ∷ rest) ≡ message_in s ∷ kin (is_down l) rest
unfolding kin
kin-first l s rest e = rw e refl

its-down : (m : Message) → m.kind ≡ release → is_down m.label m ≡ true
unfolding is_down
its-down m k = rw (eq-eqb m.kind release k, eq-eqb m.label m.label refl) refl

its-kind : (k : ℕ) → k ≡ release → is_kind k ≡ true
unfolding is_kind
its-kind k e = rw e refl

pub far-off : (n : ℕ) → n < neighbour_count → no_neighbour n ≡ false
unfolding no_neighbour
far-off n k = by-test (ltb 15 n) (λ e. absurd (let z = ltb-true 15 n e in omega arith)) (λ e. e)

silent-answer : (room : ℕ) (c d : Card) → (finish room c (taken [] d)).answer ≡ 0
unfolding finish accept refuse records room_short
silent-answer room c d = by-test (ltb room 0) (λ e. absurd (let z = ltb-true room 0 e in omega arith)) (λ e. rw e refl)

release-answer : (room : ℕ) (c : Card) (q : ℕ) (s : List ℕ) → no_neighbour q ≡ false → message_refusal s ≡ 0 → (message_in s).kind ≡ release → is_awaiting q (message_in s).name (use_of (message_in s).label c) ≡ true → (event room c (receive q s)).answer ≡ 0
unfolding event outcome on_octets on_message on_release not_awaited unless ◌when◌else◌
release-answer room c q s near ok k w = rw (near, ok, ne_eqb (message_in s).kind mapping (λ z. omega arith), ne_eqb (message_in s).kind withdraw (λ z. omega arith), eq-eqb (message_in s).kind release k, w) (silent-answer room c _)

module _ (x y : Box) (B : Bound x y) (near : y.peer < neighbour_count) (room : ℕ) (s : List ℕ) (rest : List (List ℕ)) (e : y.inbox ≡ s ∷ rest) (h : Plain s) (k : (message_in s).kind ≡ release) where
  taken-release : (answer_to y.past.card (hearing room y.peer s)).answer ≡ 0
  unfolding answer_to
  taken-release =
      let ok : message_refusal s ≡ 0 = plain_ok s h (its-kind (message_in s).kind k) in
      let low = (heard y.peer s near ok).low in
      let nz : (message_in s).label ≡ 0 → ⊥ = λ z. omega arith in
      let noted : mine y.peer (message_in s).label y.past.live ≡ given y.peer (message_in s).name (message_in s).label true ∷ [] = life-awaits (rw (e, kin-first (message_in s).label s rest (its-down (message_in s) k)) at (B.lives (message_in s).label nz)) in
      let by-use : mine y.peer (message_in s).label (givens (message_in s).label (use_of (message_in s).label y.past.card)) ≡ given y.peer (message_in s).name (message_in s).label true ∷ [] =
      sym (mine-only y.peer (message_in s).label y.past.live ∙ ap (mine y.peer (message_in s).label) (unfold Books in B.giver.sound.books (message_in s).label)) ∙ noted in
      release-answer room y.past.card y.peer s (far-off y.peer near) ok k (awaits y.peer (message_in s).label (message_in s).name (use_of (message_in s).label y.past.card) by-use)

-- ---- a Withdraw

short-alone : (room : ℕ) (c : Card) (ms : List Sent) (d : Card) → ((finish room c (taken ms d)).answer ≡ 0 → ⊥) → (finish room c (taken ms d)).answer ≡ 16
unfolding finish refuse accept
short-alone room c ms d = by-test (room_short room (records c.next ms)) (λ e. rw e (λ _. refl)) (λ e. rw e (λ n. absurd (n refl)))

withdraw-answer : (room : ℕ) (p : Past) → Upheld p → (q : ℕ) (s : List ℕ) → no_neighbour q ≡ false → message_refusal s ≡ 0 → (message_in s).kind ≡ withdraw → ((event room p.card (receive q s)).answer ≡ 0 → ⊥) → (event room p.card (receive q s)).answer ≡ 16
unfolding event outcome on_octets on_message on_withdraw become enter unless ◌when◌else◌
withdraw-answer room p u q s near ok k =
    rw (near, ok, ne_eqb (message_in s).kind mapping (λ z. omega arith), eq-eqb (message_in s).kind withdraw k, less-fits p.card p.live u.sound u.ruled q (message_in s).name (message_in s).label) (short-alone room p.card _ _)

withdraw-kind : (k : ℕ) → k ≡ withdraw → is_kind k ≡ true
unfolding is_kind
withdraw-kind k e = rw e refl

refused-withdraw : (y : Box) → Upheld y.past → y.peer < neighbour_count → (room : ℕ) (s : List ℕ) → Plain s → (message_in s).kind ≡ withdraw
    → ((answer_to y.past.card (hearing room y.peer s)).answer ≡ 0 → ⊥) → (answer_to y.past.card (hearing room y.peer s)).answer ≡ 16
unfolding answer_to
refused-withdraw y u near room s h k = withdraw-answer room y.past u y.peer s (far-off y.peer near) (plain_ok s h (withdraw-kind (message_in s).kind k)) k

-- at both ends
pub withdraws-refused : (b p d q : ℕ) → p < neighbour_count → q < neighbour_count → (ts : List Turn) → ShortOfRoomAlone (turns (laid b p d q) ts).lower × ShortOfRoomAlone (turns (laid b p d q) ts).upper
unfolding laid
withdraws-refused b p d q near far ts =
    let w : World = turns (laid b p d q) ts in
    let B = turns-bound (laid b p d q) ts (ready-bound b p d q near) in
    let B' = turns-bound' (laid b p d q) ts (ready-bound d q b p far) in
    let h = turns-plain (laid b p d q) ts (ready-bound b p d q near) (unfold ready AllPlain in (tt, tt)) in (
      (λ room s rest e k. refused-withdraw w.lower B.giver B'.near room s (unfold AllPlain in (subst AllPlain e h.1).0) k),
      (λ room s rest e k. refused-withdraw w.upper B.user B.near room s (unfold AllPlain in (subst AllPlain e h.0).0) k),
    )

pub releases-taken : (b p d q : ℕ) → p < neighbour_count → q < neighbour_count → (ts : List Turn) → TakesReleases (turns (laid b p d q) ts).lower × TakesReleases (turns (laid b p d q) ts).upper
unfolding laid
releases-taken b p d q near far ts =
    let w : World = turns (laid b p d q) ts in
    let B = turns-bound (laid b p d q) ts (ready-bound b p d q near) in
    let B' = turns-bound' (laid b p d q) ts (ready-bound d q b p far) in
    let h = turns-plain (laid b p d q) ts (ready-bound b p d q near) (unfold ready AllPlain in (tt, tt)) in (
      (λ room s rest e k. taken-release w.upper w.lower B B'.near room s rest e (unfold AllPlain in (subst AllPlain e h.1).0) k),
      (λ room s rest e k. taken-release w.lower w.upper B' B.near room s rest e (unfold AllPlain in (subst AllPlain e h.0).0) k),
    )
