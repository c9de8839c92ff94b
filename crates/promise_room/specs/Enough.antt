-- Why 348 octets of room are enough for any message: on a card that keeps the rules a message makes at most two records.
-- Assumes nothing.
use Prim.Native.Nat.{ℕ, ◌*◌, ◌≤◌, zero-le}
use Rattle.std.proofs.Common.{arith, ◌∙◌, length-append, eqb-true, eq-eqb, le-ltb}
use Rattle.std.specs.Prelude.{◌≡◌, Bool, ◌||◌, List, [], length, set, eqb}
use Rattle.std.proofs.Math.Path.{refl}
use Rattle.std.proofs.Math.Bool.{true, false}
use Rattle.std.proofs.lemmas.List.{set_comm}
use Rattle.std.proofs.lemmas.Bool.{eqb-false}
use Rattle.meaning.specs.Octets.{any}
use Rattle.meaning.specs.Wire.{root_in, Message, mapping, withdraw, release, message_in, records, record_limit}
use Rattle.meaning.specs.Card.{nobody, Tree, Card, with_trees, with_branch, tree_place, tree_of, tree_at, is_branch, not_held, leads_on, use_of, held_for, route_of}
use Rattle.meaning.specs.Events.{Outcome, refused, taken, room_short, finish, Moved, still, followed_by, set_use, let_go, take_up, move_label, relabel, upstream, holder, holder_of, entered, enter, become, branch, on_mapping, less_branch, on_withdraw, on_release, on_message, on_octets, Event, receive, outcome, event}
use Rattle.meaning.specs.Lists.{by-test, picked}
use Rattle.session.specs.Session.{message_room, label}
use Rattle.promise.specs.Promise.{Given, note_taken, Step, history}
use Rattle.promise.specs.LabelLaws.{Sound}
use Rattle.promise.specs.RuleLaws.{Ruled}
use Rattle.promise.proofs.RuleLaws.{held-named}
use Rattle.meaning_laws.specs.Counts.{any-set-zero}
use Rattle.promise.specs.EventLaws.{became, Apart, Keeps}
use Rattle.promise.proofs.EventLaws.{event-keeps}
use Rattle.promise.proofs.PromiseProof.{history-upheld}
use Rattle.promise.specs.Sizes.{AtMost}
use Rattle.promise.proofs.Sizes.{unless-most, records-short, let-go-one, take-up-one}
use Rattle.promise.proofs.RulesKept.{entered_at}

-- ---- how many messages a move of a label sends

relabel-two : (i u : ℕ) (c : Card) → length (relabel i u c).sent ≤ 2
unfolding relabel move_label followed_by still
relabel-two i u c =
    picked (λ (m : Moved). length m.sent ≤ 2) (eqb (held_for c (tree_at i c)) u)
    (λ _. omega arith)
    (λ _. omega (arith, length-append (let_go i c).sent (take_up i u (let_go i c).card).sent, let-go-one i c, take-up-one i u (let_go i c).card))

-- one, where a label that is to be held is held already
relabel-one : (i u : ℕ) (c : Card) → ((u ≡ nobody → ⊥) → held_for c (tree_at i c) ≡ u) → length (relabel i u c).sent ≤ 1
unfolding relabel move_label followed_by still take_up
relabel-one i u c h =
    by-test (eqb u nobody)
    (λ e. picked (λ (m : Moved). length m.sent ≤ 1) (eqb (held_for c (tree_at i c)) u)
    (λ _. omega arith)
    (λ _. rw e (omega (arith, length-append (let_go i c).sent [], let-go-one i c))))
    (λ e. rw (eq-eqb (held_for c (tree_at i c)) u (h (eqb-false u nobody e))) (omega arith))

-- ---- a Withdraw takes a branch away: what leads on after it led on before

zero-comm : (bs : List ℕ) (n u : ℕ) → set (set bs n 0) u 0 ≡ set (set bs u 0) n 0
zero-comm bs n u =
    by-test (eqb n u)
    (λ e. rw (eqb-true n u e) refl)
    (λ e. set_comm bs n u 0 0 (eqb-false n u e))

less-any : (bs : List ℕ) (n u : ℕ) → any is_branch (set (set bs n 0) u 0) ≡ true → any is_branch (set bs u 0) ≡ true
less-any bs n u h =
    by-test (any is_branch (set bs u 0)) (λ e. e)
    (λ e. let z : any is_branch (set (set bs n 0) u 0) ≡ false = rw (zero-comm bs n u) (any-set-zero (set bs u 0) n e) in cc)

-- a tree of which a branch may have gone
pub record Lessened (t s : Tree) : Type 0 where
  pub name : s.name ≡ t.name
  pub label : s.label ≡ t.label
  pub leads : (u : ℕ) → leads_on u s ≡ true → leads_on u t ≡ true

lessened : (n l : ℕ) (t : Tree) → Lessened t (less_branch n l t)
unfolding less_branch
lessened n l t =
    picked (Lessened t) (eqb (branch t n) l)
    (λ _. record { name = unfold with_branch in refl; label = unfold with_branch in refl; leads = λ u h. without u h })
    (λ _. record { name = refl; label = refl; leads = λ u h. h })
  where
    or_left : (a b c : Bool) → (a ≡ true → c ≡ true) → (a || b) ≡ true → (c || b) ≡ true
    or_left true true c f h = rw (f refl) refl
    or_left true false c f h = rw (f refl) refl
    or_left false true true f h = refl
    or_left false true false f h = refl
    or_left false false c f h = let z : false ≡ true = h in cc

    without : (u : ℕ) → leads_on u (with_branch n 0 t) ≡ true → leads_on u t ≡ true
    without u h = unfold leads_on not_held with_branch in or_left (any is_branch (set (set t.branches n 0) u 0)) t.leaf (any is_branch (set t.branches u 0)) (less-any t.branches n u) h

upstream-less : (c : Card) (t s : Tree) → Lessened t s → (holder_of c s ≡ nobody → ⊥) → holder_of c t ≡ holder_of c s
unfolding holder_of holder leads_on any not_held
upstream-less c t s g h =
    let u : ℕ = upstream (route_of (root_in t.name) c) in
    by-test (leads_on u s)
    (λ e. rw (g.name, e, g.leads u e) refl)
    (λ e. absurd (h (rw (g.name, e) refl)))

-- ---- an event that sends at most two

mapping-most : (c : Card) (n : ℕ) (a : List ℕ) (l : ℕ) → AtMost 2 (on_mapping c n a l)
unfolding on_mapping become enter AtMost
mapping-most c n a l = unless-most 2 _ _ (unless-most 2 _ _ (relabel-two _ _ _))

release-most : (c : Card) (n : ℕ) (a : List ℕ) (l : ℕ) → AtMost 2 (on_release c n a l)
unfolding on_release AtMost
release-most c n a l = unless-most 2 _ (taken [] (set_use l _ c)) zero-le

module _ (c : Card) (gs : List Given) (S : Sound c gs) (R : Ruled c) where
  withdraw-most : (n : ℕ) (a : List ℕ) (l : ℕ) → AtMost 2 (on_withdraw c n a l)
  unfolding on_withdraw become enter AtMost
  withdraw-most n a l =
      let t : Tree = tree_of a c in
      let s : Tree = less_branch n l t in
      let g : Lessened t s = lessened n l t in
      let i : ℕ = tree_place s.name c in
      let u : ℕ = holder_of c s in
      let same-use : held_for (entered c s) (tree_at i (entered c s)) ≡ held_for c t = rw (entered_at c s) (unfold held_for use_of entered with_trees in rw g.label refl) in
      let one = relabel-one i u (entered c s) (λ h. same-use ∙ held-named c gs S R a ∙ upstream-less c t s g h) in
      unless-most 2 _ _ (omega arith)

  message-most : (n : ℕ) (m : Message) → AtMost 2 (on_message c n m)
  unfolding on_message
  message-most n m =
      picked (AtMost 2) (eqb m.kind mapping) (λ _. mapping-most c n m.name m.label)
      (λ _. picked (AtMost 2) (eqb m.kind withdraw) (λ _. withdraw-most n m.name m.label)
      (λ _. picked (AtMost 2) (eqb m.kind release) (λ _. release-most c n m.name m.label)
      (λ _. unfold AtMost in tt)))

  octets-most : (n : ℕ) (s : List ℕ) → AtMost 2 (on_octets c n s)
  unfolding on_octets
  octets-most n s = unless-most 2 _ _ (unless-most 2 _ _ (message-most n (message_in s)))

-- ---- the room

finish-same : (c : Card) (gs : List Given) (e : Event) (o : Outcome) (room : ℕ) → message_room ≤ room → AtMost 2 o → Keeps c (note_taken e gs) (became e) (Apart e c) o → finish room c o ≡ finish message_room c o
unfolding finish room_short AtMost Keeps
finish-same c gs e (refused n) room h a k = refl
finish-same c gs e (taken ms after) room h a k =
    let short : length (records c.next ms) ≤ length ms * record_limit = records-short c.next ms k.said in
    rw (le-ltb room (length (records c.next ms)) (omega arith), le-ltb message_room (length (records c.next ms)) (omega arith)) refl

-- 348 OCTETS ARE ENOUGH: after any history, the session box lends the label part 348 octets, and a message is answered with them as with any more.
pub message-enough : (base : ℕ) (steps : List Step) (room n : ℕ) (s : List ℕ) → message_room ≤ room
    → event room (history base steps).card (receive n s) ≡ label (history base steps).card n s
message-enough base steps room n s h =
    let p = history base steps in
    let u = history-upheld base steps in
    unfold label event outcome in
    finish-same p.card p.live (receive n s) (on_octets p.card n s) room h (octets-most p.card p.live u.sound u.ruled n s) (unfold outcome in event-keeps p.card p.live u.sound (receive n s))
