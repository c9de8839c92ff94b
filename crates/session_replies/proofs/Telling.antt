-- The text of a call, and the calls one after the other. Assumes nothing.
use Prim.Native.Nat.{ℕ, zero, suc, ◌+◌, ◌-◌, ◌*◌, ◌≤◌, ◌<◌, min}
use native.Mathlib.Nat.{not-suc-le-zero}
use native.Mathlib.Omega.{arith}
use mathlib.Core.Path.{◌≡◌, refl, sym, ap, ◌∙◌}
use mathlib.Core.Bool.{Bool, true, false, not}
use mathlib.Core.List.{List, [], ◌∷◌, ◌++◌, append_assoc}
use lib.ListN.{length, take, drop, length-drop}
use lib.Seq.{take_all, drop-drop}
use Rattle.bench_words.specs.Words.{ascii, input_limit}
use Rattle.meaning.specs.Octets.{pick}
use Rattle.meaning.specs.Lists.{append-nil, by-test}
use Rattle.session.specs.Kept.{Fits}
use borrow.Author.Tests.{eq-eqb, ne_eqb}
use Rattle.session.specs.Stream.{Stream, holds_message}
use Rattle.session.specs.Session.{message_room, stream_room, label, Called, called}
use Rattle.session.specs.Calls.{HandsOver}
use Rattle.meaning.specs.Card.{Card}
use Rattle.bench_lines.specs.Text.{Adds}
use Rattle.session_replies.specs.Turns.{identifier, call_room, called_box, call_text, Turns, none, is_last, and_then, turns_f, most_turns, turns, octets_line, call_space, turns_space, space_for, TurnsSay}
use Rattle.session_replies.specs.Less.{Leaves}
use Rattle.session_replies.specs.Enough.{pending-most}
use Rattle.session_replies.specs.Did.{Did}

-- ---- the last call

pub last-far : (a left : ℕ) (s : Stream) → a ≡ 1 → true ≡ is_last a left s
unfolding is_last
last-far a left s e = rw (eq-eqb a 1 e) refl

pub last-little : (a left : ℕ) (s : Stream) → a ≡ 20 → true ≡ is_last a left s
unfolding is_last
last-little a left s e = rw (ne_eqb a 1 (λ q. omega arith), eq-eqb a 20 e) refl

pub last-over : (a left : ℕ) (s : Stream) → (a ≡ 1 → ⊥) → (a ≡ 20 → ⊥) → left ≡ 0 → (h : Bool) → h ≡ holds_message s → not h ≡ is_last a left s
unfolding is_last
last-over a left s p q e h g = rw (ne_eqb a 1 p, ne_eqb a 20 q, eq-eqb left 0 e, g) refl

pub last-not : (a left : ℕ) (s : Stream) → (a ≡ 1 → ⊥) → (a ≡ 20 → ⊥) → (left ≡ 0 → ⊥) → false ≡ is_last a left s
unfolding is_last
last-not a left s p q e = rw (ne_eqb a 1 p, ne_eqb a 20 q, ne_eqb left 0 e) refl

-- ---- one call

-- the caller hands over the rest of the octets, the identifier, the buffer and the room
pub turn-hands : (n room : ℕ) (c : Card) (s : Stream) (o : List ℕ) (from : ℕ) {id : List ℕ} {l whole b : ℕ} {c' : Card} {s' : Stream} {a e : ℕ} {p : List ℕ}
    → id ≡ identifier n → l ≡ min room whole → message_room ≡ whole → b ≡ stream_room
    → HandsOver (called label id n l b c s (take (length o - from) (drop from o))) a e p c' s' → HandsOver (called_box n room c s (drop from o)) a e p c' s'
turn-hands n room c s o from {l = l} i j w k h =
    let r : l ≡ call_room room = omega arith in
    let t : take (length o - from) (drop from o) ≡ drop from o = take_all (length o - from) (drop from o) (rw length-drop (omega arith)) in
    rw (← i, ← r, ← k, ← t) h

module _ (k : Called) (s : Stream) (o : List ℕ) (from at : ℕ) (l : Leaves k s (drop from o)) {a e : ℕ} {p : List ℕ} {c' : Card} {s' : Stream} (h : HandsOver k a e p c' s') where
  pub turn-text : (space : ℕ) → at + space_for s (drop from o) ≤ space → at + call_space + 2 * length p ≤ space
  turn-text space room = rw h.hands (omega (arith, l.records))

  pub turn-within : from ≤ length o → from + e ≤ length o
  turn-within g = let m = l.within in let d = length-drop from o in rw h.eats (omega arith)

  pub turn-did : {before after : List ℕ} {to : ℕ} {last : Bool} → from ≤ length o
      → Adds (call_text a e p) before after at to → to ≤ at + call_space + 2 * length p → last ≡ is_last a (length o - (from + e)) s'
      → Did k o from s before after at to (from + e) last c' s'
  turn-did {to = to} {last} g adds short is =
      let n : length p ≡ length k.octets = ap length h.hands in
      let m : drop (from + e) o ≡ drop k.eaten (drop from o) = rw h.eats (sym (drop-drop k.eaten from o)) in
      let i : last ≡ is_last k.answer (length (drop k.eaten (drop from o))) k.stream = rw (← m, length-drop (from + e) o, ← h.answers, ← h.streams) is in
      record {
        tells = rw (← h.answers, ← h.eats, ← h.hands) adds;
        moves = m;
        within = turn-within g;
        lasts = i;
        leaves = h.leaves;
        streams = h.streams;
        ends = omega (arith, l.records);
        goes = λ f. let z = l.after (sym i ∙ f) in rw (h.streams, m) (omega arith);
      }

-- ---- the calls one after the other

then-last : (k : Called) (f : Card → Stream → List ℕ → Turns) (o : List ℕ) → is_last k.answer (length (drop k.eaten o)) k.stream ≡ true
    → and_then k f o ≡ record { text = call_text k.answer k.eaten k.octets; card = k.card; stream = k.stream }
unfolding and_then none
then-last k f o e = rw e (rw (append-nil (call_text k.answer k.eaten k.octets)) refl)

then-more : (k : Called) (f : Card → Stream → List ℕ → Turns) (o : List ℕ) (t : Turns) → is_last k.answer (length (drop k.eaten o)) k.stream ≡ false → t ≡ f k.card k.stream (drop k.eaten o)
    → and_then k f o ≡ record { text = call_text k.answer k.eaten k.octets ++ t.text; card = t.card; stream = t.stream }
unfolding and_then
then-more k f o t e g = rw e (rw (sym g) refl)

turns_next : (left n room : ℕ) (c : Card) (s : Stream) (o : List ℕ) → 0 < left → turns_f left n room c s o ≡ and_then (called_box n room c s o) (turns_f (left - 1) n room) o
unfolding turns_f
turns_next zero n room c s o h = absurd (not-suc-le-zero h)
turns_next (suc f) n room c s o h = let e : suc f - 1 ≡ f = omega arith in rw e refl

-- So many calls are left, from this place of the octets on: with the text that stands, and what those calls do, it is the whole.
pub record Goes (n room : ℕ) (o : List ℕ) (t : Turns) (left from at : ℕ) (text : List ℕ) (card : Card) (stream : Stream) : Type 0 where
  pub within : from ≤ length o
  pub ends : at + 1 ≤ turns_space
  pub space : 0 < left → at + space_for stream (drop from o) ≤ turns_space
  pub line : take at text ++ (turns_f left n room card stream (drop from o)).text ≡ ascii "octets" ++ t.text
  pub leaves : (turns_f left n room card stream (drop from o)).card ≡ t.card
  pub streams : (turns_f left n room card stream (drop from o)).stream ≡ t.stream

pub goes-start : (n room : ℕ) (o : List ℕ) (c : Card) (s : Stream) {before text : List ℕ} {at : ℕ} → length o ≤ input_limit → Fits s → Adds (ascii "octets") before text 0 at
    → Goes n room o (turns n room c s o) (most_turns o) 0 at text c s
unfolding turns ascii
goes-start n room o c s short fits adds =
    let m = pending-most s o fits in
    record {
      within = omega arith;
      ends = omega (arith, adds.count);
      space = λ _. omega (arith, adds.count);
      line = rw adds.text refl;
      leaves = refl;
      streams = refl;
    }

module _ (n room : ℕ) (o : List ℕ) (t : Turns) {left from at : ℕ} {text : List ℕ} {c : Card} {s : Stream} (g : Goes n room o t left from at text c s) where
  -- no call is left
  pub goes-out : left ≤ 0 → {after : List ℕ} {r : ℕ} → Adds (10 ∷ []) text after at r → TurnsSay t r after c s
  unfolding turns_f none octets_line
  goes-out h adds =
      let z : left ≡ 0 = omega arith in
      let e : take at text ++ [] ≡ ascii "octets" ++ t.text = rw z at g.line in
      record {
        short = omega (arith, adds.count, g.ends);
        line = adds.text ∙ rw (sym (append-nil (take at text)) ∙ e) (append_assoc (ascii "octets") t.text (10 ∷ []));
        leaves = rw z at g.leaves;
        streams = rw z at g.streams;
      }

  module _ (some : 0 < left) {after : List ℕ} {to next : ℕ} {last : Bool} {c' : Card} {s' : Stream} (d : Did (called_box n room c s (drop from o)) o from s text after at to next last c' s') where
    goes_last : last ≡ true → Goes n room o t 0 next to after c' s'
    unfolding turns_f none
    goes_last l =
        let k = called_box n room c s (drop from o) in
        let e = turns_next left n room c s (drop from o) some ∙ then-last k (turns_f (left - 1) n room) (drop from o) (sym d.lasts ∙ l) in
        record {
          within = d.within;
          ends = omega (arith, d.ends, g.space some);
          space = λ none. absurd (omega arith);
          line = append-nil (take to after) ∙ d.tells.text ∙ rw e at g.line;
          leaves = d.leaves ∙ rw e at g.leaves;
          streams = d.streams ∙ rw e at g.streams;
        }

    goes_on : last ≡ false → Goes n room o t (left - 1) next to after c' s'
    goes_on l =
        let k = called_box n room c s (drop from o) in
        let later = turns_f (left - 1) n room c' s' (drop next o) in
        let f : later ≡ turns_f (left - 1) n room k.card k.stream (drop k.eaten (drop from o)) = rw (d.leaves, d.streams, d.moves) refl in
        let e = turns_next left n room c s (drop from o) some ∙ then-more k (turns_f (left - 1) n room) (drop from o) later (sym d.lasts ∙ l) f in
        record {
          within = d.within;
          ends = omega (arith, d.ends, g.space some);
          space = λ _. omega (arith, d.goes l, g.space some);
          line = rw d.tells.text (append_assoc (take at text) (call_text k.answer k.eaten k.octets) later.text ∙ rw e at g.line);
          leaves = rw e at g.leaves;
          streams = rw e at g.streams;
        }

    pub goes-next : (more : ℕ) → more ≡ pick last 0 (left - 1) → Goes n room o t more next to after c' s'
    goes-next more e =
        by-test last
        (λ l. let f : more ≡ 0 = rw l at e in rw f (goes_last l))
        (λ l. let f : more ≡ left - 1 = rw l at e in rw f (goes_on l))
