-- TWO BOXES ON ONE LINE: what `Line` says of them is so, at every moment.
-- Assumes nothing.
use Rattle.std.specs.Prelude.{ℕ, ◌<◌, ◌≡◌, refl, Bool, true, false, eqb, ltb}
use Rattle.std.proofs.Common.{sym, ap₂, subst, ◌∙◌, eq-eqb, ltb-false, arith}
use Rattle.std.proofs.Math.Path.{ap}
use mathlib.Core.List.{List, [], ◌∷◌, ◌++◌}
use Rattle.meaning.specs.Octets.{count}
use Rattle.meaning.specs.Lists.{by-test, append-nil, same_refl, no_way}
use Rattle.meaning.specs.Wire.{mapping, Message, records_in}
use Rattle.meaning.specs.Card.{Tree, Use, free, mapped, awaiting, is_branch, use_of, neighbour_count}
use Rattle.meaning.specs.Events.{branch}
use Rattle.promise.specs.Promise.{Given, is_about, branches_said, begun, Step, answer_to, sends}
use Rattle.promise.specs.Deeds.{then_deed}
use Rattle.meaning.specs.Notice.{notice}
use Rattle.promise_line.specs.Notices.{notice-aside}
use Rattle.promise.specs.LiveLaws.{givens, Books}
use Rattle.promise.specs.PromiseProof.{listed}
use Rattle.promise.proofs.PromiseProof.{then-upheld, started}
use Rattle.promise_line.specs.Line.{parcels, addressed, Box, ready, Act, hears, does, tells, is_from, hearing, sent_by, refuses, after, heard, answered, acts, says, gets, World, Turn, above, below, turn, turns, laid, flipped, lists, lives, Quiet, EachIsLive, AreTheMapped, OnOneLine, TwoBoxes}
use Rattle.promise_line.specs.Life.{about, given, Life, idle, asked, standing, hasty, leaving, going, stranded, life-eq, list-apart, same-tree, same-mark}
use Rattle.promise_line.specs.Sends.{is_up, is_down, kin, kin_to, kin-append, kin-sent, mine, mine-only, mine-mapped}
use Rattle.promise_line.specs.Steps.{from}
use Rattle.promise_line.proofs.Steps.{give-else, give-hears, use-else, use-hears}
use Rattle.promise_line.specs.LineProof.{Bound}

kin-put : (t : Message → Bool) (n : ℕ) (o : List ℕ) (under : List (List ℕ)) → kin t (under ++ addressed n (parcels o)) ≡ kin t under ++ kin_to t n (records_in o)
kin-put t n o under = kin-append t under (addressed n (parcels o)) ∙ ap (λ (ms : List Message). kin t under ++ ms) (kin-sent t n o)

kin-said : (t : Message → Bool) (x : Box) (s : Step) (under : List (List ℕ)) → kin t (under ++ sent_by x s) ≡ kin t under ++ kin_to t x.peer (sends x.past.card s)
unfolding sent_by sends
kin-said t x s under = kin-put t x.peer (answer_to x.past.card s).octets under

-- nothing is said
pub none-got : (x y : Box) → Bound x y → Bound x (gets [] y)
unfolding gets
none-got x y B = record { near = B.near; user = B.user; giver = B.giver; lives = λ l nz. rw (append-nil y.inbox) (B.lives l nz) }

none-got' : (x y : Box) → Bound x y → Bound (gets [] x) y
unfolding gets
none-got' x y B = record { near = B.near; user = B.user; giver = B.giver; lives = λ l nz. rw (append-nil x.inbox) (B.lives l nz) }

-- ---- the user's turn

pub user-heard : (x y : Box) (room : ℕ) (under : List (List ℕ)) → x.inbox ≡ under → Bound x y → Bound (heard x room under) (gets (answered x room under) y)
unfolding heard answered
user-heard x y room [] e B = none-got x y B
user-heard x y room (s ∷ rest) e B = unfold after gets refuses in record {
  near = B.near;
  user = then-upheld x.past (hearing room x.peer s) B.user;
  giver = B.giver;
  lives = λ l nz. rw (kin-said (is_down l) x (hearing room x.peer s) y.inbox)
      (use-hears x.past B.user l y.peer x.peer B.near nz x.refused _ room s rest _ (rw e at (B.lives l nz)));
}

pub user-does : (x y : Box) (s : Step) → is_from x.peer s.does ≡ false → Bound x y → Bound (after x s x.inbox x.refused) (gets (sent_by x s) y)
unfolding after gets
user-does x y s d B = record {
  near = B.near;
  user = then-upheld x.past s B.user;
  giver = B.giver;
  lives = λ l nz. rw (kin-said (is_down l) x s y.inbox) (use-else x.past B.user l y.peer x.peer x.refused _ _ _ s d (B.lives l nz));
}

user-acts : (x y : Box) (a : Act) → Bound x y → Bound (acts x a) (gets (says x a) y)
unfolding acts says
user-acts x y (hears room) B = user-heard x y room x.inbox refl B
user-acts x y (does s) B =
    by-test (is_from x.peer s.does)
    (λ d. rw d (none-got x y B))
    (λ d. rw d (user-does x y s d B))
user-acts x y (tells room n number s) B =
    let o = notice-aside x.past room n number s in
    unfold gets then_deed in record {
      near = B.near;
      user = rw o.live (o.upheld B.user);
      giver = B.giver;
      lives = λ l nz. rw (kin-put (is_down l) x.peer (notice room x.past.card n number s).octets y.inbox, o.downs l x.peer, append-nil (kin (is_down l) y.inbox))
          (life-eq (λ a e. ap (λ (t : Tree). branch t x.peer) (sym (o.trees a)) ∙ e) (λ _ a e. ap (λ (t : Tree). branch t x.peer) (o.trees a) ∙ e) (λ z. z) (B.lives l nz));
    }

-- ---- the giver's turn

pub giver-heard : (x y : Box) (room : ℕ) (under : List (List ℕ)) → y.inbox ≡ under → Bound x y → Bound (gets (answered y room under) x) (heard y room under)
unfolding heard answered
giver-heard x y room [] e B = none-got' x y B
giver-heard x y room (s ∷ rest) e B = unfold after gets in record {
  near = B.near;
  user = B.user;
  giver = then-upheld y.past (hearing room y.peer s) B.giver;
  lives = λ l nz. rw (kin-said (is_up l) y (hearing room y.peer s) x.inbox)
      (give-hears y.past B.giver room l y.peer _ _ _ s rest (rw e at (B.lives l nz)));
}

pub giver-does : (x y : Box) (s : Step) → is_from y.peer s.does ≡ false → Bound x y → Bound (gets (sent_by y s) x) (after y s y.inbox y.refused)
unfolding after gets
giver-does x y s d B = record {
  near = B.near;
  user = B.user;
  giver = then-upheld y.past s B.giver;
  lives = λ l nz. rw (kin-said (is_up l) y s x.inbox) (give-else y.past B.giver s l y.peer _ _ _ _ d (B.lives l nz));
}

giver-acts : (x y : Box) (a : Act) → Bound x y → Bound (gets (says y a) x) (acts y a)
unfolding acts says
giver-acts x y (hears room) B = giver-heard x y room y.inbox refl B
giver-acts x y (does s) B =
    by-test (is_from y.peer s.does)
    (λ d. rw d (none-got' x y B))
    (λ d. rw d (giver-does x y s d B))
giver-acts x y (tells room n number s) B =
    let o = notice-aside y.past room n number s in
    unfold gets then_deed in record {
      near = B.near;
      user = B.user;
      giver = rw o.live (o.upheld B.giver);
      lives = λ l nz. rw (kin-put (is_up l) y.peer (notice room y.past.card n number s).octets x.inbox, o.ups l y.peer, append-nil (kin (is_up l) x.inbox), o.live) (B.lives l nz);
    }

-- ---- any turns

pub turns-bound : (w : World) (ts : List Turn) → Bound w.upper w.lower → Bound (turns w ts).upper (turns w ts).lower
unfolding turns
turns-bound w [] B = B
turns-bound w (t ∷ ts) B = turns-bound (turn w t) ts (turn-bound t)
  where
    turn-bound : (t : Turn) → Bound (turn w t).upper (turn w t).lower
    turn-bound (above a) = unfold turn in user-acts w.upper w.lower a B
    turn-bound (below a) = unfold turn in giver-acts w.upper w.lower a B

-- seen from the other end
pub turns-bound' : (w : World) (ts : List Turn) → Bound w.lower w.upper → Bound (turns w ts).lower (turns w ts).upper
unfolding turns
turns-bound' w [] B = B
turns-bound' w (t ∷ ts) B = turns-bound' (turn w t) ts (turn-bound t)
  where
    turn-bound : (t : Turn) → Bound (turn w t).lower (turn w t).upper
    turn-bound (above a) = unfold turn in giver-acts w.lower w.upper a B
    turn-bound (below a) = unfold turn in user-acts w.lower w.upper a B

listed-none : (l : ℕ) → listed l ≡ [] → l ≡ 0
unfolding listed is_branch
listed-none l e = by-test (ltb 0 l) (λ k. let z : l ∷ [] ≡ [] = rw k at e in cc) (λ k. let z = ltb-false 0 l k in omega arith)

-- a card that was started lists nothing
none-listed : (b p : ℕ) (x : List ℕ) → from p (begun b) x ≡ 0
unfolding branch
none-listed b p x = listed-none _ (sym (((started b).reads x).said p) ∙ unfold branches_said in refl)

pub ready-bound : (b p d q : ℕ) → p < neighbour_count → Bound (ready b p) (ready d q)
unfolding ready
ready-bound b p d q h = record { near = h; user = started b; giver = started d; lives = λ l nz. unfold mine kin in idle (λ x e. nz (sym e ∙ none-listed b p x)) }

-- ---- what the stages say

-- the label of a branch is noted, for that tree
life-noted : {l q : ℕ} {b : List ℕ → ℕ} {r : Bool} {gs : List Given} {ups downs : List Message} (x : List ℕ) → Life l q b r gs ups downs → b x ≡ l → (w : Bool) × (gs ≡ given q x l w ∷ [])
life-noted {l} {q} x (idle n) e = absurd (n x e)
life-noted {l} {q} x (asked a n) e = absurd (n x e)
life-noted {l} {q} x (standing a o k) e = (false, ap (λ (t : List ℕ). given q t l false ∷ []) (sym (o x e)))
life-noted {l} {q} x (hasty a n) e = absurd (n x e)
life-noted {l} {q} x (leaving a o) e = (true, ap (λ (t : List ℕ). given q t l true ∷ []) (sym (o x e)))
life-noted {l} {q} x (going a n) e = absurd (n x e)
life-noted {l} {q} x (stranded a o n) e = (true, ap (λ (t : List ℕ). given q t l true ∷ []) (sym (o x e)))

-- nothing is under way, and the user has refused nothing
life-mapped : {l q : ℕ} {b : List ℕ → ℕ} {r : Bool} {gs : List Given} (x : List ℕ) → r ≡ false → Life l q b r gs [] [] → b x ≡ l → gs ≡ given q x l false ∷ []
life-mapped {l} {q} x z (idle n) e = absurd (n x e)
life-mapped {l} {q} x z (standing a o k) e = ap (λ (t : List ℕ). given q t l false ∷ []) (sym (o x e))
life-mapped {l} {q} x z (stranded a o n) e = absurd (n z x e)

life-listed : {l q : ℕ} {b : List ℕ → ℕ} {r : Bool} (x : List ℕ) → r ≡ false → Life l q b r (given q x l false ∷ []) [] [] → b x ≡ l
life-listed x z h = listed-of x z refl h
  where
    -- of whatever list is equal to the one that is noted
    listed-of : {l q : ℕ} {b : List ℕ → ℕ} {r : Bool} {gs : List Given} (x : List ℕ) → r ≡ false → gs ≡ given q x l false ∷ [] → Life l q b r gs [] [] → b x ≡ l
    listed-of x z e (idle n) = absurd (list-apart e)
    listed-of {l} {q} {b} x z e (standing a o k) = subst (λ (t : List ℕ). b t ≡ l) (same-tree q l a x false false e) (k z)
    listed-of {l} {q} x z e (stranded a o n) = no_way (same-mark q l a x true false e)

-- ---- what is noted, and what is live, and how a label is used

count-mine : (q l : ℕ) (a : List ℕ) (gs : List Given) → count (is_about q (about mapping a l)) gs ≡ count (is_about q (about mapping a l)) (mine q l gs)
unfolding count mine is_about
count-mine q l a [] = refl
count-mine q l a (g ∷ gs) =
    by-test (eqb g.label l)
    (λ e. by-test (eqb g.to q)
    (λ k. rw (e, k) (rw (e, k, count-mine q l a gs) refl))
    (λ k. rw (e, k) (count-mine q l a gs)))
    (λ e. rw e (count-mine q l a gs))

one-live : (q l : ℕ) (a : List ℕ) (w : Bool) (gs : List Given) → mine q l gs ≡ given q a l w ∷ [] → count (is_about q (about mapping a l)) gs ≡ 1
unfolding count is_about
one-live q l a w gs e = count-mine q l a gs ∙ rw e (rw (eq-eqb l l refl, eq-eqb q q refl, same_refl a) refl)

use-mapped : (q l : ℕ) (a : List ℕ) (u : Use) → mine q l (givens l u) ≡ given q a l false ∷ [] → u ≡ mapped q a
unfolding mine givens
use-mapped q l a free e = cc
use-mapped q l a (mapped n t) e =
    by-test (eqb n q)
    (λ k. let here : given n t l false ∷ [] ≡ given q a l false ∷ [] = rw (eq-eqb l l refl, k) at e in
    let g : given n t l false ≡ given q a l false = cc in
    ap₂ mapped (ap (λ (x : Given). x.to) g) (ap (λ (x : Given). x.tree) g))
    (λ k. let here : [] ≡ given q a l false ∷ [] = rw (eq-eqb l l refl, k) at e in cc)
use-mapped q l a (awaiting n t) e =
    by-test (eqb n q)
    (λ k. let here : given n t l true ∷ [] ≡ given q a l false ∷ [] = rw (eq-eqb l l refl, k) at e in
    let g : given n t l true ≡ given q a l false = cc in
    let z : true ≡ false = ap (λ (x : Given). x.withdrawn) g in cc)
    (λ k. let here : [] ≡ given q a l false ∷ [] = rw (eq-eqb l l refl, k) at e in cc)

module _ (w : World) (B : Bound w.upper w.lower) where
  abbrev q : ℕ
  q = w.lower.peer

  pub each_live : EachIsLive w
  unfolding lives lists
  each_live a l nz e = let n = life-noted a (B.lives l nz) e in one-live q l a n.0 w.lower.past.live n.1

  pub are-mapped : Quiet w → AreTheMapped w
  unfolding lists
  are-mapped h a l nz = (
    (λ e. use-mapped q l a (use_of l w.lower.past.card) (sym by-use ∙ life-mapped a h.upper quiet e)),
    (λ e. life-listed a h.upper (rw (mine-mapped w.lower.past.card w.lower.past.live B.giver.sound.books l q a e) at quiet)),
  )
    where
      quiet : Life l q (from w.upper.peer w.upper.past) w.upper.refused (mine q l w.lower.past.live) [] []
      quiet = unfold kin in (rw (h.rising, h.falling) at (B.lives l nz))

      by-use : mine q l w.lower.past.live ≡ mine q l (givens l (use_of l w.lower.past.card))
      by-use = mine-only q l w.lower.past.live ∙ ap (mine q l) (unfold Books in B.giver.sound.books l)

pub on-one-line : (w : World) → Bound w.upper w.lower → OnOneLine w
on-one-line w B = record { live = each_live w B; exact = are-mapped w B }

-- REQUEST 14
pub two-boxes : TwoBoxes
unfolding laid flipped
two-boxes b p d q near far ts = (
  on-one-line (turns (laid b p d q) ts) (turns-bound (laid b p d q) ts (ready-bound b p d q near)),
  on-one-line (flipped (turns (laid b p d q) ts)) (turns-bound' (laid b p d q) ts (ready-bound d q b p far)),
)
