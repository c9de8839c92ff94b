-- What is under way about one label, what a card has noted of it, and how the messages of one step change both.
-- Assumes nothing.
use Rattle.std.specs.Prelude.{ℕ, zero, suc, ◌+◌, Bool, true, ◌&&◌, ◌||◌, drop, length}
use Rattle.std.proofs.Common.{arith, sym, ap, ◌∙◌}
use Rattle.std.proofs.Math.Path.{◌≡◌, refl}
use Rattle.std.proofs.Math.Bool.{false}
use mathlib.Core.List.{List, [], ◌∷◌, ◌++◌, append_assoc}
use Rattle.std.proofs.Math.Dec.{eqb}
use borrow.Author.Tests.{eqb-true, eq-eqb}
use Rattle.meaning.specs.Octets.{pick, count, two_at}
use Rattle.meaning_laws.specs.RoundTrip.{both}
use Rattle.meaning.specs.Lists.{by-test, same_refl, append-nil}
use Rattle.meaning.specs.Wire.{mapping, withdraw, release, Message, message_in, Sent, records_f, records_in}
use Rattle.promise.specs.Promise.{Given, of_label, is_about, is_standing, mark, remove, without, note_sent, note_all, NoneLive, AllMapped}
use Rattle.meaning.specs.Card.{mapped, Card, use_of}
use Rattle.promise.specs.LiveLaws.{only, givens, Books}
use Rattle.promise_line.specs.Line.{parcels_f, parcels, addressed}
use Rattle.promise_line.specs.Life.{about, given, Life, life_map, life-end, life-standing}

-- ---- what is under way

-- a Mapping or Withdraw of l; a Release of l
unfoldable pub is_up : ℕ → Message → Bool
is_up l m = (eqb m.kind mapping || eqb m.kind withdraw) && eqb m.label l

unfoldable pub is_down : ℕ → Message → Bool
is_down l m = eqb m.kind release && eqb m.label l

-- the messages under way that pass the test
unfoldable pub kin : (Message → Bool) → List (List ℕ) → List Message
kin t [] = []
kin t (s ∷ ss) = pick (t (message_in s)) (message_in s ∷ kin t ss) (kin t ss)

-- of messages sent, those to n that pass the test
unfoldable pub kin_to : (Message → Bool) → ℕ → List Sent → List Message
kin_to t n [] = []
kin_to t n (m ∷ ms) = pick (eqb m.to n) (pick (t m.message) (m.message ∷ kin_to t n ms) (kin_to t n ms)) (kin_to t n ms)

pub kin-append : (t : Message → Bool) (xs ys : List (List ℕ)) → kin t (xs ++ ys) ≡ kin t xs ++ kin t ys
unfolding kin
kin-append t [] ys = refl
kin-append t (x ∷ xs) ys = by-test (t (message_in x)) (λ e. rw (e, kin-append t xs ys) refl) (λ e. rw (e, kin-append t xs ys) refl)

pub kin-to-append : (t : Message → Bool) (n : ℕ) (ms ns : List Sent) → kin_to t n (ms ++ ns) ≡ kin_to t n ms ++ kin_to t n ns
unfolding kin_to
kin-to-append t n [] ns = refl
kin-to-append t n (m ∷ ms) ns =
    by-test (eqb m.to n)
    (λ e. by-test (t m.message) (λ k. rw (e, k, kin-to-append t n ms ns) refl) (λ k. rw (e, k, kin-to-append t n ms ns) refl))
    (λ e. rw (e, kin-to-append t n ms ns) refl)

-- the octets put on the line are the messages that are read in what is written
kin-parcels : (t : Message → Bool) (n f : ℕ) (s : List ℕ) → kin t (addressed n (parcels_f f s)) ≡ kin_to t n (records_f f s)
unfolding kin kin_to addressed parcels_f records_f
kin-parcels t n zero s = refl
kin-parcels t n (suc f) s =
    by-test (eqb (length s) 0)
    (λ e. rw e refl)
    (λ e. rw e (by-test (eqb (two_at s 2) n)
    (λ k. rw k (rw (kin-parcels t n f (drop (4 + two_at s 6) (drop 4 s))) refl))
    (λ k. rw k (kin-parcels t n f (drop (4 + two_at s 6) (drop 4 s))))))

pub kin-sent : (t : Message → Bool) (n : ℕ) (s : List ℕ) → kin t (addressed n (parcels s)) ≡ kin_to t n (records_in s)
unfolding parcels records_in
kin-sent t n s = kin-parcels t n (length s) s

-- ---- what is noted

-- of live labels, those that are l at neighbour q
unfoldable pub mine : ℕ → ℕ → List Given → List Given
mine q l [] = []
mine q l (g ∷ gs) = pick (eqb g.label l && eqb g.to q) (g ∷ mine q l gs) (mine q l gs)

pub mine-none : (q l : ℕ) (gs : List Given) → count (of_label l) gs ≡ 0 → mine q l gs ≡ []
unfolding mine count of_label
mine-none q l [] e = refl
mine-none q l (g ∷ gs) e =
    by-test (eqb g.label l)
    (λ k. absurd (let z : suc (count (of_label l) gs) ≡ 0 = rw k at e in omega arith))
    (λ k. rw k (mine-none q l gs (rw k at e)))

pub mine-only : (q l : ℕ) (gs : List Given) → mine q l gs ≡ mine q l (only l gs)
unfolding mine only of_label
mine-only q l [] = refl
mine-only q l (g ∷ gs) =
    by-test (eqb g.label l)
    (λ k. by-test (eqb g.to q) (λ h. rw (k, h) (rw (k, mine-only q l gs) refl)) (λ h. rw (k, h) (rw k (mine-only q l gs))))
    (λ k. rw k (mine-only q l gs))

-- one that is mapped at q is among them
standing-mine : (q l k : ℕ) (a : List ℕ) (gs : List Given) → count (is_standing q (about k a l)) gs ≡ count (is_standing q (about k a l)) (mine q l gs)
unfolding count mine is_standing is_about
standing-mine q l k a [] = refl
standing-mine q l k a (g ∷ gs) =
    by-test (eqb g.label l)
    (λ e. by-test (eqb g.to q)
    (λ h. rw (e, h) (rw (e, h, standing-mine q l k a gs) refl))
    (λ h. rw (e, h) (standing-mine q l k a gs)))
    (λ e. rw e (standing-mine q l k a gs))

-- the loss of a neighbour ends what it may use, and nothing else
pub mine-without : (q l : ℕ) (gs : List Given) → mine q l (without q gs) ≡ []
unfolding mine without
mine-without q l [] = refl
mine-without q l (g ∷ gs) =
    by-test (eqb g.to q)
    (λ h. rw h (mine-without q l gs))
    (λ h. rw h (rw h (by-test (eqb g.label l) (λ e. rw e (mine-without q l gs)) (λ e. rw e (mine-without q l gs)))))

pub mine-without-other : (q l k : ℕ) (gs : List Given) → eqb k q ≡ false → mine q l (without k gs) ≡ mine q l gs
unfolding mine without
mine-without-other q l k [] d = refl
mine-without-other q l k (g ∷ gs) d =
    by-test (eqb g.to k)
    (λ h. rw (h, eqb-true g.to k h, d) (rw (mine-without-other q l k gs d) (by-test (eqb g.label l) (λ e. rw e refl) (λ e. rw e refl))))
    (λ h. rw h (rw (mine-without-other q l k gs d) refl))

pub mine-mapped : (c : Card) (gs : List Given) → Books (λ x. use_of x c) gs → (l n : ℕ) (a : List ℕ) → use_of l c ≡ mapped n a → mine n l gs ≡ given n a l false ∷ []
unfolding Books givens mine
mine-mapped c gs B l n a e = mine-only n l gs ∙ ap (mine n l) (B l ∙ ap (givens l) e) ∙ rw (eq-eqb l l refl, eq-eqb n n refl) refl

module _ (q l n : ℕ) (m : Message) where
  -- a message of another label, or to another neighbour
  apart-about : (g : Given) → (eqb m.label l && eqb n q) ≡ false → (eqb g.label l && eqb g.to q) ≡ true → is_about n m g ≡ false
  unfolding is_about
  apart-about g d e =
      by-test (eqb g.label m.label)
      (λ k. by-test (eqb g.to n)
      (λ h. let z : (eqb g.label l && eqb g.to q) ≡ false = rw (eqb-true g.label m.label k, eqb-true g.to n h) d in
      absurd (let z' : ◌≡◌ {A = ℕ} 0 1 = cc in omega arith))
      (λ h. rw (k, h) refl))
      (λ k. rw k refl)

  mine-mark-other : (gs : List Given) → (eqb m.label l && eqb n q) ≡ false → mine q l (mark n m gs) ≡ mine q l gs
  unfolding mine mark
  mine-mark-other [] d = refl
  mine-mark-other (g ∷ gs) d =
      by-test (eqb g.label l && eqb g.to q)
      (λ k. rw (apart-about g d k, k) (rw (mine-mark-other gs d) refl))
      (λ k. by-test (is_about n m g)
      (λ h. rw (h, k) (mine-mark-other gs d))
      (λ h. rw (h, k) (mine-mark-other gs d)))

  pub mine-remove-other : (gs : List Given) → (eqb m.label l && eqb n q) ≡ false → mine q l (remove n m gs) ≡ mine q l gs
  unfolding mine remove
  mine-remove-other [] d = refl
  mine-remove-other (g ∷ gs) d =
      by-test (eqb g.label l && eqb g.to q)
      (λ k. rw (apart-about g d k, k) (rw (mine-remove-other gs d) refl))
      (λ k. by-test (is_about n m g)
      (λ h. rw (h, k) (mine-remove-other gs d))
      (λ h. rw (h, k) (mine-remove-other gs d)))

  mine-mark : (gs : List Given) → mine q l (mark n m gs) ≡ mark n m (mine q l gs)
  unfolding mine mark
  mine-mark [] = refl
  mine-mark (g ∷ gs) =
      by-test (is_about n m g)
      (λ h. by-test (eqb g.label l && eqb g.to q) (λ k. rw (h, k) (rw (h, mine-mark gs) refl)) (λ k. rw (h, k) (mine-mark gs)))
      (λ h. by-test (eqb g.label l && eqb g.to q) (λ k. rw (h, k) (rw (h, mine-mark gs) refl)) (λ k. rw (h, k) (mine-mark gs)))

  pub mine-remove : (gs : List Given) → mine q l (remove n m gs) ≡ remove n m (mine q l gs)
  unfolding mine remove
  mine-remove [] = refl
  mine-remove (g ∷ gs) =
      by-test (is_about n m g)
      (λ h. by-test (eqb g.label l && eqb g.to q) (λ k. rw (h, k) (rw h (mine-remove gs))) (λ k. rw (h, k) (mine-remove gs)))
      (λ h. by-test (eqb g.label l && eqb g.to q) (λ k. rw (h, k) (rw (h, mine-remove gs) refl)) (λ k. rw (h, k) (mine-remove gs)))

-- ---- the messages of a step, by the box that gives the label

abbrev to : ℕ → Message → Sent
to n m = record { to = n; message = m }

away-note : (l q n : ℕ) (m : Message) (gs : List Given) → (eqb m.label l && eqb n q) ≡ false → mine q l (note_sent n m gs) ≡ mine q l gs
unfolding note_sent mine
away-note l q n m gs d =
    by-test (eqb m.kind mapping)
    (λ k. rw k (rw d refl))
    (λ k. by-test (eqb m.kind withdraw) (λ w. rw (k, w) (mine-mark-other q l n m gs d)) (λ w. rw (k, w) refl))

away-sent : (l q n : ℕ) (m : Message) → (eqb m.label l && eqb n q) ≡ false → kin_to (is_up l) q (to n m ∷ []) ≡ []
unfolding kin_to is_up
away-sent l q n m d =
    by-test (eqb n q)
    (λ e. by-test (eqb m.label l)
    (λ k. absurd (let z : true ≡ false = rw (k, e) at d in let z' : ◌≡◌ {A = ℕ} 0 1 = cc in omega arith))
    (λ k. rw (e, k) (by-test (eqb m.kind mapping || eqb m.kind withdraw) (λ h. rw h refl) (λ h. rw h refl))))
    (λ e. rw e refl)

mute-note : (n : ℕ) (m : Message) (gs : List Given) → eqb m.kind mapping ≡ false → eqb m.kind withdraw ≡ false → note_sent n m gs ≡ gs
unfolding note_sent
mute-note n m gs k w = rw (k, w) refl

mute-sent : (l q n : ℕ) (m : Message) → eqb m.kind mapping ≡ false → eqb m.kind withdraw ≡ false → kin_to (is_up l) q (to n m ∷ []) ≡ []
unfolding kin_to is_up
mute-sent l q n m k w = rw (k, w) (by-test (eqb n q) (λ e. rw e refl) (λ e. rw e refl))

module _ (l q : ℕ) (b : List ℕ → ℕ) (r : Bool) (gs : List Given) (ups downs : List Message) (life : Life l q b r (mine q l gs) ups downs) where
  abbrev Goes : ℕ → Message → Type 0
  Goes n m = Life l q b r (mine q l (note_sent n m gs)) (ups ++ kin_to (is_up l) q (to n m ∷ [])) downs

  -- nothing is noted, and nothing sent, of this label at this neighbour
  unmoved : (n : ℕ) (m : Message) → mine q l (note_sent n m gs) ≡ mine q l gs → kin_to (is_up l) q (to n m ∷ []) ≡ [] → Goes n m
  unmoved n m e k = rw (e, k, append-nil ups) life

  goes_map : (a : List ℕ) → count (of_label l) gs ≡ 0 → Goes q (about mapping a l)
  unfolding note_sent mine kin_to is_up
  goes_map a none = rw (eq-eqb q q refl, eq-eqb l l refl) (rw (mine-none q l gs none) (life_map a (rw (mine-none q l gs none) at life)))

  goes_end : (a : List ℕ) → count (is_standing q (about withdraw a l)) gs ≡ 1 → Goes q (about withdraw a l)
  unfolding note_sent kin_to is_up mark is_about
  goes_end a some =
      let one : mine q l gs ≡ given q a l false ∷ [] = life-standing withdraw a life (sym (standing-mine q l withdraw a gs) ∙ some) in
      rw (mine-mark q l q (about withdraw a l) gs, one) (rw (eq-eqb q q refl, eq-eqb l l refl, same_refl a) (life-end a (rw one at life)))

  goes : (n : ℕ) (m : Message) → (m.kind ≡ mapping → count (of_label m.label) gs ≡ 0) → (m.kind ≡ withdraw → count (is_standing n m) gs ≡ 1) → Goes n m
  goes n m fair ends =
      by-test (eqb m.label l && eqb n q)
      (λ d. let at : (eqb m.label l ≡ true) × (eqb n q ≡ true) = both _ _ d in
      let e : m.label ≡ l = eqb-true _ _ at.0 in
      let f : n ≡ q = eqb-true _ _ at.1 in
      by-test (eqb m.kind mapping)
      (λ k. let h : m.kind ≡ mapping = eqb-true _ _ k in
      here m.name mapping n m.kind m.label f h e (goes_map m.name (rw e at (fair h))))
      (λ k. by-test (eqb m.kind withdraw)
      (λ w. let h : m.kind ≡ withdraw = eqb-true _ _ w in
      here m.name withdraw n m.kind m.label f h e (goes_end m.name (same_count m.name n m.kind m.label f h e (ends h))))
      (λ w. unmoved n m (ap (mine q l) (mute-note n m gs k w)) (mute-sent l q n m k w))))
      (λ d. unmoved n m (away-note l q n m gs d) (away-sent l q n m d))
    where
      here : (a : List ℕ) (kind n k x : ℕ) → n ≡ q → k ≡ kind → x ≡ l → Goes q (about kind a l) → Goes n (about k a x)
      here a kind n k x f h e g = rw (f, h, e) g

      same_count : (a : List ℕ) (n k x : ℕ) → n ≡ q → k ≡ withdraw → x ≡ l → count (is_standing n (about k a x)) gs ≡ 1 → count (is_standing q (about withdraw a l)) gs ≡ 1
      same_count a n k x f h e c = rw (f, h, e) at c

-- all of them
pub life-sends : (l q : ℕ) (b : List ℕ → ℕ) (r : Bool) (ms : List Sent) (gs : List Given) (ups downs : List Message) → NoneLive ms gs → AllMapped ms gs → Life l q b r (mine q l gs) ups downs
    → Life l q b r (mine q l (note_all ms gs)) (ups ++ kin_to (is_up l) q ms) downs
unfolding note_all NoneLive AllMapped
life-sends l q b r [] gs ups downs f e life = unfold kin_to in (rw (append-nil ups) life)
life-sends l q b r (m ∷ ms) gs ups downs f e life =
    rw (kin-to-append (is_up l) q (m ∷ []) ms, ← append_assoc ups (kin_to (is_up l) q (m ∷ [])) (kin_to (is_up l) q ms))
    (life-sends l q b r ms (note_sent m.to m.message gs) (ups ++ kin_to (is_up l) q (m ∷ [])) downs f.1 e.1 (goes l q b r gs ups downs life m.to m.message f.0 e.0))
