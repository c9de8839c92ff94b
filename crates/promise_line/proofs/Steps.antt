-- ONE STEP OF A BOX: what it makes of the life of a label, as the one that gives it and as the one that uses it.
-- Assumes nothing.
use Rattle.std.specs.Prelude.{ℕ, ◌<◌, Bool, not, ◌||◌}
use Rattle.std.proofs.Common.{arith, ◌∙◌}
use Rattle.std.proofs.Math.Path.{◌≡◌, refl, sym, ap}
use Rattle.std.proofs.Math.Bool.{true, false}
use mathlib.Core.List.{List, [], ◌∷◌, ◌++◌}
use Rattle.std.proofs.Math.ListN.{get_or}
use Rattle.std.proofs.Math.Seq.{get_or-set_same, get_or-set_other}
use Rattle.std.proofs.Math.Dec.{eqb}
use borrow.Author.Tests.{eqb-true, eqb-false, eq-eqb}
use Rattle.meaning.specs.Octets.{same}
use Rattle.meaning.specs.Lists.{by-test, picked, append-nil, neither}
use Rattle.meaning.specs.Wire.{mapping, withdraw, release, Message, message_in, Sent, records}
use Rattle.meaning.specs.Card.{Tree, Card, with_next, with_branch, with_leaf, with_label, tree_of, tree_place, neighbour_count}
use Rattle.meaning.specs.Events.{Outcome, refused, taken, refuse, accept, room_short, finish, branch, other_label, Event, receive, join, leave, route, lost, outcome, event}
use Rattle.promise.specs.Promise.{Given, note_all, note_taken, Step, Past, answer_to, sends, is_taken, live_at, then_step}
use Rattle.promise.specs.CardLaws.{shape}
use Rattle.promise.proofs.CardLaws.{tree-sized}
use Rattle.promise.specs.EventLaws.{became, Apart, Keeps, Admits, Meets}
use Rattle.promise.proofs.EventLaws.{event-keeps, event-meets}
use Rattle.promise.specs.PromiseProof.{messages_of, Upheld}
use Rattle.promise.proofs.PromiseProof.{message-branches, sends-is, refused-silent, kept}
use Rattle.promise_line.specs.Line.{is_from, hearing}
use Rattle.promise_line.specs.Life.{Life, life-eq, life-freed, life-lost, said, reply_to, life-heard, life-missed, life-other, life-deaf}
use Rattle.promise_line.specs.Sends.{is_up, is_down, kin, kin_to, mine, mine-remove, mine-remove-other, mine-without-other, life-sends}
use Rattle.promise_line.specs.Answers.{Speaks, answering, answers_to, event-speaks}
use Rattle.promise_line.specs.Steps.{from}

-- ---- a step that is taken

module _ (c : Card) (gs : List Given) (e : Event) (room : ℕ) where
  spoken : (l n : ℕ) (rs : List Message) (o : Outcome) → Keeps c (note_taken e gs) (became e) (Apart e c) o → Speaks l n rs o → eqb (finish room c o).answer 0 ≡ true → kin_to (is_down l) n (messages_of o) ≡ rs
  unfolding finish refuse Keeps Speaks messages_of
  spoken l n rs (refused k) nz w z = absurd (nz (eqb-true k 0 z))
  spoken l n rs (taken ms after) k w z = w

  formed : (o : Outcome) → Keeps c (note_taken e gs) (became e) (Apart e c) o → eqb (finish room c o).answer 0 ≡ true → (a : List ℕ) (n : ℕ) → branch (tree_of a (finish room c o).card) n ≡ branch (became e a (tree_of a c)) n
  unfolding finish refuse accept Keeps branch with_next with_label tree_of tree_place shape
  formed (refused k) nz z a n = absurd (nz (eqb-true k 0 z))
  formed (taken ms after) k z a n =
      by-test (room_short room (records c.next ms))
      (λ t. absurd (let h : false ≡ true = rw t at z in let h' : ◌≡◌ {A = ℕ} 0 1 = cc in omega arith))
      (λ t. rw t (ap (λ (x : Tree). get_or x.branches n 0) (k.shapes a)))

  admitted : (o : Outcome) → Keeps c (note_taken e gs) (became e) (Apart e c) o → Meets c e o → eqb (finish room c o).answer 0 ≡ true → Admits c e
  unfolding finish refuse Keeps Meets
  admitted (refused k) nz m z = absurd (nz (eqb-true k 0 z))
  admitted (taken ms after) k m z = m

module _ (p : Past) (u : Upheld p) (s : Step) (yes' : is_taken p.card s ≡ true) where
  abbrev keeps : Keeps p.card (note_taken s.does p.live) (became s.does) (Apart s.does p.card) (outcome p.card s.does)
  keeps = event-keeps p.card p.live u.sound s.does

  -- its Releases are those that answer it
  releases : (l n : ℕ) → kin_to (is_down l) n (sends p.card s) ≡ kin_to (is_down l) n (answers_to s.does)
  unfolding is_taken answer_to event
  releases l n = ap (kin_to (is_down l) n) (sends-is p s u ∙ unfold answer_to event in rw yes' refl) ∙ spoken p.card p.live s.does s.room l n _ (outcome p.card s.does) keeps (event-speaks p.card l n s.does) yes'

  -- its branches are those that it makes
  pub branches : (a : List ℕ) (n : ℕ) → from n (then_step p s) a ≡ branch (became s.does a (tree_of a p.card)) n
  unfolding is_taken answer_to event then_step
  branches a n = formed p.card p.live s.does s.room (outcome p.card s.does) keeps yes' a n

  admits : Admits p.card s.does
  unfolding is_taken answer_to event
  admits = admitted p.card p.live s.does s.room (outcome p.card s.does) keeps (event-meets p.card s.does) yes'

  on-live : (then_step p s).live ≡ note_all (sends p.card s) (note_taken s.does p.live)
  unfolding then_step live_at
  on-live = rw yes' refl

-- a refused one changes nothing, and says nothing
refused-still : (p : Past) (s : Step) → is_taken p.card s ≡ false → (sends p.card s ≡ []) × (then_step p s ≡ p)
unfolding is_taken
refused-still p s e = refused-silent p s (eqb-false _ _ e)

-- ---- what an event makes of a branch

module _ (a : List ℕ) (n : ℕ) (t : Tree) where
  -- of other neighbours, and local orders
  else-branch : (e : Event) → is_from n e ≡ false → branch (became e a t) n ≡ branch t n
  unfolding became is_from branch
  else-branch (receive k s) d =
      picked (λ (x : Tree). get_or x.branches n 0 ≡ get_or t.branches n 0) (same (message_in s).name a)
      (λ _. ap (λ (bs : List ℕ). get_or bs n 0) (message-branches k (message_in s) t) ∙ get_or-set_other t.branches k n _ 0 (λ z. eqb-false k n d (sym z)))
      (λ _. refl)
  else-branch (join e) d = picked (λ (x : Tree). get_or x.branches n 0 ≡ get_or t.branches n 0) (same e a) (λ _. unfold with_leaf in refl) (λ _. refl)
  else-branch (leave e) d = picked (λ (x : Tree). get_or x.branches n 0 ≡ get_or t.branches n 0) (same e a) (λ _. unfold with_leaf in refl) (λ _. refl)
  else-branch (route r via) d = refl
  else-branch (lost k) d = unfold with_branch in get_or-set_other t.branches k n 0 0 (λ z. eqb-false k n d (sym z))

else-answers : (l n : ℕ) (e : Event) → is_from n e ≡ false → kin_to (is_down l) n (answers_to e) ≡ []
unfolding answers_to answering is_from kin_to
else-answers l n (receive k s) d = picked (λ (ms : List Sent). kin_to (is_down l) n ms ≡ []) (eqb (message_in s).kind withdraw) (λ _. rw d refl) (λ _. refl)
else-answers l n (join e) d = refl
else-answers l n (leave e) d = refl
else-answers l n (route r via) d = refl
else-answers l n (lost k) d = refl

else-noted : (l n : ℕ) (e : Event) (gs : List Given) → is_from n e ≡ false → mine n l (note_taken e gs) ≡ mine n l gs
unfolding note_taken is_from
else-noted l n (receive k s) gs d =
    picked (λ (x : List Given). mine n l x ≡ mine n l gs) (eqb (message_in s).kind release)
    (λ _. mine-remove-other n l k (message_in s) gs (by-test (eqb (message_in s).label l) (λ e. rw (e, d) refl) (λ e. rw e refl)))
    (λ _. refl)
else-noted l n (join e) gs d = refl
else-noted l n (leave e) gs d = refl
else-noted l n (route r via) gs d = refl
else-noted l n (lost k) gs d = mine-without-other n l k gs d

other-label : (b x : ℕ) (l : ℕ) → not (eqb b 0 || eqb b x) ≡ false → (l ≡ 0 → ⊥) → (x ≡ l → ⊥) → b ≡ l → ⊥
other-label b x l h nz d e = two-tests (eqb b 0) (eqb b x) refl refl h
  where
    two-tests : (p q : Bool) → eqb b 0 ≡ p → eqb b x ≡ q → not (p || q) ≡ false → ⊥
    two-tests true q i j k = nz (sym e ∙ eqb-true b 0 i)
    two-tests false true i j k = d (sym (eqb-true b x j) ∙ e)
    two-tests false false i j k = let z' : ◌≡◌ {A = ℕ} 0 1 = cc in omega arith

-- ---- the box that gives the label

module _ (y : Past) (u : Upheld y) (s : Step) (l q : ℕ) (b : List ℕ → ℕ) (r : Bool) (ups downs : List Message) where
  give-taken : is_taken y.card s ≡ true → Life l q b r (mine q l (note_taken s.does y.live)) ups downs
      → Life l q b r (mine q l (then_step y s).live) (ups ++ kin_to (is_up l) q (sends y.card s)) downs
  unfolding live_at
  give-taken e life = rw (on-live y u s e) (life-sends l q b r (sends y.card s) (note_taken s.does y.live) ups downs (rw e at ((kept y u).anew s)) (rw e at ((kept y u).withdraws s)) life)

  give-refused : is_taken y.card s ≡ false → Life l q b r (mine q l y.live) ups downs → Life l q b r (mine q l (then_step y s).live) (ups ++ kin_to (is_up l) q (sends y.card s)) downs
  give-refused e life = let n = refused-still y s e in rw (n.0, n.1) (unfold kin_to in (rw (append-nil ups) life))

  pub give-else : is_from q s.does ≡ false → Life l q b r (mine q l y.live) ups downs → Life l q b r (mine q l (then_step y s).live) (ups ++ kin_to (is_up l) q (sends y.card s)) downs
  give-else d life =
      by-test (is_taken y.card s)
      (λ e. give-taken e (rw (else-noted l q s.does y.live d) life))
      (λ e. give-refused e life)

-- what a message from q does to what is noted, and to what is under way
hear-noted : (l q : ℕ) (b : List ℕ → ℕ) (r : Bool) (gs : List Given) (ups : List Message) (s : List ℕ) (rest : List (List ℕ))
    → Life l q b r (mine q l gs) ups (kin (is_down l) (s ∷ rest)) → Life l q b r (mine q l (note_taken (receive q s) gs)) ups (kin (is_down l) rest)
unfolding note_taken kin is_down
hear-noted l q b r gs ups s rest life =
    by-test (eqb (message_in s).kind release)
    (λ k. by-test (eqb (message_in s).label l)
    (λ e. rw k (rw (mine-remove q l q (message_in s) gs) (life-freed (rw (k, e) at life))))
    (λ e. rw k (rw (mine-remove-other q l q (message_in s) gs (rw e refl)) (rw (k, e) at life))))
    (λ k. rw k (rw k at life))

hear-lost : (l q : ℕ) (b : List ℕ → ℕ) (r : Bool) (gs : List Given) (ups : List Message) (s : List ℕ) (rest : List (List ℕ)) → Life l q b r gs ups (kin (is_down l) (s ∷ rest)) → Life l q b r gs ups (kin (is_down l) rest)
unfolding kin
hear-lost l q b r gs ups s rest life = by-test (is_down l (message_in s)) (λ e. life-lost (rw e at life)) (λ e. rw e at life)

pub give-hears : (y : Past) (u : Upheld y) (room l q : ℕ) (b : List ℕ → ℕ) (r : Bool) (ups : List Message) (s : List ℕ) (rest : List (List ℕ))
    → Life l q b r (mine q l y.live) ups (kin (is_down l) (s ∷ rest))
    → Life l q b r (mine q l (then_step y (hearing room q s)).live) (ups ++ kin_to (is_up l) q (sends y.card (hearing room q s))) (kin (is_down l) rest)
give-hears y u room l q b r ups s rest life =
    by-test (is_taken y.card (hearing room q s))
    (λ e. give-taken y u (hearing room q s) l q b r ups (kin (is_down l) rest) e (hear-noted l q b r y.live ups s rest life))
    (λ e. give-refused y u (hearing room q s) l q b r ups (kin (is_down l) rest) e (hear-lost l q b r (mine q l y.live) ups s rest life))

-- ---- the box that uses it

module _ (x : Past) (u : Upheld x) (l q p : ℕ) (r : Bool) (gs : List Given) where
  pub use-else : (ups downs : List Message) (s : Step) → is_from p s.does ≡ false → Life l q (from p x) r gs ups downs → Life l q (from p (then_step x s)) r gs ups (downs ++ kin_to (is_down l) p (sends x.card s))
  use-else ups downs s d life = rw (quiet, append-nil downs) (life-eq (λ a e. sym (same_from a) ∙ e) (λ _ a e. same_from a ∙ e) (λ z. z) life)
    where
      quiet : kin_to (is_down l) p (sends x.card s) ≡ []
      quiet =
          by-test (is_taken x.card s)
          (λ e. releases x u s e l p ∙ else-answers l p s.does d)
          (λ e. ap (kin_to (is_down l) p) (refused-still x s e).0 ∙ unfold kin_to in refl)

      same_from : (a : List ℕ) → from p (then_step x s) a ≡ from p x a
      same_from a =
          by-test (is_taken x.card s)
          (λ e. branches x u s e a p ∙ else-branch a p (tree_of a x.card) s.does d)
          (λ e. ap (λ (y : Past). from p y a) (refused-still x s e).1)

reply-here : (l p : ℕ) (m : Message) → eqb m.label l ≡ true → kin_to (is_down l) p (answering p m) ≡ reply_to m
unfolding answering reply_to kin_to is_down
reply-here l p m e = by-test (eqb m.kind withdraw) (λ w. rw w (rw (e, eq-eqb p p refl) refl)) (λ w. rw w refl)

reply-other : (l p : ℕ) (m : Message) → eqb m.label l ≡ false → kin_to (is_down l) p (answering p m) ≡ []
unfolding answering kin_to is_down
reply-other l p m e = by-test (eqb m.kind withdraw) (λ w. rw w (rw (e, eq-eqb p p refl) refl)) (λ w. rw w refl)

reply-none : (l p : ℕ) (m : Message) → eqb m.kind withdraw ≡ false → kin_to (is_down l) p (answering p m) ≡ []
unfolding answering kin_to
reply-none l p m w = rw w refl

pub or-true : (x : Bool) → (x || true) ≡ true
or-true true = refl
or-true false = refl

module _ (l q p : ℕ) (b : List ℕ → ℕ) (r : Bool) (gs : List Given) (s : List ℕ) (rest : List (List ℕ)) (downs : List Message) (life : Life l q b r gs (kin (is_up l) (s ∷ rest)) downs) where
  hear-said : (l ≡ 0 → ⊥) → (((message_in s).label ≡ l → ⊥) → (message_in s).kind ≡ mapping → b (message_in s).name ≡ l → ⊥)
      → Life l q (said (message_in s) b) r gs (kin (is_up l) rest) (downs ++ kin_to (is_down l) p (answering p (message_in s)))
  unfolding kin is_up
  hear-said nz fits =
      by-test (eqb (message_in s).label l)
      (λ e. by-test (eqb (message_in s).kind mapping || eqb (message_in s).kind withdraw)
      (λ k. rw (reply-here l p (message_in s) e) (life-heard nz (rw (k, e) at life)))
      (λ k. let n = neither (eqb (message_in s).kind mapping) (eqb (message_in s).kind withdraw) k in
      rw (reply-none l p (message_in s) n.1, append-nil downs) (life-deaf (message_in s) n.0 n.1 (rw k at life))))
      (λ e. rw (reply-other l p (message_in s) e, append-nil downs) (life-other (message_in s) nz (eqb-false _ _ e) (fits (eqb-false _ _ e))
      (by-test (eqb (message_in s).kind mapping || eqb (message_in s).kind withdraw) (λ k. rw (k, e) at life) (λ k. rw k at life))))

  hear-missed : Life l q b true gs (kin (is_up l) rest) downs
  unfolding kin
  hear-missed =
      by-test (is_up l (message_in s))
      (λ e. life-missed (rw e at life))
      (λ e. life-eq (λ _ k. k) (λ _ _ k. k) (λ z. absurd (let z' : ◌≡◌ {A = ℕ} 0 1 = cc in omega arith)) (rw e at life))

module _ (x : Past) (u : Upheld x) (l q p : ℕ) (near : p < neighbour_count) (nz : l ≡ 0 → ⊥) (r : Bool) (gs : List Given) (room : ℕ) (s : List ℕ) (rest : List (List ℕ)) (downs : List Message) where
  heard-free : is_taken x.card (hearing room p s) ≡ true → ((message_in s).label ≡ l → ⊥) → (message_in s).kind ≡ mapping → from p x (message_in s).name ≡ l → ⊥
  unfolding Admits
  heard-free e d k z = other-label (from p x (message_in s).name) (message_in s).label l (unfold other_label in (admits x u (hearing room p s) e).2 k) nz d z

  heard-said : is_taken x.card (hearing room p s) ≡ true → (a : List ℕ) → from p (then_step x (hearing room p s)) a ≡ said (message_in s) (from p x) a
  unfolding said became
  heard-said e a =
      branches x u (hearing room p s) e a p
      ∙ by-test (same (message_in s).name a)
      (λ k. rw k (unfold branch in (ap (λ (bs : List ℕ). get_or bs p 0) (message-branches p (message_in s) (tree_of a x.card)) ∙ get_or-set_same (tree_of a x.card).branches p _ 0 (rw (tree-sized a x.card u.sound.tidy) near))))
      (λ k. rw k refl)

  pub use-hears : Life l q (from p x) r gs (kin (is_up l) (s ∷ rest)) downs
      → Life l q (from p (then_step x (hearing room p s))) (r || not (is_taken x.card (hearing room p s))) gs (kin (is_up l) rest) (downs ++ kin_to (is_down l) p (sends x.card (hearing room p s)))
  unfolding answers_to
  use-hears life =
      by-test (is_taken x.card (hearing room p s))
      (λ e. rw (releases x u (hearing room p s) e l p) (life-eq (λ a k. sym (heard-said e a) ∙ k) (λ _ a k. heard-said e a ∙ k) (λ z. (neither r _ z).0) (hear-said l q p (from p x) r gs s rest downs life nz (heard-free e))))
      (λ e. let n = refused-still x (hearing room p s) e in
      rw n.0 (unfold kin_to in (rw (append-nil downs)
      (life-eq (λ a k. sym (ap (λ (y : Past). from p y a) n.1) ∙ k) (λ _ a k. ap (λ (y : Past). from p y a) n.1 ∙ k) (λ z. rw e at (neither r _ z).1) (hear-missed l q p (from p x) r gs s rest downs life)))))
