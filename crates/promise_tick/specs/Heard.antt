-- WHAT A MESSAGE THAT IS HEARD MAKES A CARD SAY, the routes being what they are: a Mapping at most one Mapping, a Withdraw one Release and at most one Withdraw, a Release nothing.
-- Assumes nothing.
use Rattle.std.specs.Prelude.{ℕ, zero, suc, ◌≡◌, Bool, true, false, ◌||◌, get_or, set, eqb, ltb}
use Rattle.std.proofs.Common.{arith, sym, ◌∙◌}
use Rattle.std.proofs.Math.Path.{refl, ap}
use mathlib.Core.List.{List, [], ◌∷◌}
use Rattle.std.proofs.lemmas.List.{set-get_or}
use borrow.Author.Tests.{eqb-true, eqb-false, eq-eqb}
use Rattle.meaning.specs.Octets.{any}
use Rattle.meaning.specs.Lists.{by-test, picked, no-when}
use Rattle.meaning.specs.Wire.{root_in, mapping, withdraw, release, Message, message_in, Sent}
use Rattle.meaning.specs.Card.{Tree, Card, nobody, named, bare, with_trees, with_branch, tree_place, tree_of, tree_at, route_of, is_branch, not_held, leads_on, mapped_to, use_of, held_for, next_free, neighbour_count}
use Rattle.meaning.specs.Events.{Outcome, refused, taken, unless, still, followed_by, tell, give_up, give, let_go, take_up, move_label, relabel, upstream, holder, holder_of, entered, enter, become, branch, other_label, on_mapping, less_branch, on_withdraw, on_release, on_message, on_octets, receive, outcome}
use Rattle.promise.specs.Promise.{Given, Step, Past, answer_to, sends}
use Rattle.promise.specs.LiveLaws.{stray-not}
use Rattle.promise.proofs.CardLaws.{tree-name}
use Rattle.promise.specs.LabelLaws.{Sound}
use Rattle.promise.specs.RuleLaws.{Ruled}
use Rattle.promise.proofs.RuleLaws.{held-named}
use Rattle.promise.proofs.EventLaws.{get_d-put, less-name, less-label}
use Rattle.promise.specs.PromiseProof.{messages_of, Upheld}
use Rattle.promise.proofs.PromiseProof.{sends-is}
use Rattle.promise.proofs.RulesKept.{less-leads}
use Rattle.promise_line.proofs.Steps.{or-true}

-- ---- what is said of an outcome's messages is said of those that its octets hold

unfoldable pub Says : (List Sent → Type 0) → Outcome → Type 0
Says Q (refused k) = Unit {0}
Says Q (taken ms c) = Q ms

pub unless-says : (Q : List Sent → Type 0) (k : ℕ) (o : Outcome) → (k ≡ 0 → Says Q o) → Says Q (unless k o)
unfolding unless Says
unless-says Q zero o h = h refl
unless-says Q (suc k) o h = tt

messages-says : (Q : List Sent → Type 0) (o : Outcome) → Q [] → Says Q o → Q (messages_of o)
unfolding Says messages_of
messages-says Q (refused k) none w = none
messages-says Q (taken ms after) none w = w

pub sends-says : (Q : List Sent → Type 0) (p : Past) → Upheld p → (s : Step) → Q [] → Says Q (outcome p.card s.does) → Q (sends p.card s)
sends-says Q p u s none w = rw (sends-is p s u) (picked Q (eqb (answer_to p.card s).answer 0) (λ _. messages-says Q (outcome p.card s.does) none w) (λ _. none))

-- ---- the label of one tree

module _ (i u : ℕ) (c : Card) (Q : List Sent → Type 0) (none : Q []) where
  -- where the tree has no label, it may be given one
  raised : (tree_at i c).label ≡ 0 → ((u ≡ nobody → ⊥) → Q (tell u mapping (tree_at i c).name (next_free c) ∷ [])) → Q (relabel i u c).sent
  unfolding relabel move_label followed_by let_go take_up still give
  raised z one =
      by-test (eqb (held_for c (tree_at i c)) u)
      (λ e. rw e none)
      (λ e. rw e (rw (eq-eqb (tree_at i c).label 0 z) (by-test (eqb u nobody) (λ k. rw k none) (λ k. rw k (one (eqb-false u nobody k))))))

  -- where it is to have none, it may give one up
  lowered : u ≡ nobody → ((held_for c (tree_at i c) ≡ u → ⊥) → Q (tell (held_for c (tree_at i c)) withdraw (tree_at i c).name (tree_at i c).label ∷ [])) → Q (relabel i u c).sent
  unfolding relabel move_label followed_by let_go take_up still give_up
  lowered z one =
      by-test (eqb (held_for c (tree_at i c)) u)
      (λ e. rw e none)
      (λ e. rw e (rw (eq-eqb u nobody z) (by-test (eqb (tree_at i c).label 0) (λ k. rw k none) (λ k. rw k (one (eqb-false _ _ e))))))

  kept-so : held_for c (tree_at i c) ≡ u → Q (relabel i u c).sent
  unfolding relabel still
  kept-so z = rw (eq-eqb _ u z) none

-- ---- one branch more, or one less

-- one more
any-more : (bs : List ℕ) (n l : ℕ) → get_or bs n 0 ≡ 0 → any is_branch bs ≡ true → any is_branch (set bs n l) ≡ true
unfolding any is_branch
any-more [] n l z h = h
any-more (b ∷ bs) zero l z h = by-test (ltb 0 l) (λ e. rw e refl) (λ e. rw e (rw z at h))
any-more (b ∷ bs) (suc n) l z h = by-test (ltb 0 b) (λ e. rw e refl) (λ e. rw e (any-more bs n l z (rw e at h)))

more : (bs : List ℕ) (n l u : ℕ) → get_or bs n 0 ≡ 0 → any is_branch (set bs u 0) ≡ true → any is_branch (set (set bs n l) u 0) ≡ true
unfolding any is_branch
more [] n l u z h = h
more (b ∷ bs) zero l zero z h = h
more (b ∷ bs) zero l (suc u) z h = by-test (ltb 0 l) (λ e. rw e refl) (λ e. rw e (rw z at h))
more (b ∷ bs) (suc n) l zero z h = any-more bs n l z h
more (b ∷ bs) (suc n) l (suc u) z h = by-test (ltb 0 b) (λ e. rw e refl) (λ e. rw e (more bs n l u z (rw e at h)))

-- a Mapping that is not refused by 10 leaves no tree without what it led to
mapping-leads : (n l u : ℕ) (t : Tree) → other_label t n l ≡ false → leads_on u t ≡ true → leads_on u (with_branch n l t) ≡ true
unfolding other_label branch leads_on not_held with_branch
mapping-leads n l u t o h =
    by-test t.leaf
    (λ f. rw f (or-true (any is_branch (set (set t.branches n l) u 0))))
    (λ f. by-test (eqb (get_or t.branches n 0) 0)
    (λ z. rw f (rw (more t.branches n l u (eqb-true _ _ z) (or-false _ (rw f at h))) refl))
    (λ z. by-test (eqb (get_or t.branches n 0) l)
    (λ k. let same-list : set t.branches n l ≡ t.branches = ap (set t.branches n) (sym (eqb-true _ _ k)) ∙ set-get_or t.branches n 0 in rw same-list h)
    (λ k. let w : true ≡ false = rw (z, k) at o in cc)))
  where
    or-false : (x : Bool) → (x || false) ≡ true → x ≡ true
    or-false true h = refl
    or-false false h = h

-- ---- the messages

-- what a card with route v says to a message m from n
pub data Calls (v n : ℕ) (m : Message) : List Sent → Type 0 where
  mute : Calls v n m []
  asks : (l : ℕ) → m.kind ≡ mapping → Calls v n m (tell v mapping m.name l ∷ [])
  frees : m.kind ≡ withdraw → Calls v n m (tell n release m.name m.label ∷ [])
  quits : (l : ℕ) → m.kind ≡ withdraw → Calls v n m (tell n release m.name m.label ∷ tell v withdraw m.name l ∷ [])

upstream-is : (v : ℕ) → (upstream v ≡ nobody → ⊥) → upstream v ≡ v
unfolding upstream
upstream-is v = picked (λ (x : ℕ). (x ≡ nobody → ⊥) → x ≡ v) (ltb v neighbour_count) (λ _ _. refl) (λ _ d. absurd (d refl))

holder-on : (u : ℕ) (t : Tree) → leads_on u t ≡ true → holder u t ≡ u
unfolding holder
holder-on u t h = rw h refl

holder-off : (u : ℕ) (t : Tree) → leads_on u t ≡ false → holder u t ≡ nobody
unfolding holder
holder-off u t h = rw h refl

tell-eq : (Q : List Sent → Type 0) (k : ℕ) {x u : ℕ} {b a : List ℕ} (l : ℕ) → x ≡ u → b ≡ a → Q (tell u k a l ∷ []) → Q (tell x k b l ∷ [])
tell-eq Q k l e f q = rw (e, f) q

module _ (c : Card) (gs : List Given) (S : Sound c gs) (R : Ruled c) (a : List ℕ) where
  abbrev v : ℕ
  v = route_of (root_in a) c

  -- a tree that holds no label for anybody has none
  unlabelled : held_for c (tree_of a c) ≡ nobody → (tree_of a c).label ≡ 0
  unfolding held_for
  unlabelled h =
      by-test (eqb (tree_of a c).label 0)
      (λ e. eqb-true _ _ e)
      (λ e. absurd (stray-not a (use_of (tree_of a c).label c) (S.linked.own a (eqb-false _ _ e)) (S.linked.real (tree_of a c).label) h))

  asked_of : (t : Tree) → t.name ≡ a → holder_of c t ≡ holder (upstream v) t
  unfolding holder_of
  asked_of t e = ap (λ (b : List ℕ). holder (upstream (route_of (root_in b) c)) t) e

  -- who is asked to hold a label for a tree is the route
  holder-is : (t : Tree) → (holder (upstream v) t ≡ nobody → ⊥) → holder (upstream v) t ≡ v
  unfolding holder
  holder-is t = picked (λ (x : ℕ). (x ≡ nobody → ⊥) → x ≡ v) (leads_on (upstream v) t) (λ _ d. upstream-is v d) (λ _ d. absurd (d refl))

  -- the tree named a is t from now on
  module _ (t : Tree) (e : t.name ≡ a) (k : t.label ≡ (tree_of a c).label) where
    abbrev i : ℕ
    i = tree_place t.name c

    at-entered : tree_at i (entered c t) ≡ t
    at-entered = unfold tree_at entered with_trees tree_place in get_d-put (named t.name) c.trees t (bare [])

    held-entered : held_for (entered c t) (tree_at i (entered c t)) ≡ held_for c (tree_of a c)
    held-entered = ap (held_for (entered c t)) at-entered ∙ same-use ∙ (unfold held_for in ap (λ (l : ℕ). mapped_to (use_of l c)) k)
      where
        same-use : held_for (entered c t) t ≡ mapped_to (use_of t.label c)
        same-use = unfold held_for use_of entered with_trees in refl

    held_by : held_for c (tree_of a c) ≡ holder (upstream v) (tree_of a c)
    held_by = held-named c gs S R a ∙ asked_of (tree_of a c) (tree-name a c)

    asked_is : (holder_of c t ≡ nobody → ⊥) → holder_of c t ≡ v
    asked_is d = asked_of t e ∙ holder-is t (λ z. d (asked_of t e ∙ z))

    -- it leads on where it did: at most one Mapping
    grows : (Q : List Sent → Type 0) → Q [] → ((l : ℕ) → Q (tell v mapping a l ∷ [])) → (leads_on (upstream v) (tree_of a c) ≡ true → leads_on (upstream v) t ≡ true) → Q (relabel i (holder_of c t) (entered c t)).sent
    grows Q none one lead =
        by-test (leads_on (upstream v) (tree_of a c))
        (λ h. kept-so i (holder_of c t) (entered c t) Q none (held-entered ∙ held_by ∙ holder-on _ _ h ∙ sym (asked_of t e ∙ holder-on _ _ (lead h))))
        (λ h. raised i (holder_of c t) (entered c t) Q none (ap (λ (x : Tree). x.label) at-entered ∙ k ∙ unlabelled (held_by ∙ holder-off _ _ h))
        (λ d. tell-eq Q mapping _ (asked_is d) (ap (λ (x : Tree). x.name) at-entered ∙ e) (one _)))

    -- it leads on only where it did: at most one Withdraw
    shrinks : (Q : List Sent → Type 0) → Q [] → ((l : ℕ) → Q (tell v withdraw a l ∷ [])) → (leads_on (upstream v) (tree_of a c) ≡ false → leads_on (upstream v) t ≡ false) → Q (relabel i (holder_of c t) (entered c t)).sent
    shrinks Q none one lead =
        by-test (leads_on (upstream v) t)
        (λ h. by-test (leads_on (upstream v) (tree_of a c))
        (λ m. kept-so i (holder_of c t) (entered c t) Q none (held-entered ∙ held_by ∙ holder-on _ _ m ∙ sym (asked_of t e ∙ holder-on _ _ h)))
        (λ m. absurd (let z : true ≡ false = sym h ∙ lead m in let z' : ◌≡◌ {A = ℕ} 0 1 = cc in omega arith)))
        (λ h. let off : holder_of c t ≡ nobody = asked_of t e ∙ holder-off _ _ h in
        lowered i (holder_of c t) (entered c t) Q none off
        (λ d. tell-eq Q withdraw _ (held-entered ∙ held_by ∙ holder-is (tree_of a c) (λ z. d (held-entered ∙ held_by ∙ z ∙ sym off))) (ap (λ (x : Tree). x.name) at-entered ∙ e) (one _)))

module _ (c : Card) (gs : List Given) (S : Sound c gs) (R : Ruled c) (n : ℕ) (m : Message) where
  abbrev Q : List Sent → Type 0
  Q = Calls (route_of (root_in m.name) c) n m

  mapping-enters : m.kind ≡ mapping → other_label (tree_of m.name c) n m.label ≡ false → Says Q (enter c [] (with_branch n m.label (tree_of m.name c)))
  unfolding enter Says
  mapping-enters k o =
      grows c gs S R m.name (with_branch n m.label (tree_of m.name c)) (unfold with_branch in tree-name m.name c) (unfold with_branch in refl) Q mute (λ x. asks x k)
      (mapping-leads n m.label _ (tree_of m.name c) o)

  withdraw-enters : m.kind ≡ withdraw → Says Q (enter c (tell n release m.name m.label ∷ []) (less_branch n m.label (tree_of m.name c)))
  unfolding enter Says
  withdraw-enters k =
      shrinks c gs S R m.name (less_branch n m.label (tree_of m.name c)) (less-name n m.label (tree_of m.name c) ∙ tree-name m.name c) (less-label n m.label (tree_of m.name c))
      (λ (ms : List Sent). Q (tell n release m.name m.label ∷ ms)) (frees k) (λ x. quits x k)
      (less-leads n m.label _ (tree_of m.name c))

  nothing_said : (d : Card) → Says Q (taken [] d)
  unfolding Says
  nothing_said d = mute

  message-calls : Says Q (on_message c n m)
  unfolding on_message on_mapping on_withdraw on_release become
  message-calls =
      picked (Says Q) (eqb m.kind mapping)
      (λ k. unless-says Q _ _ (λ z. unless-says Q _ _ (λ _. mapping-enters (eqb-true _ _ k) (no-when 9 _ 0 z).0)))
      (λ _. picked (Says Q) (eqb m.kind withdraw)
      (λ k. unless-says Q _ _ (λ _. withdraw-enters (eqb-true _ _ k)))
      (λ _. picked (Says Q) (eqb m.kind release)
      (λ _. unless-says Q _ _ (λ _. nothing_said _))
      (λ _. unfold Says in tt)))

octets-call : (c : Card) (gs : List Given) → Sound c gs → Ruled c → (n : ℕ) (s : List ℕ) → Says (Calls (route_of (root_in (message_in s).name) c) n (message_in s)) (outcome c (receive n s))
unfolding outcome on_octets
octets-call c gs S R n s = unless-says _ _ _ (λ _. unless-says _ _ _ (λ _. message-calls c gs S R n (message_in s)))

-- WHAT A BOX SAYS TO A MESSAGE, after any past, with any room, taken or refused
pub heard-calls : (p : Past) → Upheld p → (room n : ℕ) (s : List ℕ) → Calls (route_of (root_in (message_in s).name) p.card) n (message_in s) (sends p.card (record { room = room; does = receive n s }))
heard-calls p u room n s = sends-says _ p u (record { room = room; does = receive n s }) mute (octets-call p.card p.live u.sound u.ruled n s)
