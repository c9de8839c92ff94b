-- What a refusal is: the number given is that of the first test that applies, where the tests stand by rising number, 18 between 7 and 8 (in a route order: 1, 6, 15, 12, 16);
-- and a refusal gives back the card it got, and no octet. Assumes nothing.
use Rattle.std.specs.Prelude.{ℕ, suc, ◌+◌, ◌≤◌, ◌≡◌, Bool, not, ◌&&◌, drop, length, eqb, ltb}
use Rattle.std.proofs.Common.{zero-le, ◌∙◌, le-ltb, eqb-true, ltb-false, arith}
use Rattle.std.proofs.Math.Path.{refl, ap}
use Rattle.std.proofs.Math.Bool.{true, false}
use mathlib.Core.List.{List, [], ◌∷◌, ◌++◌}
use Rattle.meaning.specs.Octets.{pick, any, two_at, ◌when◌else◌}
use Rattle.meaning.specs.Lists.{by-test, no_way}
use Rattle.meaning.specs.Wire.{is_element, is_opaque, is_filled, opaque_in, element_refusal, is_overrun, tlvs, mapping, withdraw, release, Message, body_of, fec_of, label_of, must, is_sized, is_kind, is_ordered, is_label, message_refusal, message_in, Sent, records, root_limit}
use Rattle.meaning.specs.Card.{Tree, Card, with_branch, with_leaf, tree_of, route_of}
use Rattle.meaning.specs.Events.{Out, Outcome, refused, taken, unless, refuse, accept, room_short, finish, tell, labels_short, need, holder_of, trees_full, tree_refusal, enter, become, other_label, on_mapping, less_branch, on_withdraw, not_awaited, on_release, on_message, no_neighbour, on_octets, on_join, not_leaf, on_leave, route_short, runs_out, not_route, not_root, routes_full, route_refusal, re_route, on_route, Event, receive, join, leave, route, outcome, event, part, on_lost, lost}

-- a refusal's number, and whether its test applies
pub record Test : Type 0 where
  pub number : ℕ
  pub applies : Bool

infix 5 ◌if◌
abbrev pub ◌if◌ : ℕ → Bool → Test
n if b = record { number = n; applies = b }

-- the number of the first test that applies; 0 where none does
unfoldable pub first_of : List Test → ℕ
first_of [] = 0
first_of (t ∷ ts) = t.number when t.applies else first_of ts

-- ---- the tests of each event, in order

unfoldable pub element_tests : List ℕ → List Test
element_tests e = (6 if not (is_element e)) ∷ (7 if not (is_opaque (opaque_in e))) ∷ (18 if not (is_filled (opaque_in e))) ∷ []

unfoldable pub message_tests : List ℕ → List Test
message_tests s =
    (2 if not (is_sized s)) ∷ (3 if not (is_kind (two_at s 0))) ∷ (4 if is_overrun (tlvs (drop 8 s))) ∷ (5 if not (is_ordered s))
    ∷ (6 if not (is_element (fec_of s).value)) ∷ (7 if not (is_opaque (opaque_in (fec_of s).value))) ∷ (18 if not (is_filled (opaque_in (fec_of s).value))) ∷ (8 if not (is_label (label_of s).value))
    ∷ (9 if any must (drop 2 (body_of s))) ∷ []

unfoldable pub tree_tests : Card → Tree → List Test
tree_tests c t = (11 if trees_full c t) ∷ (12 if labels_short c (need c t (holder_of c t))) ∷ []

-- the octets that an outcome writes
unfoldable pub written_by : Card → Outcome → List ℕ
written_by c (refused n) = []
written_by c (taken ms d) = records c.next ms

unfoldable pub room_test : ℕ → Card → Outcome → List Test
room_test room c o = (16 if room_short room (written_by c o)) ∷ []

-- ---- the answer is the first of them

pub data Positive : List Test → Type 0 where
  none : Positive []
  more : {n : ℕ} {b : Bool} {ts : List Test} → Positive ts → Positive ((suc n if b) ∷ ts)

pick-when : (n : ℕ) (b : Bool) (x y : Out) → x.answer ≡ n → y.answer ≡ 0 → (pick b x y).answer ≡ n when b else 0
unfolding ◌when◌else◌
pick-when n true x y p q = p
pick-when n false x y p q = q

element-is : (e : List ℕ) → element_refusal e ≡ first_of (element_tests e)
unfolding element_refusal first_of element_tests
element-is e = refl

message-is : (s : List ℕ) → message_refusal s ≡ first_of (message_tests s)
unfolding message_refusal first_of message_tests
message-is s = refl

tree_is : (c : Card) (t : Tree) → tree_refusal c t ≡ first_of (tree_tests c t)
unfolding tree_refusal first_of tree_tests
tree_is c t = refl

one-is : (n : ℕ) (b : Bool) → n when b else 0 ≡ first_of ((n if b) ∷ [])
unfolding first_of
one-is n b = refl

module _ (room : ℕ) (c : Card) where
  abbrev answer : Outcome → ℕ
  answer o = (finish room c o).answer

  taken-answer : (ms : List Sent) (d : Card) → answer (taken ms d) ≡ first_of (room_test room c (taken ms d))
  unfolding finish room_test written_by first_of
  taken-answer ms d = pick-when 16 (room_short room (records c.next ms)) _ _ (unfold refuse in refl) (unfold accept in refl)

  -- nothing written always fits
  quiet : answer (taken [] c) ≡ first_of []
  quiet = taken-answer [] c ∙ fits
    where
      fits : first_of (room_test room c (taken [] c)) ≡ first_of []
      fits = unfold room_test written_by room_short records first_of in rw (le-ltb room 0 zero-le) (unfold ◌when◌else◌ in refl)

  -- tests before an outcome whose answer is the first of some others
  pub unless-answer : (ts us : List Test) (o : Outcome) → Positive ts → answer o ≡ first_of us → answer (unless (first_of ts) o) ≡ first_of (ts ++ us)
  unfolding first_of ◌when◌else◌
  unless-answer [] us o none e = unfold unless in e
  unless-answer (t ∷ ts) us o (more {n} {b} p) e =
      by-test b
      (λ k. rw k (unfold unless finish refuse in refl))
      (λ k. rw k (unless-answer ts us o p e))

  enter-answer : (first : List Sent) (t : Tree) → answer (enter c first t) ≡ first_of (room_test room c (enter c first t))
  unfolding enter
  enter-answer first t = taken-answer _ _

  pub become-answer : (first : List Sent) (t : Tree) → answer (become c first t) ≡ first_of (tree_tests c t ++ room_test room c (enter c first t))
  unfolding become
  become-answer first t =
      ap (λ (n : ℕ). answer (unless n (enter c first t))) (tree_is c t)
      ∙ unless-answer (tree_tests c t) (room_test room c (enter c first t)) (enter c first t) (unfold tree_tests in more (more none)) (enter-answer first t)

  -- ---- the events

  unfoldable pub mapping_tests : ℕ → List ℕ → ℕ → List Test
  mapping_tests n a l =
      let t = with_branch n l (tree_of a c) in
      (10 if other_label (tree_of a c) n l) ∷ (tree_tests c t ++ room_test room c (enter c [] t))

  unfoldable pub withdraw_tests : ℕ → List ℕ → ℕ → List Test
  withdraw_tests n a l =
      let t = less_branch n l (tree_of a c) in
      tree_tests c t ++ room_test room c (enter c (tell n release a l ∷ []) t)

  -- (a Release writes nothing, so 16 never applies)
  unfoldable pub release_tests : ℕ → List ℕ → ℕ → List Test
  release_tests n a l = (13 if not_awaited c n a l) ∷ room_test room c (taken [] c)

  unfoldable pub kind_tests : ℕ → Message → List Test
  kind_tests n m =
      pick (eqb m.kind mapping) (mapping_tests n m.name m.label)
      (pick (eqb m.kind withdraw) (withdraw_tests n m.name m.label)
      (pick (eqb m.kind release) (release_tests n m.name m.label)
      ((3 if true) ∷ [])))

  unfoldable pub event_tests : Event → List Test
  event_tests (receive n s) = (1 if no_neighbour n) ∷ (message_tests s ++ kind_tests n (message_in s))
  event_tests (join e) = let t = with_leaf true (tree_of e c) in element_tests e ++ (tree_tests c t ++ room_test room c (enter c [] t))
  event_tests (leave e) =
      let t = with_leaf false (tree_of e c) in
      element_tests e ++ (tree_tests c t ++ ((14 if not_leaf (tree_of e c)) ∷ room_test room c (enter c [] t)))
  event_tests (route r via) =
      (1 if not_route via) ∷ (6 if not_root r)
      ∷ pick (eqb (route_of r c) via) []
      ((15 if routes_full c r via) ∷ (12 if route_short c r via) ∷ (12 if runs_out c r via) ∷ room_test room c (re_route c r via))
  event_tests (lost n) = (1 if no_neighbour n) ∷ room_test room c (part c n)

  one : (n : ℕ) (b : Bool) (us : List Test) (o : Outcome) → answer o ≡ first_of us → answer (unless (suc n when b else 0) o) ≡ first_of ((suc n if b) ∷ us)
  one n b us o e = ap (λ (k : ℕ). answer (unless k o)) (one-is (suc n) b) ∙ unless-answer ((suc n if b) ∷ []) us o (more none) e

  message-answer : (n : ℕ) (m : Message) → answer (on_message c n m) ≡ first_of (kind_tests n m)
  unfolding on_message kind_tests
  message-answer n m =
      by-test (eqb m.kind mapping)
      (λ e. rw e (unfold on_mapping mapping_tests in one 9 _ _ _ (become-answer [] _)))
      (λ e. by-test (eqb m.kind withdraw)
      (λ k. rw (e, k) (unfold on_withdraw withdraw_tests in become-answer (tell n release m.name m.label ∷ []) _))
      (λ k. by-test (eqb m.kind release)
      (λ l. rw (e, k, l) (unfold on_release release_tests in one 12 _ _ _ (taken-answer [] _ ∙ unfold room_test written_by in refl)))
      (λ l. rw (e, k, l) (unfold finish refuse first_of ◌when◌else◌ in refl))))

  octets-answer : (n : ℕ) (s : List ℕ) → answer (on_octets c n s) ≡ first_of ((1 if no_neighbour n) ∷ (message_tests s ++ kind_tests n (message_in s)))
  unfolding on_octets
  octets-answer n s =
      one 0 _ _ _
      (ap (λ (k : ℕ). answer (unless k (on_message c n (message_in s)))) (message-is s)
      ∙ unless-answer (message_tests s) _ _ (unfold message_tests in more (more (more (more (more (more (more (more (more none))))))))) (message-answer n (message_in s)))

  join-answer : (e : List ℕ) → answer (on_join c e) ≡ first_of (element_tests e ++ (tree_tests c (with_leaf true (tree_of e c)) ++ room_test room c (enter c [] (with_leaf true (tree_of e c)))))
  unfolding on_join
  join-answer e =
      ap (λ (k : ℕ). answer (unless k (become c [] (with_leaf true (tree_of e c))))) (element-is e)
      ∙ unless-answer (element_tests e) _ _ (unfold element_tests in more (more (more none))) (become-answer [] _)

  leave-answer : (e : List ℕ) → answer (on_leave c e) ≡ first_of (element_tests e ++ (tree_tests c (with_leaf false (tree_of e c)) ++ ((14 if not_leaf (tree_of e c)) ∷ room_test room c (enter c [] (with_leaf false (tree_of e c))))))
  unfolding on_leave
  leave-answer e =
      ap (λ (k : ℕ). answer (unless k (unless (tree_refusal c t) (unless (14 when not_leaf (tree_of e c) else 0) (enter c [] t))))) (element-is e)
      ∙ unless-answer (element_tests e) _ _ (unfold element_tests in more (more (more none)))
      (ap (λ (k : ℕ). answer (unless k (unless (14 when not_leaf (tree_of e c) else 0) (enter c [] t)))) (tree_is c t)
      ∙ unless-answer (tree_tests c t) _ _ (unfold tree_tests in more (more none)) (one 13 _ _ _ (enter-answer [] t)))
    where
      t : Tree
      t = with_leaf false (tree_of e c)

  move-answer : (r : List ℕ) (via : ℕ) → answer (unless (route_refusal c r via) (re_route c r via)) ≡ first_of ((15 if routes_full c r via) ∷ (12 if route_short c r via) ∷ (12 if runs_out c r via) ∷ room_test room c (re_route c r via))
  unfolding route_refusal
  move-answer r via =
      ap (λ (k : ℕ). answer (unless k (re_route c r via))) both_is
      ∙ unless-answer ((15 if routes_full c r via) ∷ (12 if route_short c r via) ∷ (12 if runs_out c r via) ∷ []) _ _ (more (more (more none))) moved
    where
      moved : answer (re_route c r via) ≡ first_of (room_test room c (re_route c r via))
      moved = unfold re_route in taken-answer _ _

      both_is : (15 when routes_full c r via else 12 when route_short c r via else 12 when runs_out c r via else 0) ≡ first_of ((15 if routes_full c r via) ∷ (12 if route_short c r via) ∷ (12 if runs_out c r via) ∷ [])
      both_is = unfold first_of in refl

  route-answer : (r : List ℕ) (via : ℕ) → answer (on_route c r via) ≡ first_of ((1 if not_route via) ∷ (6 if not_root r) ∷ pick (eqb (route_of r c) via) [] ((15 if routes_full c r via) ∷ (12 if route_short c r via) ∷ (12 if runs_out c r via) ∷ room_test room c (re_route c r via)))
  unfolding on_route
  route-answer r via =
      ap (λ (k : ℕ). answer (unless k rest)) both_is
      ∙ unless-answer ((1 if not_route via) ∷ (6 if not_root r) ∷ []) _ _ (more (more none)) rest-answer
    where
      rest : Outcome
      rest = pick (eqb (route_of r c) via) (taken [] c) (unless (route_refusal c r via) (re_route c r via))

      both_is : (1 when not_route via else 6 when not_root r else 0) ≡ first_of ((1 if not_route via) ∷ (6 if not_root r) ∷ [])
      both_is = unfold first_of in refl

      rest-answer : answer rest ≡ first_of (pick (eqb (route_of r c) via) [] ((15 if routes_full c r via) ∷ (12 if route_short c r via) ∷ (12 if runs_out c r via) ∷ room_test room c (re_route c r via)))
      rest-answer =
          by-test (eqb (route_of r c) via)
          (λ e. rw e quiet)
          (λ e. rw e (move-answer r via))

  lost-answer : (n : ℕ) → answer (on_lost c n) ≡ first_of ((1 if no_neighbour n) ∷ room_test room c (part c n))
  unfolding on_lost
  lost-answer n = one 0 _ _ _ gone
    where
      gone : answer (part c n) ≡ first_of (room_test room c (part c n))
      gone = unfold part in taken-answer _ _

  -- The answer to an event is the number of the first of its tests that applies.
  pub answer-first : (e : Event) → (event room c e).answer ≡ first_of (event_tests e)
  unfolding event outcome event_tests
  answer-first (receive n s) = octets-answer n s
  answer-first (join e) = join-answer e
  answer-first (leave e) = leave-answer e
  answer-first (route r via) = route-answer r via
  answer-first (lost n) = lost-answer n

-- ---- the tests stand by rising number, 18 alone between 7 and 8, so the first that applies is the lowest but for it

-- the place of a number in that order
unfoldable pub rank : ℕ → ℕ
rank n = pick (eqb n 18) 15 (n + n)

-- (n is such a place)
unfoldable pub rises : ℕ → List Test → Bool
rises n [] = true
rises n (t ∷ ts) = ltb n (rank t.number) && rises (rank t.number) ts

module _ (room : ℕ) (c : Card) (n : ℕ) (s a : List ℕ) (l : ℕ) where
  pub mapping-rises : rises 0 ((1 if no_neighbour n) ∷ (message_tests s ++ mapping_tests room c n a l)) ≡ true
  unfolding rises rank message_tests mapping_tests tree_tests room_test
  mapping-rises = refl

  pub withdraw-rises : rises 0 ((1 if no_neighbour n) ∷ (message_tests s ++ withdraw_tests room c n a l)) ≡ true
  unfolding rises rank message_tests withdraw_tests tree_tests room_test
  withdraw-rises = refl

  pub release-rises : rises 0 ((1 if no_neighbour n) ∷ (message_tests s ++ release_tests room c n a l)) ≡ true
  unfolding rises rank message_tests release_tests room_test
  release-rises = refl

  pub join-rises : rises 0 (event_tests room c (join a)) ≡ true
  unfolding rises rank event_tests element_tests tree_tests room_test
  join-rises = refl

  pub leave-rises : rises 0 (event_tests room c (leave a)) ≡ true
  unfolding rises rank event_tests element_tests tree_tests room_test
  leave-rises = refl

  pub lost-rises : rises 0 (event_tests room c (lost n)) ≡ true
  unfolding rises rank event_tests room_test
  lost-rises = refl

-- ---- a refusal leaves all as it was

kept-pick : (b : Bool) (x y : Out) (c : Card) → (x.card ≡ c) × (x.octets ≡ []) → y.answer ≡ 0 → ((pick b x y).answer ≡ 0 → ⊥) → ((pick b x y).card ≡ c) × ((pick b x y).octets ≡ [])
kept-pick true x y c p q some = p
kept-pick false x y c p q some = absurd (some q)

pub refusal-keeps : (room : ℕ) (c : Card) (e : Event) → ((event room c e).answer ≡ 0 → ⊥) → ((event room c e).card ≡ c) × ((event room c e).octets ≡ [])
unfolding event
refusal-keeps room c e some = kept room c (outcome c e) some
  where
    kept : (room : ℕ) (c : Card) (o : Outcome) → ((finish room c o).answer ≡ 0 → ⊥) → ((finish room c o).card ≡ c) × ((finish room c o).octets ≡ [])
    kept room c (refused n) some = unfold finish refuse in (refl, refl)
    kept room c (taken ms d) some =
        unfold finish in kept-pick (room_short room (records c.next ms)) _ _ c (unfold refuse in (refl, refl)) (unfold accept in refl) (unfold finish in some)

-- what 6 leaves of a root has its space
pub root-fits : (r : List ℕ) → not_root r ≡ false → length r ≤ root_limit
unfolding not_root
root-fits r e =
    by-test (eqb (length r) 4)
    (λ k. omega (arith, eqb-true (length r) 4 k))
    (λ k. by-test (eqb (length r) root_limit)
    (λ l. omega (arith, eqb-true (length r) root_limit l))
    (λ l. no_way (rw (k, l) at e)))

-- what 16 leaves of an event's records has its room
pub finish-fits : (room : ℕ) (c : Card) (o : Outcome) → length (finish room c o).octets ≤ room
unfolding finish refuse accept room_short
finish-fits room c (refused n) = omega arith
finish-fits room c (taken ms d) =
    by-test (ltb room (length (records c.next ms)))
    (λ e. rw e (omega arith))
    (λ e. rw e (ltb-false room (length (records c.next ms)) e))
