-- The sizes of document 01, after any history: trees, routes, labels, and the octets that are written.
-- Assumes nothing.
use Rattle.std.specs.Prelude.{ℕ, zero, suc, ◌*◌, ◌≤◌, ◌<◌, ◌≡◌, refl, List, [], ◌∷◌, length, eqb}
use Rattle.std.proofs.Common.{zero-le, length-append}
use native.Mathlib.Omega.{arith}
use Rattle.std.proofs.Math.Bool.{false}
use Rattle.std.proofs.Math.Dec.{ltb}
use borrow.Author.Tests.{ltb-true}
use Rattle.meaning.specs.Octets.{two}
use Rattle.meaning.specs.Wire.{Sent, record_of, next_id, records, record_limit}
use Rattle.meaning.specs.Card.{Card, nobody, tree_limit, tree_at, route_of, sent_limit, leads_on, held_for, neighbour_count}
use Rattle.meaning.specs.Events.{Outcome, refused, taken, unless, refuse, accept, room_short, finish, Moved, still, followed_by, give_up, give, let_go, take_up, move_label, upstream, holder, of_root, move_one, move_from, move_all, re_route, on_route, parted, shed, shed_from, part, on_lost, no_neighbour, Event, route, lost, outcome, event}
use Rattle.meaning.specs.Lists.{by-test, picked}
use Rattle.meaning_laws.specs.RoundTrip.{AllSendable, Sendable, message-length, name-fits}
use Rattle.promise.specs.Promise.{Given, note_taken, Step, history}
use Rattle.promise.specs.LabelLaws.{Sound}
use Rattle.promise.specs.RuleLaws.{Ruled}
use Rattle.promise.specs.EventLaws.{became, Apart, Keeps}
use Rattle.promise.proofs.EventLaws.{event-keeps}
use Rattle.promise.proofs.LossLaws.{loss-kept}
use Rattle.promise.proofs.LossKept.{lost-taken}
use Rattle.promise.proofs.PromiseProof.{history-upheld, sends-said}
use Rattle.promise.specs.Sizes.{AllShort, Sized, AtMost}

-- the numbers that the limits below come to
pub limits : (record_limit ≡ 174) × (sent_limit ≡ 22272)
limits = (refl, refl)

-- ---- a record

record-short : (id : ℕ) (m : Sent) → Sendable m → length (record_of id m) ≤ record_limit
unfolding record_of two
record-short id m g = omega (arith, message-length id m.message g.says, name-fits m.message.name g.says.name)

all_short : (ms : List Sent) → AllSendable ms → AllShort ms
unfolding AllSendable AllShort
all_short [] p = tt
all_short (m ∷ ms) p = ((λ id. record-short id m p.0), all_short ms p.1)

pub records-short : (id : ℕ) (ms : List Sent) → AllSendable ms → length (records id ms) ≤ length ms * record_limit
unfolding records AllSendable
records-short id [] p = zero-le
records-short id (m ∷ ms) p = omega (arith, length-append (record_of id m) (records (next_id id) ms), record-short id m p.0, records-short (next_id id) ms p.1)

-- ---- the messages of a route order

pub let-go-one : (i : ℕ) (c : Card) → length (let_go i c).sent ≤ 1
unfolding let_go still give_up
let-go-one i c = picked (λ (m : Moved). length m.sent ≤ 1) (eqb (tree_at i c).label 0) (λ _. omega arith) (λ _. omega arith)

pub take-up-one : (i u : ℕ) (c : Card) → length (take_up i u c).sent ≤ 1
unfolding take_up still give
take-up-one i u c = picked (λ (m : Moved). length m.sent ≤ 1) (eqb u nobody) (λ _. omega arith) (λ _. omega arith)

one-two : (r : List ℕ) (u i : ℕ) (c : Card) → length (move_one r u i c).sent ≤ 2
unfolding move_one move_label followed_by still
one-two r u i c =
    picked (λ (m : Moved). length m.sent ≤ 2) (of_root r (tree_at i c))
    (λ _. omega (arith, length-append (let_go i c).sent (take_up i (holder u (tree_at i c)) (let_go i c).card).sent, let-go-one i c, take-up-one i (holder u (tree_at i c)) (let_go i c).card))
    (λ _. omega arith)

from-two : (r : List ℕ) (u n i : ℕ) (c : Card) → length (move_from r u n i c).sent ≤ n * 2
unfolding move_from followed_by still
from-two r u zero i c = zero-le
from-two r u (suc n) i c =
    omega (arith, length-append (move_one r u i c).sent (move_from r u n (suc i) (move_one r u i c).card).sent, one-two r u i c, from-two r u n (suc i) (move_one r u i c).card)

-- ---- the messages of a loss

shed-one : (i : ℕ) (c : Card) → length (shed i c).sent ≤ 1
unfolding shed still
shed-one i c = picked (λ (m : Moved). length m.sent ≤ 1) (leads_on (held_for c (tree_at i c)) (tree_at i c)) (λ _. omega arith) (λ _. let-go-one i c)

shed-most : (n i : ℕ) (c : Card) → length (shed_from n i c).sent ≤ n
unfolding shed_from followed_by still
shed-most zero i c = zero-le
shed-most (suc n) i c = omega (arith, length-append (shed i c).sent (shed_from n (suc i) (shed i c).card).sent, shed-one i c, shed-most n (suc i) (shed i c).card)

pub unless-most : (k n : ℕ) (o : Outcome) → AtMost k o → AtMost k (unless n o)
unfolding unless AtMost
unless-most k zero o h = h
unless-most k (suc n) o h = tt

route-most : (c : Card) (r : List ℕ) (via : ℕ) → AtMost (length c.trees * 2) (on_route c r via)
unfolding on_route re_route move_all
route-most c r via =
    unless-most _ _ _ (picked (AtMost (length c.trees * 2)) (eqb (route_of r c) via)
    (λ _. unfold AtMost in zero-le)
    (λ _. unless-most _ _ _ (unfold AtMost in from-two r (upstream via) (length c.trees) 0 c)))

lost-most : (c : Card) (n : ℕ) → AtMost (length c.trees) (on_lost c n)
unfolding on_lost part
lost-most c n = unless-most _ _ _ (unfold AtMost in shed-most (length c.trees) 0 (parted n c))

most-octets : (c : Card) (gs : List Given) (e : Event) (room k : ℕ) (o : Outcome) → AtMost k o → Keeps c (note_taken e gs) (became e) (Apart e c) o → length (finish room c o).octets ≤ k * record_limit
unfolding finish refuse accept AtMost Keeps
most-octets c gs e room k (refused n) h g = zero-le
most-octets c gs e room k (taken ms after) h g =
    by-test (room_short room (records c.next ms))
    (λ t. rw t zero-le)
    (λ t. rw t (omega (arith, records-short c.next ms g.said)))

-- A loss of a neighbour is taken wherever there is room for a record for each tree.
part_room : (c : Card) (gs : List Given) → Sound c gs → Ruled c → (room n : ℕ) → tree_limit * record_limit ≤ room → (finish room c (part c n)).answer ≡ 0
unfolding part finish refuse accept
part_room c gs S R room n h =
    let m = shed_from (length c.trees) 0 (parted n c) in
    let one = records-short c.next m.sent (loss-kept n c gs S).said in
    let few = shed-most (length c.trees) 0 (parted n c) in
    let trees = R.trees in
    by-test (room_short room (records c.next m.sent))
    (λ t. absurd (let short = ltb-true room (length (records c.next m.sent)) (unfold room_short in t) in omega arith))
    (λ t. rw t refl)

pub loss-taken : (c : Card) (gs : List Given) → Sound c gs → Ruled c → (room n : ℕ) → n < neighbour_count → tree_limit * record_limit ≤ room → (event room c (lost n)).answer ≡ 0
unfolding event no_neighbour
loss-taken c gs S R room n near h = rw (lost-taken c n (unfold no_neighbour in le-ltb n near)) (part_room c gs S R room n h)
  where
    le-ltb : (n : ℕ) → n < neighbour_count → ltb 15 n ≡ false
    le-ltb n k = by-test (ltb 15 n) (λ e. absurd (let z = ltb-true 15 n e in omega arith)) (λ e. e)

-- the octets of one route order, of any table that is sound and keeps the rules
pub order-short : (c : Card) (gs : List Given) → Sound c gs → Ruled c → (room : ℕ) (r : List ℕ) (via : ℕ) → length (event room c (route r via)).octets ≤ sent_limit
unfolding event outcome
order-short c gs S R room r via =
    let most = most-octets c gs (route r via) room (length c.trees * 2) (on_route c r via) (route-most c r via) (unfold outcome in event-keeps c gs S (route r via)) in
    let few = R.trees in
    omega arith

-- After any history.
pub sizes-kept : (base : ℕ) (steps : List Step) → Sized (history base steps).card
sizes-kept base steps =
    let p = history base steps in
    let u = history-upheld base steps in
    record {
      trees = u.ruled.trees;
      routes = u.ruled.routes;
      labels = u.sound.many;
      short = λ s. all_short _ (sends-said p s u);
      order = λ room r via. order-short p.card p.live u.sound u.ruled room r via;
      loss = λ room n. parting p.card p.live u.sound u.ruled room n;
    }
  where
    parting : (c : Card) (gs : List Given) → Sound c gs → Ruled c → (room n : ℕ) → length (event room c (lost n)).octets ≤ tree_limit * record_limit
    parting c gs S R room n =
        unfold event outcome in
        let most = most-octets c gs (lost n) room (length c.trees) (on_lost c n) (lost-most c n) (unfold outcome in event-keeps c gs S (lost n)) in
        let few = R.trees in
        omega arith
