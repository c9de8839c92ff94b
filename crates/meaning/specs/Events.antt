-- What each event answers, writes and leaves.
-- Assumes nothing.
use Rattle.std.specs.Prelude.{ℕ, zero, suc, ◌+◌, ◌-◌, ◌%◌, Bool, true, false, not, ◌&&◌, ◌||◌, List, [], ◌∷◌, ◌++◌, get_or, length, set, eqb, leb, ltb}
use Rattle.meaning.specs.Octets.{pick, place, same, put, cut, ◌when◌else◌}
use Rattle.meaning.specs.Wire.{root_in, element_refusal, Message, message_in, message_refusal, mapping, withdraw, release, Sent, records, ids_after, least_label}
use Rattle.meaning.specs.Card.{no_route, nobody, no_entry, Route, Tree, Use, free, mapped, awaiting, Card, fresh, with_next, with_routes, with_trees, with_labels, with_counts, with_branch, with_leaf, with_label, is_for, route_place, route_of, tree_place, tree_of, tree_at, stands, is_empty, is_lone, leads_on, is_awaiting, use_of, held_for, free_labels, tree_limit, route_limit, with_last, next_free, neighbour_count, most_base}

-- ---- what an event hands back

pub record Out : Type 0 where
  pub answer : ℕ
  pub octets : List ℕ
  pub card : Card

-- a refusal, or the messages to send and the table after them (but for its identifier counter)
pub data Outcome : Type 0 where
  refused : ℕ → Outcome
  taken : List Sent → Card → Outcome

-- the outcome, unless there is a refusal
unfoldable pub unless : ℕ → Outcome → Outcome
unless zero o = o
unless (suc n) o = refused (suc n)

unfoldable pub refuse : ℕ → Card → Out
refuse n c = record { answer = n; octets = []; card = c }

unfoldable pub accept : List ℕ → ℕ → Card → Out
accept written id c = record { answer = 0; octets = written; card = with_next id c }

-- 16: output shorter than the event's records
unfoldable pub room_short : ℕ → List ℕ → Bool
room_short room written = ltb room (length written)

-- 16 comes last; what is written takes the identifiers
unfoldable pub finish : ℕ → Card → Outcome → Out
finish room before (refused n) = refuse n before
finish room before (taken ms c) =
    let written = records before.next ms in
    pick (room_short room written) (refuse 16 before) (accept written (ids_after before.next ms) c)

-- ---- the label of one tree

-- The paper's sentences, with request [2]'s rule of who holds a label, are made of these:
-- "a new label and Mapping to it", "give it a label and send Mapping there": `give`; only "if the new route is a neighbour": `take_up`.
-- "Withdraw M to the old neighbour and M awaits release": `give_up`; only "if it held M": `let_go`.
-- A route order does the one and then the other to each tree of its root: `move_label`.
-- A Mapping, a Withdraw, a join and a leave do so only where the tree does not hold a label for whom it is to hold one: `relabel`.

-- messages sent, and the card after them
pub record Moved : Type 0 where
  pub sent : List Sent
  pub card : Card

unfoldable pub still : Card → Moved
still c = record { sent = []; card = c }

-- one after the other
unfoldable pub followed_by : Moved → (Card → Moved) → Moved
followed_by m f = let n = f m.card in record { sent = m.sent ++ n.sent; card = n.card }

-- kind k <a, l> to neighbour n
abbrev pub tell : ℕ → ℕ → List ℕ → ℕ → Sent
tell n k a l = record { to = n; message = record { kind = k; name = a; label = l } }

-- the label l is used so from now on
unfoldable pub set_use : ℕ → Use → Card → Card
set_use l u c = with_labels (set c.labels (l - c.base) u) c

-- the tree at place i carries the label l from now on
unfoldable pub set_label : ℕ → ℕ → Card → Card
set_label i l c = with_trees (set c.trees i (with_label l (tree_at i c))) c

-- a label that was mapped awaits release, from the same neighbour and for the same name
unfoldable pub ended : Use → Use
ended free = free
ended (mapped n a) = awaiting n a
ended (awaiting n a) = awaiting n a

-- the tree at place i gives up its label
unfoldable pub give_up : ℕ → Card → Moved
give_up i c =
    let t = tree_at i c in
    record { sent = tell (held_for c t) withdraw t.name t.label ∷ []; card = set_label i 0 (set_use t.label (ended (use_of t.label c)) c) }

-- the tree at place i is given the next free label, for neighbour u
unfoldable pub give : ℕ → ℕ → Card → Moved
give i u c =
    let a = (tree_at i c).name in
    let l = next_free c in
    record { sent = tell u mapping a l ∷ []; card = with_last l (set_label i l (set_use l (mapped u a) c)) }

-- the old label is given up, where the tree has one
unfoldable pub let_go : ℕ → Card → Moved
let_go i c = pick (eqb (tree_at i c).label 0) (still c) (give_up i c)

-- a new one is given, where u is a neighbour
unfoldable pub take_up : ℕ → ℕ → Card → Moved
take_up i u c = pick (eqb u nobody) (still c) (give i u c)

-- THE RULE OF LABELS: the tree at place i gives up its label, if it has one, and is given one for neighbour u, or none where u is nobody.
unfoldable pub move_label : ℕ → ℕ → Card → Moved
move_label i u c = followed_by (let_go i c) (take_up i u)

-- from now on it holds a label for u; where that is so already nothing happens
unfoldable pub relabel : ℕ → ℕ → Card → Moved
relabel i u c = pick (eqb (held_for c (tree_at i c)) u) (still c) (move_label i u c)

-- how many free labels a move takes
unfoldable pub need_move : ℕ → ℕ
need_move u = pick (eqb u nobody) 0 1

unfoldable pub need : Card → Tree → ℕ → ℕ
need c t u = pick (eqb (held_for c t) u) 0 (need_move u)

-- 12: fewer free labels than the event needs
unfoldable pub labels_short : Card → ℕ → Bool
labels_short c needed = ltb (free_labels c) needed

-- the upstream of the trees of a root with this route; nobody where it is no neighbour
unfoldable pub upstream : ℕ → ℕ
upstream via = pick (ltb via neighbour_count) via nobody

-- For whom a tree with upstream u is to hold a label: exactly while u is a neighbour and it has a leaf or a branch from another, for u; else for nobody.
unfoldable pub holder : ℕ → Tree → ℕ
holder u t = pick (leads_on u t) u nobody

-- ---- the counts of a root's trees

unfoldable pub of_root : List ℕ → Tree → Bool
of_root r t = same (root_in t.name) r

-- the sum of a number that each tree has
unfoldable pub total : (Tree → ℕ) → List Tree → ℕ
total f [] = 0
total f (t ∷ ts) = f t + total f ts

-- of the trees of root r only
unfoldable pub in_root : List ℕ → (Tree → ℕ) → Tree → ℕ
in_root r f t = pick (of_root r t) (f t) 0

-- what one tree counts: 1 where it stands (an empty one doesn't), and 1 where it is lone
unfoldable pub one_standing : Tree → ℕ
one_standing t = pick (is_empty t) 0 1

unfoldable pub one_lone : Tree → ℕ
one_lone t = pick (is_lone t) 1 0

-- the entry with its counts worked out
unfoldable pub worked_out : List Tree → Route → Route
worked_out ts x = with_counts (total (in_root x.root one_standing) ts) (total (in_root x.root one_lone) ts) x

-- the root's entry; for a new one the counts are worked out
unfoldable pub entry_of : List ℕ → Card → Route
entry_of r c = get_or c.routes (route_place r c) (worked_out c.trees (no_entry r))

-- A count is an octet and goes round, so that any number has a meaning; a true one is at most 64.
abbrev pub count_range : ℕ
count_range = 256

-- the count n, where a tree counted `before` and is to count `after`
unfoldable pub changed : ℕ → ℕ → ℕ → ℕ
changed n before after = pick (eqb before after) n ((n + after + (count_range - before)) % count_range)

-- an entry that counted the tree t, and counts s in its place
unfoldable pub recounted_for : Tree → Tree → Route → Route
recounted_for t s x = with_counts (changed x.standing (one_standing t) (one_standing s)) (changed x.lone (one_lone t) (one_lone s)) x

-- the entry of the tree's root, where there is one, counts s in the place of t
unfoldable pub recount : Tree → Tree → List Route → List Route
recount t s rs =
    let r = root_in s.name in
    let i = place (is_for r) rs in
    set rs i (recounted_for t s (get_or rs i (no_entry r)))

unfoldable pub recounted : Tree → Tree → Card → Card
recounted t s c = with_routes (recount t s c.routes) c

-- ---- an event of one tree

-- for whom the tree is to hold a label by the route in force, which need not be for whom it holds one (`held_for`)
unfoldable pub holder_of : Card → Tree → ℕ
holder_of c t = holder (upstream (route_of (root_in t.name) c)) t

-- t in place of the tree of its name, or after the others
unfoldable pub entered : Card → Tree → Card
entered c t = with_trees (put c.trees (tree_place t.name c) t) c

-- an empty tree doesn't stand
unfoldable pub swept : ℕ → Card → Card
swept i c = pick (is_empty (tree_at i c)) (with_trees (cut c.trees i) c) c

-- 11: a new tree while 64 stand
unfoldable pub trees_full : Card → Tree → Bool
trees_full c t = not (is_empty t) && not (stands t.name c) && leb tree_limit (length c.trees)

unfoldable pub tree_refusal : Card → Tree → ℕ
tree_refusal c t = 11 when trees_full c t else 12 when labels_short c (need c t (holder_of c t)) else 0

-- The tree of t's name is t from now on, with the label that its state asks for, and is counted so. The messages `first` go before.
unfoldable pub enter : Card → List Sent → Tree → Outcome
enter c first t =
    let i = tree_place t.name c in
    let m = relabel i (holder_of c t) (entered c t) in
    taken (first ++ m.sent) (recounted (tree_of t.name c) t (swept i m.card))

unfoldable pub become : Card → List Sent → Tree → Outcome
become c first t = unless (tree_refusal c t) (enter c first t)

-- ---- messages

unfoldable pub branch : Tree → ℕ → ℕ
branch t n = get_or t.branches n 0

-- 10: that branch stands with another label
unfoldable pub other_label : Tree → ℕ → ℕ → Bool
other_label t n l = not (eqb (branch t n) 0 || eqb (branch t n) l)

-- Mapping <a, l> from n. The branch that stands already is set to what it is.
unfoldable pub on_mapping : Card → ℕ → List ℕ → ℕ → Outcome
on_mapping c n a l =
    let t = tree_of a c in
    unless (10 when other_label t n l else 0) (become c [] (with_branch n l t))

-- what a Withdraw of l from n leaves of a tree: a branch with another label, or none, stays as it is
unfoldable pub less_branch : ℕ → ℕ → Tree → Tree
less_branch n l t = pick (eqb (branch t n) l) (with_branch n 0 t) t

-- Withdraw <a, l> from n. The Release is sent in any case.
-- A tree that doesn't stand needs no case of its own: it is a bare one (`tree_of`), which the Withdraw leaves bare; `enter` puts it after the others, gives it no label, and sweeps it away again.
unfoldable pub on_withdraw : Card → ℕ → List ℕ → ℕ → Outcome
on_withdraw c n a l = become c (tell n release a l ∷ []) (less_branch n l (tree_of a c))

-- 13: that label awaits no release from this neighbour for this name
unfoldable pub not_awaited : Card → ℕ → List ℕ → ℕ → Bool
not_awaited c n a l = not (is_awaiting n a (use_of l c))

-- Release <a, l> from n
unfoldable pub on_release : Card → ℕ → List ℕ → ℕ → Outcome
on_release c n a l = unless (13 when not_awaited c n a l else 0) (taken [] (set_use l free c))

unfoldable pub on_message : Card → ℕ → Message → Outcome
on_message c n m =
    pick (eqb m.kind mapping) (on_mapping c n m.name m.label)
    (pick (eqb m.kind withdraw) (on_withdraw c n m.name m.label)
    (pick (eqb m.kind release) (on_release c n m.name m.label)
    (refused 3)))

-- 1: neighbour above 15
unfoldable pub no_neighbour : ℕ → Bool
no_neighbour n = ltb 15 n

-- octets from neighbour n
unfoldable pub on_octets : Card → ℕ → List ℕ → Outcome
on_octets c n s = unless (1 when no_neighbour n else 0) (unless (message_refusal s) (on_message c n (message_in s)))

-- ---- local leaf orders, on the octets of one element

unfoldable pub on_join : Card → List ℕ → Outcome
on_join c e = unless (element_refusal e) (become c [] (with_leaf true (tree_of e c)))

-- 14: leave, and not a leaf
unfoldable pub not_leaf : Tree → Bool
not_leaf t = not t.leaf

unfoldable pub on_leave : Card → List ℕ → Outcome
on_leave c e =
    let t = tree_of e c in
    let s = with_leaf false t in
    unless (element_refusal e) (unless (tree_refusal c s) (unless (14 when not_leaf t else 0) (enter c [] s)))

-- ---- the route order: for a root's octets, the route's number

-- the tree at place i, if it is of root r: its label was held for the old route, which is another
unfoldable pub move_one : List ℕ → ℕ → ℕ → Card → Moved
move_one r u i c = pick (of_root r (tree_at i c)) (move_label i (holder u (tree_at i c)) c) (still c)

-- the n trees from place i on, one after the other
unfoldable pub move_from : List ℕ → ℕ → ℕ → ℕ → Card → Moved
move_from r u zero i c = still c
move_from r u (suc n) i c = followed_by (move_one r u i c) (move_from r u n (suc i))

-- oldest first
unfoldable pub move_all : List ℕ → ℕ → Card → Moved
move_all r u c = move_from r u (length c.trees) 0 c

-- how many free labels that takes
unfoldable pub need_one : List ℕ → ℕ → Tree → ℕ
need_one r u t = pick (of_root r t) (need_move (holder u t)) 0

-- the sum of a number that each tree has, over the n trees from place i on
unfoldable pub sum_from : (Tree → ℕ) → ℕ → ℕ → Card → ℕ
sum_from f zero i c = 0
sum_from f (suc n) i c = f (tree_at i c) + sum_from f n (suc i) c

unfoldable pub need_all : List ℕ → ℕ → Card → ℕ
need_all r u c = sum_from (need_one r u) (length c.trees) 0 c

-- the entry of root r with the route via: the counts of one that stands stay
unfoldable pub entry_with : Card → List ℕ → ℕ → Route
entry_with c r via = record { root = r; via = via; standing = (entry_of r c).standing; lone = (entry_of r c).lone }

unfoldable pub routes_with : Card → List ℕ → ℕ → List Route
routes_with c r via = pick (eqb via no_route) (cut c.routes (route_place r c)) (put c.routes (route_place r c) (entry_with c r via))

-- 1: the route is not 0 to 15, 16 or 17
unfoldable pub not_route : ℕ → Bool
not_route via = ltb no_route via

-- 6: a root not of 4 or 16 octets
unfoldable pub not_root : List ℕ → Bool
not_root r = not (eqb (length r) 4 || eqb (length r) 16)

-- 15: a new root's route other than "no route" while 32 stand
unfoldable pub routes_full : Card → List ℕ → ℕ → Bool
routes_full c r via = eqb (route_of r c) no_route && not (eqb via no_route) && leb route_limit (length c.routes)

-- where no more trees of the root stand than labels are free, they suffice
unfoldable pub quick_yes : Card → List ℕ → Bool
quick_yes c r = leb (entry_of r c).standing (free_labels c)

-- where those of them that are not lone are more than the free labels, and the new route is a neighbour, they don't: each of these leads on whatever neighbour is the upstream
unfoldable pub quick_no : Card → List ℕ → ℕ → Bool
quick_no c r via = ltb via neighbour_count && ltb (free_labels c + (entry_of r c).lone) (entry_of r c).standing

-- 12 in a route order: only between the two are the trees walked
unfoldable pub route_short : Card → List ℕ → ℕ → Bool
route_short c r via =
    let walked = labels_short c (need_all r (upstream via) c) in
    pick (quick_yes c r) false (pick (quick_no c r via) true walked)

-- 12 where the counts are false, as no history makes them: no order begins that would run out of labels, whatever the table holds. The walk that adds up the records for 16 sees it.
unfoldable pub runs_out : Card → List ℕ → ℕ → Bool
runs_out c r via = labels_short c (need_all r (upstream via) c)

unfoldable pub route_refusal : Card → List ℕ → ℕ → ℕ
route_refusal c r via = 15 when routes_full c r via else 12 when route_short c r via else 12 when runs_out c r via else 0

unfoldable pub re_route : Card → List ℕ → ℕ → Outcome
re_route c r via =
    let m = move_all r (upstream via) c in
    taken m.sent (with_routes (routes_with c r via) m.card)

unfoldable pub on_route : Card → List ℕ → ℕ → Outcome
on_route c r via =
    unless (1 when not_route via else 6 when not_root r else 0)
    (pick (eqb (route_of r c) via) (taken [] c)
    (unless (route_refusal c r via) (re_route c r via)))

-- ---- a neighbour's session is lost

-- a label that n holds, mapped to it or awaiting its release, is free at once
unfoldable pub is_of : ℕ → Use → Bool
is_of n free = false
is_of n (mapped k a) = eqb k n
is_of n (awaiting k a) = eqb k n

unfoldable pub freed_of : ℕ → Use → Use
freed_of n u = pick (is_of n u) free u

unfoldable pub uses_without : ℕ → List Use → List Use
uses_without n [] = []
uses_without n (u ∷ us) = freed_of n u ∷ uses_without n us

-- a tree loses n's branch, and its label where it held that for n
unfoldable pub tree_without : ℕ → Card → Tree → Tree
tree_without n c t = with_label (pick (eqb (held_for c t) n) 0 t.label) (with_branch n 0 t)

unfoldable pub trees_without : ℕ → Card → List Tree → List Tree
trees_without n c [] = []
trees_without n c (t ∷ ts) = tree_without n c t ∷ trees_without n c ts

-- each tree is counted without n's branch, oldest first
unfoldable pub recounted_without : ℕ → List Tree → List Route → List Route
recounted_without n [] rs = rs
recounted_without n (t ∷ ts) rs = recounted_without n ts (recount t (with_branch n 0 t) rs)

-- a route through n becomes "no route": its entry goes
unfoldable pub routes_without : ℕ → List Route → List Route
routes_without n [] = []
routes_without n (r ∷ rs) = let later = routes_without n rs in pick (eqb r.via n) later (r ∷ later)

-- the table without all that is n's; nothing is sent for it
unfoldable pub parted : ℕ → Card → Card
parted n c = with_routes (routes_without n (recounted_without n c.trees c.routes)) (with_trees (trees_without n c c.trees) (with_labels (uses_without n c.labels) c))

-- the tree at place i gives up its label where it leads nowhere any more: no leaf is left, and no branch but that of the neighbour that the label is mapped to
unfoldable pub shed : ℕ → Card → Moved
shed i c = let t = tree_at i c in pick (leads_on (held_for c t) t) (still c) (let_go i c)

-- the n trees from place i on, one after the other
unfoldable pub shed_from : ℕ → ℕ → Card → Moved
shed_from zero i c = still c
shed_from (suc n) i c = followed_by (shed i c) (shed_from n (suc i))

-- of the first n trees those that are empty go, the newest first
unfoldable pub swept_below : ℕ → Card → Card
swept_below zero c = c
swept_below (suc n) c = swept_below n (swept n c)

-- The Withdraws go out oldest tree first. Nothing is sent to the lost neighbour, since no label is mapped to it any more.
unfoldable pub part : Card → ℕ → Outcome
part c n =
    let m = shed_from (length c.trees) 0 (parted n c) in
    taken m.sent (swept_below (length c.trees) m.card)

unfoldable pub on_lost : Card → ℕ → Outcome
on_lost c n = unless (1 when no_neighbour n else 0) (part c n)

-- ---- the calls, each with the room that the output has

pub data Event : Type 0 where
  receive : ℕ → List ℕ → Event
  join : List ℕ → Event
  leave : List ℕ → Event
  route : List ℕ → ℕ → Event
  lost : ℕ → Event

unfoldable pub outcome : Card → Event → Outcome
outcome c (receive n s) = on_octets c n s
outcome c (join e) = on_join c e
outcome c (leave e) = on_leave c e
outcome c (route r via) = on_route c r via
outcome c (lost n) = on_lost c n

unfoldable pub event : ℕ → Card → Event → Out
event room c e = finish room c (outcome c e)

-- 17: base outside its range
unfoldable pub base_outside : ℕ → Bool
base_outside base = not (leb least_label base && leb base most_base)

-- the start: a refused one hands back a fresh card of base 16
unfoldable pub start : ℕ → Out
start base = pick (base_outside base) (refuse 17 (fresh least_label)) (accept [] 1 (fresh base))
