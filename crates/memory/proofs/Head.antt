-- The head of the memory, a text that is handed out, and what a change of one number leaves as it was. Assumes nothing.
use Prim.Native.Nat.{ℕ, ◌+◌, ◌%◌, ◌≤◌, ◌<◌}
use native.Mathlib.Nat.{mod-eq_of_lt}
use native.Mathlib.Omega.{arith}
use mathlib.Core.Path.{◌≡◌, refl}
use mathlib.Core.List.{List}
use lib.ListN.{length, take, drop, get_or, set}
use lib.Seq.{get_or-set_same}
use lib.Dec.{leb, ltb}
use borrow.Author.Tests.{le-leb, lt-leb, lt-ltb, ltb-true, ltb-false, leb-false}
use Rattle.meaning.specs.Octets.{pick}
use Rattle.meaning.specs.Lists.{by-test}
use Rattle.meaning.specs.Card.{with_next, tree_limit, route_limit, label_count, turn, with_last, neighbour_count, most_base}
use Rattle.meaning.specs.Events.{base_outside}
use Rattle.meaning.specs.Wire.{least_label}
use Rattle.octets.specs.Part.{tab}
use Rattle.memory.specs.Sizes.{route_column, own_column, row_column, row_numbers, mark_column, label_numbers, tree_octets, label_octets, root_octets, label_names, root_names, Numbers, turn_place}
use Rattle.memory.specs.Memory.{up_to, text_at, base_in, next_in, route_count, tree_count, route_in, label_in, tree_in, card_of, label_before, turn_in, last_in}
use Rattle.memory.proofs.Memory.{text-part, text-le, base_same, next-same, routes-same, trees-same, labels-same, agree_refl, agree-set, base-range, last-same}

-- ---- the head

pub base-under : (ns : List ℕ) → get_or ns 0 0 < neighbour_count → 16 ≡ base_in ns
unfolding base_in base_outside
base-under ns h = rw (lt-leb least_label (get_or ns 0 0) h) refl

pub base_above : (ns : List ℕ) → least_label ≤ get_or ns 0 0 → most_base < get_or ns 0 0 → 16 ≡ base_in ns
unfolding base_in base_outside
base_above ns h k = rw (le-leb least_label (get_or ns 0 0) h, lt-leb (get_or ns 0 0) most_base k) refl

pub base-in : (ns : List ℕ) → least_label ≤ get_or ns 0 0 → get_or ns 0 0 ≤ most_base → get_or ns 0 0 ≡ base_in ns
unfolding base_in base_outside
base-in ns h k = rw (le-leb least_label (get_or ns 0 0) h, le-leb (get_or ns 0 0) most_base k) refl

-- ---- a text, as a part that is handed out

pub text-lent : (k p n : ℕ) (os : List ℕ) → n ≡ up_to k (get_or os p 0) → p + 1 + n ≤ length os → (take n (drop (p + 1) os) ≡ text_at k os p) × (length (take n (drop (p + 1) os)) ≤ k)
text-lent k p n os e h = let t = text-part k p n os e h in (t, rw t (text-le k p os))

-- ---- one number anew: the parts of the card that it is not in

module _ (ns os : List ℕ) (k v : ℕ) where
  pub base-away : 1 ≤ k → base_in (set ns k v) ≡ base_in ns
  base-away h = base_same ns (set ns k v) os os (agree-set 0 1 ns k v (λ a b. omega arith))

  pub next-away : 2 ≤ k → next_in (set ns k v) ≡ next_in ns
  next-away h = next-same ns (set ns k v) os os (agree-set 1 1 ns k v (λ a b. omega arith))

  pub last-away : 1 ≤ k → (k ≡ turn_place → ⊥) → last_in (set ns k v) ≡ last_in ns
  last-away h ne = last-same ns (set ns k v) os os (agree-set 0 1 ns k v (λ a b. omega arith)) (agree-set turn_place 1 ns k v (λ a b. ne (omega arith)))

  pub routes-away : (2 ≤ k → k < own_column → ⊥) → tab (route_count (set ns k v)) (route_in (set ns k v) os) ≡ tab (route_count ns) (route_in ns os)
  routes-away h =
      routes-same ns (set ns k v) os os
      (agree-set 2 1 ns k v (λ a b. h (omega arith) (omega arith)))
      (agree-set route_column route_limit ns k v (λ a b. h (omega arith) (omega arith)))
      (agree_refl root_names root_octets os)

  pub trees-away : 1 ≤ k → (k ≡ 3 → ⊥) → k < own_column → tab (tree_count (set ns k v)) (tree_in (set ns k v) os) ≡ tab (tree_count ns) (tree_in ns os)
  trees-away g ne h =
      trees-same ns (set ns k v) os os
      (agree-set 0 1 ns k v (λ a b. omega arith))
      (agree-set 3 1 ns k v (λ a b. ne (omega arith)))
      (agree-set own_column tree_limit ns k v (λ a b. omega arith))
      (agree-set row_column row_numbers ns k v (λ a b. omega arith))
      (agree-set mark_column label_numbers ns k v (λ a b. omega arith))
      (agree_refl 0 tree_octets os)

  pub labels-away : k < mark_column → tab label_count (label_in (set ns k v) os) ≡ tab label_count (label_in ns os)
  labels-away h = labels-same ns (set ns k v) os os (agree-set mark_column label_numbers ns k v (λ a b. omega arith)) (agree_refl label_names label_octets os)

pub set_next : (ns os : List ℕ) (id : ℕ) → Numbers ns → id < 4294967296 → card_of (set ns 1 id) os ≡ with_next id (card_of ns os)
unfolding card_of with_next next_in
set_next ns os id l h =
    let n : get_or (set ns 1 id) 1 0 % 4294967296 ≡ id = rw (get_or-set_same ns 1 id 0 (omega arith)) (mod-eq_of_lt h) in
    cc (base-away ns os 1 id (omega arith), last-away ns os 1 id (omega arith) (λ e. omega arith), routes-away ns os 1 id (λ a b. omega arith), trees-away ns os 1 id (omega arith) (λ e. omega arith) (omega arith), labels-away ns os 1 id (omega arith))

-- ---- the last label given

-- where the search for a free label begins
pub turn_at : (ns os : List ℕ) → turn (card_of ns os) ≡ pick (leb (turn_in ns) label_count) (turn_in ns) 0
unfolding card_of turn last_in label_before
turn_at ns os =
    let b = base-range ns in
    by-test (leb (turn_in ns) label_count)
    (λ e. by-test (ltb 0 (turn_in ns))
    (λ k. let some = ltb-true 0 (turn_in ns) k in rw (e, k) (omega arith))
    (λ k. let none = ltb-false 0 (turn_in ns) k in rw (e, k) (omega arith)))
    (λ e. let more = leb-false (turn_in ns) label_count e in rw (e, lt-ltb 0 (turn_in ns) (omega arith)) (omega arith))

pub turn-none : (ns os : List ℕ) → label_count < turn_in ns → 0 ≡ turn (card_of ns os)
turn-none ns os h = rw (turn_at ns os, lt-leb (turn_in ns) label_count h) refl

pub turn-some : (ns os : List ℕ) → turn_in ns ≤ label_count → turn_in ns ≡ turn (card_of ns os)
turn-some ns os h = rw (turn_at ns os, le-leb (turn_in ns) label_count h) refl

pub label-before : (b p : ℕ) → p < label_count → label_before b (p + 1) ≡ b + p
unfolding label_before
label-before b p h = rw (lt-ltb 0 (p + 1) (omega arith), le-leb (p + 1) label_count (omega arith)) (omega arith)

pub set-turn : (ns os : List ℕ) (v : ℕ) → Numbers ns → card_of (set ns turn_place v) os ≡ with_last (label_before (base_in ns) v) (card_of ns os)
unfolding card_of with_last last_in
set-turn ns os v l =
    let ms : List ℕ = set ns turn_place v in
    let b : base_in ms ≡ base_in ns = base-away ns os turn_place v (omega arith) in
    let t : turn_in ms ≡ v = get_or-set_same ns turn_place v 0 (omega arith) in
    let r : tab (route_count ms) (route_in ms os) ≡ tab (route_count ns) (route_in ns os) =
    routes-same ns ms os os (agree-set 2 1 ns turn_place v (λ a b. omega arith)) (agree-set route_column route_limit ns turn_place v (λ a b. omega arith)) (agree_refl root_names root_octets os) in
    cc (next-away ns os turn_place v (omega arith), trees-away ns os turn_place v (omega arith) (λ e. omega arith) (omega arith), labels-away ns os turn_place v (omega arith))
