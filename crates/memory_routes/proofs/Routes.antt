-- The routes in the memory: what their numbers say, and the card after a route has come, changed or gone. Assumes nothing.
use Prim.Native.Nat.{ℕ, suc, ◌+◌, ◌*◌, ◌-◌, ◌/◌, ◌%◌, ◌≤◌, ◌<◌, suc-le-suc}
use native.Mathlib.Nat.{add-zero}
use native.Mathlib.Omega.{arith}
use mathlib.Core.Path.{◌≡◌, refl, sym, ap, ◌∙◌}
use mathlib.Core.Bool.{Bool, true, false}
use mathlib.Core.List.{List, [], ◌∷◌, ◌++◌}
use lib.ListN.{length, get_or, set, length-set, drop}
use lib.Seq.{get_or-set_same, get_or-set_other}
use Rattle.meaning.specs.Octets.{place, put, cut, same}
use Rattle.meaning.specs.Wire.{root_limit}
use Rattle.meaning.specs.Lists.{picked, place-finds, same-eq, get_d-out}
use Rattle.meaning.specs.Card.{Route, Card, no_entry, with_routes, is_for, route_place, tree_limit, route_limit, route_of, no_route}
use Rattle.octets.specs.Part.{tab}
use Rattle.octets.proofs.Tab.{tab-length, tab-get, tab-set, tab-snoc, tab-cut, put_in, put-end}
use Rattle.memory.specs.Sizes.{root_space, route_column, own_column, row_numbers, label_numbers, root_names, Numbers}
use Rattle.memory.specs.Parts.{Written, Closed}
use Rattle.memory.specs.Memory.{up_to, text_at, in_column, root_name, route_count, route_number, entry_in, route_in, card_of}
use Rattle.memory.proofs.Memory.{up_to-le, up_to-in, route-same, but-routes, agree_refl, agree-set}
use Rattle.memory.proofs.Columns.{place_found}
use Rattle.memory.proofs.Parts.{Carries, lower, text-carried, text-put}

-- ---- what is asked of them

pub routes-start : (r ns os : List ℕ) (n : ℕ) → n ≡ route_count ns → route_place r (card_of ns os) ≡ 0 + place (is_for r) (drop 0 (tab n (route_in ns os)))
unfolding route_place card_of
routes-start r ns os n e = rw e (omega arith)

pub rooted-at : (r ns os : List ℕ) (i : ℕ) (a : List ℕ) → a ≡ root_name os i → is_for r (route_in ns os i) ≡ same a r
unfolding is_for route_in entry_in
rooted-at r ns os i a e = rw e refl

pub root-found : (q ns os : List ℕ) (n r : ℕ) → n ≡ route_count ns → r ≤ n → ((j : ℕ) → j < r → same (in_column root_limit root_names os j) q ≡ false) → (r < n → same (in_column root_limit root_names os r) q ≡ true)
    → r ≡ route_place q (card_of ns os)
unfolding in_column
root-found q ns os n r e most low here =
    sym (routes-start q ns os n e ∙ place_found (is_for q) n (route_in ns os) r most (λ j h. rooted-at q ns os j _ (its-root j) ∙ low j h) (λ h. rooted-at q ns os r _ (its-root r) ∙ here h))
  where
    its-root : (j : ℕ) → text_at root_limit os (root_names + j * (root_limit + 1)) ≡ root_name os j
    its-root j = unfold root_name in refl

route-at : (r ns os : List ℕ) (i : ℕ) → i ≡ route_place r (card_of ns os) → route_of r (card_of ns os) ≡ (get_or (tab (route_count ns) (route_in ns os)) i (no_entry r)).via
unfolding route_of card_of
route-at r ns os i e = ap (λ (k : ℕ). (get_or (tab (route_count ns) (route_in ns os)) k (no_entry r)).via) (sym e)

pub route-some : (r ns os : List ℕ) (i n : ℕ) → i ≡ route_place r (card_of ns os) → n ≡ route_count ns → i < n → route_number ns i % 256 ≡ route_of r (card_of ns os)
unfolding route_in entry_in
route-some r ns os i n e k h = sym (route-at r ns os i e ∙ ap (λ (x : Route). x.via) (tab-get (route_count ns) (route_in ns os) i _ (omega arith)))

pub route-none : (r ns os : List ℕ) (i n : ℕ) → i ≡ route_place r (card_of ns os) → n ≡ route_count ns → n ≤ i → no_route ≡ route_of r (card_of ns os)
route-none r ns os i n e k h = sym (route-at r ns os i e ∙ ap (λ (x : Route). x.via) (get_d-out (tab (route_count ns) (route_in ns os)) i _ (rw tab-length (omega arith))))

-- ---- a route that stands at another place

module _ (ns ns' os os' : List ℕ) where
  route-carried : (i j : ℕ) → Carries (route_column + i) (route_column + j) 1 ns ns' → Carries (root_names + i * root_space) (root_names + j * root_space) root_space os os' → route_in ns' os' j ≡ route_in ns os i
  unfolding route_in root_name
  route-carried i j v r =
      let via : get_or ns' (route_column + j) 0 ≡ get_or ns (route_column + i) 0 = simp add-zero at (v 0 (omega arith)) in
      let root : text_at root_limit os' (root_names + j * root_space) ≡ text_at root_limit os (root_names + i * root_space) = text-carried root_limit (root_names + i * root_space) (root_names + j * root_space) os os' r in
      cc

-- ---- a route goes

pub remove-route : (ns vs os qs : List ℕ) (i n : ℕ) → Numbers ns → n ≡ route_count ns → i < n
    → Closed (route_column + i) (route_column + n) 1 ns vs → Closed (root_names + i * root_space) (root_names + n * root_space) root_space os qs
    → card_of (set vs 2 (n - 1)) qs ≡ with_routes (cut (card_of ns os).routes i) (card_of ns os)
unfolding route_count card_of
remove-route ns vs os qs i n hl hn hi cv cr =
    but-routes ns ms os qs _
    (λ j x y. keep j (λ e. omega arith) (λ u v. omega arith))
    (λ j x y. keep j (λ e. omega arith) (λ u v. omega arith))
    (λ j x y. keep j (λ e. omega arith) (λ u v. omega (arith, limit)))
    (λ j x y. cr.rest j (λ u v. omega arith))
    (rw (count, ← hn)
    (tab-cut n i (route_in ns os) (route_in ms qs) (no_entry []) hi
    (λ j lt. route-same ns ms os qs j (λ k x y. keep k (λ e. omega arith) (λ u v. omega arith)) (λ k x y. cr.rest k (λ u v. omega arith)))
    (λ j le lt. route-carried ns ms os qs (j + 1) j (λ k h. get_or-set_other vs 2 (route_column + j + k) (n - 1) 0 (λ e. omega arith) ∙ lower (route_column + i) (route_column + n) 1 (route_column + (j + 1)) (route_column + j) 1 ns vs cv (omega arith) (omega arith) (omega arith) k h)
    (lower (root_names + i * root_space) (root_names + n * root_space) root_space (root_names + (j + 1) * root_space) (root_names + j * root_space) root_space os qs cr (omega arith) (omega arith) (omega arith)))))
  where
    ms : List ℕ
    ms = set vs 2 (n - 1)

    limit : n ≤ route_limit
    limit = omega (arith, up_to-le route_limit (get_or ns 2 0))

    count : up_to route_limit (get_or ms 2 0) ≡ n - 1
    count = ap (up_to route_limit) (get_or-set_same vs 2 (n - 1) 0 (omega (arith, cv.long))) ∙ up_to-in route_limit (n - 1) (omega (arith, limit))

    keep : (j : ℕ) → (j ≡ 2 → ⊥) → (route_column + i ≤ j → j < route_column + n → ⊥) → get_or ms j 0 ≡ get_or ns j 0
    keep j ne out = get_or-set_other vs 2 j (n - 1) 0 ne ∙ cv.rest j out

-- ---- a route comes, or changes

place-le {ℓ} : {A : Type ℓ} (t : A → Bool) (l : List A) → place t l ≤ length l
unfolding place
place-le t [] = omega arith
place-le t (x ∷ l) = picked (λ (k : ℕ). k ≤ suc (length l)) (t x) (λ _. omega arith) (λ _. suc-le-suc (place-le t l))

-- what the search found
found-root : (ns os o : List ℕ) (i : ℕ) → i ≡ route_place o (card_of ns os) → i < route_count ns → root_name os i ≡ o
unfolding route_place card_of is_for route_in entry_in
found-root ns os o i e h =
    let none : Route = no_entry [] in
    let lt : place (is_for o) (tab (route_count ns) (route_in ns os)) < length (tab (route_count ns) (route_in ns os)) = rw (tab-length, ← e) h in
    let found = place-finds (is_for o) (tab (route_count ns) (route_in ns os)) none lt in
    same-eq _ _ (rw (← e, tab-get (route_count ns) (route_in ns os) i none h) at found)

-- an entry, by its root and its number
route-is : (ns os o : List ℕ) (i x : ℕ) (y : Route) → root_name os i ≡ o → route_number ns i ≡ x → entry_in o x ≡ y → route_in ns os i ≡ y
unfolding route_in
route-is ns os o i x y r v e = rw (r, v) e

-- a route and its counts, in one number
pub entry-number : (via standing lone : ℕ) → via < 256 → standing < 256 → lone < 256 → (o : List ℕ) → entry_in o (via + 256 * standing + 65536 * lone) ≡ record { root = o; via = via; standing = standing; lone = lone }
unfolding entry_in
entry-number via standing lone v8 s8 l8 o =
    let x : ℕ = via + 256 * standing + 65536 * lone in
    let v : x % 256 ≡ via = omega arith in
    let p : x / 256 ≡ standing + 256 * lone = omega arith in
    let a : x / 256 % 256 ≡ standing = ap (λ (y : ℕ). y % 256) p ∙ omega arith in
    let q : x / 65536 ≡ lone = omega arith in
    let b : x / 65536 % 256 ≡ lone = ap (λ (y : ℕ). y % 256) q ∙ omega arith in
    λ j. record { root = o; via = v j; standing = a j; lone = b j }

-- one entry's number anew: its root stays
module _ (ns os : List ℕ) (i x : ℕ) (hl : Numbers ns) (h : i < route_count ns) where
  pub set-entry : (y : Route) → entry_in (root_name os i) x ≡ y → card_of (set ns (route_column + i) x) os ≡ with_routes (set (card_of ns os).routes i y) (card_of ns os)
  unfolding route_count card_of
  set-entry y e =
      but-routes ns ms os os _
      (agree-set 0 2 ns (route_column + i) x (λ u v. omega arith))
      (agree-set 3 2 ns (route_column + i) x (λ u v. omega arith))
      (agree-set own_column (tree_limit + row_numbers + label_numbers) ns (route_column + i) x (λ u v. omega (arith, limit)))
      (agree_refl 0 root_names os)
      (rw count
      (tab-set (route_count ns) (route_in ns os) (route_in ms os) i y h
      (route-is ms os (root_name os i) i x y refl (get_or-set_same ns (route_column + i) x 0 (omega (arith, limit))) e)
      (λ j ne lt. route-same ns ms os os j (agree-set (route_column + j) 1 ns (route_column + i) x (λ u v. ne (omega arith))) (agree_refl (root_names + j * root_space) root_space os))))
    where
      ms : List ℕ
      ms = set ns (route_column + i) x

      limit : i < route_limit
      limit = omega (arith, up_to-le route_limit (get_or ns 2 0))

      count : get_or ms 2 0 ≡ get_or ns 2 0
      count = get_or-set_other ns (route_column + i) 2 x 0 (λ e. omega arith)

  -- found by its root
  pub set-route : (o : List ℕ) (y : Route) → i ≡ route_place o (card_of ns os) → entry_in o x ≡ y
      → card_of (set ns (route_column + i) x) os ≡ with_routes (put (card_of ns os).routes (route_place o (card_of ns os)) y) (card_of ns os)
  set-route o y at e =
      let its : entry_in (root_name os i) x ≡ y = rw (found-root ns os o i at h) e in
      rw (← at) (set-entry y its ∙ ap (λ (rs : List Route). with_routes rs (card_of ns os)) (sym (put_in (card_of ns os).routes i y (unfold card_of in rw tab-length h))))

-- one behind the others
pub append-route : (ns os qs o : List ℕ) (n x : ℕ) (y : Route) → Numbers ns → n ≡ route_count ns → n < route_limit → length o ≤ root_limit
    → Written (root_names + n * root_space) (length o ∷ o) os qs → entry_in o x ≡ y
    → card_of (set (set ns (route_column + n) x) 2 (n + 1)) qs ≡ with_routes ((card_of ns os).routes ++ (y ∷ [])) (card_of ns os)
unfolding route_count card_of root_name
append-route ns os qs o n x y hl hn h32 ho w its =
    but-routes ns ms os qs _
    (λ j p q. keep j (λ e. omega arith) (λ e. omega arith))
    (λ j p q. keep j (λ e. omega arith) (λ e. omega arith))
    (λ j p q. keep j (λ e. omega arith) (λ e. omega arith))
    (λ j p q. w.rest j (λ u v. omega arith))
    (rw (count, ← hn)
    (tab-snoc n (route_in ns os) (route_in ms qs) _
    (λ j lt. route-same ns ms os qs j (λ k p q. keep k (λ e. omega arith) (λ e. omega arith)) (λ k p q. w.rest k (λ u v. omega arith)))
    (route-is ms qs o n x y (text-put root_limit (root_names + n * root_space) o os qs ho w)
    (get_or-set_other (set ns (route_column + n) x) 2 (route_column + n) (n + 1) 0 (λ e. omega arith) ∙ get_or-set_same ns (route_column + n) x 0 (omega arith)) its)))
  where
    ms : List ℕ
    ms = set (set ns (route_column + n) x) 2 (n + 1)

    count : up_to route_limit (get_or ms 2 0) ≡ n + 1
    count = ap (up_to route_limit) (get_or-set_same (set ns (route_column + n) x) 2 (n + 1) 0 (rw length-set (omega arith))) ∙ up_to-in route_limit (n + 1) (omega arith)

    keep : (j : ℕ) → (j ≡ 2 → ⊥) → (j ≡ route_column + n → ⊥) → get_or ms j 0 ≡ get_or ns j 0
    keep j ne me = get_or-set_other (set ns (route_column + n) x) 2 j (n + 1) 0 ne ∙ get_or-set_other ns (route_column + n) j x 0 me

-- no entry yet: that is where it is put
pub add-route : (ns os o : List ℕ) (c : Card) (i n : ℕ) (y : Route) → i ≡ route_place o (card_of ns os) → n ≡ route_count ns → n ≤ i
    → c ≡ with_routes ((card_of ns os).routes ++ (y ∷ [])) (card_of ns os)
    → c ≡ with_routes (put (card_of ns os).routes (route_place o (card_of ns os)) y) (card_of ns os)
unfolding route_place card_of
add-route ns os o c i n y e hn le h =
    h ∙ ap (λ (rs : List Route). with_routes rs (card_of ns os)) (sym (put-end (tab (route_count ns) (route_in ns os)) (place (is_for o) (tab (route_count ns) (route_in ns os))) y (omega (arith, tab-length (route_count ns) (route_in ns os), place-le (is_for o) (tab (route_count ns) (route_in ns os))))))
