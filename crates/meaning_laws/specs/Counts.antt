-- The counts of a root's trees: that they decide refusal 12 where they are true, and that the routes are the same but for them.
-- Assumes nothing.
use Rattle.std.specs.Prelude.{ℕ, zero, suc, ◌+◌, ◌-◌, ◌%◌, ◌≤◌, ◌<◌, ◌≡◌, Bool, true, false, ◌&&◌, ◌||◌, drop, length, set, eqb, leb, ltb}
use Rattle.std.proofs.Common.{zero-le, le_refl, not-suc-le-zero, arith, sym, ap, ◌∙◌, drop-cons, ltb-false, eqb-true, ne_eqb, leb-true, ltb-true, le-ltb, lt-ltb}
use Rattle.std.proofs.Math.Path.{refl, ap₂}
use mathlib.Core.List.{List, [], ◌∷◌}
use Rattle.std.proofs.Math.ListN.{get_or}
use Rattle.std.proofs.lemmas.List.{set-get_or}
use Rattle.std.proofs.lemmas.Bool.{lt-leb, eqb-false, not-true}
use Rattle.meaning.specs.Octets.{pick, place, count, any, ◌when◌else◌}
use Rattle.meaning.specs.Lists.{by-test, picked, get_d-out, no-when, any-count, count-any, neither}
use Rattle.meaning.specs.Wire.{root_in}
use Rattle.meaning_laws.specs.RoundTrip.{both}
use Rattle.meaning.specs.Card.{Route, Tree, Card, no_route, no_entry, with_counts, with_branch, is_for, route_place, route_of, bare, tree_at, is_branch, is_empty, is_lone, not_held, leads_on, free_labels, neighbour_count}
use Rattle.meaning.specs.Events.{need_move, labels_short, upstream, holder, of_root, total, in_root, one_standing, one_lone, worked_out, entry_of, changed, recounted_for, recount, need_one, sum_from, need_all, routes_full, quick_yes, quick_no, route_short, runs_out, route_refusal, recounted_without}

-- ---- sums over the trees

drop-none : (l : List Tree) (i : ℕ) → length l ≤ i → drop i l ≡ []
drop-none [] zero h = refl
drop-none [] (suc i) h = refl
drop-none (t ∷ l) zero h = absurd (not-suc-le-zero h)
drop-none (t ∷ l) (suc i) h = drop-none l i (omega arith)

sum-from : (f : Tree → ℕ) (n i : ℕ) (c : Card) → i + n ≡ length c.trees → sum_from f n i c ≡ total f (drop i c.trees)
unfolding sum_from tree_at total
sum-from f zero i c h = sym (ap (total f) (drop-none c.trees i (omega arith)))
sum-from f (suc n) i c h =
    rw (drop-cons c.trees i (bare []) (omega arith)) (ap (λ (k : ℕ). f (get_or c.trees i (bare [])) + k) (sum-from f n (suc i) c (omega arith)))

-- the walk from place to place
pub sum-total : (f : Tree → ℕ) (c : Card) → sum_from f (length c.trees) 0 c ≡ total f c.trees
sum-total f c = sum-from f (length c.trees) 0 c (omega arith)

total-le : (f g : Tree → ℕ) → ((t : Tree) → f t ≤ g t) → (ts : List Tree) → total f ts ≤ total g ts
unfolding total
total-le f g h [] = zero-le
total-le f g h (t ∷ ts) = omega (arith, h t, total-le f g h ts)

total-sum : (f g k : Tree → ℕ) → ((t : Tree) → f t ≤ g t + k t) → (ts : List Tree) → total f ts ≤ total g ts + total k ts
unfolding total
total-sum f g k h [] = zero-le
total-sum f g k h (t ∷ ts) = omega (arith, h t, total-sum f g k h ts)

-- ---- what one tree counts, and what it needs

pub any-set-zero : (bs : List ℕ) (n : ℕ) → any is_branch bs ≡ false → any is_branch (set bs n 0) ≡ false
unfolding any is_branch
any-set-zero [] n h = refl
any-set-zero (b ∷ bs) zero h = by-test (ltb 0 b) (λ e. let z : true ≡ false = rw e at h in cc) (λ e. rw e at h)
any-set-zero (b ∷ bs) (suc n) h = by-test (ltb 0 b) (λ e. let z : true ≡ false = rw e at h in cc) (λ e. rw e (any-set-zero bs n (rw e at h)))

-- an empty tree leads nowhere
pub empty-leads : (u : ℕ) (t : Tree) → is_empty t ≡ true → leads_on u t ≡ false
unfolding is_empty leads_on not_held
empty-leads u t e =
    by-test (any is_branch t.branches)
    (λ k. let z : false ≡ true = rw k at e in cc)
    (λ k. rw (any-set-zero t.branches u k) (not-true t.leaf (rw k at e)))

any-set-count : (bs : List ℕ) (u : ℕ) → any is_branch (set bs u 0) ≡ false → count is_branch bs ≤ 1
unfolding any count is_branch
any-set-count [] u h = zero-le
any-set-count (b ∷ bs) zero h = let none : count is_branch bs ≡ 0 = any-count is_branch bs (unfold is_branch in h) in by-test (ltb 0 b) (λ e. rw (e, none) (omega arith)) (λ e. rw (e, none) zero-le)
any-set-count (b ∷ bs) (suc u) h = by-test (ltb 0 b) (λ e. let z : true ≡ false = rw e at h in absurd (let z' : ◌≡◌ {A = ℕ} 0 1 = cc in omega arith)) (λ e. rw e (any-set-count bs u (rw e at h)))

-- a tree that leads nowhere is empty or lone
nowhere : (u : ℕ) (t : Tree) → leads_on u t ≡ false → is_lone t ≡ false → is_empty t ≡ true
unfolding leads_on not_held is_lone is_empty
nowhere u t off other =
    let p = neither (any is_branch (set t.branches u 0)) t.leaf off in
    let few = any-set-count t.branches u p.0 in
    by-test (eqb (count is_branch t.branches) 1)
    (λ e. absurd (let z : true ≡ false = rw (e, p.1) at other in let z' : ◌≡◌ {A = ℕ} 0 1 = cc in omega arith))
    (λ e. rw (count-any is_branch t.branches (below (count is_branch t.branches) few (eqb-false _ _ e)), p.1) refl)
  where
    below : (k : ℕ) → k ≤ 1 → (k ≡ 1 → ⊥) → k ≡ 0
    below k h d = omega arith

pub standing-most : (t : Tree) → one_standing t ≤ 1
unfolding one_standing
standing-most t = picked (λ (k : ℕ). k ≤ 1) (is_empty t) (λ _. zero-le) (λ _. le_refl 1)

pub lone-most : (t : Tree) → one_lone t ≤ 1
unfolding one_lone
lone-most t = picked (λ (k : ℕ). k ≤ 1) (is_lone t) (λ _. le_refl 1) (λ _. zero-le)

one-need : (u : ℕ) (t : Tree) → need_move (holder u t) ≤ one_standing t
unfolding holder one_standing need_move
one-need u t =
    by-test (is_empty t)
    (λ e. rw (e, empty-leads u t e) zero-le)
    (λ e. rw e (picked (λ (k : ℕ). k ≤ 1) (eqb (pick (leads_on u t) u no_route) no_route) (λ _. zero-le) (λ _. le_refl 1)))

one-must : (u : ℕ) → u < neighbour_count → (t : Tree) → one_standing t ≤ need_move (holder u t) + one_lone t
unfolding holder one_standing one_lone need_move
one-must u near t =
    by-test (is_lone t)
    (λ e. rw e (picked (λ (k : ℕ). k ≤ need_move (pick (leads_on u t) u no_route) + 1) (is_empty t) (λ _. zero-le) (λ _. omega arith)))
    (λ e. rw e (by-test (leads_on u t)
    (λ k. rw (k, ne_eqb u no_route (λ z. omega arith)) (picked (λ (x : ℕ). x ≤ 1 + 0) (is_empty t) (λ _. zero-le) (λ _. omega arith)))
    (λ k. rw (k, nowhere u t k e) zero-le)))

-- each tree of the root needs at most one label, and each that is not lone needs one, whatever neighbour is the upstream
need-less : (r : List ℕ) (u : ℕ) (t : Tree) → need_one r u t ≤ in_root r one_standing t
unfolding need_one in_root
need-less r u t = by-test (of_root r t) (λ e. rw e (one-need u t)) (λ e. rw e zero-le)

need-must : (r : List ℕ) (u : ℕ) → u < neighbour_count → (t : Tree) → in_root r one_standing t ≤ need_one r u t + in_root r one_lone t
unfolding need_one in_root
need-must r u near t = by-test (of_root r t) (λ e. rw e (one-must u near t)) (λ e. rw e zero-le)

pub all-less : (r : List ℕ) (u : ℕ) (c : Card) → need_all r u c ≤ total (in_root r one_standing) c.trees
unfolding need_all
all-less r u c = rw (sum-total (need_one r u) c) (total-le _ _ (need-less r u) c.trees)

pub all-must : (r : List ℕ) (u : ℕ) → u < neighbour_count → (c : Card) → total (in_root r one_standing) c.trees ≤ need_all r u c + total (in_root r one_lone) c.trees
unfolding need_all
all-must r u near c = rw (sum-total (need_one r u) c) (total-sum _ _ _ (need-must r u near) c.trees)

-- ---- refusal 12

-- the counts of root r are true
pub record Counted (r : List ℕ) (c : Card) : Type 0 where
  pub standing : (entry_of r c).standing ≡ total (in_root r one_standing) c.trees
  pub lone : (entry_of r c).lone ≡ total (in_root r one_lone) c.trees

-- On any card where they are, the quick ways and the walk together give 12 exactly where the walk alone does.
pub quick-exact : (c : Card) (r : List ℕ) (via : ℕ) → Counted r c → route_short c r via ≡ labels_short c (need_all r (upstream via) c)
unfolding route_short quick_yes quick_no labels_short
quick-exact c r via C =
    by-test (leb (entry_of r c).standing (free_labels c))
    (λ e. rw e (sym (le-ltb (free_labels c) (need_all r (upstream via) c) (omega (arith, leb-true (entry_of r c).standing (free_labels c) e, C.standing, all-less r (upstream via) c)))))
    (λ e. rw e (by-test (ltb via neighbour_count)
    (λ n. rw n (by-test (ltb (free_labels c + (entry_of r c).lone) (entry_of r c).standing)
    (λ k. rw k (sym (lt-ltb (free_labels c) (need_all r (upstream via) c) (must (ltb-true via neighbour_count n) (ltb-true _ _ k)))))
    (λ k. rw k refl)))
    (λ n. rw n refl)))
  where
    must : via < neighbour_count → free_labels c + (entry_of r c).lone < (entry_of r c).standing → free_labels c < need_all r (upstream via) c
    must near more = let there : upstream via ≡ via = unfold upstream in rw (lt-ltb via neighbour_count near) refl in rw there (omega (arith, C.standing, C.lone, all-must r via near c))

-- On any card, whatever the counts: an order that is not refused does not run out of labels.
pub enough-labels : (c : Card) (r : List ℕ) (via : ℕ) → route_refusal c r via ≡ 0 → need_all r (upstream via) c ≤ free_labels c
unfolding route_refusal runs_out labels_short
enough-labels c r via e = ltb-false _ _ (no-when 11 _ 0 (no-when 11 _ _ (no-when 14 _ _ e).1).1).0

-- And 12 is given where the quick way says no, or the walk does: what says yes need not be asked.
pub twelve-cases : (c : Card) (r : List ℕ) (via : ℕ) → route_refusal c r via ≡ 15 when routes_full c r via else 12 when (quick_no c r via || runs_out c r via) else 0
unfolding route_refusal route_short runs_out quick_yes quick_no ◌when◌else◌
twelve-cases c r via =
    by-test (ltb via neighbour_count && ltb (free_labels c + (entry_of r c).lone) (entry_of r c).standing)
    (λ n. let more : free_labels c + (entry_of r c).lone < (entry_of r c).standing = ltb-true _ _ (both (ltb via neighbour_count) (ltb (free_labels c + (entry_of r c).lone) (entry_of r c).standing) n).1 in
    rw (n, lt-leb (entry_of r c).standing (free_labels c) (omega arith)) refl)
    (λ n. rw n (by-test (leb (entry_of r c).standing (free_labels c))
    (λ y. rw y refl)
    (λ y. rw y (by-test (labels_short c (need_all r (upstream via) c)) (λ w. rw w refl) (λ w. rw w refl)))))

-- Where they are true, 12 is what the walk says, and no more: so for a root without an entry on any card (`new-counted`).
pub counted-twelve : (c : Card) (r : List ℕ) (via : ℕ) → Counted r c → route_refusal c r via ≡ 15 when routes_full c r via else 12 when runs_out c r via else 0
unfolding route_refusal runs_out ◌when◌else◌
counted-twelve c r via C = rw (quick-exact c r via C) (by-test (labels_short c (need_all r (upstream via) c)) (λ k. rw k refl) (λ k. rw k refl))

-- The counts of a root without an entry are worked out, and so are true on any card.
pub new-counted : (c : Card) (r : List ℕ) → length c.routes ≤ route_place r c → Counted r c
unfolding worked_out
new-counted c r h = record { standing = ap (λ (x : Route). x.standing) e; lone = ap (λ (x : Route). x.lone) e }
  where
    e : entry_of r c ≡ worked_out c.trees (no_entry r)
    e = unfold entry_of in get_d-out c.routes (route_place r c) (worked_out c.trees (no_entry r)) h

-- They are about the routes and the trees alone.
pub counted_same : (c d : Card) → c.routes ≡ d.routes → c.trees ≡ d.trees → (q : List ℕ) → Counted q c → Counted q d
counted_same c d r t q C = record { standing = sym (ap (λ (x : Route). x.standing) entry) ∙ C.standing ∙ ap (total (in_root q one_standing)) t; lone = sym (ap (λ (x : Route). x.lone) entry) ∙ C.lone ∙ ap (total (in_root q one_lone)) t }
  where
    entry : entry_of q c ≡ entry_of q d
    entry = unfold entry_of route_place in ap₂ (λ (rs : List Route) (ts : List Tree). get_or rs (place (is_for q) rs) (worked_out ts (no_entry q))) r t

need-none : (r : List ℕ) (ts : List Tree) → total (need_one r no_route) ts ≤ 0
unfolding total need_one need_move holder
need-none r [] = zero-le
need-none r (t ∷ ts) = omega (arith, one, need-none r ts)
  where
    one : need_one r no_route t ≤ 0
    one = picked (λ (k : ℕ). k ≤ 0) (of_root r t) (λ _. picked (λ (u : ℕ). pick (eqb u no_route) 0 1 ≤ 0) (leads_on no_route t) (λ _. zero-le) (λ _. zero-le)) (λ _. zero-le)

-- A route that is no neighbour needs no label, on any card.
pub none_needed : (c : Card) (r : List ℕ) (via : ℕ) → ltb via neighbour_count ≡ false → route_short c r via ≡ false
unfolding route_short quick_no labels_short
none_needed c r via far =
    picked (λ (b : Bool). b ≡ false) (quick_yes c r)
    (λ _. refl)
    (λ _. rw far (le-ltb (free_labels c) (need_all r (upstream via) c) (omega (arith, nothing))))
  where
    nothing : need_all r (upstream via) c ≤ 0
    nothing = let there : upstream via ≡ no_route = unfold upstream in rw far refl in rw there (unfold need_all in rw (sum-total (need_one r no_route) c) (need-none r c.trees))

-- ---- one count changed

pub changed-true : (n before after m : ℕ) → m + before ≡ n + after → before ≤ 1 → m < 256 → changed n before after ≡ m
unfolding changed
changed-true n before after m h one low =
    by-test (eqb before after)
    (λ e. rw e (omega (arith, eqb-true before after e)))
    (λ e. rw e (omega arith))

-- a count that is an octet needs no test
pub changed-round : (n before after : ℕ) → n < 256 → before ≤ 1 → changed n before after ≡ (n + after + (256 - before)) % 256
unfolding changed
changed-round n before after low one = by-test (eqb before after) (λ e. rw e (omega (arith, eqb-true before after e))) (λ e. rw e refl)

pub changed-same : (n k : ℕ) → changed n k k ≡ n
unfolding changed
changed-same n k = picked (λ (x : ℕ). x ≡ n) (eqb k k) (λ _. refl) (λ e. absurd (eqb-false k k e refl))

-- a tree that counts what it counted leaves the routes as they are, on any card
pub recount-still : (t s : Tree) (rs : List Route) → one_standing t ≡ one_standing s → one_lone t ≡ one_lone s → recount t s rs ≡ rs
unfolding recount recounted_for
recount-still t s rs a b =
    simp (a, b, changed-same) (set-get_or rs _ (no_entry (root_in s.name)))

-- ---- the routes but for the counts

unfoldable pub plain : Route → Route
plain x = with_counts 0 0 x

unfoldable pub plains : List Route → List Route
plains [] = []
plains (x ∷ xs) = plain x ∷ plains xs

pub plains-length : (rs : List Route) → length (plains rs) ≡ length rs
unfolding plains
plains-length [] = refl
plains-length (x ∷ xs) = ap suc (plains-length xs)

pub plains-place : (q : List ℕ) (rs : List Route) → place (is_for q) (plains rs) ≡ place (is_for q) rs
unfolding plains plain place is_for
plains-place q [] = refl
plains-place q (x ∷ xs) = rw (plains-place q xs) refl

pub plains-count : (q : List ℕ) (rs : List Route) → count (is_for q) (plains rs) ≡ count (is_for q) rs
unfolding plains plain count is_for
plains-count q [] = refl
plains-count q (x ∷ xs) = rw (plains-count q xs) refl

pub plains-via : (q : List ℕ) (rs : List Route) (k : ℕ) → (get_or (plains rs) k (no_entry q)).via ≡ (get_or rs k (no_entry q)).via
unfolding plains plain
plains-via q [] k = refl
plains-via q (x ∷ xs) zero = refl
plains-via q (x ∷ xs) (suc k) = plains-via q xs k

-- where two tables' routes are the same but for the counts, so is every root's route
module _ (rs ss : List Route) (e : plains rs ≡ plains ss) where
  pub plain-length : length rs ≡ length ss
  plain-length = sym (plains-length rs) ∙ ap length e ∙ plains-length ss

  pub plain-count : (q : List ℕ) → count (is_for q) rs ≡ count (is_for q) ss
  plain-count q = sym (plains-count q rs) ∙ ap (count (is_for q)) e ∙ plains-count q ss

  pub plain-place : (q : List ℕ) → place (is_for q) rs ≡ place (is_for q) ss
  plain-place q = sym (plains-place q rs) ∙ ap (place (is_for q)) e ∙ plains-place q ss

pub plain-route : (c d : Card) → plains c.routes ≡ plains d.routes → (q : List ℕ) → route_of q c ≡ route_of q d
unfolding route_of route_place
plain-route c d e q =
    ap (λ (k : ℕ). (get_or c.routes k (no_entry q)).via) (plain-place c.routes d.routes e q) ∙ (sym (plains-via q c.routes (place (is_for q) d.routes)) ∙ ap (λ (l : List Route). (get_or l (place (is_for q) d.routes) (no_entry q)).via) e ∙ plains-via q d.routes (place (is_for q) d.routes))

plains-set : (rs : List Route) (i : ℕ) (x d : Route) → plain x ≡ plain (get_or rs i d) → plains (set rs i x) ≡ plains rs
unfolding plains
plains-set [] i x d h = refl
plains-set (y ∷ rs) zero x d h = ap (λ (z : Route). z ∷ plains rs) h
plains-set (y ∷ rs) (suc i) x d h = ap (λ (l : List Route). plain y ∷ l) (plains-set rs i x d h)

pub recount-plain : (t s : Tree) (rs : List Route) → plains (recount t s rs) ≡ plains rs
unfolding recount
recount-plain t s rs = plains-set rs _ _ (no_entry (root_in s.name)) (unfold plain recounted_for in refl)

pub without-plain : (n : ℕ) (ts : List Tree) (rs : List Route) → plains (recounted_without n ts rs) ≡ plains rs
unfolding recounted_without
without-plain n [] rs = refl
without-plain n (t ∷ ts) rs = without-plain n ts (recount t (with_branch n 0 t) rs) ∙ recount-plain t (with_branch n 0 t) rs
