-- The counts of a root's trees stay true: what one tree's event, a route order and a loss make of them.
-- Assumes nothing.
use Prim.Native.Nat.{ℕ, zero, suc, ◌+◌, ◌≤◌, ◌<◌, zero-le}
use native.Mathlib.Omega.{arith}
use Rattle.std.proofs.Math.Path.{◌≡◌, refl, sym, ap, ap₂, subst}
use Rattle.std.proofs.Common.{◌∙◌, get_or-set_same, ltb-true, ltb-false}
use Rattle.std.specs.Prelude.{Bool, set, eqb, ltb}
use Rattle.std.proofs.Math.Bool.{true, false}
use mathlib.Core.List.{List, [], ◌∷◌}
use Rattle.std.proofs.Math.ListN.{get_or, length}
use Rattle.std.proofs.Math.Seq.{get_or-set_other}
use Rattle.meaning.specs.Octets.{pick, place, count, any, same, put, cut}
use Rattle.meaning.specs.Wire.{root_in}
use Rattle.meaning.specs.Card.{Route, Tree, Card, no_route, no_entry, with_branch, with_label, is_for, route_place, bare, is_branch, is_empty, is_lone, tree_limit}
use Rattle.meaning.specs.Events.{of_root, total, in_root, one_standing, one_lone, worked_out, entry_of, changed, recounted_for, recount, entry_with, routes_with, tree_without, trees_without, recounted_without, routes_without}
use Rattle.meaning.specs.Lists.{by-test, picked, get_d-same, get_d-out, place-finds, same-eq, same_refl, found-put, found-cut, other-put, other_cut, any-count}
use Rattle.meaning_laws.specs.Counts.{plains, plain-count, plain-place, plain-length, recount-plain, without-plain, changed-true, standing-most, lone-most, Counted}
use Rattle.promise.specs.CardLaws.{shape}
use Rattle.promise.proofs.PartedLaws.{route-found}
use Rattle.promise.specs.CountLaws.{Tally, found}

empty-lone : (t : Tree) → is_empty t ≡ true → is_lone t ≡ false
unfolding is_empty is_lone
empty-lone t e =
    by-test (any is_branch t.branches)
    (λ k. let z : false ≡ true = rw k at e in cc)
    (λ k. rw (any-count is_branch t.branches k) refl)

pub tally-standing : Tally (λ x. x.standing) one_standing
tally-standing = record {
  label = λ l t. unfold one_standing is_empty with_label in refl;
  empty = λ t e. unfold one_standing in rw e refl;
  most = standing-most;
  again = λ t s x. unfold recounted_for in refl;
  worked = λ ts q. unfold worked_out in refl;
  kept = λ c r via. unfold entry_with in refl;
  counted = λ c q C. C.standing;
}

pub tally-lone : Tally (λ x. x.lone) one_lone
tally-lone = record {
  label = λ l t. unfold one_lone is_lone with_label in refl;
  empty = λ t e. unfold one_lone in rw (empty-lone t e) refl;
  most = lone-most;
  again = λ t s x. unfold recounted_for in refl;
  worked = λ ts q. unfold worked_out in refl;
  kept = λ c r via. unfold entry_with in refl;
  counted = λ c q C. C.lone;
}

-- ---- sums over the trees

total-zero : (f g : Tree → ℕ) → ((t : Tree) → f t ≡ g t) → (ts : List Tree) → total f ts ≡ total g ts
unfolding total
total-zero f g h [] = refl
total-zero f g h (t ∷ ts) = ap₂ ◌+◌ (h t) (total-zero f g h ts)

total-shapes : (f : Tree → ℕ) → ((t : Tree) → f (shape t) ≡ f t) → (ts ss : List Tree) → length ts ≡ length ss → ((j : ℕ) → shape (get_or ts j (bare [])) ≡ shape (get_or ss j (bare []))) → total f ts ≡ total f ss
unfolding total
total-shapes f h [] [] n e = refl
total-shapes f h [] (s ∷ ss) n e = absurd (omega arith)
total-shapes f h (t ∷ ts) [] n e = absurd (omega arith)
total-shapes f h (t ∷ ts) (s ∷ ss) n e = ap₂ ◌+◌ (sym (h t) ∙ ap f (e 0) ∙ h s) (total-shapes f h ts ss (omega arith) (λ j. e (suc j)))

total-put : (f : Tree → ℕ) (p : Tree → Bool) (ts : List Tree) (t d : Tree) → f d ≡ 0 → total f (put ts (place p ts) t) + f (get_or ts (place p ts) d) ≡ total f ts + f t
unfolding total place put
total-put f p [] t d z = omega arith
total-put f p (x ∷ ts) t d z =
    by-test (p x)
    (λ e. rw e (omega arith))
    (λ e. rw e (let later = total-put f p ts t d z in omega arith))

total-cut : (f : Tree → ℕ) (ts : List Tree) (i : ℕ) (d : Tree) → f (get_or ts i d) ≡ 0 → total f (cut ts i) ≡ total f ts
unfolding total cut
total-cut f [] zero d z = refl
total-cut f [] (suc i) d z = refl
total-cut f (x ∷ ts) zero d z = omega arith
total-cut f (x ∷ ts) (suc i) d z = ap (λ (k : ℕ). f x + k) (total-cut f ts i d z)

for-root : (q : List ℕ) (rs : List Route) (d : Route) → place (is_for q) rs < length rs → (get_or rs (place (is_for q) rs) d).root ≡ q
for-root q rs d h = same-eq _ q (unfold is_for in place-finds (is_for q) rs d h)

-- one tree is counted anew: only the entry of its root changes
module _ (t s : Tree) (rs : List Route) (q : List ℕ) (d : Route) (h : place (is_for q) rs < length rs) where
  abbrev own : List ℕ
  own = root_in s.name

  there : place (is_for q) (recount t s rs) ≡ place (is_for q) rs
  there = plain-place (recount t s rs) rs (recount-plain t s rs) q

  at_own : same own q ≡ true → get_or (recount t s rs) (place (is_for q) rs) d ≡ recounted_for t s (get_or rs (place (is_for q) rs) d)
  unfolding recount
  at_own e =
      subst (λ (x : List ℕ). get_or (set rs (place (is_for x) rs) (recounted_for t s (get_or rs (place (is_for x) rs) (no_entry x)))) (place (is_for q) rs) d ≡ recounted_for t s (get_or rs (place (is_for q) rs) d)) (sym (same-eq own q e))
      (get_or-set_same rs (place (is_for q) rs) _ d h ∙ ap (recounted_for t s) (get_d-same rs (place (is_for q) rs) (no_entry q) d h))

  at_other : same own q ≡ false → get_or (recount t s rs) (place (is_for q) rs) d ≡ get_or rs (place (is_for q) rs) d
  unfolding recount
  at_other e =
      get_or-set_other rs (place (is_for own) rs) (place (is_for q) rs) _ d
      (λ z. let its : (get_or rs (place (is_for q) rs) d).root ≡ own = ap (λ (k : ℕ). (get_or rs k d).root) z ∙ for-root own rs d (subst (λ (k : ℕ). k < length rs) z h) in
      let no : true ≡ false = sym (same_refl q) ∙ ap (λ (x : List ℕ). same x q) (sym (for-root q rs d h) ∙ its) ∙ e in
      let z' : ◌≡◌ {A = ℕ} 0 1 = cc in omega arith)

  pub recount-at : found q d (recount t s rs) ≡ pick (same own q) (recounted_for t s (found q d rs)) (found q d rs)
  recount-at =
      ap (λ (k : ℕ). get_or (recount t s rs) k d) there
      ∙ by-test (same own q)
      (λ e. rw e (at_own e))
      (λ e. rw e (at_other e))

module _ (get : Route → ℕ) (w : Tree → ℕ) (T : Tally get w) where
  of-label : (q : List ℕ) (l : ℕ) (t : Tree) → of_root q (with_label l t) ≡ of_root q t
  unfolding of_root with_label
  of-label q l t = refl

  within-label : (q : List ℕ) (l : ℕ) (t : Tree) → in_root q w (with_label l t) ≡ in_root q w t
  unfolding in_root
  within-label q l t = rw (of-label q l t, T.label l t) refl

  within-shape : (q : List ℕ) (t : Tree) → in_root q w (shape t) ≡ in_root q w t
  unfolding shape
  within-shape q t = within-label q 0 t

  within-empty : (q : List ℕ) (t : Tree) → is_empty t ≡ true → in_root q w t ≡ 0
  unfolding in_root
  within-empty q t e = picked (λ (k : ℕ). k ≡ 0) (of_root q t) (λ _. T.empty t e) (λ _. refl)

  within-most : (q : List ℕ) (t : Tree) → in_root q w t ≤ 1
  unfolding in_root
  within-most q t = picked (λ (k : ℕ). k ≤ 1) (of_root q t) (λ _. T.most t) (λ _. zero-le)

  total-most : (q : List ℕ) (ts : List Tree) → total (in_root q w) ts ≤ length ts
  unfolding total
  total-most q [] = zero-le
  total-most q (t ∷ ts) = omega (arith, within-most q t, total-most q ts)

  -- the same trees but for their labels
  pub same-shapes : (q : List ℕ) (ts ss : List Tree) → length ts ≡ length ss → ((j : ℕ) → shape (get_or ts j (bare [])) ≡ shape (get_or ss j (bare []))) → total (in_root q w) ts ≡ total (in_root q w) ss
  same-shapes q = total-shapes (in_root q w) (within-shape q)

  -- an empty tree is out
  pub without-empty : (q : List ℕ) (ts : List Tree) (i : ℕ) → is_empty (get_or ts i (bare [])) ≡ true → total (in_root q w) (cut ts i) ≡ total (in_root q w) ts
  without-empty q ts i e = total-cut (in_root q w) ts i (bare []) (within-empty q _ e)

  -- one tree is put in the place of another, or new
  pub with-another : (q : List ℕ) (p : Tree → Bool) (ts : List Tree) (t : Tree) (a : List ℕ) → total (in_root q w) (put ts (place p ts) t) + in_root q w (get_or ts (place p ts) (bare a)) ≡ total (in_root q w) ts + in_root q w t
  with-another q p ts t a = total-put (in_root q w) p ts t (bare a) (within-empty q (bare a) (unfold is_empty bare any is_branch in refl))

  -- ---- the entry of a root whose count is true

  -- what stands where there is no entry may be any that has the same count
  default-same : (q : List ℕ) (rs : List Route) (d e : Route) → get d ≡ get e → get (found q d rs) ≡ get (found q e rs)
  default-same q rs d e h =
      by-test (ltb (place (is_for q) rs) (length rs))
      (λ k. ap get (get_d-same rs (place (is_for q) rs) d e (ltb-true _ _ k)))
      (λ k. ap get (get_d-out rs (place (is_for q) rs) d (ltb-false _ _ k)) ∙ h ∙ ap get (sym (get_d-out rs (place (is_for q) rs) e (ltb-false _ _ k))))

  -- the tree t is counted as s: with m trees in all, where n were
  one-changed : (t s : Tree) (rs : List Route) (q : List ℕ) (d : Route) → t.name ≡ s.name → place (is_for q) rs < length rs → (n m : ℕ) → get (found q d rs) ≡ n → m + in_root q w t ≡ n + in_root q w s → m < 256 → get (found q d (recount t s rs)) ≡ m
  unfolding in_root of_root
  one-changed t s rs q d names h n m its sum low =
      let one : in_root q w t ≡ pick (same (root_in s.name) q) (w t) 0 = ap (λ (a : List ℕ). pick (same (root_in a) q) (w t) 0) names in
      let sums : m + pick (same (root_in s.name) q) (w t) 0 ≡ n + pick (same (root_in s.name) q) (w s) 0 = ap (λ (k : ℕ). m + k) (sym one) ∙ sum in
      ap get (recount-at t s rs q d h)
      ∙ by-test (same (root_in s.name) q)
      (λ e. let sum' : m + w t ≡ n + w s = rw e at sums in
      rw e (T.again t s (found q d rs) ∙ ap (λ (k : ℕ). changed k (w t) (w s)) its ∙ changed-true n (w t) (w s) m sum' (T.most t) low))
      (λ e. let sum' : m + 0 ≡ n + 0 = rw e at sums in rw e (its ∙ omega arith))

  -- the trees ts become us by the tree t becoming s
  pub one-true : (t s : Tree) (rs : List Route) (q : List ℕ) (ts us : List Tree) → t.name ≡ s.name → length ts ≤ tree_limit
      → ((q : List ℕ) → total (in_root q w) us + in_root q w t ≡ total (in_root q w) ts + in_root q w s)
      → get (found q (worked_out ts (no_entry q)) rs) ≡ total (in_root q w) ts
      → get (found q (worked_out us (no_entry q)) (recount t s rs)) ≡ total (in_root q w) us
  one-true t s rs q ts us names few sum its =
      by-test (ltb (place (is_for q) rs) (length rs))
      (λ k. let h : place (is_for q) rs < length rs = ltb-true _ _ k in
      one-changed t s rs q (worked_out us (no_entry q)) names h (total (in_root q w) ts) (total (in_root q w) us) (old h) (sum q) (omega (arith, sum q, within-most q s, total-most q ts)))
      (λ k. ap get (none (ltb-false _ _ k)) ∙ T.worked us q)
    where
      old : place (is_for q) rs < length rs → get (found q (worked_out us (no_entry q)) rs) ≡ total (in_root q w) ts
      old h = ap get (get_d-same rs (place (is_for q) rs) (worked_out us (no_entry q)) (worked_out ts (no_entry q)) h) ∙ its

      none : length rs ≤ place (is_for q) rs → found q (worked_out us (no_entry q)) (recount t s rs) ≡ worked_out us (no_entry q)
      none h = get_d-out (recount t s rs) _ (worked_out us (no_entry q)) (rw (plain-place (recount t s rs) rs (recount-plain t s rs) q, plain-length (recount t s rs) rs (recount-plain t s rs)) h)

  -- ---- the route order

  module _ (c : Card) (r : List ℕ) (via : ℕ) (once : count (is_for r) c.routes ≤ 1) (us : List Tree) (still : (q : List ℕ) → total (in_root q w) us ≡ total (in_root q w) c.trees) where
    root-apart : (q : List ℕ) → same r q ≡ false → (x : Route) → is_for r x ≡ true → is_for q x ≡ false
    unfolding is_for
    root-apart q n x e = rw (same-eq x.root r e) n

    own-for : is_for r (entry_with c r via) ≡ true
    unfolding is_for entry_with
    own-for = same_refl r

    before : (q : List ℕ) → get (entry_of q c) ≡ total (in_root q w) c.trees → get (found q (worked_out us (no_entry q)) c.routes) ≡ total (in_root q w) us
    unfolding entry_of route_place
    before q its = default-same q c.routes (worked_out us (no_entry q)) (worked_out c.trees (no_entry q)) (T.worked us q ∙ still q ∙ sym (T.worked c.trees q)) ∙ its ∙ sym (still q)

    pub routed-true : ((q : List ℕ) → get (entry_of q c) ≡ total (in_root q w) c.trees) → (q : List ℕ) → get (found q (worked_out us (no_entry q)) (routes_with c r via)) ≡ total (in_root q w) us
    unfolding routes_with route_place
    routed-true its q =
        by-test (eqb via no_route)
        (λ e. rw e (by-test (same r q)
        (λ k. subst (λ (x : List ℕ). get (get_or (cut c.routes (place (is_for r) c.routes)) (place (is_for x) (cut c.routes (place (is_for r) c.routes))) (worked_out us (no_entry x))) ≡ total (in_root x w) us) (same-eq r q k)
        (ap get (found-cut (is_for r) c.routes (worked_out us (no_entry r)) once) ∙ T.worked us r))
        (λ k. ap get (other_cut (is_for r) (is_for q) (root-apart q k) c.routes (worked_out us (no_entry q))) ∙ before q (its q))))
        (λ e. rw e (by-test (same r q)
        (λ k. subst (λ (x : List ℕ). get (get_or (put c.routes (place (is_for r) c.routes) (entry_with c r via)) (place (is_for x) (put c.routes (place (is_for r) c.routes) (entry_with c r via))) (worked_out us (no_entry x))) ≡ total (in_root x w) us) (same-eq r q k)
        (ap get (found-put (is_for r) c.routes (entry_with c r via) (worked_out us (no_entry r)) own-for) ∙ T.kept c r via ∙ its r ∙ sym (still r)))
        (λ k. ap get (other-put (is_for r) (is_for q) (root-apart q k) c.routes (entry_with c r via) (worked_out us (no_entry q)) (root-apart q k _ own-for)) ∙ before q (its q))))

  -- ---- a loss

  without-name : (n : ℕ) (t : Tree) → t.name ≡ (with_branch n 0 t).name
  unfolding with_branch
  without-name n t = refl

  -- the first K are counted already
  without-true : (n : ℕ) (q : List ℕ) (d : Route) (ts : List Tree) (rs : List Route) (K : ℕ) → place (is_for q) rs < length rs → K + length ts < 256
      → get (found q d rs) ≡ K + total (in_root q w) ts → get (found q d (recounted_without n ts rs)) ≡ K + total (λ t. in_root q w (with_branch n 0 t)) ts
  unfolding recounted_without total
  without-true n q d [] rs K h low its = its
  without-true n q d (t ∷ ts) rs K h low its =
      let s : Tree = with_branch n 0 t in
      let few = total-most q ts in
      let most = within-most q s in
      let but = recount-plain t s rs in
      let here : get (found q d (recount t s rs)) ≡ (K + in_root q w s) + total (in_root q w) ts = one-changed t s rs q d (without-name n t) h (K + (in_root q w t + total (in_root q w) ts)) ((K + in_root q w s) + total (in_root q w) ts) its (omega arith) (omega arith) in
      without-true n q d ts (recount t s rs) (K + in_root q w s) (rw (plain-place (recount t s rs) rs but q, plain-length (recount t s rs) rs but) h) (omega arith) here ∙ omega arith

  without-total : (n : ℕ) (c : Card) (q : List ℕ) (ts : List Tree) → total (in_root q w) (trees_without n c ts) ≡ total (λ t. in_root q w (with_branch n 0 t)) ts
  unfolding total trees_without tree_without
  without-total n c q [] = refl
  without-total n c q (t ∷ ts) = ap₂ ◌+◌ (within-label q _ (with_branch n 0 t)) (without-total n c q ts)

  -- the trees us are those without n's branches
  pub lost-true : (n : ℕ) (c : Card) (q : List ℕ) (us : List Tree) → count (is_for q) c.routes ≤ 1 → length c.trees ≤ tree_limit → total (in_root q w) us ≡ total (in_root q w) (trees_without n c c.trees)
      → get (entry_of q c) ≡ total (in_root q w) c.trees
      → get (found q (worked_out us (no_entry q)) (routes_without n (recounted_without n c.trees c.routes))) ≡ total (in_root q w) us
  lost-true n c q us once few still its =
      ap get (route-found n q d rs (rw (plain-count rs c.routes but q) once))
      ∙ picked (λ (x : Route). get x ≡ total (in_root q w) us) (eqb (found q d rs).via n)
      (λ _. T.worked us q)
      (λ _. by-test (ltb (place (is_for q) c.routes) (length c.routes))
      (λ k. let h : place (is_for q) c.routes < length c.routes = ltb-true _ _ k in
      let all : get (found q d rs) ≡ 0 + total (λ t. in_root q w (with_branch n 0 t)) c.trees = without-true n q d c.trees c.routes 0 h (omega arith) (old h) in
      all ∙ none_more _ ∙ sym (without-total n c q c.trees) ∙ sym still)
      (λ k. ap get (none (ltb-false _ _ k)) ∙ T.worked us q))
    where
      d : Route
      d = worked_out us (no_entry q)

      rs : List Route
      rs = recounted_without n c.trees c.routes

      but : plains rs ≡ plains c.routes
      but = without-plain n c.trees c.routes

      old : place (is_for q) c.routes < length c.routes → get (found q d c.routes) ≡ 0 + total (in_root q w) c.trees
      old h = let its' : get (found q (worked_out c.trees (no_entry q)) c.routes) ≡ total (in_root q w) c.trees = unfold entry_of route_place in its in ap get (get_d-same c.routes (place (is_for q) c.routes) d (worked_out c.trees (no_entry q)) h) ∙ its' ∙ omega arith

      none_more : (k : ℕ) → 0 + k ≡ k
      none_more k = omega arith

      none : length c.routes ≤ place (is_for q) c.routes → found q d rs ≡ d
      none h = get_d-out rs _ d (rw (plain-place rs c.routes but q, plain-length rs c.routes but) h)

-- ---- both counts

-- of every root
pub counted_of : (c : Card) → ((get : Route → ℕ) (w : Tree → ℕ) → Tally get w → (q : List ℕ) → get (found q (worked_out c.trees (no_entry q)) c.routes) ≡ total (in_root q w) c.trees) → (q : List ℕ) → Counted q c
counted_of c h q = record { standing = unfold entry_of route_place in h _ _ tally-standing q; lone = unfold entry_of route_place in h _ _ tally-lone q }
