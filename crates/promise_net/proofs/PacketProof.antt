-- THE WHOLE TREE: while nothing is under way, a packet reaches the leaves that have joined, each once, and no others.
-- Assumes nothing.
use Prim.Native.Nat.{ℕ, zero, suc, ◌+◌, ◌≤◌, ◌<◌}
use Rattle.std.proofs.Common.{not-suc-le-zero, sym, ◌∙◌}
use native.Mathlib.Omega.{arith}
use Rattle.std.proofs.Math.Path.{◌≡◌, refl, ap}
use Rattle.std.specs.Prelude.{Bool, true, false, ◌||◌, length, set, eqb}
use mathlib.Core.List.{List, [], ◌∷◌, ◌++◌}
use Rattle.std.proofs.Math.ListN.{get_or, length-set}
use Rattle.std.proofs.Math.Seq.{get_or-set_other}
use borrow.Author.Tests.{eqb-true, eqb-false, eq-eqb, ltb-true, lt-ltb}
use Rattle.meaning.specs.Octets.{pick, count, any}
use Rattle.meaning.specs.Lists.{by-test, picked, positive}
use Rattle.meaning.specs.Wire.{element_refusal}
use Rattle.meaning.specs.Card.{Tree, free, mapped, tree_of, use_of, is_branch, not_held, leads_on, Feed, branches_from, feed_of, lookup_label}
use Rattle.meaning.specs.Events.{branch}
use Rattle.promise.specs.Promise.{Step}
use Rattle.promise.proofs.CardLaws.{tree-sized}
use Rattle.promise.specs.PromiseProof.{Upheld}
use Rattle.promise.proofs.PromiseProof.{then-upheld, started}
use Rattle.promise_line.specs.Line.{lists, hearing, refuses}
use Rattle.promise_line.proofs.LineProof.{are-mapped}
use Rattle.promise_net.specs.Net.{Far, nobody, box, Wires, Wired, Net, box_at, laid, stepped, anew, heard, over_line, losing, parted, severed, Turn, hears, does, cuts, turn, turns, Quiet, onward, along, reaches, fed, via, joined, Way, here, up, Climbs, Whole, WholeTree}
use Rattle.promise_net.specs.NetProof.{AllBound}
use Rattle.promise_net.proofs.NetProof.{turns-bound, laid-bound}
use Rattle.promise_net.specs.Cards.{mapped-route, mapped-lookup, leads-mapped, name-lookup}
use Rattle.promise_net.proofs.Ways.{rank_up, one-door}

-- ---- every box of a net keeps its promises

pub stepped-upheld : (far : Wires) (w : Net) (k : ℕ) (s : Step) (inbox : ℕ → ℕ → List (List ℕ)) (refused : ℕ → ℕ → Bool) → ((i : ℕ) → Upheld (w.past i)) → (i : ℕ) → Upheld ((stepped far w k s inbox refused).past i)
unfolding stepped
stepped-upheld far w k s inbox refused U i = picked Upheld (eqb i k) (λ _. then-upheld (w.past k) s (U k)) (λ _. U i)

severed-upheld : (far : Wires) (w : Net) (k p : ℕ) (f : Far) → ((i : ℕ) → Upheld (w.past i)) → (i : ℕ) → Upheld ((severed far w k p f).past i)
unfolding severed parted
severed-upheld far w k p nobody U i = U i
severed-upheld far w k p (box j q) U i = stepped-upheld far _ j (losing q) _ _ (stepped-upheld far w k (losing p) w.inbox w.refused U) i

turn-upheld : (far : Wires) (w : Net) (t : Turn) → ((i : ℕ) → Upheld (w.past i)) → (i : ℕ) → Upheld ((turn far w t).past i)
unfolding turn
turn-upheld far w (hears k n room) U i = go (w.inbox k n)
  where
    go : (under : List (List ℕ)) → Upheld ((heard far w k n room under).past i)
    go [] = unfold heard in U i
    go (s ∷ rest) = unfold heard in stepped-upheld far w k (hearing room n s) (anew k n rest w.inbox) (anew k n (w.refused k n || refuses (box_at w k n) (hearing room n s)) w.refused) U i
turn-upheld far w (cuts k p) U i = severed-upheld far w k p (far k p) U i
turn-upheld far w (does k s) U i = picked (λ (x : Net). Upheld (x.past i)) (over_line far k s.does) (λ _. U i) (λ _. stepped-upheld far w k s _ _ U i)

turns-upheld : (far : Wires) (w : Net) (ts : List Turn) → ((i : ℕ) → Upheld (w.past i)) → (i : ℕ) → Upheld ((turns far w ts).past i)
unfolding turns
turns-upheld far w [] U = U
turns-upheld far w (t ∷ ts) U = turns-upheld far (turn far w t) ts (turn-upheld far w t U)

-- ---- counting

pub count-append : (t : ℕ → Bool) (xs ys : List ℕ) → count t (xs ++ ys) ≡ count t xs + count t ys
unfolding count
count-append t [] ys = omega arith
count-append t (x ∷ xs) ys = by-test (t x) (λ e. rw e (omega (arith, count-append t xs ys))) (λ e. rw e (count-append t xs ys))

module _ (far : Wires) (w : Net) (on : ℕ → Feed → List ℕ) (i : ℕ) (t : ℕ → Bool) where
  abbrev got : ℕ → ℕ → ℕ
  got p l = count t (onward w on (far i p) l)

  along-zero : (m : ℕ) (ls : List ℕ) → ((x : ℕ) → x < length ls → is_branch (get_or ls x 0) ≡ true → got (m + x) (get_or ls x 0) ≡ 0) → count t (along far w on i (branches_from m ls)) ≡ 0
  unfolding along branches_from
  along-zero m [] h = unfold count in refl
  along-zero m (l ∷ ls) h =
      let later : count t (along far w on i (branches_from (suc m) ls)) ≡ 0 = along-zero (suc m) ls (λ x lt b. ap (λ (z : ℕ). got z (get_or ls x 0)) (omega arith) ∙ h (suc x) (omega arith) b) in
      by-test (is_branch l)
      (λ b. rw b (count-append t (onward w on (far i m) l) _ ∙ (let first : got m l ≡ 0 = ap (λ (z : ℕ). got z l) (omega arith) ∙ h 0 (omega arith) b in omega arith)))
      (λ b. rw b later)

  along_one : (m : ℕ) (ls : List ℕ) (x : ℕ) → x < length ls → is_branch (get_or ls x 0) ≡ true → got (m + x) (get_or ls x 0) ≡ 1
      → ((y : ℕ) → y < length ls → (y ≡ x → ⊥) → is_branch (get_or ls y 0) ≡ true → got (m + y) (get_or ls y 0) ≡ 0) → count t (along far w on i (branches_from m ls)) ≡ 1
  unfolding along branches_from
  along_one m [] x lt b one h = absurd (not-suc-le-zero lt)
  along_one m (l ∷ ls) zero lt b one h =
      let later : count t (along far w on i (branches_from (suc m) ls)) ≡ 0 = along-zero (suc m) ls (λ y k c. ap (λ (z : ℕ). got z (get_or ls y 0)) (omega arith) ∙ h (suc y) (omega arith) (λ z. omega arith) c) in
      let first : got m l ≡ 1 = ap (λ (z : ℕ). got z l) (omega arith) ∙ one in
      rw b (count-append t (onward w on (far i m) l) _ ∙ omega arith)
  along_one m (l ∷ ls) (suc x) lt b one h =
      let later : count t (along far w on i (branches_from (suc m) ls)) ≡ 1 = along_one (suc m) ls x (omega arith) b (ap (λ (z : ℕ). got z (get_or ls x 0)) (omega arith) ∙ one)
      (λ y k d c. ap (λ (z : ℕ). got z (get_or ls y 0)) (omega arith) ∙ h (suc y) (omega arith) (λ z. d (omega arith)) c) in
      by-test (is_branch l)
      (λ c. rw c (count-append t (onward w on (far i m) l) _ ∙ (let first : got m l ≡ 0 = ap (λ (z : ℕ). got z l) (omega arith) ∙ h 0 (omega arith) (λ z. omega arith) c in omega arith)))
      (λ c. rw c later)

-- ---- branches that are not held

set-zero : (bs : List ℕ) (u : ℕ) → get_or (set bs u 0) u 0 ≡ 0
set-zero [] u = refl
set-zero (b ∷ bs) zero = refl
set-zero (b ∷ bs) (suc u) = set-zero bs u

pub not-held : (bs : List ℕ) (u p l : ℕ) → get_or (set bs u 0) p 0 ≡ l → (l ≡ 0 → ⊥) → get_or bs p 0 ≡ l
not-held bs u p l e nz =
    by-test (eqb p u)
    (λ k. absurd (nz (sym e ∙ ap (λ (x : ℕ). get_or (set bs u 0) x 0) (eqb-true p u k) ∙ set-zero bs u)))
    (λ k. sym (get_or-set_other bs u p 0 0 (eqb-false p u k)) ∙ e)

any_at : (bs : List ℕ) (p : ℕ) → is_branch (get_or bs p 0) ≡ true → any is_branch bs ≡ true
unfolding any
any_at [] p e = absurd (let z : 0 < 0 = unfold is_branch in (ltb-true 0 0 e) in omega arith)
any_at (b ∷ bs) zero e = rw e refl
any_at (b ∷ bs) (suc p) e = rw (any_at bs p e) (picked (λ (x : Bool). x ≡ true) (is_branch b) (λ _. refl) (λ _. refl))

pub some-label : (l : ℕ) → is_branch l ≡ true → l ≡ 0 → ⊥
unfolding is_branch
some-label l b z = let lt = ltb-true 0 l b in omega arith

label-branch : (l : ℕ) → (l ≡ 0 → ⊥) → is_branch l ≡ true
unfolding is_branch
label-branch l nz = lt-ltb 0 l (positive l nz)

or_right : (x y : Bool) → y ≡ true → (x || y) ≡ true
or_right true y e = refl
or_right false y e = e

leaf-leads : (u : ℕ) (t : Tree) → t.leaf ≡ true → leads_on u t ≡ true
unfolding leads_on
leaf-leads u t e = or_right (any is_branch (not_held u t)) t.leaf e

branch_leads : (u : ℕ) (t : Tree) → any is_branch (not_held u t) ≡ true → leads_on u t ≡ true
unfolding leads_on
branch_leads u t e = rw e refl

-- ---- the tree named a, in a net that is quiet

module _ (far : Wires) (W : Wired far) (w : Net) (A : AllBound far w) (Q : Quiet far w) (U : (i : ℕ) → Upheld (w.past i)) (a : List ℕ) where
  abbrev tree : ℕ → Tree
  tree i = tree_of a (w.past i).card

  abbrev feed : ℕ → Feed
  feed i = feed_of (via w a i) (tree i)

  abbrev open-branches : ℕ → List ℕ
  open-branches i = not_held (via w a i) (tree i)

  -- by the theorem of one line
  line : (i p j q : ℕ) → far i p ≡ box j q → (l : ℕ) → (l ≡ 0 → ⊥) → (branch (tree i) p ≡ l → use_of l (w.past j).card ≡ mapped q a) × (use_of l (w.past j).card ≡ mapped q a → branch (tree i) p ≡ l)
  unfolding box_at lists
  line i p j q e l nz =
      let b : far j q ≡ box i p = W.back i p j q e in
      are-mapped (record { upper = box_at w i p; lower = box_at w j q }) (A i p j q e) (record { rising = Q.inbox i p j q e; falling = Q.inbox j q i p b; upper = Q.refused i p j q e; lower = Q.refused j q i p b }) a l nz

  -- where a branch leads
  child : (i p j q : ℕ) → far i p ≡ box j q → is_branch (get_or (open-branches i) p 0) ≡ true → (via w a j ≡ q) × (lookup_label (get_or (open-branches i) p 0) (w.past j).card ≡ feed j)
  unfolding not_held via branch
  child i p j q e b =
      let l : ℕ = get_or (open-branches i) p 0 in
      let nz : l ≡ 0 → ⊥ = some-label l b in
      let m : use_of l (w.past j).card ≡ mapped q a = (line i p j q e l nz).0 (not-held (tree i).branches (via w a i) p l refl nz) in
      (mapped-route (w.past j) (U j) a l q m, mapped-lookup (w.past j) (U j) a l q m)

  -- a box that leads on has a branch where its route leads
  parent : (j q i p : ℕ) → far j q ≡ box i p → via w a j ≡ q → leads_on (via w a j) (tree j) ≡ true → (p ≡ via w a i → ⊥) → is_branch (get_or (open-branches i) p 0) ≡ true
  unfolding not_held via branch
  parent j q i p e v on d =
      let m : use_of (tree j).label (w.past j).card ≡ mapped q a = leads-mapped (w.past j) (U j) a (rw v (W.near j q i p e)) on ∙ ap (λ (n : ℕ). mapped n a) v in
      let nz : (tree j).label ≡ 0 → ⊥ = λ z. no-use (sym m ∙ ap (λ (n : ℕ). use_of n (w.past j).card) z ∙ (U j).sound.linked.zero-free) in
      let here : get_or (open-branches i) p 0 ≡ (tree j).label = get_or-set_other (tree i).branches (via w a i) p 0 0 d ∙ (line i p j q (W.back j q i p e) (tree j).label nz).1 m in
      rw here (label-branch (tree j).label nz)
    where
      no-use : mapped q a ≡ free → ⊥
      no-use z = let z' : ◌≡◌ {A = ℕ} 0 1 = cc in omega arith

  -- ---- a packet at one box, and then at the next ones

  abbrev Reached : ℕ → ℕ → ℕ → ℕ → Type 0
  Reached n k i x = count (eqb k) (reaches far w n i (feed i)) ≡ x

  abbrev Unjoined : ℕ → ℕ → Type 0
  Unjoined k i = joined w a k ≡ true → Way far w a k i → ⊥

  -- what is counted at box i itself
  own-none : (k i : ℕ) → (joined w a i ≡ true → k ≡ i → ⊥) → count (eqb k) (pick (tree i).leaf (i ∷ []) []) ≡ 0
  unfolding count joined
  own-none k i h =
      by-test (tree i).leaf
      (λ e. rw e (by-test (eqb k i) (λ f. absurd (h e (eqb-true k i f))) (λ f. rw f refl)))
      (λ e. rw e refl)

  own-one : (k : ℕ) → joined w a k ≡ true → count (eqb k) (pick (tree k).leaf (k ∷ []) []) ≡ 1
  unfolding count joined
  own-one k e = rw (e, eq-eqb k k refl) refl

  -- what comes over one line, where nothing is counted behind it
  line-none : (n k i p : ℕ) → ((j q : ℕ) → far i p ≡ box j q → via w a j ≡ q → Reached n k j 0) → is_branch (get_or (open-branches i) p 0) ≡ true → count (eqb k) (onward w (reaches far w n) (far i p) (get_or (open-branches i) p 0)) ≡ 0
  line-none n k i p h b = at (far i p) refl
    where
      at : (f : Far) → far i p ≡ f → count (eqb k) (onward w (reaches far w n) f (get_or (open-branches i) p 0)) ≡ 0
      at nobody e = unfold onward count in refl
      at (box j q) e = let c = child i p j q e b in unfold onward in (rw c.1 (h j q e c.0))

  line-one : (n k i p j q : ℕ) → far i p ≡ box j q → Reached n k j 1 → is_branch (get_or (open-branches i) p 0) ≡ true → count (eqb k) (onward w (reaches far w n) (far i p) (get_or (open-branches i) p 0)) ≡ 1
  unfolding onward
  line-one n k i p j q e h b = rw e (rw (child i p j q e b).1 h)

  both-counted : (n k i x y z : ℕ) → count (eqb k) (pick (tree i).leaf (i ∷ []) []) ≡ x → count (eqb k) (along far w (reaches far w n) i (branches_from 0 (open-branches i))) ≡ y → x + y ≡ z → Reached (suc n) k i z
  unfolding reaches feed_of
  both-counted n k i x y z e f h = count-append (eqb k) (pick (tree i).leaf (i ∷ []) []) _ ∙ omega arith

  -- ---- nobody else

  none-step : (n k i : ℕ) → ((j : ℕ) → Unjoined k j → Reached n k j 0) → Unjoined k i → Reached (suc n) k i 0
  none-step n k i next h =
      both-counted n k i 0 0 0 (own-none k i (λ e f. h (rw f e) (rw f here)))
      (along-zero far w (reaches far w n) i (eqb k) 0 (open-branches i) (λ x lt b. ap (λ (p : ℕ). count (eqb k) (onward w (reaches far w n) (far i p) (get_or (open-branches i) x 0))) (omega arith) ∙ line-none n k i x (λ j q e v. next j (λ l g. h l (up q x g (W.back i x j q e) v))) b))
      refl

  none : (n k i : ℕ) → Unjoined k i → Reached n k i 0
  none zero k i h = unfold reaches count in refl
  none (suc n) k i h = none-step n k i (none n k) h

  -- ---- each once

  module _ (rank : ℕ → ℕ) (C : Climbs far w a rank) where
    -- a box's route does not lead back
    not_back : (j q i p : ℕ) → far j q ≡ box i p → via w a j ≡ q → p ≡ via w a i → ⊥
    not_back j q i p e v z = let there = C j q i p e v in let back = C i p j q (W.back j q i p e) (sym z) in omega arith

    leads : {k i : ℕ} → joined w a k ≡ true → Way far w a k i → leads_on (via w a i) (tree i) ≡ true
    leads {k} l here = leaf-leads (via w a k) (tree k) (unfold joined in l)
    leads {k} l (up {j = j} {i = i} q p g e v) = branch_leads (via w a i) (tree i) (any_at (open-branches i) p (parent j q i p e v (leads l g) (not_back j q i p e v)))

    many : (i : ℕ) → length (open-branches i) ≡ 16
    unfolding not_held
    many i = length-set (tree i).branches (via w a i) 0 ∙ tree-sized a (w.past i).card (U i).sound.tidy

    shift : (n k i x : ℕ) → count (eqb k) (onward w (reaches far w n) (far i (0 + x)) (get_or (open-branches i) x 0)) ≡ count (eqb k) (onward w (reaches far w n) (far i x) (get_or (open-branches i) x 0))
    shift n k i x = ap (λ (p : ℕ). count (eqb k) (onward w (reaches far w n) (far i p) (get_or (open-branches i) x 0))) (omega arith)

    one-step : {k i : ℕ} (n : ℕ) → joined w a k ≡ true → ((j : ℕ) → Way far w a k j → rank k < n + rank j → Reached n k j 1) → Way far w a k i → rank k < suc n + rank i → Reached (suc n) k i 1
    one-step {k} n l next here lt =
        both-counted n k k 1 0 1 (own-one k l)
        (along-zero far w (reaches far w n) k (eqb k) 0 (open-branches k) (λ x h b. shift n k k x ∙ line-none n k k x
        (λ j q e v. none n k j (λ _ g. let low = rank_up far w a rank C g in let high = C j q k x (W.back k x j q e) v in omega arith)) b))
        refl
    one-step {k} n l next (up {j = j} {i = i} q p g e v) lt =
        let high : rank i < rank j = C j q i p e v in
        let low : rank j ≤ rank k = rank_up far w a rank C g in
        let b : far i p ≡ box j q = W.back j q i p e in
        both-counted n k i 0 1 1 (own-none k i (λ _ f. let same_rank : rank k ≡ rank i = ap rank f in omega arith))
        (along_one far w (reaches far w n) i (eqb k) 0 (open-branches i) p (rw (many i) (W.near i p j q b)) (parent j q i p e v (leads l g) (not_back j q i p e v))
        (shift n k i p ∙ line-one n k i p j q b (next j g (omega arith)) (parent j q i p e v (leads l g) (not_back j q i p e v)))
        (λ y h d c. shift n k i y ∙ line-none n k i y (λ m r f u. none n k m (λ _ o. d (sym (one-door far w a rank C j m q r p y i g o e v (W.back i y m r f) u)))) c))
        refl

    one : (n k i : ℕ) → joined w a k ≡ true → Way far w a k i → rank k < n + rank i → Reached n k i 1
    one zero k i l g lt = absurd (let low = rank_up far w a rank C g in omega arith)
    one (suc n) k i l g lt = one-step n l (λ j o h. one n k j l o h) g lt

  whole : element_refusal a ≡ 0 → (n i : ℕ) → fed far w n i a ≡ reaches far w n i (feed i)
  unfolding fed via
  whole good n i = ap (reaches far w n i) (name-lookup (w.past i) (U i) a good)

-- of any net whose lines and boxes are so
pub whole-net : (far : Wires) → Wired far → (w : Net) → AllBound far w → ((i : ℕ) → Upheld (w.past i)) → Whole far w
whole-net far W w A U Q a good rank C n i k lt = (
  (λ l g. rw (whole far W w A Q U a good n i) (one far W w A Q U a rank C n k i l g lt)),
  (λ h. rw (whole far W w A Q U a good n i) (none far W w A Q U a n k i h)),
)

-- THE WHOLE TREE
pub whole-tree : WholeTree
whole-tree far W base ts = whole-net far W (turns far (laid base) ts) (turns-bound far W (laid base) (laid-bound far W base) ts) (turns-upheld far (laid base) ts (λ i. unfold laid in started (base i)))
