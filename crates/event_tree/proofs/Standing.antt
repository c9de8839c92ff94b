-- A tree that stands becomes another, by the cases of the code. Assumes nothing.
use Prim.Native.Nat.{ℕ, ◌+◌, ◌≤◌, ◌<◌}
use native.Mathlib.Omega.{arith}
use mathlib.Core.Path.{◌≡◌, refl, sym, ap, ap₂, ◌∙◌, subst}
use mathlib.Core.Bool.{Bool, true, false, not, ◌&&◌}
use mathlib.Core.List.{List, [], ◌++◌}
use lib.ListN.{length, set, length-set, length-append}
use lib.Seq.{get_or-set_same}
use lib.Dec.{eqb, leb, ltb}
use borrow.Author.Tests.{lt-ltb, ltb-true, ltb-false}
use Rattle.meaning.specs.Octets.{pick, cut, ◌when◌else◌}
use Rattle.meaning.specs.Lists.{by-test}
use Rattle.meaning.specs.Wire.{Sent, records, ids_after}
use Rattle.meaning.specs.Card.{Tree, Card, with_routes, with_trees, with_branch, bare, tree_place, tree_of, tree_at, stands, is_empty, mapped_to, use_of, held_for, free_labels, tree_limit}
use Rattle.meaning.specs.Events.{taken, unless, finish, relabel, need_move, need, labels_short, recounted, holder_of, entered, swept, trees_full, tree_refusal, enter, become}
use Rattle.meaning.specs.Calls.{Does}
use Rattle.octets.proofs.Tab.{put_in}
use Rattle.event_holder.specs.Move.{move_size, relabel_size}
use Rattle.event_move.proofs.Records.{records-append}
use Rattle.event_move.proofs.Alike.{relabel-stays, alike-empty}
use Rattle.event_move.proofs.Sizes.{relabel-size}
use Rattle.memory.specs.Memory.{card_of, tree_count}
use Rattle.event_tree.specs.End.{Ended, then_cut}
use Rattle.event_tree.proofs.Found.{found-tree, enter-is, count-is}
use Rattle.event_tree.proofs.Ends.{does-refused, does-short, does-ended}
use Rattle.event_tree.proofs.Tests.{when-first, when-second, when-none}

-- the tree at place i is t, and is counted so
abbrev pub counting : Card → Tree → ℕ → Card
counting c t i = recounted (tree_at i c) t (with_trees (set c.trees i t) c)

entered-in : (c : Card) (t : Tree) (i : ℕ) → i ≡ tree_place t.name c → i < length c.trees → recounted (tree_of t.name c) t (entered c t) ≡ counting c t i
entered-in c t i ei h = ap₂ (λ (x : Tree) (d : Card). recounted x t d) (found-tree c t.name i ei h) (unfold entered in rw (← ei) (ap (λ (l : List Tree). with_trees l c) (put_in c.trees i t h)))

pub stands-in : (c : Card) (t : Tree) (i : ℕ) → i ≡ tree_place t.name c → i < length c.trees → trees_full c t ≡ false
unfolding trees_full stands
stands-in c t i ei h = rw (← ei, lt-ltb i (length c.trees) h) (never (is_empty t) (leb tree_limit (length c.trees)))
  where
    never : (x y : Bool) → not x && false && y ≡ false
    never true y = refl
    never false y = refl

pub need-same : (c : Card) (t s : Tree) (u : ℕ) → t.label ≡ s.label → need c t u ≡ need c s u
unfolding need held_for
need-same c t s u e = ap (λ (l : ℕ). pick (eqb (mapped_to (use_of l c)) u) 0 (need_move u)) e

pub become-standing : (c : Card) (first : List Sent) (t : Tree) (i u : ℕ) → i ≡ tree_place t.name c → i < length c.trees → t.label ≡ (tree_at i c).label → u ≡ holder_of c t
    → become c first t
    ≡ unless (12 when labels_short c (need c (tree_at i c) u) else 0)
    (taken (first ++ (relabel i u (counting c t i)).sent) (swept i (relabel i u (counting c t i)).card))
unfolding become tree_refusal ◌when◌else◌
become-standing c first t i u ei h el eu =
    ap₂ (λ (b : Bool) (n : ℕ). unless (11 when b else 12 when labels_short c n else 0) (enter c first t)) (stands-in c t i ei h) (rw (← eu) (need-same c t (tree_at i c) u el))
    ∙ ap (unless (12 when labels_short c (need c (tree_at i c) u) else 0)) (enter-is c _ first t i u ei eu (entered-in c t i ei h))

-- an empty tree goes
pub swept-is : (c : Card) (t : Tree) (i u : ℕ) → i < length c.trees → tree_at i c ≡ t
    → swept i (relabel i u c).card ≡ pick (is_empty t) (with_trees (cut (relabel i u c).card.trees i) (relabel i u c).card) (relabel i u c).card
unfolding swept
swept-is c t i u h e = rw (alike-empty _ _ (relabel-stays i u c h).tree, e) refl

pub set_at : (c : Card) (t : Tree) (i : ℕ) → i < length c.trees → tree_at i (counting c t i) ≡ t
unfolding tree_at with_trees recounted with_routes
set_at c t i h = get_or-set_same c.trees i t (bare []) h

-- ---- a standing tree becomes t

same_size : (c d : Card) (t s : Tree) (u : ℕ) → d.base ≡ c.base → d.labels ≡ c.labels → t.label ≡ s.label → t.name ≡ s.name → relabel_size d t u ≡ relabel_size c s u
unfolding relabel_size move_size held_for use_of
same_size c d t s u eb el e n = rw (eb, el, e, n) refl

same-need : (c d : Card) (t s : Tree) (u : ℕ) → d.base ≡ c.base → d.labels ≡ c.labels → t.label ≡ s.label → need d t u ≡ need c s u
unfolding need held_for use_of
same-need c d t s u eb el e = rw (eb, el, e) refl

-- the tree at place i is to be t, and to hold a label for u
pub record Standing (c : Card) (t : Tree) (i u : ℕ) : Type 0 where
  pub place : i ≡ tree_place t.name c
  pub within : i < length c.trees
  pub label : t.label ≡ (tree_at i c).label
  pub name : t.name ≡ (tree_at i c).name
  pub upstream : u ≡ holder_of c t

module _ (c : Card) (first : List Sent) (t : Tree) (i u : ℕ) (S : Standing c t i u) (s : List ℕ) where
  abbrev changed : Card
  changed = counting c t i

  changed-within : i < length changed.trees
  changed-within = unfold recounted with_routes with_trees in rw (length-set c.trees i t) S.within

  pub changed-size : (id : ℕ) → length (records id (relabel i u changed).sent) ≡ relabel_size c (tree_at i c) u
  changed-size id =
      relabel-size id i u changed changed-within
      ∙ same_size c changed (tree_at i changed) (tree_at i c) u (unfold recounted with_routes with_trees in refl) (unfold recounted with_routes with_trees in refl) (ap (λ (x : Tree). x.label) (set_at c t i S.within) ∙ S.label) (ap (λ (x : Tree). x.name) (set_at c t i S.within) ∙ S.name)

  pub changed-relabel : relabel_size changed (tree_at i changed) u ≡ relabel_size c (tree_at i c) u
  changed-relabel = sym (relabel-size 0 i u changed changed-within) ∙ changed-size 0

  pub changed-need : need changed (tree_at i changed) u ≡ need c (tree_at i c) u
  changed-need = same-need c changed (tree_at i changed) (tree_at i c) u (unfold recounted with_routes with_trees in refl) (unfold recounted with_routes with_trees in refl) (ap (λ (x : Tree). x.label) (set_at c t i S.within) ∙ S.label)

  all-size : (id : ℕ) → length (records id (first ++ (relabel i u changed).sent)) ≡ length (records id first) + relabel_size c (tree_at i c) u
  all-size id = ap length (records-append id first (relabel i u changed).sent) ∙ length-append (records id first) _ ∙ ap (λ (k : ℕ). length (records id first) + k) (changed-size (ids_after id first))

  is-outcome : become c first t ≡ unless (12 when labels_short c (need c (tree_at i c) u) else 0) (taken (first ++ (relabel i u changed).sent) (then_cut (is_empty t) i (relabel i u changed)).card)
  unfolding then_cut
  is-outcome = become-standing c first t i u S.place S.within S.label S.upstream ∙ ap (λ (d : Card). unless (12 when labels_short c (need c (tree_at i c) u) else 0) (taken (first ++ (relabel i u changed).sent) d)) (swept-is changed t i u changed-within (set_at c t i S.within))

  -- an event that writes nothing first
  pub standing-ends : (id : ℕ) (d : Card) (empty : Bool) (s' : List ℕ) (e : Card) (end : ℕ) → id ≡ c.next → d ≡ changed → empty ≡ is_empty t
      → Ended (then_cut empty i (relabel i u d)) id 0 s s' e end → Ended (record { sent = (relabel i u changed).sent; card = (then_cut (is_empty t) i (relabel i u changed)).card }) c.next 0 s s' e end
  unfolding then_cut
  standing-ends id d empty s' e end en ed ee w =
      subst (λ (n : ℕ). Ended (then_cut (is_empty t) i (relabel i u changed)) n 0 s s' e end) en
      (subst (λ (x : Card). Ended (then_cut (is_empty t) i (relabel i u x)) id 0 s s' e end) ed
      (subst (λ (b : Bool). Ended (then_cut b i (relabel i u d)) id 0 s s' e end) ee w))

  pub standing-labels : labels_short c (need c (tree_at i c) u) ≡ true → Does (finish (length s) c (become c first t)) 12 0 s s c
  standing-labels e = rw (is-outcome, e) (unfold ◌when◌else◌ unless in does-refused c 12 s)

  pub standing-room : labels_short c (need c (tree_at i c) u) ≡ false → length s < length (records c.next first) + relabel_size c (tree_at i c) u → Does (finish (length s) c (become c first t)) 16 0 s s c
  standing-room e k = rw (is-outcome, e) (unfold ◌when◌else◌ unless in does-short c _ _ s (rw (all-size c.next) k))

  standing-done : labels_short c (need c (tree_at i c) u) ≡ false → length (records c.next first) + relabel_size c (tree_at i c) u ≤ length s
      → (s' : List ℕ) (e : Card) (end : ℕ) → Ended (record { sent = first ++ (relabel i u changed).sent; card = (then_cut (is_empty t) i (relabel i u changed)).card }) c.next 0 s s' e end
      → Does (finish (length s) c (become c first t)) 0 end s s' e
  standing-done e k s' e' end w = rw (is-outcome, e) (unfold ◌when◌else◌ unless in does-ended c _ _ s s' e' end (rw (all-size c.next) k) w)

  enough-labels : labels_short c (need c (tree_at i c) u) ≡ false → need changed (tree_at i changed) u ≤ free_labels changed
  enough-labels e = rw changed-need (unfold free_labels recounted with_routes with_trees in ltb-false _ _ (unfold labels_short free_labels in e))

  -- by the number that `check_standing` gives
  module _ (size r : ℕ) (es : size ≡ length (records c.next first))
      (er : r ≡ 12 when labels_short c (need c (tree_at i c) u) else 16 when ltb (length s) (size + relabel_size c (tree_at i c) u) else 0) where
    pub standing-refused : (r ≡ 0 → ⊥) → Does (finish (length s) c (become c first t)) r 0 s s c
    standing-refused some =
        by-test (labels_short c (need c (tree_at i c) u))
        (λ e. let q : r ≡ 12 = rw e at er ∙ (unfold ◌when◌else◌ in refl) in rw q (standing-labels e))
        (λ e. by-test (ltb (length s) (size + relabel_size c (tree_at i c) u))
        (λ k. let q : r ≡ 16 = er ∙ sym (when-second 12 16 _ _ e k) in rw q (standing-room e (rw (← es) (ltb-true _ _ k))))
        (λ k. absurd (some (er ∙ sym (when-none 12 16 _ _ e k)))))

    standing-passes : r ≡ 0 → (labels_short c (need c (tree_at i c) u) ≡ false) × (size + relabel_size c (tree_at i c) u ≤ length s)
    standing-passes z =
        by-test (labels_short c (need c (tree_at i c) u))
        (λ e. absurd (omega (arith, er, when-first 12 16 _ (ltb (length s) (size + relabel_size c (tree_at i c) u)) e)))
        (λ e. by-test (ltb (length s) (size + relabel_size c (tree_at i c) u))
        (λ k. absurd (omega (arith, er, when-second 12 16 _ _ e k)))
        (λ k. (e, ltb-false _ _ k)))

    -- room for what goes first
    pub first_fits : r ≡ 0 → size ≤ length s
    first_fits z = let p = standing-passes z in omega (arith, p.1)

    -- what `settle` asks, once the tree is t
    pub settle-ready : r ≡ 0 → (ns os : List ℕ) → card_of ns os ≡ changed
        → (i < tree_count ns) × (need (card_of ns os) (tree_at i (card_of ns os)) u ≤ free_labels (card_of ns os)) × (size + relabel_size (card_of ns os) (tree_at i (card_of ns os)) u ≤ length s)
    settle-ready z ns os e = let p = standing-passes z in (rw (count-is ns os changed e) changed-within, rw e (enough-labels p.0), rw (e, changed-relabel) p.1)

    pub standing-taken : r ≡ 0 → (s' : List ℕ) (e : Card) (end : ℕ)
        → Ended (record { sent = first ++ (relabel i u changed).sent; card = (then_cut (is_empty t) i (relabel i u changed)).card }) c.next 0 s s' e end
        → Does (finish (length s) c (become c first t)) 0 end s s' e
    standing-taken z s' e end w = let p = standing-passes z in standing-done p.0 (rw (← es) p.1) s' e end w

-- ---- one branch of it changes

module _ (c : Card) (i : ℕ) (ei : i ≡ tree_place (tree_at i c).name c) (h : i < length c.trees) (u : ℕ) where
  pub branch-stands : (n l : ℕ) → u ≡ holder_of c (with_branch n l (tree_at i c)) → Standing c (with_branch n l (tree_at i c)) i u
  branch-stands n l eu = record { place = unfold with_branch in ei; within = h; label = unfold with_branch in refl; name = unfold with_branch in refl; upstream = eu }
