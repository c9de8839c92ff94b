-- The laws by which a Withdraw and a Release follow the definitions. Assumes nothing.
use Prim.Native.Nat.{ℕ, zero, suc, ◌+◌, ◌≤◌, ◌<◌, zero-le}
use native.Mathlib.Nat.{zero-add}
use native.Mathlib.Omega.{arith}
use mathlib.Core.Path.{◌≡◌, refl, sym, ap, ◌∙◌, subst}
use mathlib.Core.Bool.{Bool, true, false, not, and-false, and-true}
use mathlib.Core.List.{List, [], ◌∷◌, ◌++◌}
use lib.ListN.{get_or, length, set, length-set}
use lib.Seq.{set_out}
use lib.Dec.{eqb}
use borrow.Author.Tests.{eq-eqb, ne_eqb}
use Rattle.meaning.specs.Octets.{pick, any, ◌when◌else◌}
use Rattle.meaning.specs.Lists.{by-test}
use Rattle.meaning.specs.Wire.{Sent, record_of, next_id, records, ids_after, release, record_size}
use Rattle.meaning.specs.Card.{Tree, Card, free, with_next, with_labels, with_branch, bare, tree_place, tree_at, is_branch, is_empty, is_awaiting, use_of, neighbour_count}
use Rattle.meaning.specs.Events.{taken, unless, finish, Moved, followed_by, tell, set_use, relabel, become, branch, less_branch, on_withdraw, on_release, not_awaited}
use Rattle.meaning.specs.Calls.{Does}
use Rattle.octets.specs.Part.{mid}
use Rattle.octets.proofs.Parts.{mid_none, mid-length}
use Rattle.event_holder.specs.Move.{Wrote}
use Rattle.event_move.proofs.Records.{records-one, wrote_one}
use Rattle.event_tree.specs.End.{Ended, then_cut}
use Rattle.event_tree.proofs.Found.{found-tree}
use Rattle.event_tree.proofs.Ends.{does-refused, does-short, does-taken, ended-then, does-ended}
use Rattle.event_tree.proofs.Newcomer.{none-stands, bare-branch, become-nothing}
use Rattle.event_tree.proofs.Standing.{counting, Standing}
use Rattle.meaning_laws.specs.Losses.{record-size}

module _ (c : Card) (a : List ℕ) (i : ℕ) (ei : i ≡ tree_place a c) where
  module _ (h : i < length c.trees) where
    pub withdraw-standing : (n l : ℕ) → become c (tell n release a l ∷ []) (less_branch n l (tree_at i c)) ≡ on_withdraw c n a l
    unfolding on_withdraw
    withdraw-standing n l = rw (found-tree c a i ei h) refl

  module _ (h : i ≡ length c.trees) where
    pub withdraw-unknown : use_of 0 c ≡ free → (n l : ℕ) → 0 < l → taken (tell n release a l ∷ []) c ≡ on_withdraw c n a l
    unfolding on_withdraw less_branch branch
    withdraw-unknown z n l k = rw (none-stands c a i ei h, untouched) (sym (become-nothing c (tell n release a l ∷ []) a (sym ei ∙ h) z))
      where
        untouched : eqb (get_or (bare a).branches n 0) l ≡ false
        untouched = ne_eqb (get_or (bare a).branches n 0) l (λ e. omega (arith, bare-branch a n))

-- what a Withdraw leaves: the branch that stands is set to what is left of it
pub less-is : (n l : ℕ) (t : Tree) → with_branch n (pick (eqb (branch t n) l) 0 (branch t n)) t ≡ less_branch n l t
unfolding less_branch
less-is n l t =
    by-test (eqb (branch t n) l)
    (λ e. rw e refl)
    (λ e. rw e (unfold with_branch branch in ap (λ (bs : List ℕ). record { name = t.name; branches = bs; leaf = t.leaf; label = t.label }) (set_same t.branches n)))
  where
    set_same : (bs : List ℕ) (n : ℕ) → set bs n (get_or bs n 0) ≡ bs
    set_same [] n = refl
    set_same (b ∷ bs) zero = refl
    set_same (b ∷ bs) (suc n) = ap (λ (l : List ℕ). b ∷ l) (set_same bs n)

module _ (t : Tree) (n l b : ℕ) (e : b ≡ get_or t.branches n 0) where
  is-branch : b ≡ branch t n
  unfolding branch
  is-branch = e

  pub less-gone : b ≡ l → with_branch n 0 t ≡ less_branch n l t
  less-gone p = ap (λ (x : Bool). with_branch n (pick x 0 (branch t n)) t) (sym (eq-eqb (branch t n) l (sym is-branch ∙ p))) ∙ less-is n l t

  pub less-kept : (b ≡ l → ⊥) → with_branch n b t ≡ less_branch n l t
  less-kept p =
      ap (λ (x : ℕ). with_branch n x t) is-branch
      ∙ ap (λ (x : Bool). with_branch n (pick x 0 (branch t n)) t) (sym (ne_eqb (branch t n) l (λ q. p (is-branch ∙ q))))
      ∙ less-is n l t

module _ (t : Tree) (n : ℕ) where
  pub leaf-left : (l : ℕ) → t.leaf ≡ true → false ≡ is_empty (with_branch n l t)
  unfolding is_empty with_branch
  leaf-left l e = rw e (sym (and-false (not (any is_branch (set t.branches n l)))))

  pub none_left : (x : Bool) (l : ℕ) → length t.branches ≡ neighbour_count → x ≡ any is_branch (set (set t.branches n l) 16 0) → t.leaf ≡ false → not x ≡ is_empty (with_branch n l t)
  unfolding is_empty with_branch
  none_left x l h e k =
      let past : set (set t.branches n l) 16 0 ≡ set t.branches n l = set_out (set t.branches n l) 16 0 (omega (arith, length-set t.branches n l)) in
      rw (k, e, past) (sym (and-true (not (any is_branch (set t.branches n l)))))

-- ---- a Release

pub release-taken : (c c' : Card) (n : ℕ) (a : List ℕ) (l : ℕ) (s : List ℕ) → is_awaiting n a (use_of l c) ≡ true → c' ≡ set_use l free c → Does (finish (length s) c (on_release c n a l)) 0 0 s s c'
unfolding on_release not_awaited
release-taken c c' n a l s e q =
    rw e (unfold ◌when◌else◌ unless in does-ended c (set_use l free c) [] s s c' 0 (unfold records in zero-le)
    (record { leaves = q ∙ unfold ids_after with_next set_use with_labels in refl; writes = unfold records in mid_none 0 s; ends = unfold records in refl }))

pub release-none : (c : Card) (n : ℕ) (a : List ℕ) (l : ℕ) (s : List ℕ) → is_awaiting n a (use_of l c) ≡ false → Does (finish (length s) c (on_release c n a l)) 13 0 s s c
unfolding on_release not_awaited
release-none c n a l s e = rw e (unfold ◌when◌else◌ unless in does-refused c 13 s)

-- ---- a Withdraw: the Release goes first

module _ (c : Card) (t : Tree) (i u n l : ℕ) (S : Standing c t i u) (s : List ℕ) where
  abbrev answer-release : List Sent
  answer-release = tell n release (tree_at i c).name l ∷ []

  pub release-size : record_size (tree_at i c).name ≡ length (records c.next answer-release)
  release-size = sym (ap length (records-one c.next _) ∙ record-size c.next _)

  -- the Release, and then the tree's own end
  pub withdraw-ends : (id id₁ at : ℕ) (s₁ s₂ : List ℕ) (d e : Card) (empty : Bool) (end : ℕ) → id ≡ c.next → record_size (tree_at i c).name ≤ length s
      → id₁ ≡ next_id id → s₁ ≡ mid 0 (record_size (tree_at i c).name) s (record_of id (tell n release (tree_at i c).name l)) → at ≡ record_size (tree_at i c).name
      → d ≡ counting c t i → empty ≡ is_empty t
      → Ended (then_cut empty i (relabel i u d)) id₁ at s₁ s₂ e end
      → Ended (record { sent = answer-release ++ (relabel i u (counting c t i)).sent; card = (then_cut (is_empty t) i (relabel i u (counting c t i))).card }) c.next 0 s s₂ e end
  unfolding followed_by then_cut
  withdraw-ends id id₁ at s₁ s₂ d e empty end en fits en₁ es ea ed ee w =
      subst (λ (k : ℕ). Ended (followed_by sent-first (λ (x : Card). then_cut (is_empty t) i (relabel i u x))) k 0 s s₂ e end) en
      (ended-then sent-first (λ (x : Card). then_cut (is_empty t) i (relabel i u x)) id 0 s s₁ s₂ (counting c t i) e (0 + record_size (tree_at i c).name) id₁ end
      (rw (records-one id (tell n release (tree_at i c).name l), record-size id (tell n release (tree_at i c).name l)) (omega arith))
      (wrote_one (tell n release (tree_at i c).name l) _ id 0 id₁ s s₁ _ refl es en₁)
      (subst (λ (k : ℕ). Ended (then_cut (is_empty t) i (relabel i u (counting c t i))) id₁ k s₁ s₂ e end) (ea ∙ omega arith)
      (subst (λ (x : Card). Ended (then_cut (is_empty t) i (relabel i u x)) id₁ at s₁ s₂ e end) ed
      (subst (λ (b : Bool). Ended (then_cut b i (relabel i u d)) id₁ at s₁ s₂ e end) ee w))))
    where
      sent-first : Moved
      sent-first = record { sent = answer-release; card = counting c t i }

-- for a tree that does not stand
module _ (c : Card) (a : List ℕ) (i n l : ℕ) (ei : i ≡ tree_place a c) (h : i ≡ length c.trees) (z : use_of 0 c ≡ free) (k : 0 < l) (s : List ℕ) where
  unknown-size : length (records c.next (tell n release a l ∷ [])) ≡ record_size a
  unknown-size = ap length (records-one c.next _) ∙ record-size c.next _

  pub unknown-room : length s < record_size a → Does (finish (length s) c (on_withdraw c n a l)) 16 0 s s c
  unknown-room p = rw (← (withdraw-unknown c a i ei h z n l k)) (does-short c c _ s (rw unknown-size p))

  pub unknown-done : record_size a ≤ length s → (id next : ℕ) (s' : List ℕ) (e : Card) → id ≡ c.next → next ≡ next_id id → s' ≡ mid 0 (record_size a) s (record_of id (tell n release a l)) → e ≡ with_next next c
      → Does (finish (length s) c (on_withdraw c n a l)) 0 (record_size a) s s' e
  unknown-done p id next s' e en e₁ es ec =
      rw (← (withdraw-unknown c a i ei h z n l k))
      (does-taken c c _ s s' c (record_size a) next (rw unknown-size p)
      (subst (λ (x : ℕ). Wrote (record { sent = tell n release a l ∷ []; card = c }) x 0 s s' c (record_size a) next) en
      (subst (λ (x : ℕ). Wrote (record { sent = tell n release a l ∷ []; card = c }) id 0 s s' c x next) (zero-add (record_size a))
      (wrote_one (tell n release a l) c id 0 next s s' c refl es e₁))) e ec)

-- a record written at the front leaves the buffer as long as it was
pub sent-length : (s s' a : List ℕ) (id n k l : ℕ) → record_size a ≤ length s → s' ≡ mid 0 (record_size a) s (record_of id (tell n k a l)) → length s' ≡ length s
sent-length s s' a id n k l h e = ap length e ∙ mid-length 0 (record_size a) s (record_of id (tell n k a l)) (omega arith) (record-size id (tell n k a l))
