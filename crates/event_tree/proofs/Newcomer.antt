-- What becomes of a tree that does not stand, by the cases of the code. Assumes nothing.
use Prim.Native.Nat.{ℕ, ◌+◌, ◌*◌, ◌≤◌, ◌<◌, zero-le}
use native.Mathlib.Omega.{arith}
use mathlib.Core.Path.{◌≡◌, refl, sym, ap, ap₂, ◌∙◌, subst}
use mathlib.Core.Bool.{Bool, true, false}
use mathlib.Core.List.{List, [], ◌∷◌, ◌++◌}
use lib.ListN.{get_or, length, set, length-append}
use lib.Dec.{eqb, leb, ltb}
use borrow.Author.Tests.{eq-eqb, ne_eqb, eqb-true, eqb-false, le-leb, lt-leb, le-ltb, lt-ltb, ltb-true, ltb-false, leb-true, leb-false}
use Rattle.meaning.specs.Octets.{pick, any, count, cut, ◌when◌else◌}
use Rattle.meaning.specs.Lists.{append-nil, by-test, get_d-all}
use Rattle.meaning.specs.Wire.{Sent, records, root_in, record_size}
use Rattle.meaning.specs.Card.{Route, Tree, Card, free, nobody, with_routes, with_trees, bare, tree_place, tree_of, tree_at, stands, is_branch, is_empty, not_held, leads_on, mapped_to, use_of, held_for, free_labels, tree_limit, route_place, route_of}
use Rattle.meaning.specs.Events.{Outcome, taken, unless, finish, Moved, still, followed_by, let_go, take_up, move_label, relabel, need_move, need, labels_short, upstream, holder, recounted, holder_of, entered, swept, trees_full, tree_refusal, enter, become}
use Rattle.meaning_laws.specs.Standing.{not-standing}
use Rattle.meaning_laws.specs.Counts.{recount-still}
use Rattle.meaning.specs.Calls.{Does}
use Rattle.octets.proofs.Tab.{put-end, cut-end}
use Rattle.event_move.proofs.Alike.{take-up-stays, alike-empty}
use Rattle.event_move.proofs.Sizes.{take-up-size}
use Rattle.memory.specs.Memory.{card_of, tree_count}
use Rattle.event_tree.specs.End.{Ended}
use Rattle.event_tree.proofs.Found.{enter-is, count-is}
use Rattle.event_tree.proofs.Ends.{does-refused, does-short, does-ended}
use Rattle.event_tree.proofs.Tests.{when-1, when-2, when-3, when-0}
use Rattle.event_tree.proofs.Upstream.{any-zeros}

pub none-stands : (c : Card) (a : List ℕ) (i : ℕ) → i ≡ tree_place a c → i ≡ length c.trees → tree_of a c ≡ bare a
none-stands c a i ei h = not-standing c a (rw (← ei) (omega arith))

pub bare-branch : (a : List ℕ) (n : ℕ) → get_or (bare a).branches n 0 ≡ 0
unfolding bare
bare-branch a n = get_d-all 16 n 0

-- behind the others stands t, where a tree of that name did not stand, and is counted so
abbrev pub counting : Card → List ℕ → Tree → Card
counting c a t = recounted (bare a) t (with_trees (c.trees ++ (t ∷ [])) c)

entered-new : (c : Card) (t : Tree) (i : ℕ) → i ≡ tree_place t.name c → i ≡ length c.trees → recounted (tree_of t.name c) t (entered c t) ≡ counting c t.name t
entered-new c t i ei h = ap₂ (λ (x : Tree) (d : Card). recounted x t d) (none-stands c t.name i ei h) (unfold entered in rw (← ei) (ap (λ (l : List Tree). with_trees l c) (put-end c.trees i t h)))

zero_held : (c : Card) (t : Tree) → use_of 0 c ≡ free → t.label ≡ 0 → held_for c t ≡ nobody
unfolding held_for mapped_to
zero_held c t z e = ap (λ (l : ℕ). mapped_to (use_of l c)) e ∙ ap mapped_to z

need-none : (c : Card) (t : Tree) (u : ℕ) → use_of 0 c ≡ free → t.label ≡ 0 → need c t u ≡ need_move u
unfolding need need_move
need-none c t u z e =
    rw (zero_held c t z e)
    (by-test (eqb u nobody)
    (λ k. rw (k, eq-eqb nobody u (sym (eqb-true u nobody k))) refl)
    (λ k. rw (k, ne_eqb nobody u (λ q. eqb-false u nobody k (sym q))) refl))

-- a tree with no label has none to give up
pub relabel-none : (i u : ℕ) (c : Card) → use_of 0 c ≡ free → (tree_at i c).label ≡ 0 → relabel i u c ≡ take_up i u c
unfolding relabel move_label let_go take_up followed_by
relabel-none i u c z e =
    rw (zero_held c (tree_at i c) z e, eq-eqb (tree_at i c).label 0 e)
    (by-test (eqb u nobody)
    (λ k. rw (k, eq-eqb nobody u (sym (eqb-true u nobody k))) refl)
    (λ k. rw (k, ne_eqb nobody u (λ q. eqb-false u nobody k (sym q))) (unfold still in refl)))

snoc-at : (l : List Tree) (t d : Tree) → get_or (l ++ (t ∷ [])) (length l) d ≡ t
snoc-at [] t d = refl
snoc-at (x ∷ l) t d = snoc-at l t d

pub new-at : (c : Card) (t : Tree) (i : ℕ) → i ≡ length c.trees → tree_at i (with_trees (c.trees ++ (t ∷ [])) c) ≡ t
unfolding tree_at with_trees
new-at c t i e = rw e (snoc-at c.trees t (bare []))

pub new-within : (c : Card) (t : Tree) (i : ℕ) → i ≡ length c.trees → i < length (counting c t.name t).trees
unfolding recounted with_routes with_trees
new-within c t i e = rw (length-append c.trees (t ∷ [])) (omega arith)

grown-at : (c : Card) (t : Tree) (i : ℕ) → i ≡ length c.trees → tree_at i (counting c t.name t) ≡ t
grown-at c t i e = let same : tree_at i (counting c t.name t) ≡ tree_at i (with_trees (c.trees ++ (t ∷ [])) c) = unfold tree_at recounted with_routes in refl in same ∙ new-at c t i e

module _ (c : Card) (first : List Sent) (t : Tree) (i u : ℕ) (ei : i ≡ tree_place t.name c) (h : i ≡ length c.trees) (z : use_of 0 c ≡ free) (el : t.label ≡ 0) (eu : u ≡ holder_of c t) where
  grown : Card
  grown = counting c t.name t

  grown-zero : use_of 0 grown ≡ free
  unfolding grown use_of recounted with_routes with_trees
  grown-zero = z

  grown-is : enter c first t ≡ taken (first ++ (take_up i u (counting c t.name t)).sent) (swept i (take_up i u (counting c t.name t)).card)
  unfolding grown
  grown-is =
      enter-is c grown first t i u ei eu (entered-new c t i ei h)
      ∙ ap (λ (m : Moved). taken (first ++ m.sent) (swept i m.card)) (relabel-none i u grown grown-zero (ap (λ (s : Tree). s.label) (grown-at c t i h) ∙ el))

  full-new : is_empty t ≡ false → trees_full c t ≡ leb tree_limit (length c.trees)
  unfolding trees_full stands
  full-new e = rw (← ei, e, le-ltb i (length c.trees) (omega arith)) refl

  pub become-new : is_empty t ≡ false
      → become c first t
      ≡ unless (11 when leb tree_limit (length c.trees) else 12 when labels_short c (need_move u) else 0)
      (taken (first ++ (take_up i u (counting c t.name t)).sent) (take_up i u (counting c t.name t)).card)
  unfolding become tree_refusal
  become-new e =
      ap₂ (λ (b : Bool) (n : ℕ). unless (11 when b else 12 when labels_short c n else 0) (enter c first t)) (full-new e) (rw (← eu) (need-none c t u z el))
      ∙ ap (unless (11 when leb tree_limit (length c.trees) else 12 when labels_short c (need_move u) else 0)) (grown-is ∙ ap (λ (d : Card). taken (first ++ (take_up i u (counting c t.name t)).sent) d) kept)
    where
      kept : swept i (take_up i u (counting c t.name t)).card ≡ (take_up i u (counting c t.name t)).card
      kept = unfold swept in rw (alike-empty _ _ (take-up-stays i (counting c t.name t) (new-within c t i h) u).tree, grown-at c t i h, e) refl

bare-holder : (c : Card) (a : List ℕ) → nobody ≡ holder_of c (bare a)
unfolding holder_of holder leads_on not_held bare
bare-holder c a = rw (any-zeros 16 (upstream (route_of (root_in a) c))) refl

-- it becomes nothing: only what goes first is left
pub bare-refusal : (c : Card) (a : List ℕ) → use_of 0 c ≡ free → tree_refusal c (bare a) ≡ 0
bare-refusal c a z = unfold tree_refusal in rw (never-full, no-need) (unfold labels_short ◌when◌else◌ in rw (le-ltb (free_labels c) 0 zero-le) refl)
  where
    no-holder : nobody ≡ holder_of c (bare a)
    no-holder = bare-holder c a

    no-need : need c (bare a) (holder_of c (bare a)) ≡ 0
    no-need = rw (← no-holder) (need-none c (bare a) nobody z (unfold bare in refl) ∙ unfold need_move in refl)

    never-full : trees_full c (bare a) ≡ false
    never-full = unfold trees_full bare is_empty any is_branch in refl

pub become-nothing : (c : Card) (first : List Sent) (a : List ℕ) → tree_place a c ≡ length c.trees → use_of 0 c ≡ free → become c first (bare a) ≡ taken first c
unfolding become unless
become-nothing c first a e z = ap₂ (λ (n : ℕ) (o : Outcome). unless n o) (bare-refusal c a z) entered-swept
  where
    no-holder : nobody ≡ holder_of c (bare a)
    no-holder = bare-holder c a

    still-bare : counting c a (bare a) ≡ with_trees (c.trees ++ (bare a ∷ [])) c
    still-bare = unfold recounted with_routes in ap (λ (rs : List Route). with_routes rs (with_trees (c.trees ++ (bare a ∷ [])) c)) (recount-still (bare a) (bare a) _ refl refl)

    gone : pick (is_empty (bare a)) (with_trees (cut (with_trees (c.trees ++ (bare a ∷ [])) c).trees (tree_place a c)) (with_trees (c.trees ++ (bare a ∷ [])) c)) (with_trees (c.trees ++ (bare a ∷ [])) c) ≡ c
    gone = unfold is_empty bare any is_branch with_trees in ap (λ (l : List Tree). with_trees l c) (cut-end c.trees (bare a) (tree_place a c) e)

    shrunk : swept (tree_place a c) (with_trees (c.trees ++ (bare a ∷ [])) c) ≡ c
    shrunk = unfold swept in rw (new-at c (bare a) (tree_place a c) e) gone

    same_name : counting c (bare a).name (bare a) ≡ with_trees (c.trees ++ (bare a ∷ [])) c
    same_name = let its : (bare a).name ≡ a = unfold bare in refl in ap (λ (x : List ℕ). counting c x (bare a)) its ∙ still-bare

    entered-swept : enter c first (bare a) ≡ taken first c
    entered-swept =
        grown-is c first (bare a) (tree_place a c) nobody (unfold bare in refl) e z (unfold bare in refl) no-holder
        ∙ unfold take_up still in ap₂ taken (append-nil first) (ap (swept (tree_place a c)) same_name ∙ shrunk)

-- ---- a new tree t, which is not empty

module _ (c : Card) (t : Tree) (i u : ℕ) (ei : i ≡ tree_place t.name c) (h : i ≡ length c.trees) (z : use_of 0 c ≡ free) (el : t.label ≡ 0) (eu : u ≡ holder_of c t) (full : is_empty t ≡ false) (s : List ℕ) where
  abbrev larger : Card
  larger = counting c t.name t

  pub larger-size : (id : ℕ) → length (records id (take_up i u larger).sent) ≡ need_move u * record_size t.name
  larger-size id = take-up-size id i larger u ∙ rw (grown-at c t i h) refl

  pub new-full : tree_limit ≤ length c.trees → Does (finish (length s) c (become c [] t)) 11 0 s s c
  new-full k = rw (become-new c [] t i u ei h z el eu full, le-leb tree_limit (length c.trees) k) (unfold ◌when◌else◌ unless in does-refused c 11 s)

  pub new-labels : length c.trees < tree_limit → free_labels c < need_move u → Does (finish (length s) c (become c [] t)) 12 0 s s c
  new-labels k l = rw (become-new c [] t i u ei h z el eu full, lt-leb tree_limit (length c.trees) k) (unfold ◌when◌else◌ labels_short in rw (lt-ltb (free_labels c) (need_move u) l) (unfold unless in does-refused c 12 s))

  taken-new : length c.trees < tree_limit → need_move u ≤ free_labels c → become c [] t ≡ taken (take_up i u larger).sent (take_up i u larger).card
  taken-new k l =
      become-new c [] t i u ei h z el eu full
      ∙ no-refusal (leb tree_limit (length c.trees)) (labels_short c (need_move u)) (lt-leb tree_limit (length c.trees) k) (unfold labels_short in le-ltb (free_labels c) (need_move u) l) _
    where
      no-refusal : (x y : Bool) → x ≡ false → y ≡ false → (o : Outcome) → unless (11 when x else 12 when y else 0) o ≡ o
      no-refusal x y p q o = rw (p, q) (unfold ◌when◌else◌ unless in refl)

  pub new-room : length c.trees < tree_limit → need_move u ≤ free_labels c → length s < need_move u * record_size t.name → Does (finish (length s) c (become c [] t)) 16 0 s s c
  new-room k l m = rw (taken-new k l) (does-short c _ _ s (rw (larger-size c.next) m))

  pub new-done : length c.trees < tree_limit → need_move u ≤ free_labels c → need_move u * record_size t.name ≤ length s
      → (s' : List ℕ) (e : Card) (end : ℕ) → Ended (take_up i u larger) c.next 0 s s' e end → Does (finish (length s) c (become c [] t)) 0 end s s' e
  new-done k l m s' e end w = rw (taken-new k l) (does-ended c _ _ s s' e end (rw (larger-size c.next) m) w)

-- ---- a new tree, by the number that `check_new` gives

-- how the code tests them
module _ (c : Card) (u size room n : ℕ) (e : n ≡ length c.trees) where
  abbrev new_number : ℕ
  new_number = 11 when leb tree_limit (length c.trees) else 12 when ltb (free_labels c) (need_move u) else 16 when ltb room (need_move u * size) else 0

  pub many-trees : tree_limit ≤ n → 11 ≡ new_number
  many-trees h = sym (when-1 11 12 16 _ (ltb (free_labels c) (need_move u)) (ltb room (need_move u * size)) (le-leb tree_limit (length c.trees) (rw (← e) h)))

  pub none_needed : n < tree_limit → u ≡ nobody → 0 ≡ new_number
  none_needed h z =
      let q : need_move u ≡ 0 = unfold need_move in rw (eq-eqb u nobody z) refl in
      sym (when-0 11 12 16 _ _ _ (lt-leb tree_limit (length c.trees) (rw (← e) h)) (le-ltb (free_labels c) (need_move u) (omega arith)) (le-ltb room (need_move u * size) (rw q (omega arith))))

  module _ (h : n < tree_limit) (z : u ≡ nobody → ⊥) where
    one-needed : need_move u ≡ 1
    unfolding need_move
    one-needed = rw (ne_eqb u nobody z) refl

    few-trees : leb tree_limit (length c.trees) ≡ false
    few-trees = lt-leb tree_limit (length c.trees) (rw (← e) h)

    pub none_free : labels_short c 1 ≡ true → 12 ≡ new_number
    unfolding labels_short
    none_free k = sym (when-2 11 12 16 _ _ (ltb room (need_move u * size)) few-trees (rw one-needed k))

    module _ (k : labels_short c 1 ≡ false) where
      some-free : ltb (free_labels c) (need_move u) ≡ false
      unfolding labels_short
      some-free = rw one-needed k

      pub no_room : room < size → 16 ≡ new_number
      no_room l = sym (when-3 11 12 16 _ _ _ few-trees some-free (lt-ltb room (need_move u * size) (rw one-needed (omega arith))))

      pub all-fits : size ≤ room → 0 ≡ new_number
      all-fits l = sym (when-0 11 12 16 _ _ _ few-trees some-free (le-ltb room (need_move u * size) (rw one-needed (omega arith))))

-- a new tree t is to hold a label for u
pub record Newcomer (c : Card) (t : Tree) (a : List ℕ) (i u : ℕ) : Type 0 where
  pub name : t.name ≡ a
  pub place : i ≡ tree_place t.name c
  pub last : i ≡ length c.trees
  pub zero : use_of 0 c ≡ free
  pub label : t.label ≡ 0
  pub upstream : u ≡ holder_of c t
  pub full : is_empty t ≡ false

module _ (c : Card) (t : Tree) (a : List ℕ) (i u : ℕ) (N : Newcomer c t a i u) (s : List ℕ) (size r : ℕ) (es : size ≡ record_size a)
    (er : r ≡ 11 when leb tree_limit (length c.trees) else 12 when ltb (free_labels c) (need_move u) else 16 when ltb (length s) (need_move u * size) else 0) where
  sized : size ≡ record_size t.name
  sized = es ∙ ap (λ (l : List ℕ). record_size l) (sym N.name)

  pub new-refused : (r ≡ 0 → ⊥) → Does (finish (length s) c (become c [] t)) r 0 s s c
  new-refused some =
      by-test (leb tree_limit (length c.trees))
      (λ x. rw (er ∙ when-1 11 12 16 _ _ _ x) (new-full c t i u N.place N.last N.zero N.label N.upstream N.full s (leb-true _ _ x)))
      (λ x. by-test (ltb (free_labels c) (need_move u))
      (λ y. rw (er ∙ when-2 11 12 16 _ _ _ x y) (new-labels c t i u N.place N.last N.zero N.label N.upstream N.full s (leb-false _ _ x) (ltb-true _ _ y)))
      (λ y. by-test (ltb (length s) (need_move u * size))
      (λ z. rw (er ∙ when-3 11 12 16 _ _ _ x y z) (new-room c t i u N.place N.last N.zero N.label N.upstream N.full s (leb-false _ _ x) (ltb-false _ _ y) (rw sized at (ltb-true (length s) (need_move u * size) z))))
      (λ z. absurd (some (er ∙ when-0 11 12 16 _ _ _ x y z)))))

  pub new-passes : r ≡ 0 → (length c.trees < tree_limit) × (need_move u ≤ free_labels c) × (need_move u * size ≤ length s)
  new-passes q =
      by-test (leb tree_limit (length c.trees))
      (λ x. absurd (omega (arith, er, when-1 11 12 16 _ (ltb (free_labels c) (need_move u)) (ltb (length s) (need_move u * size)) x)))
      (λ x. by-test (ltb (free_labels c) (need_move u))
      (λ y. absurd (omega (arith, er, when-2 11 12 16 _ _ (ltb (length s) (need_move u * size)) x y)))
      (λ y. by-test (ltb (length s) (need_move u * size))
      (λ z. absurd (omega (arith, er, when-3 11 12 16 _ _ _ x y z)))
      (λ z. (leb-false _ _ x, ltb-false _ _ y, ltb-false _ _ z))))

  -- what `grow` asks, and what it does
  pub few-trees-stand : r ≡ 0 → length c.trees < tree_limit
  few-trees-stand q = (new-passes q).0

  pub grow-ready : r ≡ 0 → (id : ℕ) (ns os : List ℕ) → card_of ns os ≡ counting c a t
      → (i < tree_count ns) × (need_move u ≤ free_labels (card_of ns os)) × (length (records id (take_up i u (card_of ns os)).sent) ≤ length s)
  grow-ready q id ns os e' =
      let p = new-passes q in
      let e : card_of ns os ≡ counting c t.name t = e' ∙ ap (λ (x : List ℕ). counting c x t) (sym N.name) in
      (rw (count-is ns os _ e) (new-within c t i N.last), rw e (unfold free_labels recounted with_routes with_trees in p.1), rw (e, larger-size c t i u N.place N.last N.zero N.label N.upstream N.full s id) (rw sized at p.2))

  pub grown-done : r ≡ 0 → (id : ℕ) (d : Card) (s' : List ℕ) (e : Card) (end : ℕ) → id ≡ c.next → d ≡ counting c a t
      → Ended (take_up i u d) id 0 s s' e end → Does (finish (length s) c (become c [] t)) 0 end s s' e
  grown-done q id d s' e end en ed' w =
      let p = new-passes q in
      let ed : d ≡ counting c t.name t = ed' ∙ ap (λ (x : List ℕ). counting c x t) (sym N.name) in
      new-done c t i u N.place N.last N.zero N.label N.upstream N.full s p.0 p.1 (rw sized at p.2) s' e end
      (subst (λ (n : ℕ). Ended (take_up i u (counting c t.name t)) n 0 s s' e end) en (subst (λ (x : Card). Ended (take_up i u x) id 0 s s' e end) ed w))

-- the tree that was entered bare gets its branch, or its leaf
set_snoc : (l : List Tree) (x y : Tree) → set (l ++ (x ∷ [])) (length l) y ≡ l ++ (y ∷ [])
set_snoc [] x y = refl
set_snoc (z ∷ l) x y = ap (λ (k : List Tree). z ∷ k) (set_snoc l x y)

pub entered-changed : (c d : Card) (a : List ℕ) (i : ℕ) (f : Tree → Tree) → i ≡ length c.trees → d ≡ with_trees (c.trees ++ (bare a ∷ [])) c
    → recounted (tree_at i d) (f (tree_at i d)) (with_trees (set d.trees i (f (tree_at i d))) d) ≡ counting c a (f (bare a))
entered-changed c d a i f h e =
    rw (e, new-at c (bare a) i h)
    (ap (recounted (bare a) (f (bare a))) (unfold with_trees in ap (λ (l : List Tree). with_trees l c) (rw h (set_snoc c.trees (bare a) (f (bare a))))))

-- the place of its root is that of a tree of its name
pub new-place : (c d : Card) (a : List ℕ) (i k : ℕ) → i ≡ length c.trees → d ≡ with_trees (c.trees ++ (bare a ∷ [])) c → k ≡ route_place (root_in a) c → k ≡ route_place (root_in (tree_at i d).name) d
new-place c d a i k h e q =
    let its-name : (bare a).name ≡ a = unfold bare in refl in
    let name : (tree_at i d).name ≡ a = ap (λ (x : Card). (tree_at i x).name) e ∙ ap (λ (t : Tree). t.name) (new-at c (bare a) i h) ∙ its-name in
    let same : route_place (root_in a) (with_trees (c.trees ++ (bare a ∷ [])) c) ≡ route_place (root_in a) c = unfold with_trees route_place in refl in
    rw name (q ∙ sym (ap (route_place (root_in a)) e ∙ same))

-- it has neither leaf nor branch
pub new-bare : (c d : Card) (a : List ℕ) (i : ℕ) → i ≡ length c.trees → d ≡ with_trees (c.trees ++ (bare a ∷ [])) c → ((tree_at i d).leaf ≡ false) × (count is_branch (tree_at i d).branches ≡ 0)
new-bare c d a i h e = rw (e, new-at c (bare a) i h) (unfold bare count is_branch in (refl, refl))

pub snoc-length : (c : Card) (a : List ℕ) → length (with_trees (c.trees ++ (bare a ∷ [])) c).trees ≡ length c.trees + 1
unfolding with_trees
snoc-length c a = length-append c.trees (bare a ∷ [])
