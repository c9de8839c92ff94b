-- What the tests of one label and of one tree say, and all rules together. Assumes nothing.
use Prim.Native.Nat.{ℕ, ◌+◌, ◌%◌, ◌≤◌, ◌<◌}
use native.Mathlib.Omega.{arith}
use mathlib.Core.Path.{◌≡◌, refl, sym, ap, ◌∙◌}
use mathlib.Core.Bool.{Bool, true, false, not, ◌&&◌, and-true, and-false}
use mathlib.Core.List.{List, []}
use lib.ListN.{length, get_or}
use lib.Dec.{eqb, leb, ltb}
use borrow.Author.Tests.{lt-ltb, le-leb, eq-eqb, ne_eqb, eqb-true, ltb-true, ltb-false}
use Rattle.meaning.specs.Octets.{place, same, all}
use Rattle.meaning.specs.Lists.{by-test, place-finds, place-skips, get_d-out, get_d-same, same-eq, same_refl}
use Rattle.meaning.specs.Card.{Tree, mapped, awaiting, Card, tree_of, tree_place, bare, named, carries, is_free, mapped_to, use_of, label_count, route_limit, tree_limit, neighbour_count, most_base, nobody}
use Rattle.meaning.specs.Events.{base_outside}
use Rattle.meaning_save.specs.Save.{is_name, once_each, is_route, same_root, is_tree, same_name, is_use, is_carried, all_carried, is_mapped_for, carries_own, holds_right, keeps_rows}
use Rattle.memory.specs.Memory.{base_in, next_in, tree_count, is_free_at, is_mapped_at, label_name, label_in, card_of, InBlock}
use Rattle.memory.proofs.Memory.{route_count-le, tree_count-le, base-range, routes-length, trees-length, labels_length}
use Rattle.memory.proofs.Marks.{by-use, mapped-use, label-free, label-mapped}
use Rattle.memory.proofs.Labels.{use-in, use-at, awaited-is}
use Rattle.meaning_laws.specs.SaveRules.{all-at}
use Rattle.save_rules_rows.proofs.RowRules.{place-once}
use Rattle.meaning.specs.Wire.{least_label}

-- ---- one label

module _ (ns os : List ℕ) (p : ℕ) where
  pub use-none : is_free (label_in ns os p) ≡ true → is_use (label_in ns os p) ≡ true
  unfolding is_use is_free
  use-none e =
      by-use ns p os
      (λ k. rw k refl)
      (λ n h k. let z : false ≡ true = rw k at e in cc)
      (λ n k. let z : false ≡ true = rw k at e in cc)

  -- used for a neighbour, where it is mapped; and where it awaits release, if that neighbour is one
  pub use-mapped : (mapped_to (label_in ns os p) ≡ nobody → ⊥) → is_use (label_in ns os p) ≡ is_name (label_name os p)
  unfolding is_use mapped_to
  use-mapped ne =
      by-use ns p os
      (λ k. absurd (ne (rw k refl)))
      (λ n h k. rw (k, lt-ltb n neighbour_count h) refl)
      (λ n k. absurd (ne (rw k refl)))

  pub use-awaiting : (n : ℕ) → label_in ns os p ≡ awaiting n (label_name os p) → is_use (label_in ns os p) ≡ (ltb n neighbour_count && is_name (label_name os p))
  unfolding is_use
  use-awaiting n k = rw k refl

  module _ (m : ℕ) (e : m ≡ mapped_to (label_in ns os p)) where
    pub mapped-so : (m ≡ nobody → ⊥) → label_in ns os p ≡ mapped m (label_name os p)
    unfolding mapped_to
    mapped-so ne =
        by-use ns p os
        (λ k. absurd (ne (rw k at e)))
        (λ n h k. let q : m ≡ n = rw k at e in rw q k)
        (λ n k. absurd (ne (rw k at e)))

    pub carried_some : (c : Card) (l : ℕ) → (m ≡ nobody → ⊥) → is_carried c l (label_in ns os p) ≡ eqb (tree_of (label_name os p) c).label l
    unfolding is_carried
    carried_some c l ne = rw (mapped-so ne) refl

    pub carried-free : (c : Card) (l : ℕ) → m ≡ nobody → is_carried c l (label_in ns os p) ≡ true
    unfolding is_carried mapped_to
    carried-free c l q =
        by-use ns p os
        (λ k. rw k refl)
        (λ n h k. let r : m ≡ n = rw k at e in absurd (omega arith))
        (λ n k. rw k refl)

  module _ (a : List ℕ) where
    pub mapped-not : is_mapped_at ns p ≡ false → is_mapped_for a (label_in ns os p) ≡ false
    unfolding is_mapped_for
    mapped-not m =
        by-test (is_free_at ns p)
        (λ e. rw (label-free ns p os e) refl)
        (λ e. rw (awaited-is ns p os e m) refl)

    pub mapped-named : is_mapped_at ns p ≡ true → is_mapped_for a (label_in ns os p) ≡ same (label_name os p) a
    unfolding is_mapped_for
    mapped-named m = let u = mapped-use ns p m in rw (label-mapped ns p os u.0 u.1) refl

module _ (c : Card) (t : Tree) (l : ℕ) (e : l ≡ t.label) where
  pub own-none : l ≡ 0 → carries_own c t ≡ true
  unfolding carries_own
  own-none z = rw (← e, eq-eqb l 0 z) refl

  pub own-for : (a : List ℕ) → a ≡ t.name → (l ≡ 0 → ⊥) → carries_own c t ≡ is_mapped_for a (use_of l c)
  unfolding carries_own
  own-for a n ne = rw (← e, ne_eqb l 0 ne, ← n) refl

label_is : (l : ℕ) (t : Tree) → carries l t ≡ true → t.label ≡ l
unfolding carries
label_is l t e = eqb-true t.label l e

is-named : (a : List ℕ) (t : Tree) → a ≡ t.name → named a t ≡ true
unfolding named
is-named a t e = rw (← e) (same_refl a)

-- whether a mapped label is its tree's: that is whether any tree carries it
module _ (ns os : List ℕ) (p m : ℕ) (h : p < label_count) (e : m ≡ mapped_to (label_in ns os p)) (ne : m ≡ nobody → ⊥) (is : is_mapped_at ns p ≡ true)
    (once : once_each same_name (card_of ns os).trees ≡ true) (own : all (carries_own (card_of ns os)) (card_of ns os).trees ≡ true) where
  named-tree : is_carried (card_of ns os) (base_in ns + p) (label_in ns os p) ≡ eqb (tree_of (label_name os p) (card_of ns os)).label (base_in ns + p)
  named-tree = carried_some ns os p m e (card_of ns os) (base_in ns + p) ne

  -- the tree at place k, which carries it, is of that name
  own_name : (k : ℕ) → k < length (card_of ns os).trees → (get_or (card_of ns os).trees k (bare [])).label ≡ base_in ns + p → same (label_name os p) (get_or (card_of ns os).trees k (bare [])).name ≡ true
  own_name k kl el =
      let t : Tree = get_or (card_of ns os).trees k (bare []) in
      let for-it = own-for (card_of ns os) t (base_in ns + p) (sym el) t.name refl (λ z. omega (arith, base-range ns)) in
      sym (mapped-named ns os p t.name is) ∙ ap (is_mapped_for t.name) (sym (use-in ns os (base_in ns + p) p refl h)) ∙ sym for-it ∙ all-at (carries_own (card_of ns os)) (card_of ns os).trees (bare []) own k kl

  some-carries : (k : ℕ) → k < length (card_of ns os).trees → (get_or (card_of ns os).trees k (bare [])).label ≡ base_in ns + p → (tree_of (label_name os p) (card_of ns os)).label ≡ base_in ns + p
  unfolding tree_of tree_place
  some-carries k kl el =
      let its : label_name os p ≡ (get_or (card_of ns os).trees k (bare [])).name = same-eq _ _ (own_name k kl el) in
      let at : place (named (label_name os p)) (card_of ns os).trees ≡ k = place-once (label_name os p) (card_of ns os).trees k (bare []) once kl (is-named (label_name os p) _ its) in
      rw at (ap (λ (t : Tree). t.label) (get_d-same (card_of ns os).trees k (bare (label_name os p)) (bare []) kl) ∙ el)

  none-carries : length (card_of ns os).trees ≤ place (carries (base_in ns + p)) (card_of ns os).trees → eqb (tree_of (label_name os p) (card_of ns os)).label (base_in ns + p) ≡ false
  unfolding tree_of tree_place carries bare
  none-carries out =
      by-test (ltb (place (named (label_name os p)) (card_of ns os).trees) (length (card_of ns os).trees))
      (λ x.
      let inside : place (named (label_name os p)) (card_of ns os).trees < length (card_of ns os).trees = ltb-true _ _ x in
      place-skips (carries (base_in ns + p)) (card_of ns os).trees (bare (label_name os p)) (place (named (label_name os p)) (card_of ns os).trees) (omega arith))
      (λ x. rw (get_d-out (card_of ns os).trees (place (named (label_name os p)) (card_of ns os).trees) (bare (label_name os p)) (ltb-false _ _ x)) (ne_eqb 0 (base_in ns + p) (λ q. omega (arith, base-range ns))))

  pub carried-by : (r n : ℕ) → r ≡ place (carries (base_in ns + p)) (card_of ns os).trees → n ≡ tree_count ns → ltb r n ≡ is_carried (card_of ns os) (base_in ns + p) (label_in ns os p)
  carried-by r n er en =
      by-test (ltb r n)
      (λ x.
      let inside : r < length (card_of ns os).trees = rw trees-length (omega (arith, ltb-true r n x)) in
      let found : (get_or (card_of ns os).trees r (bare [])).label ≡ base_in ns + p = label_is (base_in ns + p) (get_or (card_of ns os).trees r (bare [])) (rw er (place-finds (carries (base_in ns + p)) (card_of ns os).trees (bare []) (rw (← er) inside))) in
      x ∙ sym (named-tree ∙ eq-eqb _ _ (some-carries r inside found)))
      (λ x. x ∙ sym (named-tree ∙ none-carries (rw trees-length (omega (arith, ltb-false r n x)))))

-- a label of any number, by its place in the block
module _ (ns os a : List ℕ) (label p : ℕ) (r : InBlock ns label p) where
  pub for-out : label_count ≤ p → is_mapped_for a (use_of label (card_of ns os)) ≡ false
  unfolding is_mapped_for
  for-out h = rw (r.outside h os) refl

  pub for-at : p < label_count → is_mapped_for a (use_of label (card_of ns os)) ≡ is_mapped_for a (label_in ns os p)
  for-at h = ap (is_mapped_for a) (use-at ns os label p r h)

-- ---- all rules

module _ (ns os : List ℕ) where
  -- what any memory keeps
  base_kept : not (base_outside (card_of ns os).base) ≡ true
  unfolding card_of base_outside
  base_kept = let r = base-range ns in rw (le-leb least_label (base_in ns) r.0, le-leb (base_in ns) most_base r.1) refl

  next-kept : ltb (card_of ns os).next 4294967296 ≡ true
  unfolding card_of next_in
  next-kept = lt-ltb (get_or ns 1 0 % 4294967296) 4294967296 (omega arith)

  routes-kept : leb (length (card_of ns os).routes) route_limit ≡ true
  routes-kept = le-leb (length (card_of ns os).routes) route_limit (rw routes-length (route_count-le ns))

  trees-kept : leb (length (card_of ns os).trees) tree_limit ≡ true
  trees-kept = le-leb (length (card_of ns os).trees) tree_limit (rw trees-length (tree_count-le ns))

  labels-kept : eqb (length (card_of ns os).labels) 256 ≡ true
  labels-kept = eq-eqb _ 256 (labels_length ns os)

  -- what is left to test, with what the code says of each
  pub kept : (a d f g h : Bool)
      → once_each same_name (card_of ns os).trees ≡ true → once_each same_root (card_of ns os).routes ≡ true → all (holds_right (card_of ns os)) (card_of ns os).trees ≡ true
      → a ≡ all is_route (card_of ns os).routes → d ≡ all is_tree (card_of ns os).trees → f ≡ all is_use (card_of ns os).labels
      → (all (carries_own (card_of ns os)) (card_of ns os).trees ≡ true → g ≡ all_carried (card_of ns os) (card_of ns os).base (card_of ns os).labels)
      → h ≡ all (carries_own (card_of ns os)) (card_of ns os).trees
      → (a && d && f && g && h) ≡ keeps_rows (card_of ns os)
  unfolding keeps_rows
  kept a d f g h names roots held ea ed ef eg eh =
      rw (base_kept, next-kept, routes-kept, trees-kept, labels-kept, names, roots, held, ea, ed, ef, eh, and-true (all is_route (card_of ns os).routes), and-true (all is_route (card_of ns os).routes && all is_tree (card_of ns os).trees), and-true (all is_route (card_of ns os).routes && all is_tree (card_of ns os).trees && all is_use (card_of ns os).labels && all_carried (card_of ns os) (card_of ns os).base (card_of ns os).labels && all (carries_own (card_of ns os)) (card_of ns os).trees))
      (by-test (all (carries_own (card_of ns os)) (card_of ns os).trees)
      (λ t. rw (eg t) refl)
      (λ t. rw (t, and-false _, and-false _) refl))
