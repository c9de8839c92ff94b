-- Trees that are made ready to stand one place lower: the marks of their labels name the lower place. Assumes nothing.
use Prim.Native.Nat.{ℕ, ◌+◌, ◌*◌, ◌-◌, ◌≤◌, ◌<◌}
use native.Mathlib.Omega.{arith}
use mathlib.Core.Path.{◌≡◌, refl, sym, ◌∙◌}
use mathlib.Core.Bool.{true, false}
use mathlib.Core.List.{List}
use lib.ListN.{length, set, length-set}
use lib.Seq.{get_or-set_same, get_or-set_other}
use lib.Dec.{eqb}
use borrow.Author.Tests.{eqb-true, eqb-false}
use Rattle.meaning.specs.Lists.{by-test}
use Rattle.meaning.specs.Wire.{name_limit}
use Rattle.meaning.specs.Card.{label_count, tree_limit}
use Rattle.memory.specs.Sizes.{name_space, own_column, mark_column, word_column, word_count, label_names, Numbers, no_label}
use Rattle.memory.specs.Parts.{Closed}
use Rattle.memory.specs.Memory.{tree_name, mark_at, mark_use, mark_place, is_free_at, is_mapped_at, label_in, own_place, carries_at, Relabelled}
use Rattle.memory.proofs.Memory.{text_same, base_same, free-same, own_same, label_same, agree_refl, agree-set}
use Rattle.memory.proofs.Marks.{mapped_at, mapped-use, carried-in, carried-out, not-far, not_named, own-some, own-none, use_kept, remarked, remarked-free, own-beside}
use Rattle.memory.proofs.Parts.{lower, text-brought}
use Rattle.memory_rows.specs.Lower.{Lowered, LoweredOne, NamesLowered}

module _ (ns : List ℕ) (j : ℕ) (l : Numbers ns) (h : j + 1 < tree_limit) where
  -- the tree carries its label
  module _ (c : carries_at ns (j + 1) (own_place ns (j + 1)) ≡ true) where
    pub own-inside : own_place ns (j + 1) < label_count
    own-inside = (carried-out ns (j + 1) (own_place ns (j + 1)) c).0

    pub own-named : 256 ≤ mark_at ns (own_place ns (j + 1))
    own-named = let e : mark_place (mark_at ns (own_place ns (j + 1))) ≡ j + 1 = (carried-out ns (j + 1) (own_place ns (j + 1)) c).2 in omega arith

    pub lower-carried : LoweredOne j ns (set ns (mark_column + own_place ns (j + 1)) (mark_at ns (own_place ns (j + 1)) - 256))
    lower-carried = record {
      long = length-set ns (mark_column + p) v;
      rest = λ k x y. get_or-set_other ns (mark_column + p) k v 0 (λ e. y (omega (arith, own-inside)) (omega (arith, own-inside)));
      uses = uses;
      moved = rw (own_at (j + 1) h, own-some ms j p (carried-in ms j p own-inside now-mapped now-place), own-some ns (j + 1) p c, base_same ns ms ns ns (agree-set 0 1 ns (mark_column + p) v (λ a b. omega arith))) refl;
      others = λ q a q64 ne n0 n1. rw (own_at q q64) (own-beside ns ms p a (own_place ns q) r (λ e. rw e (not_named ns a p (λ z. n1 (sym z ∙ place)), not_named ms a p (λ z. n0 (sym z ∙ now-place)))));
    }
      where
        p : ℕ
        p = own_place ns (j + 1)

        v : ℕ
        v = mark_at ns p - 256

        ms : List ℕ
        ms = set ns (mark_column + p) v

        r : Relabelled p ns ms
        r = remarked ns p v own-inside

        free : is_free_at ms p ≡ is_free_at ns p
        free = remarked-free ns p v own-inside

        place : mark_place (mark_at ns p) ≡ j + 1
        place = (carried-out ns (j + 1) p c).2

        now : mark_at ms p ≡ v
        now = get_or-set_same ns (mark_column + p) v 0 (omega (arith, own-inside))

        now-use : mark_use (mark_at ms p) ≡ mark_use (mark_at ns p)
        now-use = let e = now in let q = own-named in omega arith

        now-place : mark_place (mark_at ms p) ≡ j
        now-place = let e = now in let q = place in omega arith

        now-mapped : is_mapped_at ms p ≡ true
        now-mapped =
            let u = mapped-use ns p (carried-out ns (j + 1) p c).1 in
            let e = now-use in
            mapped_at ms p (free ∙ u.0) (omega (arith, u.1))

        own_at : (q : ℕ) → q < tree_limit → own_place ms q ≡ own_place ns q
        own_at q q64 = get_or-set_other ns (mark_column + p) (own_column + q) v 0 (λ e. omega arith)

        uses : (os : List ℕ) (q : ℕ) → q < label_count → label_in ms os q ≡ label_in ns os q
        uses os q lt =
            by-test (eqb q p)
            (λ t. let e : q ≡ p = eqb-true q p t in rw e (use_kept ns ms os p now-use free))
            (λ t. label_same ns ms os os q (r.marks q lt (eqb-false q p t)) (r.frees q lt (eqb-false q p t)) (agree_refl (label_names + q * name_space) name_space os))

  -- it does not: it has none for its own
  pub lower-cleared : carries_at ns (j + 1) (own_place ns (j + 1)) ≡ false → LoweredOne j ns (set ns (own_column + (j + 1)) no_label)
  lower-cleared c = record {
    long = length-set ns (own_column + (j + 1)) no_label;
    rest = λ k x y. get_or-set_other ns (own_column + (j + 1)) k no_label 0 (λ e. x (omega arith) (omega arith));
    uses = λ os q lt. label_same ns ms os os q (mark q) (free q lt) (agree_refl (label_names + q * name_space) name_space os);
    moved = own-none ms j (own_place ms (j + 1)) (not-far ms j (own_place ms (j + 1)) (omega (arith, now))) ∙ sym (own-none ns (j + 1) (own_place ns (j + 1)) c);
    others = λ q a q64 ne n0 n1.
        rw (get_or-set_other ns (own_column + (j + 1)) (own_column + q) no_label 0 (λ e. ne (omega arith)))
        (own_same ns ms ns ns a (own_place ns q) (agree-set 0 1 ns (own_column + (j + 1)) no_label (λ x y. omega arith)) (λ lt. mark (own_place ns q)) (λ lt. free (own_place ns q) lt));
  }
    where
      ms : List ℕ
      ms = set ns (own_column + (j + 1)) no_label

      mark : (q : ℕ) → mark_at ms q ≡ mark_at ns q
      mark q = get_or-set_other ns (own_column + (j + 1)) (mark_column + q) no_label 0 (λ e. omega arith)

      free : (q : ℕ) → q < label_count → is_free_at ms q ≡ is_free_at ns q
      free = free-same ns ms ns ns (agree-set word_column word_count ns (own_column + (j + 1)) no_label (λ a b. omega arith))

      now : own_place ms (j + 1) ≡ no_label
      now = get_or-set_same ns (own_column + (j + 1)) no_label 0 (omega arith)

-- ---- all behind a place, one after the other

pub lowered_none : (i : ℕ) (ns : List ℕ) → Lowered i i ns ns
lowered_none i ns = record {
  long = refl;
  rest = λ k x y. refl;
  uses = λ os p h. refl;
  before = λ q h k. refl;
  moved = λ q h k. absurd (omega arith);
  behind = λ q h k. refl;
}

pub lowered-more : (i j : ℕ) (ns ms ks : List ℕ) → i ≤ j → j + 1 < tree_limit → Lowered i j ns ms → LoweredOne j ms ks → Lowered i (j + 1) ns ks
lowered-more i j ns ms ks h k w o = record {
  long = o.long ∙ w.long;
  rest = λ k x y. o.rest k x y ∙ w.rest k x y;
  uses = λ os p lt. o.uses os p lt ∙ w.uses os p lt;
  before = λ q lt q64. o.others q q q64 (λ e. omega arith) (λ e. omega arith) (λ e. omega arith) ∙ w.before q lt q64;
  moved = λ q le lt.
      by-test (eqb q j)
      (λ t. let e : q ≡ j = eqb-true q j t in rw e (o.moved ∙ w.behind (j + 1) (omega arith) k))
      (λ t.
      let ne = eqb-false q j t in
      let less : q < j = sharper q j (omega arith) ne in
      o.others (q + 1) q (omega arith) (λ e. ne (omega arith)) ne (λ e. omega arith) ∙ w.moved q le less);
  behind = λ q lt q64. o.others q q q64 (λ e. omega arith) (λ e. omega arith) (λ e. omega arith) ∙ w.behind q (omega arith) q64;
}
  where
    sharper : (q j : ℕ) → q ≤ j → (q ≡ j → ⊥) → q < j
    sharper q j le ne = omega arith

-- ---- their names

pub names-none : (i : ℕ) (os : List ℕ) → NamesLowered i i os os
names-none i os = record {
  long = refl;
  moved = λ q h k. absurd (omega arith);
  rest = λ k out. refl;
}

-- the name at place j + 1 and its length stand one space lower
pub name-lowered : (j : ℕ) (os qs : List ℕ) (used : ℕ) → used ≡ 1 + length (tree_name os (j + 1)) → used ≤ name_space → Closed (j * name_space) ((j + 1) * name_space + used) name_space os qs → NamesLowered j (j + 1) os qs
unfolding tree_name
name-lowered j os qs used e short cl = record {
  long = cl.long;
  moved = λ q h k.
      let same : q ≡ j = omega arith in
      rw same (text-brought name_limit ((j + 1) * name_space) (j * name_space) os qs (lower (j * name_space) ((j + 1) * name_space + used) name_space ((j + 1) * name_space) (j * name_space) (1 + length (tree_name os (j + 1))) os qs cl (omega arith) (omega arith) (omega arith)));
  rest = λ k out. cl.rest k (λ x y. out x (omega arith));
}

pub names_more : (i j : ℕ) (os qs rs : List ℕ) → i ≤ j → NamesLowered i j os qs → NamesLowered j (j + 1) qs rs → NamesLowered i (j + 1) os rs
unfolding tree_name
names_more i j os qs rs h w o = record {
  long = o.long ∙ w.long;
  moved = λ q le lt.
      by-test (eqb q j)
      (λ t.
      let e : q ≡ j = eqb-true q j t in
      rw e (o.moved j (omega arith) (omega arith) ∙ text_same name_limit ((j + 1) * name_space) os qs (λ k x y. w.rest k (λ u v. omega arith))))
      (λ t.
      let ne = eqb-false q j t in
      text_same name_limit (q * name_space) qs rs (λ k x y. o.rest k (λ u v. omega arith)) ∙ w.moved q le (omega arith));
  rest = λ k out. o.rest k (λ x y. out (omega arith) y) ∙ w.rest k (λ x y. out x (omega arith));
}
