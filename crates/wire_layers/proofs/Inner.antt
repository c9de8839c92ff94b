-- Where the name inside begins, as the code finds it: by the octets of the whole name. Assumes nothing.
use Prim.Native.Nat.{ℕ, zero, suc, ◌+◌, ◌*◌, ◌-◌, ◌≤◌, ◌<◌, zero-le}
use native.Mathlib.Omega.{arith}
use mathlib.Core.Path.{◌≡◌, refl, sym, ap, ap₂, ◌∙◌}
use mathlib.Core.Bool.{true, false, ◌||◌}
use mathlib.Core.List.{List, []}
use lib.ListN.{length, take, drop, get_or, length-drop, drop_of_length-le}
use lib.Seq.{take_all, take-nil, drop-drop, get_or-drop}
use lib.Dec.{eqb}
use borrow.Author.Tests.{eq-eqb, ne_eqb}
use Rattle.meaning.specs.Octets.{pick, two_at}
use Rattle.meaning.specs.Wire.{root_length, opaque_in, element_refusal}
use Rattle.meaning.specs.Lists.{by-test}
use Rattle.meaning_laws.specs.WireLaws.{element-kind}
use Rattle.meaning_layers.specs.Layers.{plain_kind, eight_kind, eight_size, before_inner, eight_in, inner_in, wraps, is_last}
use Rattle.meaning_layers.specs.InnerStart.{inner_start, layer_start}
use Rattle.meaning_layers.proofs.InnerStart.{start-last, start-end, start-part}

abbrev pub Found : List ℕ → ℕ → Type 0
Found e r = (r ≡ inner_start e) × (r ≤ length e) × ((r ≡ 0 → ⊥) → 9 ≤ r)

-- what each test of `wraps` says where it fails
module _ (o : List ℕ) where
  no_kind : (eqb (get_or o 0 0) plain_kind || eqb (get_or o 0 0) eight_kind) ≡ false → wraps o ≡ false
  unfolding wraps
  no_kind h = rw h refl

  no-fill : eqb (length o) (3 + two_at o 1) ≡ false → wraps o ≡ false
  unfolding wraps
  no-fill h = by-test (eqb (get_or o 0 0) plain_kind || eqb (get_or o 0 0) eight_kind) (λ t. rw (t, h) refl) (λ t. rw t refl)

  no_name : eqb (element_refusal (inner_in o)) 0 ≡ false → wraps o ≡ false
  unfolding wraps
  no_name h =
      by-test (eqb (get_or o 0 0) plain_kind || eqb (get_or o 0 0) eight_kind)
      (λ t. by-test (eqb (length o) (3 + two_at o 1)) (λ u. rw (t, u, h) refl) (λ u. rw (t, u) refl))
      (λ t. rw t refl)

module _ (e : List ℕ) (n : ℕ) (p : n ≡ root_length e) where
  opaque-is : opaque_in e ≡ drop (6 + n) e
  unfolding opaque_in
  opaque-is = ap (λ (i : ℕ). drop (6 + i) e) (sym p)

  kind_at : get_or (opaque_in e) 0 0 ≡ get_or e (6 + n) 0
  kind_at = let q : 6 + n + 0 ≡ 6 + n = omega arith in ap (λ (l : List ℕ). get_or l 0 0) opaque-is ∙ get_or-drop (6 + n) e 0 0 ∙ ap (λ (i : ℕ). get_or e i 0) q

  field_at : two_at (opaque_in e) 1 ≡ two_at e (6 + n + 1)
  unfolding two_at
  field_at =
      let q : 6 + n + 2 ≡ 6 + n + 1 + 1 = omega arith in
      ap (λ (l : List ℕ). get_or l 1 0 * 256 + get_or l 2 0) opaque-is ∙ ap₂ (λ (a b : ℕ). a * 256 + b) (get_or-drop (6 + n) e 1 0) (get_or-drop (6 + n) e 2 0 ∙ ap (λ (i : ℕ). get_or e i 0) q)

  opaque-length : length (opaque_in e) ≡ length e - (6 + n)
  opaque-length = ap length opaque-is ∙ length-drop (6 + n) e

  none : wraps (opaque_in e) ≡ false → Found e 0
  none w = let l : is_last e ≡ true = unfold is_last in rw w refl in (sym (start-last e l), zero-le, (λ d. absurd (d refl)))

  -- no element that holds a name
  pub not-holding : (kind : ℕ) → kind ≡ get_or e (6 + n) 0 → (eqb kind plain_kind || eqb kind eight_kind) ≡ false → Found e 0
  not-holding kind k h = none (no_kind (opaque_in e) (rw kind_at (rw (← k) h)))

  -- one that is not alone
  pub not-alone : (field : ℕ) → field ≡ two_at e (6 + n + 1) → (length e ≡ 6 + n + 3 + field → ⊥) → Found e 0
  not-alone field f h =
      none (no-fill (opaque_in e) (ne_eqb (length (opaque_in e)) (3 + two_at (opaque_in e) 1) (λ z. h (omega (arith, opaque-length, field_at)))))

  module _ (kind before : ℕ) (k : kind ≡ get_or e (6 + n) 0) (b : before ≡ pick (eqb kind eight_kind) eight_size 0) where
    before-is : before ≡ before_inner (opaque_in e)
    unfolding before_inner
    before-is = b ∙ ap (λ (i : ℕ). pick (eqb i eight_kind) eight_size 0) (k ∙ sym kind_at)

    inner-is : inner_in (opaque_in e) ≡ drop (6 + n + 3 + before) e
    unfolding inner_in
    inner-is =
        let q : 6 + n + (3 + before) ≡ 6 + n + 3 + before = omega arith in
        ap₂ (λ (i : ℕ) (l : List ℕ). drop (3 + i) l) (sym before-is) opaque-is ∙ drop-drop (3 + before) (6 + n) e ∙ ap (λ (i : ℕ). drop i e) q

    refused-inside : (element_refusal (drop (6 + n + 3 + before) e) ≡ 0 → ⊥) → Found e 0
    refused-inside h = none (no_name (opaque_in e) (ne_eqb (element_refusal (inner_in (opaque_in e))) 0 (λ z. h (sym (ap element_refusal inner-is) ∙ z))))

    -- too short for what stands before the name
    pub too_short : length e < 6 + n + 3 + before → Found e 0
    too_short h =
        refused-inside (λ z. let six : element_refusal [] ≡ 6 = element-kind [] (λ y. omega arith) in
        let gone : drop (6 + n + 3 + before) e ≡ [] = drop_of_length-le e {i = 6 + n + 3 + before} (omega arith) in
        let no : ◌≡◌ {A = ℕ} 6 0 = sym six ∙ ap element_refusal (sym gone) ∙ z in omega arith)

    lent : take (length e - (6 + n + 3 + before)) (drop (6 + n + 3 + before) e) ≡ drop (6 + n + 3 + before) e
    lent = take_all (length e - (6 + n + 3 + before)) (drop (6 + n + 3 + before) e) (omega (arith, length-drop (6 + n + 3 + before) e))

    pub inner-refused : (r : ℕ) → r ≡ element_refusal (take (length e - (6 + n + 3 + before)) (drop (6 + n + 3 + before) e)) → (r ≡ 0 → ⊥) → Found e 0
    inner-refused r q h = refused-inside (λ z. h (q ∙ ap element_refusal lent ∙ z))

    -- what is left: a name inside
    pub inner-there : (field r : ℕ) → (eqb kind plain_kind || eqb kind eight_kind) ≡ true → field ≡ two_at e (6 + n + 1) → length e ≡ 6 + n + 3 + field
        → r ≡ element_refusal (take (length e - (6 + n + 3 + before)) (drop (6 + n + 3 + before) e)) → r ≡ 0 → 6 + n + 3 + before ≤ length e → Found e (6 + n + 3 + before)
    inner-there field r h f all q z le =
        let alone : length (opaque_in e) ≡ 3 + two_at (opaque_in e) 1 = omega (arith, opaque-length, field_at) in
        let name : element_refusal (inner_in (opaque_in e)) ≡ 0 = ap element_refusal (inner-is ∙ sym lent) ∙ sym q ∙ z in
        let more = wraps-here (rw kind_at (rw (← k) h)) (eq-eqb _ _ alone) (eq-eqb _ _ name) in
        (started more, le, (λ _. omega arith))
      where
        wraps-here : (eqb (get_or (opaque_in e) 0 0) plain_kind || eqb (get_or (opaque_in e) 0 0) eight_kind) ≡ true → eqb (length (opaque_in e)) (3 + two_at (opaque_in e) 1) ≡ true → eqb (element_refusal (inner_in (opaque_in e))) 0 ≡ true → is_last e ≡ false
        wraps-here x y w = unfold is_last wraps in rw (x, y, w) refl

        started : is_last e ≡ false → 6 + n + 3 + before ≡ inner_start e
        started l = unfold inner_start in rw l (rw (← before-is) (rw (← p) (omega arith)))

    -- ---- the eight octets

    eight_is : eight_in (opaque_in e) ≡ take before (drop (6 + n + 3) e)
    unfolding eight_in
    eight_is = ap₂ (λ (i : ℕ) (l : List ℕ). take i (drop 3 l)) (sym before-is) opaque-is ∙ ap (take before) (drop-drop 3 (6 + n) e)

    pub eight-none : length e < 6 + n + 3 → [] ≡ eight_in (opaque_in e)
    eight-none h = sym (eight_is ∙ ap (take before) (drop_of_length-le e {i = 6 + n + 3} (omega arith)) ∙ take-nil before)

    pub eight-short : length e - (6 + n + 3) < before → take (length e - (6 + n + 3)) (drop (6 + n + 3) e) ≡ eight_in (opaque_in e)
    eight-short h =
        take_all (length e - (6 + n + 3)) (drop (6 + n + 3) e) (omega (arith, length-drop (6 + n + 3) e))
        ∙ sym (eight_is ∙ take_all before (drop (6 + n + 3) e) (omega (arith, length-drop (6 + n + 3) e)))

    pub eight-all : take (6 + n + 3 + before - (6 + n + 3)) (drop (6 + n + 3) e) ≡ eight_in (opaque_in e)
    eight-all = let q : 6 + n + 3 + before - (6 + n + 3) ≡ before = omega arith in ap (λ (i : ℕ). take i (drop (6 + n + 3) e)) q ∙ sym eight_is

-- ---- the name so many layers down

pub start-top : (e : List ℕ) (down : ℕ) → down ≡ 0 → 0 ≡ layer_start down e
unfolding layer_start
start-top e zero h = refl
start-top e (suc i) h = absurd (omega arith)

pub start-behind : (e : List ℕ) (down : ℕ) → (down ≡ 0 → ⊥) → inner_start e ≡ 0 → length e ≡ layer_start down e
start-behind e zero d z = absurd (d refl)
start-behind e (suc i) d z = start-end i e z

pub start-deeper : (e : List ℕ) (down k r : ℕ) → (down ≡ 0 → ⊥) → k ≡ inner_start e → (k ≡ 0 → ⊥) → r ≡ layer_start (down - 1) (take (length e - k) (drop k e)) → k + r ≡ layer_start down e
start-deeper e zero k r d s n h = absurd (d refl)
start-deeper e (suc i) k r d s n h = start-part i e k r s n (h ∙ ap (λ (j : ℕ). layer_start j (take (length e - k) (drop k e))) less)
  where
    less : suc i - 1 ≡ i
    less = omega arith
