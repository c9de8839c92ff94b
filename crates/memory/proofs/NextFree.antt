-- The search for the label that is given out next: the first free one after the last given, going round the block. Assumes nothing.
use Prim.Native.Nat.{ℕ, ◌+◌, ◌*◌, ◌-◌, ◌/◌, ◌%◌, ◌^◌, ◌≤◌, ◌<◌}
use native.Mathlib.Omega.{arith}
use mathlib.Core.Path.{◌≡◌, refl, sym, ap, ◌∙◌, subst}
use mathlib.Core.List.{List, []}
use lib.ListN.{length, drop, length-drop}
use lib.Count.{count_trailing_zeros}
use borrow.Author.Tests.{lt-ltb, le-ltb}
use Rattle.meaning.specs.Octets.{place, place_from}
use Rattle.meaning.specs.Card.{turn, is_free, label_count}
use Rattle.meaning_laws.specs.NextFree.{next_place}
use Rattle.octets.specs.Part.{tab}
use Rattle.octets.proofs.Tab.{place_none}
use Rattle.octets.proofs.Bits.{trailing-bit, trailing_wide, shifted-below, Says, says-shifted, place-word, place-empty}
use Rattle.memory.specs.Sizes.{word_count}
use Rattle.memory.specs.Memory.{word_at, is_free_at, label_in, card_of, FirstFree}
use Rattle.memory.proofs.Memory.{labels_length}
use Rattle.memory.proofs.Marks.{free_in}
use Rattle.memory.proofs.Labels.{says}

-- The first free label from place i on: in the word of i, without its bits below i, or in the first word behind it that is not 0.
-- From i w: none is free from place i up to word w.
module _ (ns : List ℕ) where
  abbrev pub From : ℕ → ℕ → Type 0
  From i w = (os : List ℕ) → i + place is_free (drop i (tab label_count (label_in ns os))) ≡ w * 64 + place is_free (drop (w * 64) (tab label_count (label_in ns os)))

  -- of the labels from place i to the end of its word, the bits of the shifted word say which are free
  rest-says : (os : List ℕ) (i : ℕ) → i < label_count → Says is_free label_count (label_in ns os) (64 - i % 64) i (word_at ns (i / 64) / 2 ^ (i % 64))
  rest-says os i h =
      let all : i % 64 + (64 - i % 64) ≡ 64 = omega arith in
      let here : i / 64 * 64 + i % 64 ≡ i = omega arith in
      subst (λ (k : ℕ). Says is_free label_count (label_in ns os) (64 - i % 64) k (word_at ns (i / 64) / 2 ^ (i % 64))) here
      (says-shifted is_free label_count (label_in ns os) (i % 64) (64 - i % 64) (i / 64 * 64) (word_at ns (i / 64)) (rw all (says ns os (i / 64) (omega arith))))

  shifted_fits : (i : ℕ) → word_at ns (i / 64) < 2 ^ 64 → word_at ns (i / 64) / 2 ^ (i % 64) < 2 ^ (64 - i % 64)
  shifted_fits i l = let all : i % 64 + (64 - i % 64) ≡ 64 = omega arith in shifted-below (i % 64) (64 - i % 64) (word_at ns (i / 64)) (rw all l)

  pub first-here : (i : ℕ) → i < label_count → 0 < word_at ns (i / 64) / 2 ^ (i % 64) → word_at ns (i / 64) < 2 ^ 64 → FirstFree ns i (i + count_trailing_zeros 64 (word_at ns (i / 64) / 2 ^ (i % 64)))
  unfolding card_of
  first-here i h p l =
      let x : ℕ = word_at ns (i / 64) / 2 ^ (i % 64) in
      let d : ℕ = 64 - i % 64 in
      let few = shifted_fits i l in
      let wide : count_trailing_zeros 64 x ≡ count_trailing_zeros d x = (let all : d + i % 64 ≡ 64 = omega arith in rw all at (trailing_wide (i % 64) d x p few)) in
      let t = trailing-bit d x p few in (
        (λ os. ap (λ (k : ℕ). i + k) wide ∙ sym (place-word is_free label_count (label_in ns os) d i x (omega arith) p few (rest-says os i h))),
        omega (arith, t.0, wide),
        (λ lt. sym (free_in ns (i + count_trailing_zeros 64 x) []) ∙ rw wide (rest-says [] i h (count_trailing_zeros d x) t.0 ∙ t.1)),
      )

  pub first-behind : (i : ℕ) → i < label_count → word_at ns (i / 64) / 2 ^ (i % 64) ≡ 0 → From i (i / 64 + 1)
  first-behind i h z os =
      let e : i + (64 - i % 64) ≡ (i / 64 + 1) * 64 = omega arith in
      place-empty is_free label_count (label_in ns os) (64 - i % 64) i (omega arith) (rw z at (rest-says os i h)) ∙ rw e refl

  -- none is free from place i up to word w: the search goes on there
  pub first_on : (i w : ℕ) → From i w → {r : ℕ} → FirstFree ns (w * 64) r → FirstFree ns i r
  unfolding card_of
  first_on i w from f = ((λ os. f.0 os ∙ sym (from os)), f.1, f.2)

  pub first_word : (i w : ℕ) → w < word_count → From i w → 0 < word_at ns w → word_at ns w < 2 ^ 64 → FirstFree ns i (w * 64 + count_trailing_zeros 64 (word_at ns w))
  unfolding is_free_at card_of
  first_word i w h from p l =
      let t = trailing-bit 64 (word_at ns w) p l in
      let q : (w * 64 + count_trailing_zeros 64 (word_at ns w)) / 64 ≡ w = omega (arith, t.0) in
      let m : (w * 64 + count_trailing_zeros 64 (word_at ns w)) % 64 ≡ count_trailing_zeros 64 (word_at ns w) = omega (arith, t.0) in (
        (λ os. sym (from os ∙ place-word is_free label_count (label_in ns os) 64 (w * 64) (word_at ns w) (omega arith) p l (says ns os w h))),
        omega (arith, t.0),
        (λ _. rw (q, m) t.1),
      )

  pub first_next : (i w : ℕ) → w < word_count → From i w → word_at ns w ≡ 0 → From i (w + 1)
  first_next i w h from z os =
      let e : w * 64 + 64 ≡ (w + 1) * 64 = omega arith in
      from os ∙ place-empty is_free label_count (label_in ns os) 64 (w * 64) (omega arith) (rw z at (says ns os w h)) ∙ rw e refl

  pub first-none : (i w : ℕ) → word_count ≤ w → w ≤ word_count → From i w → FirstFree ns i label_count
  unfolding card_of
  first-none i w h k from = ((λ os. sym (from os ∙ place_none is_free label_count (label_in ns os) (w * 64) (omega arith) (omega arith))), omega arith, (λ lt. absurd (omega arith)))

  pub first_past : (i : ℕ) → label_count ≤ i → i ≤ label_count → FirstFree ns i label_count
  first_past i h k = first-none i word_count (omega arith) (omega arith) (λ os. let e : i ≡ word_count * 64 = omega arith in rw e refl)

-- the next free label: the first free one from the turn on, or, where none is free there, the first of all
module _ (ns os : List ℕ) (i : ℕ) (e : i ≡ turn (card_of ns os)) where
  behind : length (drop i (card_of ns os).labels) ≡ label_count - i
  behind = length-drop i (card_of ns os).labels ∙ ap (λ (n : ℕ). n - i) (labels_length ns os)

  pub next-later : (r : ℕ) → FirstFree ns i r → r < label_count → r ≡ next_place (card_of ns os)
  unfolding place_from
  next-later r f h =
      let p : r ≡ i + place is_free (drop i (card_of ns os).labels) = f.0 os in
      let b = behind in
      rw (← e) (rw (lt-ltb (place is_free (drop i (card_of ns os).labels)) (length (drop i (card_of ns os).labels)) (omega arith)) p)

  pub next-around : (q r : ℕ) → FirstFree ns i q → label_count ≤ q → FirstFree ns 0 r → r ≡ next_place (card_of ns os)
  unfolding place_from
  next-around q r g h f =
      let p : q ≡ i + place is_free (drop i (card_of ns os).labels) = g.0 os in
      let b = behind in
      let z : 0 + place is_free (drop 0 (card_of ns os).labels) ≡ place is_free (card_of ns os).labels = omega arith in
      rw (← e) (rw (le-ltb (place is_free (drop i (card_of ns os).labels)) (length (drop i (card_of ns os).labels)) (omega arith)) (f.0 os ∙ z))
