-- What an order says by its verb and the words behind it. Assumes nothing.
use Rattle.std.specs.Prelude.{Option, None, Some, unwrap_or}
use Prim.Native.Nat.{ℕ, ◌≤◌, ◌*◌}
use native.Mathlib.Omega.{arith}
use mathlib.Core.Path.{◌≡◌, refl, sym, ◌∙◌}
use mathlib.Core.Bool.{Bool, true, false}
use mathlib.Core.List.{List, [], ◌∷◌}
use denote.Enum.Declared.{tag_of}
use types.Run.{OneOf, miss}
use Rattle.meaning.specs.Octets.{pick}
use Rattle.meaning_save.specs.Save.{Form, old, new, save_limit}
use Rattle.bench_words.specs.Words.{Lies, is_hex_to, is_hex, is_number, octets_of, hex_limit}
use Rattle.bench_words.specs.Scan.{Within, text_of, number_in}
use Rattle.bench_words.specs.declared.Word.{Word}
use Rattle.bench_words.proofs.Words.{number-value, number-none, hex-lies}
use Rattle.bench_verbs.specs.Line.{is_save_hex, Said, with_number, with_hex, with_save, with_number_hex, with_hex_number, with_numbers_hex, with_two_hex, with_three_hex, with_number_two_hex, does}
use Rattle.bench_verbs.specs.declared.Verb.{Verb}
use Rattle.bench_verbs.specs.contracts.Verb.{the_type}
use Rattle.bench_orders.specs.Tells.{meant, SaveLies, Tells, TellsIf}
use Rattle.bench_orders.specs.declared.Order.{Order}

-- ---- a number, or none

pub number-of : (f : ℕ → Said) (w : List ℕ) (n : ℕ) → number_in w ≡ Some n → with_number f (w ∷ []) ≡ f n
unfolding with_number
number-of f w n e = let v = number-value w n e in rw (v.0, v.1)

pub no_number : (f : ℕ → Said) (w : List ℕ) → number_in w ≡ None → with_number f (w ∷ []) ≡ Said.bad
unfolding with_number
no_number f w e = rw (number-none w e)

pub number-then : (f : ℕ → List ℕ → Said) (w : List ℕ) (ws : List (List ℕ)) (n : ℕ) → number_in w ≡ Some n → with_number_hex f (w ∷ ws) ≡ with_hex (f n) ws
unfolding with_number_hex
number-then f w ws n e = let v = number-value w n e in rw (v.0, v.1)

pub no-number-then : (f : ℕ → List ℕ → Said) (w : List ℕ) (ws : List (List ℕ)) → number_in w ≡ None → with_number_hex f (w ∷ ws) ≡ Said.bad
unfolding with_number_hex
no-number-then f w ws e = rw (number-none w e)

pub first-of-numbers : (f : ℕ → ℕ → List ℕ → Said) (w : List ℕ) (ws : List (List ℕ)) (n : ℕ) → number_in w ≡ Some n → with_numbers_hex f (w ∷ ws) ≡ with_number_hex (f n) ws
unfolding with_numbers_hex
first-of-numbers f w ws n e = let v = number-value w n e in rw (v.0, v.1)

pub no-first-of-numbers : (f : ℕ → ℕ → List ℕ → Said) (w : List ℕ) (ws : List (List ℕ)) → number_in w ≡ None → with_numbers_hex f (w ∷ ws) ≡ Said.bad
unfolding with_numbers_hex
no-first-of-numbers f w ws e = rw (number-none w e)

pub number-of-hexes : (f : ℕ → List ℕ → List ℕ → Said) (w : List ℕ) (ws : List (List ℕ)) (n : ℕ) → number_in w ≡ Some n → with_number_two_hex f (w ∷ ws) ≡ with_two_hex (f n) ws
unfolding with_number_two_hex
number-of-hexes f w ws n e = let v = number-value w n e in rw (v.0, v.1)

pub no-number-of-hexes : (f : ℕ → List ℕ → List ℕ → Said) (w : List ℕ) (ws : List (List ℕ)) → number_in w ≡ None → with_number_two_hex f (w ∷ ws) ≡ Said.bad
unfolding with_number_two_hex
no-number-of-hexes f w ws e = rw (number-none w e)

-- ---- HEX, or none: a word that passed a test is the word that was tested

passed : (b : Bool) (w v : Word) → pick b (Some w) None ≡ Some v → (b ≡ true) × (v ≡ w)
passed true w v e = (refl, cc)
passed false w v e = cc

failed : (b : Bool) (w : Word) → pick b (Some w) None ≡ None → b ≡ false
failed true w e = cc
failed false w e = refl

-- the word that `hex_at` found in the line
pub record Hex (l : List ℕ) (w v : Word) : Type 0 where
  pub hex : is_hex (text_of w l) ≡ true
  pub is : v ≡ w
  pub lies : Lies l v.start v.end

pub found : (l : List ℕ) (w v : Word) (r : Option Word) → Within w l → r ≡ pick (is_hex (text_of w l)) (Some w) None → r ≡ Some v → Hex l w v
unfolding is_hex
found l w v r h e q =
    let p = passed (is_hex (text_of w l)) w v (sym e ∙ q) in
    record { hex = p.0; is = p.1; lies = rw p.1 (hex-lies hex_limit l w.start w.end (omega arith) h.0 h.1 p.0) }

pub not-found : (l : List ℕ) (w : Word) (r : Option Word) → r ≡ pick (is_hex (text_of w l)) (Some w) None → r ≡ None → is_hex (text_of w l) ≡ false
not-found l w r e q = failed (is_hex (text_of w l)) w (sym e ∙ q)

pub hex-of : (f : List ℕ → Said) (l : List ℕ) (w v : Word) → Hex l w v → with_hex f (text_of w l ∷ []) ≡ f (octets_of (text_of v l))
unfolding with_hex
hex-of f l w v h = rw (h.hex, h.is) refl

pub no-hex : (f : List ℕ → Said) (w : List ℕ) → is_hex w ≡ false → with_hex f (w ∷ []) ≡ Said.bad
unfolding with_hex
no-hex f w e = rw e

pub hex-then : (f : List ℕ → ℕ → Said) (l : List ℕ) (w v : Word) (ws : List (List ℕ)) → Hex l w v → with_hex_number f (text_of w l ∷ ws) ≡ with_number (f (octets_of (text_of v l))) ws
unfolding with_hex_number
hex-then f l w v ws h = rw (h.hex, h.is) refl

pub no-hex-then : (f : List ℕ → ℕ → Said) (w : List ℕ) (ws : List (List ℕ)) → is_hex w ≡ false → with_hex_number f (w ∷ ws) ≡ Said.bad
unfolding with_hex_number
no-hex-then f w ws e = rw e

pub first-of-two : (f : List ℕ → List ℕ → Said) (l : List ℕ) (w v : Word) (ws : List (List ℕ)) → Hex l w v → with_two_hex f (text_of w l ∷ ws) ≡ with_hex (f (octets_of (text_of v l))) ws
unfolding with_two_hex
first-of-two f l w v ws h = rw (h.hex, h.is) refl

pub no-first-of-two : (f : List ℕ → List ℕ → Said) (w : List ℕ) (ws : List (List ℕ)) → is_hex w ≡ false → with_two_hex f (w ∷ ws) ≡ Said.bad
unfolding with_two_hex
no-first-of-two f w ws e = rw e

pub first-of-three : (f : List ℕ → List ℕ → List ℕ → Said) (l : List ℕ) (w v : Word) (ws : List (List ℕ)) → Hex l w v → with_three_hex f (text_of w l ∷ ws) ≡ with_two_hex (f (octets_of (text_of v l))) ws
unfolding with_three_hex
first-of-three f l w v ws h = rw (h.hex, h.is) refl

pub no-first-of-three : (f : List ℕ → List ℕ → List ℕ → Said) (w : List ℕ) (ws : List (List ℕ)) → is_hex w ≡ false → with_three_hex f (w ∷ ws) ≡ Said.bad
unfolding with_three_hex
no-first-of-three f w ws e = rw e

-- ---- HEX of a save

pub record SaveHex (g : Form → List ℕ → Said) (l : List ℕ) (f : Form) (w v : Word) : Type 0 where
  pub means : g f (octets_of (text_of v l)) ≡ with_save g f (text_of w l ∷ [])
  pub lies : SaveLies f l v.start v.end

pub save-lies : (f : Form) (l : List ℕ) (w : Word) → Within w l → is_save_hex f (text_of w l) ≡ true → SaveLies f l w.start w.end
unfolding is_save_hex
save-lies old l w h t = hex-lies (2 * save_limit old) l w.start w.end (omega arith) h.0 h.1 t
save-lies new l w h t = hex-lies (2 * save_limit new) l w.start w.end (omega arith) h.0 h.1 t

pub found-save : (g : Form → List ℕ → Said) (l : List ℕ) (f : Form) (w v : Word) (r : Option Word) → Within w l
    → r ≡ pick (is_save_hex f (text_of w l)) (Some w) None → r ≡ Some v → SaveHex g l f w v
unfolding with_save
found-save g l f w v r h e q =
    let p = passed (is_save_hex f (text_of w l)) w v (sym e ∙ q) in
    record { means = rw (p.0, p.1) refl; lies = rw p.1 (save-lies f l w h p.0) }

pub no-save : (g : Form → List ℕ → Said) (f : Form) (l : List ℕ) (w : Word) (r : Option Word)
    → r ≡ pick (is_save_hex f (text_of w l)) (Some w) None → r ≡ None → with_save g f (text_of w l ∷ []) ≡ Said.bad
unfolding with_save
no-save g f l w r e q = rw (failed (is_save_hex f (text_of w l)) w (sym e ∙ q))

-- ---- the other verbs

either : (b : Bool) (s : Said) → s ≡ Said.bad → pick b s Said.bad ≡ Said.bad
either true s e = e
either false s e = refl

pub none-bad : (v : Verb) → OneOf (0 ∷ 1 ∷ 2 ∷ 3 ∷ 4 ∷ 5 ∷ 6 ∷ 7 ∷ 9 ∷ 11 ∷ 12 ∷ 13 ∷ 14 ∷ 15 ∷ 16 ∷ 17 ∷ 18 ∷ 19 ∷ []) (tag_of the_type v) → does v [] ≡ Said.bad
unfolding does with_number with_hex with_save with_number_hex with_hex_number with_numbers_hex with_two_hex with_three_hex with_number_two_hex
none-bad Verb.Start h = refl
none-bad Verb.Room h = refl
none-bad Verb.Take h = refl
none-bad Verb.Join h = refl
none-bad Verb.Leave h = refl
none-bad Verb.Route h = refl
none-bad Verb.Label h = refl
none-bad Verb.Tree h = refl
none-bad Verb.Free h = absurd (miss (0 ∷ 1 ∷ 2 ∷ 3 ∷ 4 ∷ 5 ∷ 6 ∷ 7 ∷ 9 ∷ 11 ∷ 12 ∷ 13 ∷ 14 ∷ 15 ∷ 16 ∷ 17 ∷ 18 ∷ 19 ∷ []) 8 tt h)
none-bad Verb.Notice h = refl
none-bad (Verb.Save b) h = absurd (miss (0 ∷ 1 ∷ 2 ∷ 3 ∷ 4 ∷ 5 ∷ 6 ∷ 7 ∷ 9 ∷ 11 ∷ 12 ∷ 13 ∷ 14 ∷ 15 ∷ 16 ∷ 17 ∷ 18 ∷ 19 ∷ []) 10 tt h)
none-bad (Verb.Restore b) h = refl
none-bad Verb.Lost h = refl
none-bad (Verb.Move b) h = refl
none-bad Verb.Layers h = refl
none-bad Verb.Wrap h = refl
none-bad Verb.Unwrap h = refl
none-bad Verb.Plan h = refl
none-bad Verb.Vet h = refl
none-bad Verb.Other h = refl

-- ---- one further word

pub one-bad : (v : Verb) (w : List ℕ) → OneOf (2 ∷ 5 ∷ 8 ∷ 9 ∷ 10 ∷ 15 ∷ 17 ∷ 18 ∷ 19 ∷ []) (tag_of the_type v) → does v (w ∷ []) ≡ Said.bad
unfolding does with_number with_hex with_save with_number_hex with_hex_number with_numbers_hex with_two_hex with_three_hex with_number_two_hex
one-bad Verb.Start w h = absurd (miss (2 ∷ 5 ∷ 8 ∷ 9 ∷ 10 ∷ 15 ∷ 17 ∷ 18 ∷ 19 ∷ []) 0 tt h)
one-bad Verb.Room w h = absurd (miss (2 ∷ 5 ∷ 8 ∷ 9 ∷ 10 ∷ 15 ∷ 17 ∷ 18 ∷ 19 ∷ []) 1 tt h)
one-bad Verb.Take w h = either (is_number w) Said.bad refl
one-bad Verb.Join w h = absurd (miss (2 ∷ 5 ∷ 8 ∷ 9 ∷ 10 ∷ 15 ∷ 17 ∷ 18 ∷ 19 ∷ []) 3 tt h)
one-bad Verb.Leave w h = absurd (miss (2 ∷ 5 ∷ 8 ∷ 9 ∷ 10 ∷ 15 ∷ 17 ∷ 18 ∷ 19 ∷ []) 4 tt h)
one-bad Verb.Route w h = either (is_hex w) Said.bad refl
one-bad Verb.Label w h = absurd (miss (2 ∷ 5 ∷ 8 ∷ 9 ∷ 10 ∷ 15 ∷ 17 ∷ 18 ∷ 19 ∷ []) 6 tt h)
one-bad Verb.Tree w h = absurd (miss (2 ∷ 5 ∷ 8 ∷ 9 ∷ 10 ∷ 15 ∷ 17 ∷ 18 ∷ 19 ∷ []) 7 tt h)
one-bad Verb.Free w h = refl
one-bad Verb.Notice w h = either (is_number w) Said.bad refl
one-bad (Verb.Save b) w h = refl
one-bad (Verb.Restore b) w h = absurd (miss (2 ∷ 5 ∷ 8 ∷ 9 ∷ 10 ∷ 15 ∷ 17 ∷ 18 ∷ 19 ∷ []) 11 tt h)
one-bad Verb.Lost w h = absurd (miss (2 ∷ 5 ∷ 8 ∷ 9 ∷ 10 ∷ 15 ∷ 17 ∷ 18 ∷ 19 ∷ []) 12 tt h)
one-bad (Verb.Move b) w h = absurd (miss (2 ∷ 5 ∷ 8 ∷ 9 ∷ 10 ∷ 15 ∷ 17 ∷ 18 ∷ 19 ∷ []) 13 tt h)
one-bad Verb.Layers w h = absurd (miss (2 ∷ 5 ∷ 8 ∷ 9 ∷ 10 ∷ 15 ∷ 17 ∷ 18 ∷ 19 ∷ []) 14 tt h)
one-bad Verb.Wrap w h = either (is_hex w) Said.bad refl
one-bad Verb.Unwrap w h = absurd (miss (2 ∷ 5 ∷ 8 ∷ 9 ∷ 10 ∷ 15 ∷ 17 ∷ 18 ∷ 19 ∷ []) 16 tt h)
one-bad Verb.Plan w h = either (is_number w) Said.bad refl
one-bad Verb.Vet w h = either (is_number w) Said.bad refl
one-bad Verb.Other w h = refl

-- ---- two further words, and more

pub two-bad : (v : Verb) (w x : List ℕ) → OneOf (0 ∷ 1 ∷ 3 ∷ 4 ∷ 6 ∷ 7 ∷ 8 ∷ 9 ∷ 10 ∷ 11 ∷ 12 ∷ 13 ∷ 14 ∷ 15 ∷ 16 ∷ 18 ∷ 19 ∷ []) (tag_of the_type v) → does v (w ∷ x ∷ []) ≡ Said.bad
unfolding does with_number with_hex with_save with_number_hex with_hex_number with_numbers_hex with_two_hex with_three_hex with_number_two_hex
two-bad Verb.Start w x h = refl
two-bad Verb.Room w x h = refl
two-bad Verb.Take w x h = absurd (miss (0 ∷ 1 ∷ 3 ∷ 4 ∷ 6 ∷ 7 ∷ 8 ∷ 9 ∷ 10 ∷ 11 ∷ 12 ∷ 13 ∷ 14 ∷ 15 ∷ 16 ∷ 18 ∷ 19 ∷ []) 2 tt h)
two-bad Verb.Join w x h = refl
two-bad Verb.Leave w x h = refl
two-bad Verb.Route w x h = absurd (miss (0 ∷ 1 ∷ 3 ∷ 4 ∷ 6 ∷ 7 ∷ 8 ∷ 9 ∷ 10 ∷ 11 ∷ 12 ∷ 13 ∷ 14 ∷ 15 ∷ 16 ∷ 18 ∷ 19 ∷ []) 5 tt h)
two-bad Verb.Label w x h = refl
two-bad Verb.Tree w x h = refl
two-bad Verb.Free w x h = refl
two-bad Verb.Notice w x h = either (is_number w) _ (either (is_number x) Said.bad refl)
two-bad (Verb.Save b) w x h = refl
two-bad (Verb.Restore b) w x h = refl
two-bad Verb.Lost w x h = refl
two-bad (Verb.Move b) w x h = refl
two-bad Verb.Layers w x h = refl
two-bad Verb.Wrap w x h = either (is_hex w) _ (either (is_hex x) Said.bad refl)
two-bad Verb.Unwrap w x h = refl
two-bad Verb.Plan w x h = absurd (miss (0 ∷ 1 ∷ 3 ∷ 4 ∷ 6 ∷ 7 ∷ 8 ∷ 9 ∷ 10 ∷ 11 ∷ 12 ∷ 13 ∷ 14 ∷ 15 ∷ 16 ∷ 18 ∷ 19 ∷ []) 17 tt h)
two-bad Verb.Vet w x h = either (is_number w) _ (either (is_hex x) Said.bad refl)
two-bad Verb.Other w x h = refl

-- three further words, and four or more
pub three-bad : (v : Verb) (w x y : List ℕ) (ws : List (List ℕ)) → OneOf (0 ∷ 1 ∷ 2 ∷ 3 ∷ 4 ∷ 5 ∷ 6 ∷ 7 ∷ 8 ∷ 10 ∷ 11 ∷ 12 ∷ 13 ∷ 14 ∷ 16 ∷ 17 ∷ 19 ∷ []) (tag_of the_type v) → does v (w ∷ x ∷ y ∷ ws) ≡ Said.bad
unfolding does with_number with_hex with_save with_number_hex with_hex_number with_two_hex with_three_hex with_number_two_hex
three-bad Verb.Start w x y ws h = refl
three-bad Verb.Room w x y ws h = refl
three-bad Verb.Take w x y ws h = either (is_number w) Said.bad refl
three-bad Verb.Join w x y ws h = refl
three-bad Verb.Leave w x y ws h = refl
three-bad Verb.Route w x y ws h = either (is_hex w) Said.bad refl
three-bad Verb.Label w x y ws h = refl
three-bad Verb.Tree w x y ws h = refl
three-bad Verb.Free w x y ws h = refl
three-bad Verb.Notice w x y ws h = absurd (miss (0 ∷ 1 ∷ 2 ∷ 3 ∷ 4 ∷ 5 ∷ 6 ∷ 7 ∷ 8 ∷ 10 ∷ 11 ∷ 12 ∷ 13 ∷ 14 ∷ 16 ∷ 17 ∷ 19 ∷ []) 9 tt h)
three-bad (Verb.Save b) w x y ws h = refl
three-bad (Verb.Restore b) w x y ws h = refl
three-bad Verb.Lost w x y ws h = refl
three-bad (Verb.Move b) w x y ws h = refl
three-bad Verb.Layers w x y ws h = refl
three-bad Verb.Wrap w x y ws h = absurd (miss (0 ∷ 1 ∷ 2 ∷ 3 ∷ 4 ∷ 5 ∷ 6 ∷ 7 ∷ 8 ∷ 10 ∷ 11 ∷ 12 ∷ 13 ∷ 14 ∷ 16 ∷ 17 ∷ 19 ∷ []) 15 tt h)
three-bad Verb.Unwrap w x y ws h = refl
three-bad Verb.Plan w x y ws h = either (is_number w) Said.bad refl
three-bad Verb.Vet w x y ws h = absurd (miss (0 ∷ 1 ∷ 2 ∷ 3 ∷ 4 ∷ 5 ∷ 6 ∷ 7 ∷ 8 ∷ 10 ∷ 11 ∷ 12 ∷ 13 ∷ 14 ∷ 16 ∷ 17 ∷ 19 ∷ []) 18 tt h)
three-bad Verb.Other w x y ws h = refl

pub more-bad : (v : Verb) (w x y z : List ℕ) (ws : List (List ℕ)) → does v (w ∷ x ∷ y ∷ z ∷ ws) ≡ Said.bad
unfolding does with_number with_hex with_save with_number_hex with_hex_number with_numbers_hex with_two_hex with_three_hex with_number_two_hex
more-bad Verb.Start w x y z ws = refl
more-bad Verb.Room w x y z ws = refl
more-bad Verb.Take w x y z ws = either (is_number w) Said.bad refl
more-bad Verb.Join w x y z ws = refl
more-bad Verb.Leave w x y z ws = refl
more-bad Verb.Route w x y z ws = either (is_hex w) Said.bad refl
more-bad Verb.Label w x y z ws = refl
more-bad Verb.Tree w x y z ws = refl
more-bad Verb.Free w x y z ws = refl
more-bad Verb.Notice w x y z ws = either (is_number w) _ (either (is_number x) Said.bad refl)
more-bad (Verb.Save b) w x y z ws = refl
more-bad (Verb.Restore b) w x y z ws = refl
more-bad Verb.Lost w x y z ws = refl
more-bad (Verb.Move b) w x y z ws = refl
more-bad Verb.Layers w x y z ws = refl
more-bad Verb.Wrap w x y z ws = either (is_hex w) _ (either (is_hex x) Said.bad refl)
more-bad Verb.Unwrap w x y z ws = refl
more-bad Verb.Plan w x y z ws = either (is_number w) Said.bad refl
more-bad Verb.Vet w x y z ws = either (is_number w) _ (either (is_hex x) Said.bad refl)
more-bad Verb.Other w x y z ws = refl

-- ---- an order in any case

pub told : (l : List ℕ) (s : Said) (r : Option Order) → TellsIf l s r → Tells l s (unwrap_or r Order.Bad)
unfolding meant
told l s None h = record { means = sym h; lies = tt }
told l s (Some r) h = h
