-- For the code: where in a name's octets the name inside begins, and the reading of the part from there on.
-- Assumes nothing.
use Rattle.std.specs.Prelude.{ℕ, zero, suc, ◌+◌, ◌-◌, ◌≤◌, ◌<◌, ◌≡◌, true, false, List, [], take, get_or}
use Rattle.std.proofs.Common.{arith, sym, ap₂, ◌∙◌, take_all, drop-drop}
use Rattle.std.proofs.Math.Path.{refl, ap}
use Rattle.std.proofs.Math.ListN.{drop, length, length-drop}
use borrow.Author.Tests.{not-false}
use Rattle.meaning.specs.Wire.{root_length, opaque_in}
use Rattle.meaning.specs.Lists.{by-test}
use Rattle.meaning_layers.specs.Layers.{before_inner, inner_in, is_last, inner_of, Peeled, layer_of, under, peel, no_layer}
use Rattle.meaning_layers.specs.LayerLaws.{least_name}
use Rattle.meaning_layers.proofs.LayerLaws.{name-long, wraps-so}
use Rattle.meaning_layers.specs.LayerCalls.{below}
use Rattle.meaning_layers.proofs.PeelLaws.{peel-last, peel-more}
use Rattle.meaning_layers.specs.InnerStart.{inner_start, layer_count, layer_start}

pub start-last : (e : List ℕ) → is_last e ≡ true → inner_start e ≡ 0
unfolding inner_start
start-last e l = rw l refl

pub start-more : (e : List ℕ) → is_last e ≡ false → inner_start e ≡ 9 + root_length e + before_inner (opaque_in e)
unfolding inner_start
start-more e l = rw l refl

pub start-inner : (e : List ℕ) → is_last e ≡ false → drop (inner_start e) e ≡ inner_of e
start-inner e l =
    let p : 9 + root_length e + before_inner (opaque_in e) ≡ 6 + root_length e + (3 + before_inner (opaque_in e)) = omega arith in
    ap (λ (k : ℕ). drop k e) (start-more e l ∙ p) ∙ sym (drop-drop (3 + before_inner (opaque_in e)) (6 + root_length e) e) ∙ unfold inner_of inner_in opaque_in in refl

-- at least nine octets come before it, and thirteen are behind
pub start-bounds : (e : List ℕ) → is_last e ≡ false → (9 ≤ inner_start e) × (inner_start e + least_name ≤ length e)
start-bounds e l =
    let long : least_name ≤ length (inner_of e) = unfold inner_of in name-long (inner_in (opaque_in e)) (wraps-so (opaque_in e) (unfold is_last in not-false _ l)).inner in
    (omega (arith, start-more e l), omega (arith, ap length (start-inner e l), length-drop (inner_start e) e))

pub start-not : (e : List ℕ) → (inner_start e ≡ 0 → ⊥) → is_last e ≡ false
start-not e d = by-test (is_last e) (λ l. absurd (d (start-last e l))) (λ l. l)

pub start_none : (e : List ℕ) → inner_start e ≡ 0 → is_last e ≡ true
start_none e z = by-test (is_last e) (λ l. l) (λ l. absurd (omega (arith, start-bounds e l)))

-- the part from there on, as it is lent
part-inner : (e : List ℕ) (k : ℕ) → k ≡ inner_start e → is_last e ≡ false → take (length e - k) (drop k e) ≡ inner_of e
part-inner e k s l = take_all (length e - k) (drop k e) (omega (arith, length-drop k e)) ∙ ap (λ (i : ℕ). drop i e) s ∙ start-inner e l

-- THE TWO CASES OF A FUNCTION THAT CALLS ITSELF, by the start k: none, or the part from k on, as it is lent
pub peel-end : (e : List ℕ) → inner_start e ≡ 0 → peel e ≡ record { outer = []; core = e }
peel-end e z = peel-last e (start_none e z)

pub peel-part : (e : List ℕ) (k : ℕ) → k ≡ inner_start e → (k ≡ 0 → ⊥) → peel e ≡ under (layer_of e) (peel (take (length e - k) (drop k e)))
peel-part e k s d =
    let l : is_last e ≡ false = start-not e (λ z. d (s ∙ z)) in
    peel-more e l ∙ ap (λ (a : List ℕ). under (layer_of e) (peel a)) (sym (part-inner e k s l))

pub count-end : (e : List ℕ) → inner_start e ≡ 0 → layer_count e ≡ 1
unfolding layer_count
count-end e z = ap (λ (p : Peeled). suc (length p.outer)) (peel-end e z)

pub count-part : (e : List ℕ) (k r : ℕ) → k ≡ inner_start e → (k ≡ 0 → ⊥) → r ≡ layer_count (take (length e - k) (drop k e)) → r + 1 ≡ layer_count e
unfolding layer_count under
count-part e k r s d h = let more = ap (λ (p : Peeled). suc (length p.outer)) (peel-part e k s d) in omega (arith, h, more)

-- each case, by the start k of the name inside, as it is lent
pub start-end : (i : ℕ) (e : List ℕ) → inner_start e ≡ 0 → length e ≡ layer_start (suc i) e
unfolding layer_start
start-end i e z = rw (start_none e z) refl

pub start-part : (i : ℕ) (e : List ℕ) (k r : ℕ) → k ≡ inner_start e → (k ≡ 0 → ⊥) → r ≡ layer_start i (take (length e - k) (drop k e)) → k + r ≡ layer_start (suc i) e
unfolding layer_start
start-part i e k r s d h =
    let l : is_last e ≡ false = start-not e (λ z. d (s ∙ z)) in
    rw l (ap₂ (λ (a b : ℕ). a + b) s (h ∙ ap (layer_start i) (part-inner e k s l)))

-- the octets from there on are that name
pub start-below : (i : ℕ) (e : List ℕ) → i < layer_count e → drop (layer_start i e) e ≡ below i e
unfolding layer_start below layer_count
start-below zero e h = refl
start-below (suc i) e h =
    by-test (is_last e)
    (λ l. let one : suc (length (peel e).outer) ≡ 1 = ap (λ (p : Peeled). suc (length p.outer)) (peel-last e l) in absurd (omega arith))
    (λ l. let more : suc (length (peel e).outer) ≡ suc (suc (length (peel (inner_of e)).outer)) = ap (λ (p : Peeled). suc (length p.outer)) (peel-more e l) ∙ unfold under in refl in
    let deeper : drop (layer_start i (inner_of e)) (inner_of e) ≡ below i (inner_of e) = start-below i (inner_of e) (unfold layer_count in omega arith) in
    rw l (sym (drop-drop (layer_start i (inner_of e)) (inner_start e) e) ∙ ap (drop (layer_start i (inner_of e))) (start-inner e l) ∙ deeper))

-- and these names have the layers that reading gives, one after the other
pub below-layer : (i : ℕ) (e : List ℕ) → i < length (peel e).outer → layer_of (below i e) ≡ get_or (peel e).outer i no_layer
unfolding below under
below-layer zero e h =
    by-test (is_last e)
    (λ l. let none : length (peel e).outer ≡ 0 = ap (λ (p : Peeled). length p.outer) (peel-last e l) in absurd (omega arith))
    (λ l. sym (ap (λ (p : Peeled). get_or p.outer 0 no_layer) (peel-more e l)))
below-layer (suc i) e h =
    by-test (is_last e)
    (λ l. let none : length (peel e).outer ≡ 0 = ap (λ (p : Peeled). length p.outer) (peel-last e l) in absurd (omega arith))
    (λ l. let more : length (peel e).outer ≡ suc (length (peel (inner_of e)).outer) = ap (λ (p : Peeled). length p.outer) (peel-more e l) in
    below-layer i (inner_of e) (omega arith) ∙ sym (ap (λ (p : Peeled). get_or p.outer (suc i) no_layer) (peel-more e l)))

-- with the innermost name last
pub below-core : (n : ℕ) (e : List ℕ) → length (peel e).outer ≡ n → below n e ≡ (peel e).core
unfolding below under
below-core zero e h =
    by-test (is_last e)
    (λ l. sym (ap (λ (p : Peeled). p.core) (peel-last e l)))
    (λ l. let more : length (peel e).outer ≡ suc (length (peel (inner_of e)).outer) = ap (λ (p : Peeled). length p.outer) (peel-more e l) in absurd (omega arith))
below-core (suc n) e h =
    by-test (is_last e)
    (λ l. let none : length (peel e).outer ≡ 0 = ap (λ (p : Peeled). length p.outer) (peel-last e l) in absurd (omega arith))
    (λ l. let more : length (peel e).outer ≡ suc (length (peel (inner_of e)).outer) = ap (λ (p : Peeled). length p.outer) (peel-more e l) in
    below-core n (inner_of e) (omega arith) ∙ sym (ap (λ (p : Peeled). p.core) (peel-more e l)))
