-- The stream that the lent memory denotes: a buffer of octets and four numbers. Any content of them denotes a stream that `Fits`.
-- Assumes nothing.
use Rattle.std.specs.Prelude.{ℕ, zero, suc, ◌+◌, ◌-◌, min, ◌≤◌, ◌≡◌, refl, List, [], ◌∷◌, ◌++◌, take, drop, get_or, length, eqb}
use Rattle.std.proofs.Common.{arith, ap, ◌∙◌, append_assoc, length-take, length-drop, take-add, take_at, drop_at, drop-drop, length-take-le}
use Rattle.std.proofs.Math.Seq.{take-nil, take-append-add}
use Rattle.meaning.specs.Lists.{picked}
use Rattle.session.specs.Session.{stream_room}
use Rattle.session.specs.Stream.{body_limit, stopped, reading, limit}
use Rattle.session.specs.Kept.{Fits}
use Rattle.session.proofs.Kept.{limit-most}
use Rattle.session.specs.Lent.{mark_in, left_in, place_in, count_in, stream_of}

pub lent_fits : (ns buffer : List ℕ) → Fits (stream_of ns buffer)
unfolding stream_of Fits left_in count_in
lent_fits ns buffer =
    picked Fits (eqb (mark_in ns) 0)
    (λ _. (omega arith, rw (length-take (count_in ns) (drop (place_in ns) buffer)) (omega arith)))
    (λ _. tt)

-- what is held, and what may still come, lies in the buffer's first 4100 octets
pub lent-room : (ns : List ℕ) → place_in ns + limit (left_in ns) ≤ stream_room
unfolding place_in left_in
lent-room ns = omega (arith, limit-most (min (get_or ns 1 0) body_limit) (omega arith))

-- ---- what code does to the memory

-- numbers within their bounds denote what they say
pub lent-reading : (left place count : ℕ) (buffer : List ℕ) → left ≤ body_limit → place + limit left ≤ stream_room → count ≤ limit left
    → stream_of (0 ∷ left ∷ place ∷ count ∷ []) buffer ≡ reading left (take count (drop place buffer))
unfolding stream_of left_in place_in count_in
lent-reading left place count buffer h p k =
    let a : min left body_limit ≡ left = omega arith in
    let b : min place (stream_room - limit left) ≡ place = omega arith in
    let c : min count (limit left) ≡ count = omega arith in
    rw a (rw (b, c) refl)

pub lent-stopped : (left place count : ℕ) (buffer : List ℕ) → stream_of (1 ∷ left ∷ place ∷ count ∷ []) buffer ≡ stopped
unfolding stream_of
lent-stopped left place count buffer = refl

-- k offered octets copied behind those held, into the part of the buffer from place + count on
pub lent-fill : (buffer o : List ℕ) (place count k : ℕ) → place + count + k ≤ length buffer → k ≤ length o
    → take (count + k) (drop place (take (place + count) buffer ++ (take k o ++ drop k (drop (place + count) buffer)))) ≡ take count (drop place buffer) ++ take k o
lent-fill buffer o place count k h g =
    let rest : List ℕ = drop k (drop (place + count) buffer) in
    let a : List ℕ = take place buffer in
    let b : List ℕ = take count (drop place buffer) in
    let la : length a ≡ place = length-take-le place buffer (omega arith) in
    let lb : length b ≡ count = length-take-le count (drop place buffer) (rw length-drop (omega arith)) in
    let lk : length (take k o) ≡ k = length-take-le k o g in
    rw (take-add place count buffer, append_assoc a b (take k o ++ rest), drop_at a (b ++ (take k o ++ rest)) place la)
    (let s : take (length b + k) (b ++ (take k o ++ rest)) ≡ b ++ take k o = take-append-add b (take k o ++ rest) k ∙ ap (λ (l : List ℕ). b ++ l) (take_at (take k o) rest k lk) in
    rw lb at s)

drop-take : (k n : ℕ) (l : List ℕ) → drop k (take (k + n) l) ≡ take n (drop k l)
drop-take k n l = by_parts (length-case k l)
  where
    length-case : (k : ℕ) (l : List ℕ) → drop k (take k l ++ take n (drop k l)) ≡ take n (drop k l)
    length-case zero l = refl
    length-case (suc k) [] = rw (take-nil n) refl
    length-case (suc k) (x ∷ l) = length-case k l

    by_parts : drop k (take k l ++ take n (drop k l)) ≡ take n (drop k l) → drop k (take (k + n) l) ≡ take n (drop k l)
    by_parts e = rw (take-add k n l) e

-- a message of k octets worked off: the place moves on, nothing is copied
pub lent-past : (buffer : List ℕ) (place count k : ℕ) → k ≤ count → drop k (take count (drop place buffer)) ≡ take (count - k) (drop (place + k) buffer)
lent-past buffer place count k h =
    let c : k + (count - k) ≡ count = omega arith in
    let e = drop-take k (count - k) (drop place buffer) ∙ ap (take (count - k)) (drop-drop k place buffer) in
    rw c at e
