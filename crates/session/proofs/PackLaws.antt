-- What the writer packs is read back: the same messages, in order, and no octet over. Each PDU is as full as can be.
-- Assumes nothing.
use Prim.Native.Nat.{ℕ, zero, suc, ◌+◌, ◌-◌, ◌≤◌, ◌<◌}
use Rattle.std.proofs.Common.{not-suc-le-zero, sym, ap, ◌∙◌, take_at, drop_at}
use native.Mathlib.Omega.{arith}
use Rattle.std.specs.Prelude.{◌≡◌, take, drop, leb}
use Rattle.std.proofs.Math.Path.{refl}
use mathlib.Core.List.{List, [], ◌∷◌, ◌++◌, append_assoc}
use Rattle.std.proofs.Math.ListN.{length, length-append, get_or-append}
use Rattle.std.proofs.Math.Seq.{take-append_seam, drop-append_seam}
use borrow.Author.Tests.{leb-true, leb-false, le-ltb}
use Rattle.meaning.specs.Octets.{two, two_at}
use Rattle.meaning.specs.Lists.{picked, same_refl, append-nil}
use Rattle.meaning_laws.specs.RoundTrip.{two_back}
use Rattle.session.specs.Stream.{body_limit, least_length, most_length, pdu_head, head, message, wrong_version, wrong_length, wrong_id, look_head, message_size, look_message, look, empty, parsed_by, parsed, digest}
use Rattle.session.specs.StreamLaws.{and_then}
use Rattle.session.proofs.StreamLaws.{parsed-look}
use Rattle.session.specs.Pack.{pdu, joined, groups_from, groups, pdus, packed}
use Rattle.session.specs.PackLaws.{Packable, AllPackable, flat, AllFit, first_of, Full}

-- ---- a message at the front of octets

look-some : (id : List ℕ) (left : ℕ) (s : List ℕ) → 0 < left → look id left s ≡ look_message left s
unfolding look
look-some id zero s h = absurd (not-suc-le-zero h)
look-some id (suc n) s h = refl

message-shown : (left : ℕ) (m x : List ℕ) → Packable m → length m ≤ left → look_message left (m ++ x) ≡ message (length m)
unfolding look_message message_size
message-shown left m x g h =
    let field : two_at (m ++ x) 2 ≡ two_at m 2 = unfold two_at in rw (get_or-append m x 0 2 (omega (arith, g.least)), get_or-append m x 0 3 (omega (arith, g.least))) refl in
    let long = length-append m x in
    rw (field, g.says, le-ltb left 4 (omega (arith, g.least)), le-ltb (length (m ++ x)) 4 (omega (arith, g.least)), le-ltb left (length m) h, le-ltb (length (m ++ x)) (length m) (omega arith)) refl

body_back : (id : List ℕ) (ns : List (List ℕ)) (rest : List ℕ) → AllPackable ns → parsed id (length (joined ns)) (joined ns ++ rest) ≡ and_then ns (parsed id 0 rest)
unfolding joined AllPackable and_then parsed_by
body_back id [] rest g = refl
body_back id (m ∷ ns) rest g =
    let j : List ℕ = joined ns in
    let long = length-append m j in
    let left : length (m ++ j) - length m ≡ length j = omega arith in
    rw (append_assoc m j rest)
    (parsed-look id (length (m ++ j)) (m ++ (j ++ rest))
    ∙ rw (look-some id (length (m ++ j)) (m ++ (j ++ rest)) (omega (arith, g.0.least)), message-shown (length (m ++ j)) m (j ++ rest) g.0 (omega arith))
    (rw (take-append_seam, drop-append_seam, left, body_back id ns rest g.1) refl))

-- ---- a PDU at the front of octets

module _ (id : List ℕ) (six : length id ≡ 6) (b rest : List ℕ) (low : 8 ≤ length b) (high : length b ≤ body_limit) where
  pdu-octets : List ℕ
  pdu-octets = pdu id b ++ rest

  pdu-long : pdu_head ≤ length pdu-octets
  unfolding pdu-octets pdu two
  pdu-long = omega (arith, length-append (id ++ b) rest, length-append id b)

  version-back : two_at pdu-octets 0 ≡ 1
  unfolding pdu-octets pdu two two_at
  version-back = refl

  length_back : two_at pdu-octets 2 ≡ 6 + length b
  unfolding pdu-octets pdu two two_at
  length_back = two_back (6 + length b) (omega arith)

  id-back : take 6 (drop 4 pdu-octets) ≡ id
  unfolding pdu-octets pdu two
  id-back = rw (append_assoc id b rest) (take_at id (b ++ rest) 6 six)

  head-shown : look_head id pdu-octets ≡ head (length b)
  unfolding look_head wrong_version wrong_length wrong_id
  head-shown =
      let s : List ℕ = pdu-octets in
      let long : pdu_head ≤ length s = pdu-long in
      rw (
        le-ltb (length s) 2 (omega arith),
        le-ltb (length s) 4 (omega arith),
        le-ltb (length s) pdu_head long,
        version-back,
        length_back,
        id-back,
        same_refl id,
        le-ltb (6 + length b) least_length (omega arith),
        le-ltb most_length (6 + length b) (omega arith),
      )
      (let n : 6 + length b - 6 ≡ length b = omega arith in rw n refl)

  after-head : drop pdu_head pdu-octets ≡ b ++ rest
  unfolding pdu-octets pdu two
  after-head = rw (append_assoc id b rest) (drop_at id (b ++ rest) 6 six)

pdu-back : (id : List ℕ) → length id ≡ 6 → (g : List (List ℕ)) (rest : List ℕ) → AllPackable g → 8 ≤ length (joined g) → length (joined g) ≤ body_limit
    → parsed id 0 (pdu id (joined g) ++ rest) ≡ and_then g (parsed id 0 rest)
unfolding parsed_by look pdu-octets
pdu-back id six g rest p low high =
    parsed-look id 0 (pdu id (joined g) ++ rest)
    ∙ rw (head-shown id six (joined g) rest low high) (rw (after-head id six (joined g) rest low high) (body_back id g rest p))

pdus-back : (id : List ℕ) → length id ≡ 6 → (gs : List (List (List ℕ))) → AllFit gs → parsed id 0 (pdus id gs) ≡ record { messages = flat gs; stream = empty }
unfolding pdus flat AllFit
pdus-back id six [] f = parsed-look id 0 [] ∙ (unfold look look_head parsed_by empty in refl)
pdus-back id six (g ∷ gs) f =
    pdu-back id six g (pdus id gs) f.0.0 f.0.1 f.0.2
    ∙ rw (pdus-back id six gs f.1) (unfold and_then in refl)

-- ---- the groups

pub joined-append : (g h : List (List ℕ)) → joined (g ++ h) ≡ joined g ++ joined h
unfolding joined
joined-append [] h = refl
joined-append (m ∷ g) h = rw (joined-append g h) (sym (append_assoc m (joined g) (joined h)))

joined_snoc : (g : List (List ℕ)) (m : List ℕ) → length (joined (g ++ (m ∷ []))) ≡ length (joined g) + length m
joined_snoc g m = rw (joined-append g (m ∷ [])) (unfold joined in rw (append-nil m) (length-append (joined g) m))

pub joined-one : (m : List ℕ) → length (joined (m ∷ [])) ≡ length m
unfolding joined
joined-one m = rw (append-nil m) refl

packable-append : (g h : List (List ℕ)) → AllPackable g → AllPackable h → AllPackable (g ++ h)
unfolding AllPackable
packable-append [] h p q = q
packable-append (m ∷ g) h p q = (p.0, packable-append g h p.1 q)

groups-fit : (g ms : List (List ℕ)) → AllPackable g → 8 ≤ length (joined g) → length (joined g) ≤ body_limit → AllPackable ms → AllFit (groups_from g ms)
unfolding groups_from AllFit AllPackable
groups-fit g [] p low high q = ((p, low, high), tt)
groups-fit g (m ∷ ms) p low high q =
    let one : length (joined (m ∷ [])) ≡ length m = joined-one m in
    let more = joined_snoc g m in
    picked AllFit (leb (length (joined g) + length m) body_limit)
    (λ e. let fits = leb-true (length (joined g) + length m) body_limit e in
    groups-fit (g ++ (m ∷ [])) ms (packable-append g (m ∷ []) p (q.0, tt)) (omega arith) (omega arith) q.1)
    (λ e. ((p, low, high), groups-fit (m ∷ []) ms (q.0, tt) (omega (arith, q.0.least)) (omega (arith, q.0.most)) q.1))

groups-flat : (g ms : List (List ℕ)) → flat (groups_from g ms) ≡ g ++ ms
unfolding groups_from flat
groups-flat g [] = refl
groups-flat g (m ∷ ms) =
    picked (λ (gs : List (List (List ℕ))). flat gs ≡ g ++ (m ∷ ms)) (leb (length (joined g) + length m) body_limit)
    (λ _. groups-flat (g ++ (m ∷ [])) ms ∙ append_assoc g (m ∷ []) ms)
    (λ _. ap (λ (l : List (List ℕ)). g ++ l) (groups-flat (m ∷ []) ms))

-- WHAT IS PACKED IS READ BACK by a reader that expects our identifier: the same messages in order, and nothing is held after them.
pub packed-back : (id : List ℕ) → length id ≡ 6 → (ms : List (List ℕ)) → AllPackable ms → digest id empty (packed id ms) ≡ record { messages = ms; stream = empty }
unfolding digest empty packed groups AllPackable
packed-back id six [] p = pdus-back id six [] (unfold AllFit in tt) ∙ (unfold flat in refl)
packed-back id six (m ∷ ms) p =
    let one : length (joined (m ∷ [])) ≡ length m = joined-one m in
    let fit = groups-fit (m ∷ []) ms (p.0, tt) (omega (arith, p.0.least)) (omega (arith, p.0.most)) p.1 in
    pdus-back id six (groups_from (m ∷ []) ms) fit ∙ rw (groups-flat (m ∷ []) ms) refl

unfoldable Starts : List ℕ → List (List (List ℕ)) → Type 0
Starts m [] = ⊥
Starts m (h ∷ gs) = first_of h ≡ m

groups-start : (m : List ℕ) (g ms : List (List ℕ)) → Starts m (groups_from (m ∷ g) ms)
unfolding groups_from Starts first_of
groups-start m g [] = refl
groups-start m g (k ∷ ms) =
    picked (Starts m) (leb (length (joined (m ∷ g)) + length k) body_limit)
    (λ _. groups-start m (g ++ (k ∷ [])) ms)
    (λ _. refl)

full-cons : (g : List (List ℕ)) (gs : List (List (List ℕ))) (m : List ℕ) → Starts m gs → body_limit < length (joined g) + length m → Full gs → Full (g ∷ gs)
unfolding Full Starts
full-cons g [] m s h f = tt
full-cons g (k ∷ gs) m s h f = (rw s h, f)

full_from : (g ms : List (List ℕ)) → Full (groups_from g ms)
unfolding groups_from Full
full_from g [] = tt
full_from g (m ∷ ms) =
    picked Full (leb (length (joined g) + length m) body_limit)
    (λ _. full_from (g ++ (m ∷ [])) ms)
    (λ e. full-cons g (groups_from (m ∷ []) ms) m (groups-start m [] ms) (leb-false (length (joined g) + length m) body_limit e) (full_from (m ∷ []) ms))

-- AS FULL AS 4096 ALLOWS: with the first message of the next PDU, a PDU's length field would pass 4096.
pub packed-full : (ms : List (List ℕ)) → Full (groups ms)
unfolding groups Full
packed-full [] = tt
packed-full (m ∷ ms) = full_from (m ∷ []) ms
