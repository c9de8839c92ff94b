-- Message after message: how much room is left, and what is written. Assumes nothing.
use Prim.Native.Nat.{ℕ, zero, suc, ◌+◌, ◌-◌, ◌≤◌, ◌<◌}
use native.Mathlib.Omega.{arith}
use mathlib.Core.Path.{◌≡◌, refl, sym, ap, ◌∙◌}
use mathlib.Core.Bool.{Bool, true, false}
use mathlib.Core.List.{List, [], ◌∷◌, ◌++◌}
use lib.ListN.{take, drop, length, length-drop, take-append-drop}
use lib.Seq.{drop-drop, length-take-le, take-append_seam}
use lib.Dec.{eqb, leb}
use borrow.Author.Tests.{le-leb, lt-leb, leb-true, leb-false, lt-ltb, le-ltb}
use Rattle.meaning.specs.Octets.{two_at, ◌when◌else◌}
use Rattle.meaning.specs.Lists.{by-test, picked}
use Rattle.meaning.specs.Calls.{over}
use Rattle.meaning.specs.Events.{no_neighbour}
use Rattle.session.specs.Stream.{pdu_head, identifier_size, body_limit}
use Rattle.session.specs.Pack.{is_record, messages_f, messages_to, packed, Packed, pack_refusal, packed_by, pack}
use Rattle.session.specs.Calls.{Packs}
use Rattle.session_records.specs.Records.{size_at, message_at, behind, messages_from, Within, Finds}
use Rattle.session_records.proofs.Finding.{record-tells, from_some, from-none, message-length}
use Rattle.session_pdu.specs.Packing.{NoneEmpty, body_after, added_by, size_from, with_message, written_from, Put}
use Rattle.session_pdu.proofs.Filling.{written-packed, packed-size}

-- the search stands at place i, where a record to n is, or at the end
pub record Stands (n : ℕ) (s : List ℕ) (i : ℕ) : Type 0 where
  pub ends : i ≤ length s
  pub within : i < length s → Within i s

stands : (n from i : ℕ) (s : List ℕ) → Finds n from s i → Stands n s i
stands n from i s f = record { ends = f.ends; within = f.within }

-- the message at place i, as the code has it
module _ (n i k : ℕ) (s : List ℕ) (t : Stands n s i) (h : i < length s) (e : k ≡ size_at i s) where
  pub next-inside : i + 4 + k ≤ length s
  unfolding behind
  next-inside = let f : i + 4 + size_at i s ≤ length s = (t.within h).inside in omega (arith, f)

  pub message-small : (8 ≤ k) × (k ≤ body_limit)
  message-small = (omega (arith, (t.within h).least), omega (arith, (t.within h).most))

  pub message-part : take (i + 4 + k - (i + 4)) (drop (i + 4) s) ≡ message_at i s
  unfolding message_at
  message-part = let z : i + 4 + k - (i + 4) ≡ size_at i s = omega arith in rw z refl

  pub part-long : length (take (i + 4 + k - (i + 4)) (drop (i + 4) s)) ≡ k
  part-long = ap length message-part ∙ message-length i s (t.within h) ∙ sym e

-- every message in records has an octet
some-there : (s : List ℕ) → is_record s ≡ true → 0 < length (take (4 + two_at s 6) (drop 4 s))
some-there s e = let t = record-tells s e in rw (length-take-le (4 + two_at s 6) (drop 4 s) (omega (arith, length-drop 4 s, t.fits))) (omega arith)

some-found : (f n : ℕ) (s : List ℕ) → NoneEmpty (messages_f f n s)
unfolding messages_f NoneEmpty
some-found zero n s = tt
some-found (suc f) n s =
    let later = some-found f n (drop (4 + (4 + two_at s 6)) s) in
    picked NoneEmpty (is_record s)
    (λ e. picked NoneEmpty (eqb (two_at s 2) n) (λ _. (some-there s e, later)) (λ _. later))
    (λ _. tt)

messages-some : (n : ℕ) (s : List ℕ) → NoneEmpty (messages_to n s)
unfolding messages_to
messages-some n s = some-found (length s) n s

module _ (id : List ℕ) (six : length id ≡ identifier_size) (n : ℕ) (s : List ℕ) where
  size_is : length (packed id (messages_to n s)) ≡ size_from body_limit (messages_to n s)
  size_is = packed-size id six (messages_to n s) (messages-some n s)

  pub sized : (b : Bool) (room : ℕ) → b ≡ leb (size_from body_limit (messages_to n s)) room → b ≡ leb (length (packed id (messages_to n s))) room
  sized b room e = rw size_is e

-- ---- the room

-- so much of the room is left, where the search stands at place i
pub record Counts (n : ℕ) (s : List ℕ) (room left body i : ℕ) : Type 0 where
  pub less : left ≤ room
  pub sums : size_from body_limit (messages_to n s) + left ≡ room + size_from body (messages_from n i s)
  pub low : body ≤ body_limit
  pub at : Stands n s i

module _ (n : ℕ) (s : List ℕ) (room : ℕ) where
  pub counts_start : (i : ℕ) → Finds n 0 s i → Counts n s room room body_limit i
  counts_start i f =
      let e : messages_to n s ≡ messages_from n i s = f.same in
      record { less = omega arith; sums = rw (← e) (omega arith); low = omega arith; at = stands n 0 i s f }

  module _ (left body i : ℕ) (c : Counts n s room left body i) (h : i < length s) where
    -- the message at i
    size-there : size_from body (messages_from n i s) ≡ added_by body (size_at i s) + size_from (body_after body (size_at i s)) (messages_to n (drop (behind i s) s))
    size-there = rw (from_some n i s h) (unfold size_from in rw (message-length i s (c.at.within h)) refl)

    pub counts-short : (k more : ℕ) → k ≡ size_at i s → more ≡ added_by body k → left < more → false ≡ leb (size_from body_limit (messages_to n s)) room
    counts-short k more ek em l =
        let m : more ≡ added_by body (size_at i s) = rw (← ek) em in
        sym (lt-leb (size_from body_limit (messages_to n s)) room (omega (arith, c.sums, size-there, m)))

    pub counts_step : (k more body' i' : ℕ) → k ≡ size_at i s → more ≡ added_by body k → body' ≡ body_after body k → body' ≤ body_limit → more ≤ left → Finds n (i + 4 + k) s i' → Counts n s room (left - more) body' i'
    counts_step k more body' i' ek em eb low l f =
        let next : messages_to n (drop (behind i s) s) ≡ messages_from n i' s = (unfold behind in rw (← ek) f.same) in
        let m : more ≡ added_by body (size_at i s) = rw (← ek) em in
        let b : body' ≡ body_after body (size_at i s) = rw (← ek) eb in
        let there : size_from body (messages_from n i s) ≡ added_by body (size_at i s) + size_from body' (messages_from n i' s) = rw (b, ← next) size-there in
        record { less = omega (arith, c.less); sums = omega (arith, c.sums, there, c.less); low = low; at = stands n (i + 4 + k) i' s f }

  pub counts_end : (left body i : ℕ) → Counts n s room left body i → length s ≤ i → true ≡ leb (size_from body_limit (messages_to n s)) room
  counts_end left body i c h =
      let none : size_from body (messages_from n i s) ≡ 0 = rw (from-none n i s h) (unfold size_from in refl) in
      sym (le-leb (size_from body_limit (messages_to n s)) room (omega (arith, c.sums, c.less, none)))

-- ---- the output

-- what stays from a place on stays from a later one on
later : (a b : ℕ) (x y : List ℕ) → drop a x ≡ drop a y → a ≤ b → drop b x ≡ drop b y
later a b x y e h =
    let z : a + (b - a) ≡ b = omega arith in
    let f = sym (drop-drop (b - a) a x) ∙ ap (drop (b - a)) e ∙ drop-drop (b - a) a y in
    rw z at f

-- a PDU that is not full has its head before its body
filled : (body k at at' body' : ℕ) → 8 ≤ k → body' ≡ body_after body k → at' ≡ at + added_by body k → (body < body_limit → body + pdu_head ≤ at) → body' + pdu_head ≤ at'
filled body k at at' body' least eb ea opened =
    by-test (leb (body + k) body_limit)
    (λ e. let fits = leb-true (body + k) body_limit e in
    let b : body' ≡ body + k = eb ∙ (unfold body_after in rw e refl) in
    let a : at' ≡ at + k = ea ∙ (unfold added_by in rw e refl) in
    let o : body + pdu_head ≤ at = opened (omega arith) in
    omega (arith, o, a, b))
    (λ e. let b : body' ≡ k = eb ∙ (unfold body_after in rw e refl) in
    let a : at' ≡ at + (pdu_head + k) = ea ∙ (unfold added_by in rw e refl) in
    omega (arith, a, b))

-- so much of it is written, where the search stands at place i
pub record Writes (id : List ℕ) (n : ℕ) (s out₀ out : List ℕ) (at body i : ℕ) : Type 0 where
  pub long : length out ≡ length out₀
  pub sums : at + size_from body (messages_from n i s) ≡ size_from body_limit (messages_to n s)
  pub same : written_from id body (take at out) (messages_from n i s) ≡ packed id (messages_to n s)
  pub stays : drop at out ≡ drop at out₀
  pub low : body ≤ body_limit
  pub opened : body < body_limit → body + pdu_head ≤ at
  pub stand : Stands n s i

module _ (id : List ℕ) (six : length id ≡ identifier_size) (n : ℕ) (s out₀ : List ℕ) where
  pub writes_start : (i : ℕ) → Finds n 0 s i → Writes id n s out₀ out₀ 0 body_limit i
  writes_start i f =
      let e : messages_to n s ≡ messages_from n i s = f.same in
      record {
        long = refl;
        sums = rw (← e) (omega arith);
        same = rw (← e) (written-packed id six (messages_to n s) (messages-some n s));
        stays = refl;
        low = omega arith;
        opened = λ h. absurd (omega arith);
        stand = stands n 0 i s f;
      }

  module _ (out : List ℕ) (at body i : ℕ) (w : Writes id n s out₀ out at body i) (h : i < length s) where
    there : messages_from n i s ≡ message_at i s ∷ messages_to n (drop (behind i s) s)
    there = from_some n i s h

    long-there : length (message_at i s) ≡ size_at i s
    long-there = message-length i s (w.stand.within h)

    pub writes-room : (k : ℕ) → k ≡ size_at i s → length (packed id (messages_to n s)) ≤ length out₀ → at + added_by body k ≤ length out
    writes-room k e fits =
        let size = size_is id six n s in
        let z : size_from body (messages_from n i s) ≡ added_by body (size_at i s) + size_from (body_after body (size_at i s)) (messages_to n (drop (behind i s) s)) =
        rw there (unfold size_from in rw long-there refl) in
        rw e (omega (arith, w.sums, w.long, z, fits, size))

    pub writes-step : (k at' body' i' : ℕ) (m out' : List ℕ) → k ≡ size_at i s → m ≡ message_at i s → Put id at body out m at' out' → body' ≡ body_after body k → body' ≤ body_limit
        → Finds n (i + 4 + k) s i' → Writes id n s out₀ out' at' body' i'
    unfolding size_from written_from behind
    writes-step k at' body' i' m out' ek em p eb low f =
        let lm : length m ≡ k = rw em long-there ∙ sym ek in
        let next : messages_to n (drop (behind i s) s) ≡ messages_from n i' s = rw (← ek) f.same in
        let rest : messages_from n i s ≡ m ∷ messages_from n i' s = there ∙ rw (em, next) refl in
        let b : body_after body (length m) ≡ body' = rw lm (sym eb) in
        let z : size_from body (messages_from n i s) ≡ added_by body (length m) + size_from body' (messages_from n i' s) = rw rest (rw b refl) in
        let v : written_from id body (take at out) (messages_from n i s) ≡ written_from id body' (take at' out') (messages_from n i' s) = rw (rest, p.writes) (ap (λ (j : ℕ). written_from id j (with_message id body (take at out) m) (messages_from n i' s)) b) in
        record {
          long = p.long ∙ w.long;
          sums = omega (arith, w.sums, p.ends, z);
          same = sym v ∙ w.same;
          stays = p.stays ∙ later at at' out out₀ w.stays (omega (arith, p.ends));
          low = low;
          opened = λ l. filled body k at at' body' (rw ek (w.stand.within h).least) eb (rw (← lm) p.ends) w.opened;
          stand = stands n (i + 4 + k) i' s f;
        }

  pub writes_end : (out : List ℕ) (at body i : ℕ) → Writes id n s out₀ out at body i → length s ≤ i → (at ≡ length (packed id (messages_to n s))) × (out ≡ over (packed id (messages_to n s)) out₀)
  unfolding written_from size_from over
  writes_end out at body i w h =
      let none : messages_from n i s ≡ [] = from-none n i s h in
      let all : take at out ≡ packed id (messages_to n s) = rw none at w.same in
      let size : size_from body (messages_from n i s) ≡ 0 = rw none refl in
      let long : at ≡ length (packed id (messages_to n s)) = omega (arith, w.sums, size, size_is id six n s) in
      (long, sym (take-append-drop at out) ∙ rw (all, w.stays) (ap (λ (j : ℕ). packed id (messages_to n s) ++ drop j out₀) long))

-- ---- the call

module _ (id : List ℕ) (n room : ℕ) (s out : List ℕ) where
  over_none : out ≡ over [] out
  unfolding over
  over_none = refl

  pub packs-far : 15 < n → Packs (pack id n room s) 1 0 out out
  unfolding pack pack_refusal no_neighbour ◌when◌else◌ packed_by
  packs-far h = rw (lt-ltb 15 n h) (record { answers = refl; counts = refl; writes = over_none })

  pub packs-short : n ≤ 15 → leb (length (packed id (messages_to n s))) room ≡ false → Packs (pack id n room s) 16 0 out out
  unfolding pack pack_refusal no_neighbour ◌when◌else◌ packed_by
  packs-short h e =
      let l = leb-false (length (packed id (messages_to n s))) room e in
      rw (le-ltb 15 n h, lt-ltb room (length (packed id (messages_to n s))) l) (record { answers = refl; counts = refl; writes = over_none })

  pub packs-all : n ≤ 15 → leb (length (packed id (messages_to n s))) room ≡ true → (r : ℕ) (out' : List ℕ) → r ≡ length (packed id (messages_to n s)) → out' ≡ over (packed id (messages_to n s)) out → Packs (pack id n room s) 0 r out out'
  unfolding pack pack_refusal no_neighbour ◌when◌else◌ packed_by
  packs-all h e r out' c w =
      let l = leb-true (length (packed id (messages_to n s))) room e in
      rw (le-ltb 15 n h, le-ltb room (length (packed id (messages_to n s))) l) (record { answers = refl; counts = c; writes = w })

module _ (p : Packed) (a n : ℕ) (b x : List ℕ) (d : Packs p a n b x) where
  pub packed-part : take n x ≡ p.octets
  packed-part = rw (d.counts, d.writes) (unfold over in take-append_seam p.octets (drop (length p.octets) b))

  pub packed-count : n ≡ length (take n x)
  packed-count = d.counts ∙ ap length (sym packed-part)
