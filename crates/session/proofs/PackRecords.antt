-- One neighbour's messages in records: all of them can be packed, and of the label part's records they are its messages to that neighbour.
-- Assumes nothing.
use Prim.Native.Nat.{ℕ, zero, suc, ◌+◌, ◌≤◌}
use Rattle.std.proofs.Common.{arith, sym, ◌∙◌, length-take, length-drop, get_or-take, get_or-drop, drop-drop}
use Rattle.std.specs.Prelude.{◌≡◌, true, ◌&&◌, List, [], ◌∷◌, ◌++◌, take, drop, get_or, eqb, leb}
use Rattle.std.proofs.Math.Path.{refl, ap}
use Rattle.std.proofs.Math.ListN.{length, length-append}
use Rattle.std.proofs.Math.Seq.{take-append_seam, drop-append_seam}
use borrow.Author.Tests.{leb-true, le-leb}
use Rattle.meaning.specs.Octets.{two, two_at}
use Rattle.meaning.specs.Wire.{octets_of, Sent, record_of, next_id, records}
use Rattle.meaning.specs.Lists.{picked}
use Rattle.meaning_laws.specs.RoundTrip.{both, two_back, message-length, length-field, name-fits, Sendable, AllSendable}
use Rattle.session.specs.Stream.{body_limit, empty, digest}
use Rattle.session.specs.Pack.{packed, is_record, messages_f, messages_to}
use Rattle.session.specs.PackLaws.{Packable, AllPackable}
use Rattle.session.proofs.PackLaws.{packed-back}
use Rattle.session.specs.PackRecords.{messages_of}

-- ---- whatever octets are given, what is found in them can be packed

record-packable : (s : List ℕ) → is_record s ≡ true → Packable (take (4 + two_at s 6) (drop 4 s))
unfolding is_record two_at
record-packable s e =
    let a = both (leb 12 (length s) && eqb (get_or s 0 0) 0x4C && eqb (get_or s 1 0) 0x44 && leb 4 (two_at s 6) && leb (4 + two_at s 6) body_limit) (leb (8 + two_at s 6) (length s)) e in
    let b = both (leb 12 (length s) && eqb (get_or s 0 0) 0x4C && eqb (get_or s 1 0) 0x44 && leb 4 (two_at s 6)) (leb (4 + two_at s 6) body_limit) a.0 in
    let c = both (leb 12 (length s) && eqb (get_or s 0 0) 0x4C && eqb (get_or s 1 0) 0x44) (leb 4 (two_at s 6)) b.0 in
    let fits : 8 + two_at s 6 ≤ length s = leb-true (8 + two_at s 6) (length s) a.1 in
    let most : 4 + two_at s 6 ≤ body_limit = leb-true (4 + two_at s 6) body_limit b.1 in
    let least : 4 ≤ two_at s 6 = leb-true 4 (two_at s 6) c.1 in
    let long : length (take (4 + two_at s 6) (drop 4 s)) ≡ 4 + two_at s 6 = length-take (4 + two_at s 6) (drop 4 s) ∙ omega (arith, length-drop 4 s) in
    record {
      least = omega arith;
      says = rw (get_or-take (4 + two_at s 6) (drop 4 s) 2 0 (omega arith), get_or-take (4 + two_at s 6) (drop 4 s) 3 0 (omega arith), get_or-drop 4 s 2 0, get_or-drop 4 s 3 0) (sym long);
      most = omega arith;
    }

found-packable : (f n : ℕ) (s : List ℕ) → AllPackable (messages_f f n s)
unfolding messages_f AllPackable
found-packable zero n s = tt
found-packable (suc f) n s =
    let later = found-packable f n (drop (4 + (4 + two_at s 6)) s) in
    picked AllPackable (is_record s)
    (λ e. picked AllPackable (eqb (two_at s 2) n) (λ _. (record-packable s e, later)) (λ _. later))
    (λ _. tt)

-- WHAT THE WRITER SENDS IS READ BACK, whatever octets it was given as records.
pub packed-records : (id : List ℕ) → length id ≡ 6 → (n : ℕ) (s : List ℕ) → digest id empty (packed id (messages_to n s)) ≡ record { messages = messages_to n s; stream = empty }
packed-records id six n s = packed-back id six (messages_to n s) (unfold messages_to in found-packable (length s) n s)

module _ (i : ℕ) (m : Sent) (g : Sendable m) (rest : List ℕ) where
  to_back : two_at (record_of i m ++ rest) 2 ≡ m.to
  unfolding record_of two two_at
  to_back = two_back m.to (omega (arith, g.near))

  size_back : 4 + two_at (record_of i m ++ rest) 6 ≡ length (octets_of i m.message)
  size_back =
      let field : two_at (record_of i m ++ rest) 6 ≡ two_at (octets_of i m.message) 2 = unfold record_of octets_of two two_at in refl in
      ap (λ (k : ℕ). 4 + k) field ∙ length-field i m.message g.says

  record-long : length (record_of i m ++ rest) ≡ 4 + length (octets_of i m.message) + length rest
  unfolding record_of two
  record-long = omega (arith, length-append (octets_of i m.message) rest)

  record_is : is_record (record_of i m ++ rest) ≡ true
  unfolding is_record
  record_is =
      let k : ℕ = two_at (record_of i m ++ rest) 6 in
      let s : ℕ = length (record_of i m ++ rest) in
      let a : 4 + k ≡ length (octets_of i m.message) = size_back in
      let b : s ≡ 4 + length (octets_of i m.message) + length rest = record-long in
      let c = message-length i m.message g.says in
      let d = name-fits m.message.name g.says.name in
      rw (le-leb 12 s (omega arith), le-leb 4 k (omega arith), le-leb (4 + k) body_limit (omega arith), le-leb (8 + k) s (omega arith)) (unfold record_of in refl)

  first_back : take (4 + two_at (record_of i m ++ rest) 6) (drop 4 (record_of i m ++ rest)) ≡ octets_of i m.message
  first_back = rw size_back (unfold record_of two in take-append_seam (octets_of i m.message) rest)

  rest_back : drop (4 + (4 + two_at (record_of i m ++ rest) 6)) (record_of i m ++ rest) ≡ rest
  rest_back =
      sym (drop-drop (4 + two_at (record_of i m ++ rest) 6) 4 (record_of i m ++ rest))
      ∙ rw size_back (unfold record_of two in drop-append_seam (octets_of i m.message) rest)

-- OF THE LABEL PART'S RECORDS the messages to a neighbour are found, in order.
records-found : (f n i : ℕ) (ms : List Sent) → length (records i ms) ≤ f → AllSendable ms → messages_f f n (records i ms) ≡ messages_of n i ms
unfolding messages_f records messages_of AllSendable
records-found zero n i [] h p = refl
records-found (suc f) n i [] h p = unfold is_record in refl
records-found zero n i (m ∷ ms) h p = let long = record-long i m p.0 (records (next_id i) ms) in absurd (omega arith)
records-found (suc f) n i (m ∷ ms) h p =
    let rest : List ℕ = records (next_id i) ms in
    let long = record-long i m p.0 rest in
    rw (record_is i m p.0 rest)
    (rw (to_back i m p.0 rest, first_back i m p.0 rest, rest_back i m p.0 rest, records-found f n (next_id i) ms (omega arith) p.1) refl)

pub messages-found : (n i : ℕ) (ms : List Sent) → AllSendable ms → messages_to n (records i ms) ≡ messages_of n i ms
unfolding messages_to
messages-found n i ms p = records-found (length (records i ms)) n i ms (omega arith) p
