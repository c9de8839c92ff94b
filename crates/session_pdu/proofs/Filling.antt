-- PDUs filled message by message are those of `packed`, and have so many octets. Assumes nothing.
use Prim.Native.Nat.{ℕ, ◌+◌, ◌-◌}
use native.Mathlib.Omega.{arith}
use mathlib.Core.Path.{◌≡◌, refl, sym, ap, ◌∙◌}
use mathlib.Core.Bool.{false}
use mathlib.Core.List.{List, [], ◌∷◌, ◌++◌, append_assoc}
use lib.ListN.{take, drop, length, length-append}
use lib.Seq.{take-append-add, drop-append-add}
use lib.Dec.{leb}
use borrow.Author.Tests.{lt-leb}
use Rattle.meaning.specs.Octets.{two}
use Rattle.meaning.specs.Lists.{by-test, append-nil}
use Rattle.octets.specs.Part.{mid}
use Rattle.session.specs.Stream.{pdu_head, identifier_size, body_limit}
use Rattle.session.specs.Pack.{pdu, joined, groups_from, groups, pdus, packed}
use Rattle.session.proofs.PackLaws.{joined-append, joined-one}
use Rattle.session_pdu.specs.Packing.{NoneEmpty, body_after, added_by, size_from, length_place, with_message, written_from}

module _ (id : List ℕ) (six : length id ≡ identifier_size) where
  pub pdu-length : (b : List ℕ) → length (pdu id b) ≡ pdu_head + length b
  unfolding pdu two
  pdu-length b = rw (length-append id b) (omega (arith, six))

  -- ---- a message more in the last PDU

  longer : (closed b m : List ℕ) → mid (length_place (length (closed ++ pdu id b)) (length b)) 2 (closed ++ pdu id b) (two (identifier_size + (length b + length m))) ++ m ≡ closed ++ pdu id (b ++ m)
  unfolding length_place
  longer closed b m =
      let q : length (closed ++ pdu id b) - (length b + 8) ≡ length closed + 2 = omega (arith, length-append closed (pdu id b), pdu-length b) in
      let t : List ℕ = two (identifier_size + (length b + length m)) in
      rw q
      (let front : take (length closed + 2) (closed ++ pdu id b) ≡ closed ++ two 1 = take-append-add closed (pdu id b) 2 ∙ (unfold pdu two in refl) in
      let back : drop 2 (drop (length closed + 2) (closed ++ pdu id b)) ≡ id ++ b = ap (drop 2) (drop-append-add closed (pdu id b) 2) ∙ (unfold pdu two in refl) in
      rw (front, back)
      (append_assoc (closed ++ two 1) (t ++ (id ++ b)) m
      ∙ append_assoc closed (two 1) ((t ++ (id ++ b)) ++ m)
      ∙ ap (λ (l : List ℕ). closed ++ (two 1 ++ l)) (append_assoc t (id ++ b) m ∙ ap (λ (l : List ℕ). t ++ l) (append_assoc id b m))
      ∙ (unfold pdu in rw (length-append b m) refl)))

  -- ---- the whole

  written-groups : (closed : List ℕ) (g ms : List (List ℕ)) → written_from id (length (joined g)) (closed ++ pdu id (joined g)) ms ≡ closed ++ pdus id (groups_from g ms)
  unfolding written_from groups_from pdus body_after with_message
  written-groups closed g [] = ap (λ (l : List ℕ). closed ++ l) (sym (append-nil (pdu id (joined g))))
  written-groups closed g (m ∷ ms) =
      by-test (leb (length (joined g) + length m) body_limit)
      (λ e. let j : joined (g ++ (m ∷ [])) ≡ joined g ++ m = joined-append g (m ∷ []) ∙ ap (λ (l : List ℕ). joined g ++ l) (unfold joined in append-nil m) in
      let n : length (joined (g ++ (m ∷ []))) ≡ length (joined g) + length m = ap length j ∙ length-append (joined g) m in
      let more = written-groups closed (g ++ (m ∷ [])) ms in
      rw (e, longer closed (joined g) m) (rw (n, j) at more))
      (λ e. let j : joined (m ∷ []) ≡ m = (unfold joined in append-nil m) in
      let more = written-groups (closed ++ pdu id (joined g)) (m ∷ []) ms in
      rw e ((rw j at more) ∙ append_assoc closed (pdu id (joined g)) (pdus id (groups_from (m ∷ []) ms))))

  -- THE WRITER MESSAGE BY MESSAGE IS `packed`.
  pub written-packed : (ms : List (List ℕ)) → NoneEmpty ms → written_from id body_limit [] ms ≡ packed id ms
  unfolding written_from packed groups pdus NoneEmpty body_after with_message
  written-packed [] p = refl
  written-packed (m ∷ ms) p =
      let e : leb (body_limit + length m) body_limit ≡ false = lt-leb (body_limit + length m) body_limit (omega (arith, p.0)) in
      let j : joined (m ∷ []) ≡ m = (unfold joined in append-nil m) in
      let more = written-groups [] (m ∷ []) ms in
      rw e (rw j at more)

  -- ---- how many octets

  groups-size : (g ms : List (List ℕ)) → length (pdus id (groups_from g ms)) ≡ pdu_head + length (joined g) + size_from (length (joined g)) ms
  unfolding groups_from pdus size_from body_after added_by
  groups-size g [] = rw (append-nil (pdu id (joined g)), pdu-length (joined g)) (omega arith)
  groups-size g (m ∷ ms) =
      by-test (leb (length (joined g) + length m) body_limit)
      (λ e. let j : joined (g ++ (m ∷ [])) ≡ joined g ++ m = joined-append g (m ∷ []) ∙ ap (λ (l : List ℕ). joined g ++ l) (unfold joined in append-nil m) in
      let n : length (joined (g ++ (m ∷ []))) ≡ length (joined g) + length m = ap length j ∙ length-append (joined g) m in
      let more = rw n at (groups-size (g ++ (m ∷ [])) ms) in
      rw e (omega (arith, more)))
      (λ e. let more = rw (joined-one m) at (groups-size (m ∷ []) ms) in
      rw (e, length-append (pdu id (joined g)) (pdus id (groups_from (m ∷ []) ms)), pdu-length (joined g)) (omega (arith, more)))

  pub packed-size : (ms : List (List ℕ)) → NoneEmpty ms → length (packed id ms) ≡ size_from body_limit ms
  unfolding packed groups pdus size_from NoneEmpty body_after added_by
  packed-size [] p = refl
  packed-size (m ∷ ms) p =
      let e : leb (body_limit + length m) body_limit ≡ false = lt-leb (body_limit + length m) body_limit (omega (arith, p.0)) in
      let more = rw (joined-one m) at (groups-size (m ∷ []) ms) in
      rw e (omega (arith, more))
