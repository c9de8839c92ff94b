-- The writer message by message, as the code does it: proofs/Filling shows that this is `packed`. Assumes nothing.
use Rattle.std.specs.Prelude.{ℕ, ◌+◌, ◌-◌, ◌<◌, ◌≡◌, List, [], ◌∷◌, ◌++◌, take, drop, length, leb}
use Rattle.meaning.specs.Octets.{pick, two}
use Rattle.octets.specs.Part.{mid}
use Rattle.session.specs.Stream.{pdu_head, identifier_size, body_limit}
use Rattle.session.specs.Pack.{pdu}

-- every message has an octet
unfoldable pub NoneEmpty : List (List ℕ) → Type 0
NoneEmpty [] = Unit {0}
NoneEmpty (m ∷ ms) = (0 < length m) × NoneEmpty ms

-- How many octets of messages the last PDU has once a message of k octets is added: where it doesn't fit, another PDU begins. Before the first PDU the last one counts as full.
unfoldable pub body_after : ℕ → ℕ → ℕ
body_after body k = pick (leb (body + k) body_limit) (body + k) k

-- how many octets that adds
unfoldable pub added_by : ℕ → ℕ → ℕ
added_by body k = pick (leb (body + k) body_limit) k (pdu_head + k)

unfoldable pub size_from : ℕ → List (List ℕ) → ℕ
size_from body [] = 0
size_from body (m ∷ ms) = added_by body (length m) + size_from (body_after body (length m)) ms

-- where the length field of the last PDU stands, of so many octets that end with its body
unfoldable pub length_place : ℕ → ℕ → ℕ
length_place at body = at - (body + 8)

-- a message more behind what is written: in the last PDU, whose length field is written anew, or in one of its own
unfoldable pub with_message : List ℕ → ℕ → List ℕ → List ℕ → List ℕ
with_message id body done m =
    pick (leb (body + length m) body_limit)
    (mid (length_place (length done) body) 2 done (two (identifier_size + (body + length m))) ++ m)
    (done ++ pdu id m)

unfoldable pub written_from : List ℕ → ℕ → List ℕ → List (List ℕ) → List ℕ
written_from id body done [] = done
written_from id body done (m ∷ ms) = written_from id (body_after body (length m)) (with_message id body done m) ms

-- A message was put behind the first `at` octets of an output: the first r are written now, and the rest is as it was.
pub record Put (id : List ℕ) (at body : ℕ) (out m : List ℕ) (r : ℕ) (out' : List ℕ) : Type 0 where
  pub ends : r ≡ at + added_by body (length m)
  pub writes : take r out' ≡ with_message id body (take at out) m
  pub stays : drop r out' ≡ drop r out
  pub long : length out' ≡ length out
