-- HOWEVER THE STREAM IS CUT, said of the calls: whatever pieces the octets came in, whatever was offered of them and with whatever room,
-- the records that were handed back, and the card and the stream that the memory then denotes, are the same. Assumes nothing.
use Rattle.std.specs.Prelude.{ℕ, ◌≡◌, false, take, drop, length}
use Rattle.std.proofs.Math.Path.{refl}
use Rattle.std.proofs.Common.{sym, ap, ◌∙◌}
use mathlib.Core.List.{List, [], ◌∷◌, ◌++◌}
use Rattle.session.specs.Stream.{holds_message}
use Rattle.session.specs.Session.{label, called, Called, Cut, Driven, driven, Piece, came_in, pieced}
use Rattle.session.specs.Calls.{HandsOver}
use Rattle.session.specs.Kept.{Kept}
use Rattle.session.specs.Cuts.{AllEaten}
use Rattle.session.proofs.Cuts.{pieces-agree}
use Rattle.session_kept.specs.CallContracts.{Lent, card_in, stream_in, Call, Served, served}

-- ---- calls one after the other, and nothing between them

-- on octets of neighbour n, whose identifier is `id`: calls that offer so many of the first octets left, with so much room and so long a buffer. They handed back these records and left so many octets.
pub data Calls (id : List ℕ) (n : ℕ) : Lent → List ℕ → List Cut → List ℕ → Lent → List ℕ → Type 0 where
  none : (m : Lent) (octets : List ℕ) → Calls id n m octets [] [] m octets
  another : (m m' m'' : Lent) (k : Call) (x : Cut) (octets : List ℕ) (xs : List Cut) (w rest : List ℕ)
      → Served m k m' → k.identifier ≡ id → k.neighbour ≡ n → k.offered ≡ take x.size octets → k.room ≡ x.room → length m.buffer ≡ x.lent
      → Calls id n m' (drop k.eaten octets) xs w m'' rest → Calls id n m octets (x ∷ xs) (k.part ++ w) m'' rest

-- piece after piece, each until it was eaten
pub data Talk (id : List ℕ) (n : ℕ) : Lent → List Piece → List ℕ → Lent → Type 0 where
  over : (m : Lent) → Talk id n m [] [] m
  piece : (m m' m'' : Lent) (p : Piece) (ps : List Piece) (w v : List ℕ)
      → Calls id n m p.octets p.calls w m' [] → Talk id n m' ps v m'' → Talk id n m (p ∷ ps) (w ++ v) m''

-- ---- they are what the definitions say

pub record Did (d : Driven) (w : List ℕ) (m : Lent) (rest : List ℕ) : Type 0 where
  pub records : w ≡ d.octets
  pub card : card_in m ≡ d.card
  pub stream : stream_in m ≡ d.stream
  pub left : rest ≡ d.rest

module _ (id : List ℕ) (n : ℕ) where
  calls-did : (m m' : Lent) (octets : List ℕ) (xs : List Cut) (w rest : List ℕ) → Calls id n m octets xs w m' rest → Did (driven label id n xs (card_in m) (stream_in m) octets) w m' rest
  unfolding driven
  calls-did m _ octets _ _ _ (none _ _) = record { records = refl; card = refl; stream = refl; left = refl }
  calls-did m m'' octets _ _ rest (another _ m' _ k x _ xs w _ h i j o p l later) =
      let c : Called = called label id n x.room x.lent (card_in m) (stream_in m) (take x.size octets) in
      let s : HandsOver c k.answer k.eaten k.part (card_in m') (stream_in m') = rw (← i, ← j, ← o, ← p, ← l) (served h) in
      let d : Did (driven label id n xs (card_in m') (stream_in m') (drop k.eaten octets)) w m'' rest = calls-did m' m'' (drop k.eaten octets) xs w rest later in
      let e : Did (driven label id n xs c.card c.stream (drop c.eaten octets)) w m'' rest = rw (← s.leaves, ← s.streams, ← s.eats) d in
      record { records = rw (s.hands, e.records) refl; card = e.card; stream = e.stream; left = e.left }

  -- a talk, with what the theorem asks of it: each piece was eaten
  pub record Told (ps : List Piece) (m : Lent) (w : List ℕ) (m' : Lent) : Type 0 where
    pub did : Did (pieced label id n ps (card_in m) (stream_in m)) w m' []
    pub eaten : AllEaten label id n ps (card_in m) (stream_in m)

  talk-told : (m m' : Lent) (ps : List Piece) (w : List ℕ) → Talk id n m ps w m' → Told ps m w m'
  unfolding pieced AllEaten
  talk-told m _ _ _ (over _) = record { did = record { records = refl; card = refl; stream = refl; left = refl }; eaten = tt }
  talk-told m m'' _ _ (piece _ m' _ p ps w v now later) =
      let d = calls-did m m' p.octets p.calls w [] now in
      let t : Told ps m' v m'' = talk-told m' m'' ps v later in
      let c : Driven = driven label id n p.calls (card_in m) (stream_in m) p.octets in
      let e : Did (pieced label id n ps c.card c.stream) v m'' [] = rw (← d.card, ← d.stream) t.did in
      let f : AllEaten label id n ps c.card c.stream = rw (← d.card, ← d.stream) t.eaten in
      record {
        did = record { records = rw (d.records, e.records) refl; card = e.card; stream = e.stream; left = rw (← d.left) e.left };
        eaten = (sym d.left, f);
      }

  -- HOWEVER THE STREAM IS CUT: two talks that begin with the same card and stream, on the same octets, that go on until all is eaten and no whole message is held.
  pub calls-agree : (m m' l l' : Lent) (ps qs : List Piece) (w v : List ℕ) → Talk id n m ps w m' → Talk id n l qs v l'
      → card_in m ≡ card_in l → stream_in m ≡ stream_in l → Kept id (stream_in m) → came_in ps ≡ came_in qs
      → holds_message (stream_in m') ≡ false → holds_message (stream_in l') ≡ false
      → (w ≡ v) × (card_in m' ≡ card_in l') × (stream_in m' ≡ stream_in l')
  calls-agree m m' l l' ps qs w v s t c b kept same quiet also =
      let p = talk-told m m' ps w s in
      let q : Told qs l v l' = talk-told l l' qs v t in
      let q' : Did (pieced label id n qs (card_in m) (stream_in m)) v l' [] = rw (c, b) q.did in
      let e : AllEaten label id n qs (card_in m) (stream_in m) = rw (c, b) q.eaten in
      let agree = pieces-agree label id n (card_in m) (stream_in m) kept ps qs same p.eaten (rw (← p.did.stream) quiet) e (rw (← q'.stream) also) in (
        p.did.records ∙ ap (λ (d : Driven). d.octets) agree ∙ sym q'.records,
        p.did.card ∙ ap (λ (d : Driven). d.card) agree ∙ sym q'.card,
        p.did.stream ∙ ap (λ (d : Driven). d.stream) agree ∙ sym q'.stream,
      )
