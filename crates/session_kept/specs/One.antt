-- Each call of the session box admits one outcome: whatever two calls of it on the same arguments answer, eat, write and leave is the same. Assumes nothing.
use Rattle.std.specs.Prelude.{◌≡◌, refl, List, [], ℕ}
use Rattle.std.proofs.Common.{sym, ◌∙◌}
use Rattle.meaning.specs.Calls.{does-one, hands-one}
use Rattle.card.specs.Table.{card_of}
use Rattle.session.specs.Calls.{serves-one, hands-over-one, packs-one}
use Rattle.session.specs.Lent.{stream_of}
use Rattle.session_calls.proofs.serve.Reads as serve-reads
use Rattle.session_calls.proofs.serve_core.Reads as serve-core-reads
use Rattle.session_calls.proofs.lose.Reads as lose-reads
use Rattle.session_calls.proofs.lose_core.Reads as lose-core-reads
use Rattle.session_calls.proofs.is_stopped.Reads as is-stopped-reads
use Rattle.session_calls.proofs.holds_message.Reads as holds-message-reads
use Rattle.session_pack.proofs.pack.Reads as pack-reads
use Rattle.session_pack.proofs.pack_core.Reads as pack-core-reads
use Rattle.firmware_session.proofs.card_serve.Reads as card-serve-reads
use Rattle.firmware_session.proofs.card_lose.Reads as card-lose-reads
use Rattle.firmware_session.proofs.card_is_stopped.Reads as card-is-stopped-reads
use Rattle.firmware_session.proofs.card_holds_message.Reads as card-holds-message-reads
use Rattle.firmware_session.proofs.card_pack.Reads as card-pack-reads

pub serve-one : (κs : _) (a : _) (r r' : _) (s s' : _) → serve-reads.Learnt κs a r s → serve-reads.Learnt κs a r' s' → (s.1.1.1.1.1.1.1.1.0.now ≡ s'.1.1.1.1.1.1.1.1.0.now) × (s.1.1.1.1.1.1.1.1.1.0.now ≡ s'.1.1.1.1.1.1.1.1.1.0.now) × (r.now ≡ r'.now) × (card_of s.0.now s.1.0.now ≡ card_of s'.0.now s'.1.0.now) × (stream_of s.1.1.0.now s.1.1.1.0.now ≡ stream_of s'.1.1.0.now s'.1.1.1.0.now)
serve-one κs a r r' s s' h h' = hands-over-one _ _ _ _ _ _ _ _ _ _ _ h.0 h'.0

pub serve-core-one : (κs : _) (a : _) (r r' : _) (s s' : _) → serve-core-reads.Learnt κs a r s → serve-core-reads.Learnt κs a r' s' → (s.1.1.1.1.1.1.1.1.0.now ≡ s'.1.1.1.1.1.1.1.1.0.now) × (s.1.1.1.1.1.1.1.1.1.0.now ≡ s'.1.1.1.1.1.1.1.1.1.0.now) × (r ≡ r') × (s.1.1.1.1.1.1.1.0.now ≡ s'.1.1.1.1.1.1.1.0.now) × (card_of s.0.now s.1.0.now ≡ card_of s'.0.now s'.1.0.now) × (stream_of s.1.1.0.now s.1.1.1.0.now ≡ stream_of s'.1.1.0.now s'.1.1.1.0.now)
serve-core-one κs a r r' s s' h h' = serves-one _ _ _ _ _ _ _ _ _ _ _ _ _ _ h h'

pub card-serve-one : (κs : _) (a : _) (r r' : _) (s s' : _) → card-serve-reads.Learnt κs a r s → card-serve-reads.Learnt κs a r' s' → (s.1.1.1.1.1.1.1.1.0.now ≡ s'.1.1.1.1.1.1.1.1.0.now) × (s.1.1.1.1.1.1.1.1.1.0.now ≡ s'.1.1.1.1.1.1.1.1.1.0.now) × (r ≡ r') × (s.1.1.1.1.1.1.1.0.now ≡ s'.1.1.1.1.1.1.1.0.now) × (card_of s.0.now s.1.0.now ≡ card_of s'.0.now s'.1.0.now) × (stream_of s.1.1.0.now s.1.1.1.0.now ≡ stream_of s'.1.1.0.now s'.1.1.1.0.now)
card-serve-one κs a r r' s s' h h' = serves-one _ _ _ _ _ _ _ _ _ _ _ _ _ _ h h'

pub lose-one : (κs : _) (a : _) (r r' : _) (s s' : _) → lose-reads.Learnt κs a r s → lose-reads.Learnt κs a r' s' → (s.1.1.1.1.1.0.now ≡ s'.1.1.1.1.1.0.now) × (r.now ≡ r'.now) × (card_of s.0.now s.1.0.now ≡ card_of s'.0.now s'.1.0.now) × ((buffer : List ℕ) → stream_of s.1.1.0.now buffer ≡ stream_of s'.1.1.0.now buffer)
lose-one κs a r r' s s' h h' = let o = hands-one _ _ _ _ _ _ _ h.0 h'.0 in (o.0, o.1, o.2, λ buffer. let e = h.1 buffer in let f = h'.1 buffer in rw (e, f, o.0) refl)

pub lose-core-one : (κs : _) (a : _) (r r' : _) (s s' : _) → lose-core-reads.Learnt κs a r s → lose-core-reads.Learnt κs a r' s' → (s.1.1.1.1.1.0.now ≡ s'.1.1.1.1.1.0.now) × (r ≡ r') × (s.1.1.1.1.0.now ≡ s'.1.1.1.1.0.now) × (card_of s.0.now s.1.0.now ≡ card_of s'.0.now s'.1.0.now) × ((buffer : List ℕ) → stream_of s.1.1.0.now buffer ≡ stream_of s'.1.1.0.now buffer)
lose-core-one κs a r r' s s' h h' = let o = does-one _ _ _ _ _ _ _ _ _ _ h.0 h'.0 in (o.0, o.1, o.2, o.3, λ buffer. let e = h.1 buffer in let f = h'.1 buffer in rw (e, f, o.0) refl)

pub card-lose-one : (κs : _) (a : _) (r r' : _) (s s' : _) → card-lose-reads.Learnt κs a r s → card-lose-reads.Learnt κs a r' s' → (s.1.1.1.1.1.0.now ≡ s'.1.1.1.1.1.0.now) × (r ≡ r') × (s.1.1.1.1.0.now ≡ s'.1.1.1.1.0.now) × (card_of s.0.now s.1.0.now ≡ card_of s'.0.now s'.1.0.now) × ((buffer : List ℕ) → stream_of s.1.1.0.now buffer ≡ stream_of s'.1.1.0.now buffer)
card-lose-one κs a r r' s s' h h' = let o = does-one _ _ _ _ _ _ _ _ _ _ h.0 h'.0 in (o.0, o.1, o.2, o.3, λ buffer. let e = h.1 buffer in let f = h'.1 buffer in rw (e, f, o.0) refl)

pub is-stopped-one : (κs : _) (a : _) (r r' : _) (s s' : _) → is-stopped-reads.Learnt κs a r s → is-stopped-reads.Learnt κs a r' s' → r ≡ r'
is-stopped-one κs a r r' s s' h h' = h [] ∙ sym (h' [])

pub card-is-stopped-one : (κs : _) (a : _) (r r' : _) (s s' : _) → card-is-stopped-reads.Learnt κs a r s → card-is-stopped-reads.Learnt κs a r' s' → r ≡ r'
card-is-stopped-one κs a r r' s s' h h' = h [] ∙ sym (h' [])

pub holds-message-one : (κs : _) (a : _) (r r' : _) (s s' : _) → holds-message-reads.Learnt κs a r s → holds-message-reads.Learnt κs a r' s' → r ≡ r'
holds-message-one κs a r r' s s' h h' = h ∙ sym h'

pub card-holds-message-one : (κs : _) (a : _) (r r' : _) (s s' : _) → card-holds-message-reads.Learnt κs a r s → card-holds-message-reads.Learnt κs a r' s' → r ≡ r'
card-holds-message-one κs a r r' s s' h h' = h ∙ sym h'

pub pack_one : (κs : _) (a : _) (r r' : _) (s s' : _) → pack-reads.Learnt κs a r s → pack-reads.Learnt κs a r' s' → (s.1.1.1.1.0.now ≡ s'.1.1.1.1.0.now) × (r.now ≡ r'.now)
pack_one κs a r r' s s' h h' = (h.0 ∙ sym h'.0, h.1 ∙ sym h'.1)

pub pack-core-one : (κs : _) (a : _) (r r' : _) (s s' : _) → pack-core-reads.Learnt κs a r s → pack-core-reads.Learnt κs a r' s' → (s.1.1.1.1.0.now ≡ s'.1.1.1.1.0.now) × (r ≡ r') × (s.1.1.1.0.now ≡ s'.1.1.1.0.now)
pack-core-one κs a r r' s s' h h' = packs-one _ _ _ _ _ _ _ _ h h'

pub card-pack-one : (κs : _) (a : _) (r r' : _) (s s' : _) → card-pack-reads.Learnt κs a r s → card-pack-reads.Learnt κs a r' s' → (s.1.1.1.1.0.now ≡ s'.1.1.1.1.0.now) × (r ≡ r') × (s.1.1.1.0.now ≡ s'.1.1.1.0.now)
card-pack-one κs a r r' s s' h h' = packs-one _ _ _ _ _ _ _ _ h h'
