-- ONE OUTCOME FOR EACH PUBLIC CALL: by the function's own contract, two results from the same entry agree in answer, output and card.
-- a are the arguments of both; r and s, r' and s' are the result of each and its parameters right after it, in the order of the source (`CallContracts` lists them).
-- Where a call hands back a part of the buffer, the part is the output; where it is a core or a call for C, the whole buffer and the count.
-- Assumes nothing but that an array of sixteen has sixteen places, which a contract cannot say of its type.
use Rattle.std.specs.Prelude.{ℕ, zero, suc, ◌+◌, ◌<◌, ◌≡◌, refl, Bool, List, [], ◌∷◌, get_or, length, eqb, ltb}
use Rattle.std.proofs.Common.{arith, sym, ap, ◌∙◌, ext_get_or, eq-eqb, ne_eqb, ltb-false}
use Rattle.meaning.specs.Octets.{pick}
use Rattle.meaning.specs.Card.{Branch, Feed, is_branch, branches_from, neighbour_count}
use Rattle.meaning.specs.Calls.{feed_in, does-one, hands-one}
use Rattle.meaning.specs.Lists.{by-test}
use Rattle.memory.specs.Memory.{card_of}
use Rattle.card.proofs.start.Reads as start-reads
use Rattle.card.proofs.receive.Reads as receive-reads
use Rattle.card.proofs.receive_core.Reads as receive-core-reads
use Rattle.card.proofs.join.Reads as join-reads
use Rattle.card.proofs.join_core.Reads as join-core-reads
use Rattle.card.proofs.leave.Reads as leave-reads
use Rattle.card.proofs.leave_core.Reads as leave-core-reads
use Rattle.card.proofs.route.Reads as route-reads
use Rattle.card.proofs.route_core.Reads as route-core-reads
use Rattle.card.proofs.lost.Reads as lost-reads
use Rattle.card.proofs.lost_core.Reads as lost-core-reads
use Rattle.card_lookups.proofs.lookup_label.Reads as lookup-label-reads
use Rattle.card_lookups.proofs.lookup_label_core.Reads as lookup-label-core-reads
use Rattle.card_lookups.proofs.lookup_name.Reads as lookup-name-reads
use Rattle.card_lookups.proofs.lookup_name_core.Reads as lookup-name-core-reads
use Rattle.card_lookups.proofs.free_labels.Reads as free-labels-reads
use Rattle.notice_writer.proofs.notice.Reads as notice-reads
use Rattle.notice_writer.proofs.notice_core.Reads as notice-core-reads
use Rattle.notice_reader.proofs.read_notice.Reads as read-notice-reads
use Rattle.save_writer.proofs.save.Reads as save-reads
use Rattle.save_writer.proofs.save_core.Reads as save-core-reads
use Rattle.save_reader.proofs.restore.Reads as restore-reads
use Rattle.save_mover.specs.Moves.{moves-one, gives_one}
use Rattle.save_mover.proofs.newer.Reads as newer-reads
use Rattle.save_mover.proofs.older.Reads as older-reads
use Rattle.save_mover.proofs.move_core.Reads as move-core-reads
use Rattle.firmware_events.proofs.card_start.Reads as card-start-reads
use Rattle.firmware_events.proofs.card_receive.Reads as card-receive-reads
use Rattle.firmware_events.proofs.card_join.Reads as card-join-reads
use Rattle.firmware_events.proofs.card_leave.Reads as card-leave-reads
use Rattle.firmware_events.proofs.card_route.Reads as card-route-reads
use Rattle.firmware_events.proofs.card_lost.Reads as card-lost-reads
use Rattle.firmware_lookups.proofs.card_lookup_label.Reads as card-lookup-label-reads
use Rattle.firmware_lookups.proofs.card_lookup_name.Reads as card-lookup-name-reads
use Rattle.firmware_lookups.proofs.card_free_labels.Reads as card-free-labels-reads
use Rattle.firmware_notices.proofs.card_notice.Reads as card-notice-reads
use Rattle.firmware_notices.proofs.card_read_notice.Reads as card-read-notice-reads
use Rattle.firmware_saves.proofs.card_save.Reads as card-save-reads
use Rattle.firmware_saves.proofs.card_save2.Reads as card-save2-reads
use Rattle.firmware_saves.proofs.card_restore.Reads as card-restore-reads
use Rattle.firmware_saves.proofs.card_restore2.Reads as card-restore2-reads
use Rattle.firmware_saves.proofs.card_newer.Reads as card-newer-reads
use Rattle.firmware_saves.proofs.card_older.Reads as card-older-reads
use Rattle.meaning_layers.specs.LayerCalls.{writes_one, hands-part-one}
use Rattle.wire_layers.proofs.inner_start.Reads as inner-start-reads
use Rattle.wire_layers.proofs.eight_of.Reads as eight-of-reads
use Rattle.wire_layers.proofs.layer_count.Reads as layer-count-reads
use Rattle.wire_layers.proofs.layer_start.Reads as layer-start-reads
use Rattle.wire_wraps.proofs.wrap.Reads as wrap-reads
use Rattle.wire_wraps.proofs.wrap_core.Reads as wrap-core-reads
use Rattle.wire_wraps.proofs.unwrap.Reads as unwrap-reads
use Rattle.wire_wraps.proofs.unwrap_core.Reads as unwrap-core-reads
use Rattle.firmware_layers.proofs.card_layers.Reads as card-layers-reads
use Rattle.firmware_layers.proofs.card_layer.Reads as card-layer-reads
use Rattle.firmware_layers.proofs.card_wrap.Reads as card-wrap-reads
use Rattle.firmware_layers.proofs.card_unwrap.Reads as card-unwrap-reads
use Rattle.plan_check.proofs.Numbered.{numbered-one}
use Rattle.plan_check.proofs.check_list.Reads as check-list-reads
use Rattle.plan_make.proofs.plan.Reads as plan-reads
use Rattle.firmware_plans.proofs.card_check_list.Reads as card-check-list-reads
use Rattle.firmware_plans.proofs.card_plan.Reads as card-plan-reads
use Rattle.promise_kept.specs.One.{feed-one}

-- ---- a start: the answer, and the card whatever the names

pub start-one : (κs : _) (a : _) (r r' : _) (s s' : _) → start-reads.Learnt κs a r s → start-reads.Learnt κs a r' s' → (r ≡ r') × ((any : List ℕ) → (card_of s.0.now any ≡ card_of s'.0.now any))
start-one κs a r r' s s' h h' = (h.0 ∙ sym h'.0, λ any. h.1 any ∙ sym (h'.1 any))

pub card-start-one : (κs : _) (a : _) (r r' : _) (s s' : _) → card-start-reads.Learnt κs a r s → card-start-reads.Learnt κs a r' s' → (r ≡ r') × ((any : List ℕ) → (card_of s.0.now any ≡ card_of s'.0.now any))
card-start-one κs a r r' s s' h h' = (h.0 ∙ sym h'.0, λ any. h.1 any ∙ sym (h'.1 any))

-- ---- events: the answer, the part or the count and the whole buffer, the card

pub receive-one : (κs : _) (a : _) (r r' : _) (s s' : _) → receive-reads.Learnt κs a r s → receive-reads.Learnt κs a r' s' → (s.1.1.1.1.1.0.now ≡ s'.1.1.1.1.1.0.now) × (r.now ≡ r'.now) × (card_of s.0.now s.1.0.now ≡ card_of s'.0.now s'.1.0.now)
receive-one κs a r r' s s' h h' = hands-one _ _ _ _ _ _ _ h.0 h'.0

pub receive-core-one : (κs : _) (a : _) (r r' : _) (s s' : _) → receive-core-reads.Learnt κs a r s → receive-core-reads.Learnt κs a r' s' → (s.1.1.1.1.1.0.now ≡ s'.1.1.1.1.1.0.now) × (r ≡ r') × (s.1.1.1.1.0.now ≡ s'.1.1.1.1.0.now) × (card_of s.0.now s.1.0.now ≡ card_of s'.0.now s'.1.0.now)
receive-core-one κs a r r' s s' h h' = does-one _ _ _ _ _ _ _ _ _ _ h h'

pub card-receive-one : (κs : _) (a : _) (r r' : _) (s s' : _) → card-receive-reads.Learnt κs a r s → card-receive-reads.Learnt κs a r' s' → (s.1.1.1.1.1.0.now ≡ s'.1.1.1.1.1.0.now) × (r ≡ r') × (s.1.1.1.1.0.now ≡ s'.1.1.1.1.0.now) × (card_of s.0.now s.1.0.now ≡ card_of s'.0.now s'.1.0.now)
card-receive-one κs a r r' s s' h h' = does-one _ _ _ _ _ _ _ _ _ _ h h'

pub join_one : (κs : _) (a : _) (r r' : _) (s s' : _) → join-reads.Learnt κs a r s → join-reads.Learnt κs a r' s' → (s.1.1.1.1.0.now ≡ s'.1.1.1.1.0.now) × (r.now ≡ r'.now) × (card_of s.0.now s.1.0.now ≡ card_of s'.0.now s'.1.0.now)
join_one κs a r r' s s' h h' = hands-one _ _ _ _ _ _ _ h.0 h'.0

pub join-core-one : (κs : _) (a : _) (r r' : _) (s s' : _) → join-core-reads.Learnt κs a r s → join-core-reads.Learnt κs a r' s' → (s.1.1.1.1.0.now ≡ s'.1.1.1.1.0.now) × (r ≡ r') × (s.1.1.1.0.now ≡ s'.1.1.1.0.now) × (card_of s.0.now s.1.0.now ≡ card_of s'.0.now s'.1.0.now)
join-core-one κs a r r' s s' h h' = does-one _ _ _ _ _ _ _ _ _ _ h h'

pub card-join-one : (κs : _) (a : _) (r r' : _) (s s' : _) → card-join-reads.Learnt κs a r s → card-join-reads.Learnt κs a r' s' → (s.1.1.1.1.0.now ≡ s'.1.1.1.1.0.now) × (r ≡ r') × (s.1.1.1.0.now ≡ s'.1.1.1.0.now) × (card_of s.0.now s.1.0.now ≡ card_of s'.0.now s'.1.0.now)
card-join-one κs a r r' s s' h h' = does-one _ _ _ _ _ _ _ _ _ _ h h'

pub leave-one : (κs : _) (a : _) (r r' : _) (s s' : _) → leave-reads.Learnt κs a r s → leave-reads.Learnt κs a r' s' → (s.1.1.1.1.0.now ≡ s'.1.1.1.1.0.now) × (r.now ≡ r'.now) × (card_of s.0.now s.1.0.now ≡ card_of s'.0.now s'.1.0.now)
leave-one κs a r r' s s' h h' = hands-one _ _ _ _ _ _ _ h.0 h'.0

pub leave-core-one : (κs : _) (a : _) (r r' : _) (s s' : _) → leave-core-reads.Learnt κs a r s → leave-core-reads.Learnt κs a r' s' → (s.1.1.1.1.0.now ≡ s'.1.1.1.1.0.now) × (r ≡ r') × (s.1.1.1.0.now ≡ s'.1.1.1.0.now) × (card_of s.0.now s.1.0.now ≡ card_of s'.0.now s'.1.0.now)
leave-core-one κs a r r' s s' h h' = does-one _ _ _ _ _ _ _ _ _ _ h h'

pub card-leave-one : (κs : _) (a : _) (r r' : _) (s s' : _) → card-leave-reads.Learnt κs a r s → card-leave-reads.Learnt κs a r' s' → (s.1.1.1.1.0.now ≡ s'.1.1.1.1.0.now) × (r ≡ r') × (s.1.1.1.0.now ≡ s'.1.1.1.0.now) × (card_of s.0.now s.1.0.now ≡ card_of s'.0.now s'.1.0.now)
card-leave-one κs a r r' s s' h h' = does-one _ _ _ _ _ _ _ _ _ _ h h'

pub route-one : (κs : _) (a : _) (r r' : _) (s s' : _) → route-reads.Learnt κs a r s → route-reads.Learnt κs a r' s' → (s.1.1.1.1.1.0.now ≡ s'.1.1.1.1.1.0.now) × (r.now ≡ r'.now) × (card_of s.0.now s.1.0.now ≡ card_of s'.0.now s'.1.0.now)
route-one κs a r r' s s' h h' = hands-one _ _ _ _ _ _ _ h.0 h'.0

pub route-core-one : (κs : _) (a : _) (r r' : _) (s s' : _) → route-core-reads.Learnt κs a r s → route-core-reads.Learnt κs a r' s' → (s.1.1.1.1.1.0.now ≡ s'.1.1.1.1.1.0.now) × (r ≡ r') × (s.1.1.1.1.0.now ≡ s'.1.1.1.1.0.now) × (card_of s.0.now s.1.0.now ≡ card_of s'.0.now s'.1.0.now)
route-core-one κs a r r' s s' h h' = does-one _ _ _ _ _ _ _ _ _ _ h h'

pub card-route-one : (κs : _) (a : _) (r r' : _) (s s' : _) → card-route-reads.Learnt κs a r s → card-route-reads.Learnt κs a r' s' → (s.1.1.1.1.1.0.now ≡ s'.1.1.1.1.1.0.now) × (r ≡ r') × (s.1.1.1.1.0.now ≡ s'.1.1.1.1.0.now) × (card_of s.0.now s.1.0.now ≡ card_of s'.0.now s'.1.0.now)
card-route-one κs a r r' s s' h h' = does-one _ _ _ _ _ _ _ _ _ _ h h'

pub lost-one : (κs : _) (a : _) (r r' : _) (s s' : _) → lost-reads.Learnt κs a r s → lost-reads.Learnt κs a r' s' → (s.1.1.1.1.0.now ≡ s'.1.1.1.1.0.now) × (r.now ≡ r'.now) × (card_of s.0.now s.1.0.now ≡ card_of s'.0.now s'.1.0.now)
lost-one κs a r r' s s' h h' = hands-one _ _ _ _ _ _ _ h.0 h'.0

pub lost-core-one : (κs : _) (a : _) (r r' : _) (s s' : _) → lost-core-reads.Learnt κs a r s → lost-core-reads.Learnt κs a r' s' → (s.1.1.1.1.0.now ≡ s'.1.1.1.1.0.now) × (r ≡ r') × (s.1.1.1.0.now ≡ s'.1.1.1.0.now) × (card_of s.0.now s.1.0.now ≡ card_of s'.0.now s'.1.0.now)
lost-core-one κs a r r' s s' h h' = does-one _ _ _ _ _ _ _ _ _ _ h h'

pub card-lost-one : (κs : _) (a : _) (r r' : _) (s s' : _) → card-lost-reads.Learnt κs a r s → card-lost-reads.Learnt κs a r' s' → (s.1.1.1.1.0.now ≡ s'.1.1.1.1.0.now) × (r ≡ r') × (s.1.1.1.0.now ≡ s'.1.1.1.0.now) × (card_of s.0.now s.1.0.now ≡ card_of s'.0.now s'.1.0.now)
card-lost-one κs a r r' s s' h h' = does-one _ _ _ _ _ _ _ _ _ _ h h'

-- ---- lookups: the leaf mark and the sixteen labels

pub lookup-label-one : (κs : _) (a : _) (r r' : _) (s s' : _) → lookup-label-reads.Learnt κs a r s → lookup-label-reads.Learnt κs a r' s' → length r.branches ≡ neighbour_count → length r'.branches ≡ neighbour_count → (r.leaf ≡ r'.leaf) × (r.branches ≡ r'.branches)
lookup-label-one κs a r r' s s' h h' n n' = feed-one _ _ _ _ n n' (h [] ∙ sym (h' []))

pub lookup-label-core-one : (κs : _) (a : _) (r r' : _) (s s' : _) → lookup-label-core-reads.Learnt κs a r s → lookup-label-core-reads.Learnt κs a r' s' → length s.1.1.0.now ≡ 16 → length s'.1.1.0.now ≡ 16 → (r ≡ r') × (s.1.1.0.now ≡ s'.1.1.0.now)
lookup-label-core-one κs a r r' s s' h h' n n' = feed-one _ _ _ _ n n' (h [] ∙ sym (h' []))

pub card-lookup-label-one : (κs : _) (a : _) (r r' : _) (s s' : _) → card-lookup-label-reads.Learnt κs a r s → card-lookup-label-reads.Learnt κs a r' s' → length s.1.1.0.now ≡ 16 → length s'.1.1.0.now ≡ 16 → (r ≡ r') × (s.1.1.0.now ≡ s'.1.1.0.now)
card-lookup-label-one κs a r r' s s' h h' n n' = feed-one _ _ _ _ n n' (h [] ∙ sym (h' []))

pub lookup-name-one : (κs : _) (a : _) (r r' : _) (s s' : _) → lookup-name-reads.Learnt κs a r s → lookup-name-reads.Learnt κs a r' s' → length r.branches ≡ neighbour_count → length r'.branches ≡ neighbour_count → (r.leaf ≡ r'.leaf) × (r.branches ≡ r'.branches)
lookup-name-one κs a r r' s s' h h' n n' = feed-one _ _ _ _ n n' (h ∙ sym h')

pub lookup-name-core-one : (κs : _) (a : _) (r r' : _) (s s' : _) → lookup-name-core-reads.Learnt κs a r s → lookup-name-core-reads.Learnt κs a r' s' → length s.1.1.1.0.now ≡ 16 → length s'.1.1.1.0.now ≡ 16 → (r ≡ r') × (s.1.1.1.0.now ≡ s'.1.1.1.0.now)
lookup-name-core-one κs a r r' s s' h h' n n' = feed-one _ _ _ _ n n' (h ∙ sym h')

pub card-lookup-name-one : (κs : _) (a : _) (r r' : _) (s s' : _) → card-lookup-name-reads.Learnt κs a r s → card-lookup-name-reads.Learnt κs a r' s' → length s.1.1.1.0.now ≡ 16 → length s'.1.1.1.0.now ≡ 16 → (r ≡ r') × (s.1.1.1.0.now ≡ s'.1.1.1.0.now)
card-lookup-name-one κs a r r' s s' h h' n n' = feed-one _ _ _ _ n n' (h ∙ sym h')

pub free-labels-one : (κs : _) (a : _) (r r' : _) (s s' : _) → free-labels-reads.Learnt κs a r s → free-labels-reads.Learnt κs a r' s' → (r ≡ r')
free-labels-one κs a r r' s s' h h' = h [] ∙ sym (h' [])

pub card-free-labels-one : (κs : _) (a : _) (r r' : _) (s s' : _) → card-free-labels-reads.Learnt κs a r s → card-free-labels-reads.Learnt κs a r' s' → (r ≡ r')
card-free-labels-one κs a r r' s s' h h' = h [] ∙ sym (h' [])

-- ---- notices: as events, and the card whatever the names; their reader: what it reads

pub notice-one : (κs : _) (a : _) (r r' : _) (s s' : _) → notice-reads.Learnt κs a r s → notice-reads.Learnt κs a r' s' → (s.1.1.1.1.1.0.now ≡ s'.1.1.1.1.1.0.now) × (r.now ≡ r'.now) × ((any : List ℕ) → card_of s.0.now any ≡ card_of s'.0.now any)
notice-one κs a r r' s s' h h' = let o = hands-one _ _ _ _ _ _ _ (h.0 []) (h'.0 []) in (o.0, o.1, λ any. (hands-one _ _ _ _ _ _ _ (h.0 any) (h'.0 any)).2)

pub notice-core-one : (κs : _) (a : _) (r r' : _) (s s' : _) → notice-core-reads.Learnt κs a r s → notice-core-reads.Learnt κs a r' s' → (s.1.1.1.1.1.0.now ≡ s'.1.1.1.1.1.0.now) × (r ≡ r') × (s.1.1.1.1.0.now ≡ s'.1.1.1.1.0.now) × ((any : List ℕ) → card_of s.0.now any ≡ card_of s'.0.now any)
notice-core-one κs a r r' s s' h h' = let o = does-one _ _ _ _ _ _ _ _ _ _ (h []) (h' []) in (o.0, o.1, o.2, λ any. (does-one _ _ _ _ _ _ _ _ _ _ (h any) (h' any)).3)

pub card-notice-one : (κs : _) (a : _) (r r' : _) (s s' : _) → card-notice-reads.Learnt κs a r s → card-notice-reads.Learnt κs a r' s' → (s.1.1.1.1.1.0.now ≡ s'.1.1.1.1.1.0.now) × (r ≡ r') × (s.1.1.1.1.0.now ≡ s'.1.1.1.1.0.now) × ((any : List ℕ) → card_of s.0.now any ≡ card_of s'.0.now any)
card-notice-one κs a r r' s s' h h' = let o = does-one _ _ _ _ _ _ _ _ _ _ (h []) (h' []) in (o.0, o.1, o.2, λ any. (does-one _ _ _ _ _ _ _ _ _ _ (h any) (h' any)).3)

pub read-notice-one : (κs : _) (a : _) (r r' : _) (s s' : _) → read-notice-reads.Learnt κs a r s → read-notice-reads.Learnt κs a r' s' → r ≡ r'
read-notice-one κs a r r' s s' h h' = h ∙ sym h'

pub card-read-notice-one : (κs : _) (a : _) (r r' : _) (s s' : _) → card-read-notice-reads.Learnt κs a r s → card-read-notice-reads.Learnt κs a r' s' → (r ≡ r') × (s.1.0.now ≡ s'.1.0.now)
card-read-notice-one κs a r r' s s' h h' = (h.0 ∙ sym h'.0, h.1 ∙ sym h'.1)

-- ---- saves: the card is lent to be read alone; a restore

pub save-one : (κs : _) (a : _) (r r' : _) (s s' : _) → save-reads.Learnt κs a r s → save-reads.Learnt κs a r' s' → (s.1.1.1.1.0.now ≡ s'.1.1.1.1.0.now) × (r.now ≡ r'.now)
save-one κs a r r' s s' h h' = let o = hands-one _ _ _ _ _ _ _ h.0 h'.0 in (o.0, o.1)

pub save-core-one : (κs : _) (a : _) (r r' : _) (s s' : _) → save-core-reads.Learnt κs a r s → save-core-reads.Learnt κs a r' s' → (s.1.1.1.1.0.now ≡ s'.1.1.1.1.0.now) × (r ≡ r') × (s.1.1.1.0.now ≡ s'.1.1.1.0.now)
save-core-one κs a r r' s s' h h' = let o = does-one _ _ _ _ _ _ _ _ _ _ h h' in (o.0, o.1, o.2)

pub card-save-one : (κs : _) (a : _) (r r' : _) (s s' : _) → card-save-reads.Learnt κs a r s → card-save-reads.Learnt κs a r' s' → (s.1.1.1.0.now ≡ s'.1.1.1.0.now) × (r ≡ r') × (s.1.1.0.now ≡ s'.1.1.0.now)
card-save-one κs a r r' s s' h h' = let o = does-one _ _ _ _ _ _ _ _ _ _ h h' in (o.0, o.1, o.2)

pub card-save2-one : (κs : _) (a : _) (r r' : _) (s s' : _) → card-save2-reads.Learnt κs a r s → card-save2-reads.Learnt κs a r' s' → (s.1.1.1.0.now ≡ s'.1.1.1.0.now) × (r ≡ r') × (s.1.1.0.now ≡ s'.1.1.0.now)
card-save2-one κs a r r' s s' h h' = let o = does-one _ _ _ _ _ _ _ _ _ _ h h' in (o.0, o.1, o.2)

pub restore-one : (κs : _) (a : _) (r r' : _) (s s' : _) → restore-reads.Learnt κs a r s → restore-reads.Learnt κs a r' s' → (r ≡ r') × (card_of s.0.now s.1.0.now ≡ card_of s'.0.now s'.1.0.now)
restore-one κs a r r' s s' h h' = (h.0 ∙ sym h'.0, h.1 ∙ sym h'.1)

pub card-restore-one : (κs : _) (a : _) (r r' : _) (s s' : _) → card-restore-reads.Learnt κs a r s → card-restore-reads.Learnt κs a r' s' → (r ≡ r') × (card_of s.0.now s.1.0.now ≡ card_of s'.0.now s'.1.0.now)
card-restore-one κs a r r' s s' h h' = (h.0 ∙ sym h'.0, h.1 ∙ sym h'.1)

pub card-restore2-one : (κs : _) (a : _) (r r' : _) (s s' : _) → card-restore2-reads.Learnt κs a r s → card-restore2-reads.Learnt κs a r' s' → (r ≡ r') × (card_of s.0.now s.1.0.now ≡ card_of s'.0.now s'.1.0.now)
card-restore2-one κs a r r' s s' h h' = (h.0 ∙ sym h'.0, h.1 ∙ sym h'.1)

-- ---- moves: there is no card

pub newer-one : (κs : _) (a : _) (r r' : _) (s s' : _) → newer-reads.Learnt κs a r s → newer-reads.Learnt κs a r' s' → (s.1.1.1.1.1.0.now ≡ s'.1.1.1.1.1.0.now) × (r.now ≡ r'.now)
newer-one κs a r r' s s' h h' = gives_one _ _ _ _ _ h.0 h'.0

pub older-one : (κs : _) (a : _) (r r' : _) (s s' : _) → older-reads.Learnt κs a r s → older-reads.Learnt κs a r' s' → (s.1.1.1.1.1.0.now ≡ s'.1.1.1.1.1.0.now) × (r.now ≡ r'.now)
older-one κs a r r' s s' h h' = gives_one _ _ _ _ _ h.0 h'.0

pub move-core-one : (κs : _) (a : _) (r r' : _) (s s' : _) → move-core-reads.Learnt κs a r s → move-core-reads.Learnt κs a r' s' → (s.1.1.1.1.1.1.0.now ≡ s'.1.1.1.1.1.1.0.now) × (r ≡ r') × (s.1.1.1.1.1.0.now ≡ s'.1.1.1.1.1.0.now)
move-core-one κs a r r' s s' h h' = moves-one _ _ _ _ _ _ _ _ h h'

pub card-newer-one : (κs : _) (a : _) (r r' : _) (s s' : _) → card-newer-reads.Learnt κs a r s → card-newer-reads.Learnt κs a r' s' → (s.1.1.1.1.1.0.now ≡ s'.1.1.1.1.1.0.now) × (r ≡ r') × (s.1.1.1.1.0.now ≡ s'.1.1.1.1.0.now)
card-newer-one κs a r r' s s' h h' = moves-one _ _ _ _ _ _ _ _ h h'

pub card-older-one : (κs : _) (a : _) (r r' : _) (s s' : _) → card-older-reads.Learnt κs a r s → card-older-reads.Learnt κs a r' s' → (s.1.1.1.1.1.0.now ≡ s'.1.1.1.1.1.0.now) × (r ≡ r') × (s.1.1.1.1.0.now ≡ s'.1.1.1.1.0.now)
card-older-one κs a r r' s s' h h' = moves-one _ _ _ _ _ _ _ _ h h'

-- ---- names inside names: no card is lent

pub inner-start-one : (κs : _) (a : _) (r r' : _) (s s' : _) → inner-start-reads.Learnt κs a r s → inner-start-reads.Learnt κs a r' s' → r ≡ r'
inner-start-one κs a r r' s s' h h' = h.0 ∙ sym h'.0

pub layer-count-one : (κs : _) (a : _) (r r' : _) (s s' : _) → layer-count-reads.Learnt κs a r s → layer-count-reads.Learnt κs a r' s' → r ≡ r'
layer-count-one κs a r r' s s' h h' = h.0 ∙ sym h'.0

pub layer-start-one : (κs : _) (a : _) (r r' : _) (s s' : _) → layer-start-reads.Learnt κs a r s → layer-start-reads.Learnt κs a r' s' → r ≡ r'
layer-start-one κs a r r' s s' h h' = h.0 ∙ sym h'.0

pub eight-of-one : (κs : _) (a : _) (r r' : _) (s s' : _) → eight-of-reads.Learnt κs a r s → eight-of-reads.Learnt κs a r' s' → r.now ≡ r'.now
eight-of-one κs a r r' s s' h h' = h ∙ sym h'

pub card-layers-one : (κs : _) (a : _) (r r' : _) (s s' : _) → card-layers-reads.Learnt κs a r s → card-layers-reads.Learnt κs a r' s' → (s.1.0.now ≡ s'.1.0.now) × (r ≡ r')
card-layers-one κs a r r' s s' h h' = (h.0 ∙ sym h'.0, h.1 ∙ sym h'.1)

pub card-layer-one : (κs : _) (a : _) (r r' : _) (s s' : _) → card-layer-reads.Learnt κs a r s → card-layer-reads.Learnt κs a r' s' → (r ≡ r') × (s.1.1.0.now ≡ s'.1.1.0.now)
card-layer-one κs a r r' s s' h h' = (h.0 ∙ sym h'.0, h.1 ∙ sym h'.1)

pub wrap-one : (κs : _) (a : _) (r r' : _) (s s' : _) → wrap-reads.Learnt κs a r s → wrap-reads.Learnt κs a r' s' → (s.1.1.1.1.0.now ≡ s'.1.1.1.1.0.now) × (r.now ≡ r'.now)
wrap-one κs a r r' s s' h h' = hands-part-one _ _ _ _ _ _ h.0 h'.0

pub wrap-core-one : (κs : _) (a : _) (r r' : _) (s s' : _) → wrap-core-reads.Learnt κs a r s → wrap-core-reads.Learnt κs a r' s' → (s.1.1.1.1.0.now ≡ s'.1.1.1.1.0.now) × (r ≡ r') × (s.1.1.1.0.now ≡ s'.1.1.1.0.now)
wrap-core-one κs a r r' s s' h h' = writes_one _ _ _ _ _ _ _ _ _ h h'

pub card-wrap-one : (κs : _) (a : _) (r r' : _) (s s' : _) → card-wrap-reads.Learnt κs a r s → card-wrap-reads.Learnt κs a r' s' → (s.1.1.1.1.0.now ≡ s'.1.1.1.1.0.now) × (r ≡ r') × (s.1.1.1.0.now ≡ s'.1.1.1.0.now)
card-wrap-one κs a r r' s s' h h' = writes_one _ _ _ _ _ _ _ _ _ h h'

pub unwrap-one : (κs : _) (a : _) (r r' : _) (s s' : _) → unwrap-reads.Learnt κs a r s → unwrap-reads.Learnt κs a r' s' → (s.1.1.1.0.now ≡ s'.1.1.1.0.now) × (r.now ≡ r'.now) × (s.1.1.0.now ≡ s'.1.1.0.now)
unwrap-one κs a r r' s s' h h' = let o = hands-part-one _ _ _ _ _ _ h.0.0 h'.0.0 in (o.0, o.1, h.0.2 ∙ sym h'.0.2)

pub unwrap-core-one : (κs : _) (a : _) (r r' : _) (s s' : _) → unwrap-core-reads.Learnt κs a r s → unwrap-core-reads.Learnt κs a r' s' → (s.1.1.1.0.now ≡ s'.1.1.1.0.now) × (r ≡ r') × (s.1.0.now ≡ s'.1.0.now) × (s.1.1.0.now ≡ s'.1.1.0.now)
unwrap-core-one κs a r r' s s' h h' = let o = writes_one _ _ _ _ _ _ _ _ _ h.0 h'.0 in (o.0, o.1, o.2, h.2 ∙ sym h'.2)

pub card-unwrap-one : (κs : _) (a : _) (r r' : _) (s s' : _) → card-unwrap-reads.Learnt κs a r s → card-unwrap-reads.Learnt κs a r' s' → (s.1.1.1.0.now ≡ s'.1.1.1.0.now) × (r ≡ r') × (s.1.0.now ≡ s'.1.0.now) × (s.1.1.0.now ≡ s'.1.1.0.now)
card-unwrap-one κs a r r' s s' h h' = let o = writes_one _ _ _ _ _ _ _ _ _ h.0 h'.0 in (o.0, o.1, o.2, h.2 ∙ sym h'.2)

-- ---- plans: the card is lent to be read alone

pub check-list-one : (κs : _) (a : _) (r r' : _) (s s' : _) → check-list-reads.Learnt κs a r s → check-list-reads.Learnt κs a r' s' → r ≡ r'
check-list-one κs a r r' s s' h h' = numbered-one r r' (h ∙ sym h')

pub card-check-list-one : (κs : _) (a : _) (r r' : _) (s s' : _) → card-check-list-reads.Learnt κs a r s → card-check-list-reads.Learnt κs a r' s' → (r ≡ r') × (s.1.1.1.1.1.0.now ≡ s'.1.1.1.1.1.0.now)
card-check-list-one κs a r r' s s' h h' = (h.0 ∙ sym h'.0, h.1 ∙ sym h'.1)

pub plan-one : (κs : _) (a : _) (r r' : _) (s s' : _) → plan-reads.Learnt κs a r s → plan-reads.Learnt κs a r' s' → (r ≡ r') × (s.1.1.1.1.0.now ≡ s'.1.1.1.1.0.now)
plan-one κs a r r' s s' h h' = (numbered-one r r' (h.0.0 ∙ sym h'.0.0), h.0.1 ∙ sym h'.0.1)

pub card-plan-one : (κs : _) (a : _) (r r' : _) (s s' : _) → card-plan-reads.Learnt κs a r s → card-plan-reads.Learnt κs a r' s' → (r ≡ r') × (s.1.1.1.1.0.now ≡ s'.1.1.1.1.0.now) × (s.1.1.1.1.1.0.now ≡ s'.1.1.1.1.1.0.now) × (s.1.1.1.1.1.1.0.now ≡ s'.1.1.1.1.1.1.0.now)
card-plan-one κs a r r' s s' h h' = (h.0 ∙ sym h'.0, h.1 ∙ sym h'.1, h.2 ∙ sym h'.2, h.3 ∙ sym h'.3)
