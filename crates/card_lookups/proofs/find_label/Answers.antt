use mathlib.Core.List.{List}
use mathlib.Core.Path.{◌≡◌, sym, ap, ◌∙◌}
use Prim.Native.Nat.{ℕ}
use Rattle.meaning.specs.Card.{mapped_to, use_of}
use Rattle.memory.specs.Memory.{card_of}
use Rattle.memory.proofs.Labels.{use-at, maps-out}
use Rattle.card_lookups.proofs.Lookups.{none_found, carrier-found, carrier-none}
use borrow.Author.Rules.{rules}
use Rattle.card_lookups.proofs.find_label.Goals as goal

pub returns-then-p-ge-LABEL_COUNT : goal.returns-then-p-ge-LABEL_COUNT
returns-then-p-ge-LABEL_COUNT c = λ os. c.no_feed.ensures ∙ none_found _ os _ (sym (maps-out _ os _ _ c.place_in_block-p.ensures c.if-p-ge-LABEL_COUNT.true))

pub returns-then-sender-eq-NOBODY : goal.returns-then-sender-eq-NOBODY
returns-then-sender-eq-NOBODY c =
    λ os. c.no_feed-then-sender-eq-NOBODY.ensures ∙ none_found _ os _ (ap mapped_to (use-at _ os _ _ c.place_in_block-p.ensures c.if-p-ge-LABEL_COUNT.false) ∙ sym (c.mapped_at-sender.ensures.0 os) ∙ c.if-sender-eq-NOBODY.true)

pub carrier_at-i-requires : goal.carrier_at-i-requires
carrier_at-i-requires c = (search rules, search rules, c.mapped_at-sender.ensures.3 c.if-sender-eq-NOBODY.false)

pub returns-then-i-tree_count : goal.returns-then-i-tree_count
returns-then-i-tree_count c =
    let sender : (os : List ℕ) → c.mapped_at-sender.result ≡ mapped_to (use_of c.args.label (card_of c.args.numbers.now os)) =
    λ os. c.mapped_at-sender.ensures.0 os ∙ ap mapped_to (sym (use-at _ os _ _ c.place_in_block-p.ensures c.if-p-ge-LABEL_COUNT.false)) in
    λ os. carrier-found _ os _ (λ z. c.if-sender-eq-NOBODY.false (sender os ∙ z)) _ (c.carrier_at-i.ensures.0 os _ (c.place_in_block-p.ensures.inside c.if-p-ge-LABEL_COUNT.false)) _ _ (sender os) (c.feed_at.ensures os)

pub returns : goal.returns
returns c =
    let sender : (os : List ℕ) → c.mapped_at-sender.result ≡ mapped_to (use_of c.args.label (card_of c.args.numbers.now os)) =
    λ os. c.mapped_at-sender.ensures.0 os ∙ ap mapped_to (sym (use-at _ os _ _ c.place_in_block-p.ensures c.if-p-ge-LABEL_COUNT.false)) in
    λ os. carrier-none _ os _ (λ z. c.if-sender-eq-NOBODY.false (sender os ∙ z)) _ (c.carrier_at-i.ensures.0 os _ (c.place_in_block-p.ensures.inside c.if-p-ge-LABEL_COUNT.false)) _ c.no_feed-2.ensures (rw c.tree_count.ensures.0 at c.if-i-tree_count.false)
