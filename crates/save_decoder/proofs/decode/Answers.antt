-- `save_decoder::decode` meets its contract: what the head cannot say, a name or a root that stands twice, and a tree that
-- holds no label for whom it is to, are no save. Assumes nothing.
use Rattle.save_decoder.proofs.Head.{names-not, roots-not, held-not, read-once}
use mathlib.Core.Path.{sym, ◌∙◌}
use Rattle.meaning.specs.Lists.{never}
use Rattle.save_decoder.proofs.decode.Goals as goal

pub returns-then-not-is_head : goal.returns-then-not-is_head
returns-then-not-is_head c = ((λ t. absurd (never t)), (λ _. c.is_head.ensures.1 c.if-not-is_head.true _))

pub returns-then-not-is_last : goal.returns-then-not-is_last
returns-then-not-is_last c = ((λ t. absurd (never t)), (λ _. c.is_last.ensures.1 c.if-not-is_last.true))

pub read_rows-at-requires : goal.read_rows-at-requires
read_rows-at-requires c =
    let the-is-head = c.is_head in
    let the-if1 = c.if-not-is_head in
    let h = the-is-head.ensures.0 the-if1.false in
    (c.requires.0, c.requires.1, h.0, h.1, h.2, h.3)

pub returns-then-not-names_once : goal.returns-then-not-names_once
returns-then-not-names_once c =
    let the-read-rows = c.read_rows-at in
    ((λ t. absurd (never t)), (λ _. names-not _ _ _ the-read-rows.ensures.0 (sym c.names_once.ensures ∙ c.if-not-names_once.true)))

pub returns-then-not-roots_once : goal.returns-then-not-roots_once
returns-then-not-roots_once c =
    let the-read-rows = c.read_rows-at in
    ((λ t. absurd (never t)), (λ _. roots-not _ _ _ the-read-rows.ensures.0 (sym c.roots_once.ensures ∙ c.if-not-roots_once.true)))

pub read_labels-requires : goal.read_labels-requires
read_labels-requires c =
    let the-read-rows = c.read_rows-at in
    let the-numbers = c.numbers-1 in
    let the-names = c.names-1 in
    let the-names-once = c.names_once in
    let the-if3 = c.if-not-names_once in
    let the-is-last = c.is_last in
    let the-if2 = c.if-not-is_last in
    let r = the-read-rows.ensures in (
      the-numbers.given ∙ c.requires.0,
      the-names.given ∙ c.requires.1,
      r.2,
      r.1,
      r.0,
      sym the-names-once.ensures ∙ the-if3.false,
      sym c.roots_once.ensures ∙ c.if-not-roots_once.false,
      the-is-last.ensures.0 the-if2.false,
    )

pub returns : goal.returns
returns c =
    let the-read-rows = c.read_rows-at in
    let the-names-once = c.names_once in
    let the-if3 = c.if-not-names_once in
    let the-roots-once = c.roots_once in
    let the-if4 = c.if-not-roots_once in
    let the-read-labels = c.read_labels in
    let once = read-once _ _ _ the-read-rows.ensures.0 (sym the-names-once.ensures ∙ the-if3.false) (sym the-roots-once.ensures ∙ the-if4.false) in
    let held = the-read-labels.ensures in
    ((λ t. (held.1 t, once.0, once.1, sym held.0 ∙ t)), (λ t. held-not _ _ (sym held.0 ∙ t)))
