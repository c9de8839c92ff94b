use mathlib.Core.Path.{refl, sym, ◌∙◌}
use borrow.Author.Tests.{le-ltb}
use Rattle.save_rules.proofs.Rules.{own-none, own-for, for-out, for-at}
use Rattle.save_rules.proofs.carries_own.Goals as goal

pub returns-then-label-eq0 : goal.returns-then-label-eq0
returns-then-label-eq0 c = sym (own-none _ _ _ (c.tree_label-label.ensures _) c.if-label-eq0.true)

pub returns-then-p-lt-LABEL_COUNT : goal.returns-then-p-lt-LABEL_COUNT
returns-then-p-lt-LABEL_COUNT c =
    c.is_mapped_for.ensures.0
    ∙ sym (own-for _ _ _ (c.tree_label-label.ensures _) _ (c.tree_name.ensures.0 _ c.requires.2.0) c.if-label-eq0.false ∙ for-at _ _ _ _ _ c.place_in_block-p.ensures c.if-p-lt-LABEL_COUNT.true)

pub returns-else-p-lt-LABEL_COUNT : goal.returns-else-p-lt-LABEL_COUNT
returns-else-p-lt-LABEL_COUNT c =
    le-ltb _ _ c.if-p-lt-LABEL_COUNT.false
    ∙ sym (own-for _ _ _ (c.tree_label-label.ensures _) _ refl c.if-label-eq0.false ∙ for-out _ _ _ _ _ c.place_in_block-p.ensures c.if-p-lt-LABEL_COUNT.false)
