use Rattle.std.proofs.lemmas.Bool.{false≢true}
use mathlib.Core.Path.{sym, refl, ap, ◌∙◌}
use Rattle.meaning_save.specs.Save.{is_name}
use Rattle.memory.proofs.Trees.{branches-length}
use Rattle.save_rules_rows.proofs.RowRules.{tree-parts, both, not-both}
use Rattle.save_rules_rows.proofs.is_tree.Goals as goal
use Rattle.save_rules_rows.proofs.is_tree.Goals.{then-is_name, else-is_name}

pub returns-then-branches_good : goal.returns-then-branches_good
returns-then-branches_good c =
    let named = c.is_name.ensures ∙ ap is_name (c.tree_name.ensures.0 _ c.requires.2.0) in
    c.leads_somewhere.ensures _
    ∙ sym (tree-parts _ (branches-length _ _ _ c.requires.2.0) ∙ elim c.if-is_name.branch [ then-is_name w ↦ both _ _ _ (sym named ∙ w.if-is_name.true) (sym (w.branches_good.ensures _) ∙ sym w.value-is ∙ c.if-branches_good.true) | else-is_name w ↦ absurd (false≢true (sym w.if-is_name.false ∙ sym w.value-is ∙ c.if-branches_good.true)) ])

pub returns-else-branches_good : goal.returns-else-branches_good
returns-else-branches_good c =
    let named = c.is_name.ensures ∙ ap is_name (c.tree_name.ensures.0 _ c.requires.2.0) in
    c.if-branches_good.false
    ∙ sym (tree-parts _ (branches-length _ _ _ c.requires.2.0) ∙ elim c.if-is_name.branch [ then-is_name w ↦ not-both _ _ _ (sym named ∙ w.if-is_name.true) (sym (w.branches_good.ensures _) ∙ sym w.value-is ∙ c.if-branches_good.false) | else-is_name w ↦ rw (← named, w.if-is_name.false) refl ])
