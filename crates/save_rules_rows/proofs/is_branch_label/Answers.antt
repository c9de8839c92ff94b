use mathlib.Core.Path.{refl}
use borrow.Author.Tests.{le-leb, lt-leb, eq-eqb, ne_eqb}
use Rattle.meaning_save.specs.Save.{is_branch_label}
use Rattle.save_rules_rows.proofs.is_branch_label.Goals as goal

pub returns-then-label-eq0 : goal.returns-then-label-eq0
unfolding is_branch_label
returns-then-label-eq0 c = rw (eq-eqb c.args.label 0 c.if-label-eq0.true) refl

pub returns-then-label-ge-LEAST_LABEL : goal.returns-then-label-ge-LEAST_LABEL
unfolding is_branch_label
returns-then-label-ge-LEAST_LABEL c = rw (ne_eqb c.args.label 0 c.if-label-eq0.false, le-leb 16 c.args.label c.if-label-ge-LEAST_LABEL.true) refl

pub returns-else-label-ge-LEAST_LABEL : goal.returns-else-label-ge-LEAST_LABEL
unfolding is_branch_label
returns-else-label-ge-LEAST_LABEL c = rw (ne_eqb c.args.label 0 c.if-label-eq0.false, lt-leb 16 c.args.label c.if-label-ge-LEAST_LABEL.false) refl
