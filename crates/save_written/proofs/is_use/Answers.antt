-- `save_written::is_use` meets its contract. Assumes nothing.
use native.Mathlib.Omega.{arith}
use mathlib.Core.Path.{sym, ◌∙◌}
use Rattle.save_written.proofs.Places.{marked-so}
use Rattle.save_written.proofs.Steps.{use-few, use-unmarked, use-no-label, use-stands}
use Rattle.meaning.specs.Lists.{never}
use Rattle.save_written.proofs.is_use.Goals as goal
use Rattle.save_written.proofs.is_use.Goals.{then-is_marked, else-is_marked}

pub returns-then-octets-at : goal.returns-then-octets-at
returns-then-octets-at c =
    let a = c.args in
    use-few a.octets.now a.at _ a.base a.least a.e c.requires.1 c.if-octets-at.true

pub returns-then-is_label : goal.returns-then-is_label
returns-then-is_label c =
    let known = c.shared_slice_known-1 in
    let a = c.args in
    elim c.if-is_marked.branch [
      | then-is_marked w ↦ use-stands a.octets.now a.at _ a.base a.least a.e c.requires.1 (λ i. omega (arith, known.given i)) c.if-octets-at.false
          (marked-so a.octets.now a.at _ _ _ _ c.use_kind.ensures c.is_marked.ensures w.if-is_marked.true) (sym w.is_label.ensures ∙ sym w.value-is ∙ c.if-is_label.true) _ c.is_name.ensures
      | else-is_marked w ↦ absurd (never (sym w.if-is_marked.false ∙ sym w.value-is ∙ c.if-is_label.true))
    ]

pub returns-else-is_label : goal.returns-else-is_label
returns-else-is_label c =
    let known = c.shared_slice_known-1 in
    let a = c.args in
    c.if-is_label.false
    ∙ elim c.if-is_marked.branch [
      | then-is_marked w ↦ use-no-label a.octets.now a.at _ a.base a.least a.e c.requires.1 (λ i. omega (arith, known.given i)) c.if-octets-at.false
          (marked-so a.octets.now a.at _ _ _ _ c.use_kind.ensures c.is_marked.ensures w.if-is_marked.true) (sym w.is_label.ensures ∙ sym w.value-is ∙ c.if-is_label.false)
      | else-is_marked w ↦ use-unmarked a.octets.now a.at _ a.base a.least a.e c.requires.1 (λ i. omega (arith, known.given i)) c.if-octets-at.false
          (marked-so a.octets.now a.at _ _ _ _ c.use_kind.ensures c.is_marked.ensures w.if-is_marked.false)
    ]
