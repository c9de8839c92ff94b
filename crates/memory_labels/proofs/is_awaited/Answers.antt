use Rattle.std.proofs.Common.{ℕ, List, sym, ap, ◌∙◌}
use Rattle.meaning.specs.Octets.{same}
use Rattle.memory.proofs.Labels.{awaits-out, awaits-free, awaits-not, awaits-same}
use Rattle.memory_labels.proofs.is_awaited.Goals as goal
use Rattle.memory_labels.proofs.is_awaited.Goals.{then-p-ge-LABEL_COUNT-via-then-p-ge-LABEL_COUNT, then-p-ge-LABEL_COUNT-via-else-p-ge-LABEL_COUNT+then-is_free, then-p-ge-LABEL_COUNT-via-else-p-ge-LABEL_COUNT+else-is_free+then-numbers-p}

pub returns-then-p-ge-LABEL_COUNT : goal.returns-then-p-ge-LABEL_COUNT
returns-then-p-ge-LABEL_COUNT c =
    elim c.then-p-ge-LABEL_COUNT.branch [
      | then-p-ge-LABEL_COUNT-via-then-p-ge-LABEL_COUNT w ↦ awaits-out _ _ _ _ c.place_in_block-p.ensures _ _ w.if-p-ge-LABEL_COUNT.true
      | then-p-ge-LABEL_COUNT-via-else-p-ge-LABEL_COUNT+then-is_free w ↦ awaits-free _ _ _ _ c.place_in_block-p.ensures _ _ w.if-p-ge-LABEL_COUNT.false (sym w.is_free.ensures.0 ∙ w.if-is_free.true)
      | then-p-ge-LABEL_COUNT-via-else-p-ge-LABEL_COUNT+else-is_free+then-numbers-p w ↦ awaits-not _ _ _ _ c.place_in_block-p.ensures c.args.neighbour _ w.if-p-ge-LABEL_COUNT.false w.if-numbers-p.true
    ]

pub returns : goal.returns
returns c =
    let name-same = c.equal.ensures ∙ ap (λ (l : List ℕ). same l c.args.name.now) c.label_name.ensures in
    awaits-same _ _ _ _ c.place_in_block-p.ensures _ _ _ c.if-p-ge-LABEL_COUNT.false (sym c.is_free.ensures.0 ∙ c.if-is_free.false) c.requires.2 c.if-numbers-p.false name-same
