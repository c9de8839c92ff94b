use Rattle.std.proofs.Common.{◌∙◌, sym}
use Rattle.bench_verbs.specs.Line.{is_save_hex}
use Rattle.meaning_save.specs.Save.{form_of}
use Rattle.bench_orders.proofs.save_at.Goals as goal
use Rattle.bench_orders.proofs.save_at.Goals.{then-second, else-second}

pub returns-then-is_hex_to : goal.returns-then-is_hex_to
unfolding form_of is_save_hex
returns-then-is_hex_to c =
    elim c.if-second.branch [
      | then-second w ↦ rw (w.if-second.true, sym (rw (w.most-is, c.of.ensures) at c.is_hex_to.ensures) ∙ c.if-is_hex_to.true)
      | else-second w ↦ rw (w.if-second.false, sym (rw (w.most-is, c.of.ensures) at c.is_hex_to.ensures) ∙ c.if-is_hex_to.true)
    ]

pub returns-else-is_hex_to : goal.returns-else-is_hex_to
unfolding form_of is_save_hex
returns-else-is_hex_to c =
    elim c.if-second.branch [
      | then-second w ↦ rw (w.if-second.true, sym (rw (w.most-is, c.of.ensures) at c.is_hex_to.ensures) ∙ c.if-is_hex_to.false)
      | else-second w ↦ rw (w.if-second.false, sym (rw (w.most-is, c.of.ensures) at c.is_hex_to.ensures) ∙ c.if-is_hex_to.false)
    ]
