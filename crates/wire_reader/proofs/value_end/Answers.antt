-- `wire_reader::value_end` meets its contract: by what stands at the place.
-- Assumes nothing.
use mathlib.Core.Path.{sym, ap, ◌∙◌}
use Rattle.wire_reader.specs.Read.{end_of}
use Rattle.wire_reader.proofs.Places.{end-here, end-other}
use Rattle.wire_reader.proofs.value_end.Goals as goal

pub returns-then-found-kind : goal.returns-then-found-kind
returns-then-found-kind c =
    let the-tlv-from = c.tlv_from in
    let a = c.args in
    end-here a.message.now a.at _ _ _ (sym the-tlv-from.ensures ∙ c.in-Whole.is) a.kind c.if-found-kind.true

pub returns-else-found-kind : goal.returns-else-found-kind
returns-else-found-kind c =
    let the-tlv-from = c.tlv_from in
    let a = c.args in
    end-other a.message.now a.at _ _ _ (sym the-tlv-from.ensures ∙ c.in-Whole.is) a.kind c.if-found-kind.false

pub returns-in-End : goal.returns-in-End
returns-in-End c =
    sym (ap (end_of c.args.kind) (sym c.tlv_from.ensures ∙ c.in-End.is))

pub returns-in-Past : goal.returns-in-Past
returns-in-Past c =
    sym (ap (end_of c.args.kind) (sym c.tlv_from.ensures ∙ c.in-Past.is))
