-- `wire_reader::label_in` meets its contract: each return's tests are those of one law.
-- Assumes nothing.
use Rattle.wire_reader.proofs.Places.{label-size, label-low, label-high, label-right}
use Rattle.wire_reader.proofs.label_in.Goals as goal

pub returns-then-v-ne4 : goal.returns-then-v-ne4
returns-then-v-ne4 c = label-size _ c.if-v-ne4.true

pub returns-then-label-lt-LEAST_LABEL : goal.returns-then-label-lt-LEAST_LABEL
returns-then-label-lt-LEAST_LABEL c = label-low _ _ c.four_at-label.ensures.0 c.if-label-lt-LEAST_LABEL.true

pub returns-then-label-gt-MOST_LABEL : goal.returns-then-label-gt-MOST_LABEL
returns-then-label-gt-MOST_LABEL c = label-high _ _ c.four_at-label.ensures.0 c.if-label-gt-MOST_LABEL.true

pub returns : goal.returns
returns c = label-right _ _ c.four_at-label.ensures.0 c.if-v-ne4.false c.if-label-lt-LEAST_LABEL.false c.if-label-gt-MOST_LABEL.false
