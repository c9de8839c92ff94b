-- `firmware_layers::fields_of` meets its contract: a last layer, or one that holds a name. Assumes nothing.
use Rattle.firmware_layers.proofs.Reading.{fields-last, fields-more}
use borrow.Author.Rules.{rules}
use Rattle.firmware_layers.proofs.fields_of.Goals as goal

pub returns-then-inner-eq0 : goal.returns-then-inner-eq0
returns-then-inner-eq0 c = fields-last _ _ _ _ c.root_of-root.ensures c.inner_start-inner.ensures.0 c.if-inner-eq0.true

pub returns : goal.returns
returns c = fields-more _ _ _ _ c.root_of-root.ensures c.inner_start-inner.ensures.0 c.if-inner-eq0.false _ c.eight_of-eight.ensures
