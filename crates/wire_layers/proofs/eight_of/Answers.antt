-- `wire_layers::eight_of` meets its contract: each part is one law of `Inner`. Assumes nothing.
use Rattle.wire_layers.proofs.Inner.{eight-none, eight-short, eight-all}
use Rattle.wire_layers.proofs.eight_of.Goals as goal

pub returns-then-name-from : goal.returns-then-name-from
returns-then-name-from c =
    let the-root-length = c.root_length-opaque in
    eight-none _ _ the-root-length.ensures.0 _ _ c.at.ensures.0 c.before_inner-n.ensures.0 c.if-name-from.true

pub returns-then-name-from-2 : goal.returns-then-name-from-2
returns-then-name-from-2 c =
    let the-root-length = c.root_length-opaque in
    let the_at = c.at in
    eight-short _ _ the-root-length.ensures.0 _ _ the_at.ensures.0 c.before_inner-n.ensures.0 c.if-name-from-2.true

pub returns : goal.returns
returns c =
    let the-root-length = c.root_length-opaque in
    let the_at = c.at in
    eight-all _ _ the-root-length.ensures.0 _ _ the_at.ensures.0 c.before_inner-n.ensures.0
