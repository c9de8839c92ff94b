-- `session_offer::fill` meets its contract: one copy into a part of the buffer. Assumes nothing.
use native.Mathlib.Omega.{arith}
use mathlib.Core.Path.{◌≡◌, sym, ap, ◌∙◌}
use lib.ListN.{length}
use Rattle.session_offer.proofs.Filling.{front_length, part_length, put-length, put_is}
use borrow.Author.Rules.{rules}
use Rattle.session_offer.proofs.fill.Goals as goal

pub slice_bounds-copy-end-2 : goal.slice_bounds-copy-end-2
slice_bounds-copy-end-2 c = front_length _ _ (omega arith)

pub copy-requires : goal.copy-requires
copy-requires c =
    let args = c.args in
    part_length args.at c.least-k.result args.buffer.now args.offered.now (omega arith) (omega arith)

pub returns : goal.returns
returns c =
    let args = c.args in
    let the-least = c.least-k in
    let the_copy = c.copy in
    let front : length the_copy.new.dst ≡ the-least.result = ap length the_copy.ensures ∙ sym (front_length the-least.result args.offered.now (omega arith)) in (
      the-least.ensures.0,
      the-least.ensures.1,
      the-least.ensures.2,
      put-length args.at the-least.result args.buffer.now the_copy.new.dst (omega arith) front,
      put_is args.at the-least.result args.buffer.now args.offered.now the_copy.new.dst the_copy.ensures,
    )
