-- `session_offer::take_in` meets its contract: with no whole head, and with one. Assumes nothing.
use native.Mathlib.Omega.{arith}
use mathlib.Core.Path.{ap, ◌∙◌}
use lib.ListN.{length}
use Rattle.session_offer.proofs.Taking.{offered-rest, took-on, took-head}
use Rattle.session_offer.proofs.take_in.Goals as goal

pub returns-in-None : goal.returns-in-None
returns-in-None c =
    let fill = c.fill-k.ensures in (
      ap length c.set.ensures,
      fill.3,
      took-on _ _ _ _ _ _ _ c.held_in-before.ensures c.limit.ensures.0 c.requires.1 fill.0 fill.4 _ _ c.octets.ensures _ c.whole_head.ensures.0 c.in-None.is _ c.set.ensures,
    )

pub returns-in-Some : goal.returns-in-Some
returns-in-Some c =
    let fill = c.fill-k.ensures in
    let more = c.fill-more.ensures in (
      ap length c.set-in-Some.ensures,
      more.3 ∙ fill.3,
      took-head _ _ _ _ _ _ _ c.held_in-before.ensures c.limit.ensures.0 c.requires.1 fill.0 fill.4 _ _ c.octets.ensures _ c.whole_head.ensures.0 _ c.in-Some.is _ _ _ _
          (offered-rest c.fill-k.result c.args.offered.now) more.0 (omega arith) more.4 c.set-in-Some.ensures,
    )
