use Rattle.card_lookups.proofs.Lookups.{empty-feed}
use Rattle.card_lookups.proofs.no_feed.Goals as goal

pub returns : goal.returns
returns c = empty-feed
