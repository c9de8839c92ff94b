-- `save_tags::tag` meets its contract. Assumes nothing.
use borrow.Author.Rules.{rules}
use Rattle.save_tags.specs.Tags.{tag_of}
use Rattle.save_tags.proofs.tag.Goals as goal

pub returns : goal.returns
unfolding tag_of
returns c = search rules
