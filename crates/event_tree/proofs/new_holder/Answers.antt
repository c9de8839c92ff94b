use borrow.Author.Rules.{rules}
use Rattle.memory.specs.Memory.{card_of}
use Rattle.event_tree.proofs.Upstream.{new-held, new-led}
use Rattle.event_tree.proofs.new_holder.Goals as goal

pub returns-then-u-n : goal.returns-then-u-n
returns-then-u-n c =
    let up = c.upstream_at-u.ensures in
    ((λ os a l e some. new-held (card_of c.args.numbers.now os) a c.args.n l _ c.requires.1 some (up.0 os _ e) c.if-u-n.true), search rules, search rules)

pub returns-else-u-n : goal.returns-else-u-n
returns-else-u-n c =
    let up = c.upstream_at-u.ensures in
    ((λ os a l e some. new-led (card_of c.args.numbers.now os) a c.args.n l _ c.requires.1 some (up.0 os _ e) c.if-u-n.false), up.1, up.2)
