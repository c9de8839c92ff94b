-- `save_tags::tagged_from` meets its contract: a search, in which a tag that is another says that the name is. Assumes nothing.
use Prim.Native.Nat.{◌+◌}
use mathlib.Core.Path.{◌≡◌}
use lib.ListN.{drop}
use Rattle.meaning.specs.Octets.{place}
use Rattle.meaning.specs.Card.{named}
use Rattle.octets.specs.Part.{tab}
use Rattle.memory.specs.Memory.{card_of, tree_in}
use Rattle.save_tags.proofs.tagged_from.Given as goal

abbrev pub invariant-loop-i : goal.invariant-loop-i
invariant-loop-i l = l.from + place (named l.name) (drop l.from (card_of l.numbers l.names).trees) ≡ l.i + place (named l.name) (drop l.i (tab l.n (tree_in l.numbers l.names)))
