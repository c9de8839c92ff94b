use Prim.Native.Nat.{ℕ}
use mathlib.Core.Path.{ap, ◌∙◌}
use mathlib.Core.List.{List}
use Rattle.meaning.specs.Card.{route_of}
use Rattle.memory.specs.Memory.{card_of}
use Rattle.event_holder.proofs.upstream_of.Goals as goal

pub returns : goal.returns
returns c =
    rw (← (c.route_of.ensures ∙ ap (λ (r : List ℕ). route_of r (card_of c.args.numbers.now c.args.names.now)) c.root_of.ensures)) c.upstream_via.ensures
