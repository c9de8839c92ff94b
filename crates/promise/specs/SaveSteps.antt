-- What `proofs/SaveSteps` speaks of.
-- Assumes nothing.
use Prim.Native.Nat.{◌<◌}
use Rattle.std.specs.Prelude.{◌≡◌, List, [], ◌∷◌}
use Rattle.std.proofs.Math.Bool.{true}
use Rattle.meaning.specs.Octets.{all}
use Rattle.meaning.specs.Wire.{message_in, element_refusal}
use Rattle.meaning.specs.Card.{neighbour_count}
use Rattle.meaning.specs.Events.{Outcome, refused, taken, Event, receive, join, leave, route, lost}
use Rattle.meaning_laws.specs.RoundTrip.{Heard}
use Rattle.meaning_save.specs.Save.{is_route}
use Rattle.promise.specs.Promise.{Given, Past, Each}

-- ---- an event that is taken leaves good routes, and was one that the tests pass

unfoldable pub Passed : Event → Type 0
Passed (receive n s) = Heard n (message_in s).name (message_in s).label
Passed (join e) = Unit {0}
Passed (leave e) = Unit {0}
Passed (route r via) = Unit {0}
Passed (lost n) = Unit {0}

unfoldable pub Goes : Event → Outcome → Type 0
Goes e (refused n) = Unit {0}
Goes e (taken ms after) = (all is_route after.routes ≡ true) × Passed e

-- ---- live labels: each was told to a neighbour, for a name

unfoldable pub Told : Given → Type 0
Told g = (g.to < neighbour_count) × (element_refusal g.tree ≡ 0)

-- ---- over the steps

unfoldable pub AllPassed : List Event → Type 0
AllPassed [] = Unit {0}
AllPassed (e ∷ es) = Passed e × AllPassed es

-- what the save has to know of a past, besides that it is upheld
pub record Writable (p : Past) : Type 0 where
  pub next : p.card.next < 4294967296
  pub routes : all is_route p.card.routes ≡ true
  pub passed : AllPassed p.accepted
  pub told : Each Told p.live
