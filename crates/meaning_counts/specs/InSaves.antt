-- The counts in a save.
-- Assumes nothing.
use Rattle.std.specs.Prelude.{Bool, not, ◌&&◌, List, [], ◌∷◌, T}
use Rattle.meaning.specs.Octets.{same}
use Rattle.meaning.specs.Card.{Route, fresh, with_routes}
use Rattle.meaning.specs.Computing.{computing}
use Rattle.meaning.specs.Examples.{A, heard}
use Rattle.meaning_save.specs.Save.{old, new, saved, restore, keeps_rules}
use Rattle.meaning_save.specs.SaveExample.{computing_saves, B, after, swapped, head_of, route_a, tree_a, tree_b, label16, label17, example}
use Rattle.meaning_counts.specs.Rows.{counts}

-- other counts than there are
unfoldable pub miscount : List Route → List Route
miscount [] = []
miscount (r ∷ rs) = record { root = r.root; via = r.via; standing = 7; lone = 3 } ∷ miscount rs

-- A save of neither form carries the counts; reading works them out. A has one branch; B, whose root has no route, is counted nowhere.
-- A table with false counts keeps the rules no more.
unfoldable pub in_saves : Bool
in_saves =
    let false-ones = with_routes (miscount swapped.routes) swapped in
    same (counts swapped.routes) (1 ∷ 1 ∷ []) && same (saved old false-ones) example && same (counts (restore old example (fresh 99)).card.routes) (1 ∷ 1 ∷ [])
    && same (counts (restore new (saved new false-ones) (fresh 99)).card.routes) (1 ∷ 1 ∷ [])
    && keeps_rules swapped && not (keeps_rules false-ones)

pub saves-shown : T in_saves
unfolding computing_saves computing counts miscount in_saves A heard B after swapped head_of route_a tree_a tree_b label16 label17 example
saves-shown = tt
