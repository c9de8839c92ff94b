-- The events that write most: 64 trees with the longest names, in one order. Tables of `meaning`, but each of its edits would compute them anew.
-- Assumes nothing.
use Rattle.std.specs.Prelude.{ℕ, zero, suc, ◌+◌, Bool, false, ◌&&◌, List, [], ◌∷◌, ◌++◌, length, take, replicate, set, T, eqb}
use Rattle.meaning.specs.Wire.{element}
use Rattle.meaning.specs.Card.{Tree, Card, free, with_routes, with_trees, with_labels}
use Rattle.meaning.specs.Events.{route, lost, event}
use Rattle.meaning.specs.Computing.{computing}
use Rattle.meaning.specs.Examples.{A, first_card}
use Rattle.meaning.specs.Corners.{used_by, load}

-- ---- a route order

-- 64 trees of `load`, each with a label mapped to neighbour 0; the other labels are free
unfoldable pub loaded : Card
loaded =
    let ts = load 64 0 in
    with_trees ts (with_labels (take 64 (used_by ts) ++ replicate 192 free) (with_routes (record { root = replicate 16 32; via = 0; standing = 64; lone = 0 } ∷ []) first_card))

-- each tree gives one label up and is given another, in two records of 174 octets; one octet less is too little room
unfoldable pub most_moved : Bool
most_moved =
    let o = event 22272 loaded (route (replicate 16 32) 2) in
    eqb o.answer 0 && eqb (length o.octets) 22272 && eqb o.card.next 129
    && eqb (event 22271 loaded (route (replicate 16 32) 2)).answer 16

-- ---- a loss

-- 64 trees of a 16-octet root with the longest names, each with a branch from 1 alone, and a label mapped to 0: the loss of 1 ends them all
unfoldable pub branched : ℕ → ℕ → List Tree
branched zero k = []
branched (suc n) k = record { name = element 2 (replicate 16 32) (1 ∷ 0 ∷ 125 ∷ k ∷ replicate 124 0); branches = set (replicate 16 0) 1 100; leaf = false; label = 16 + k } ∷ branched n (suc k)

unfoldable pub branched_all : Card
branched_all = let ts = branched 64 0 in with_trees ts (with_labels (used_by ts) (with_routes (record { root = replicate 16 32; via = 0; standing = 64; lone = 64 } ∷ []) first_card))

-- it writes 64 records of 174 octets, and leaves no tree; one octet less is too little room
unfoldable pub most_lost : Bool
most_lost =
    let o = event 11136 branched_all (lost 1) in
    eqb (length o.octets) 11136 && eqb (length o.card.trees) 0 && eqb o.card.next 65 && eqb (event 11135 branched_all (lost 1)).answer 16

-- ---- the one statement

pub longest-shown : T most_moved × T most_lost
unfolding computing A first_card load used_by loaded most_moved branched branched_all most_lost
longest-shown = (tt, tt)
