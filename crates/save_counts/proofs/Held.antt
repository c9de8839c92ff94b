-- Whether trees hold a label for whom they are to: the counts of the roots' trees do not bear on it. Assumes nothing.
use Prim.Native.Nat.{ℕ}
use mathlib.Core.Path.{◌≡◌, refl, ap, ap₂, ◌∙◌}
use mathlib.Core.Bool.{Bool, false}
use mathlib.Core.List.{List, [], ◌∷◌}
use lib.ListN.{take}
use lib.Dec.{eqb}
use Rattle.meaning.specs.Octets.{pick, all}
use Rattle.meaning.specs.Wire.{root_in}
use Rattle.meaning.specs.Card.{Route, Tree, Card, with_routes, tree_at, use_of, held_for}
use Rattle.meaning.specs.Events.{worked_out, upstream, holder, holder_of}
use Rattle.meaning_save.specs.Save.{all_worked_out, holds_right}
use Rattle.meaning_laws.specs.Counts.{plain, plains, plain-route}
use Rattle.save_counts.specs.Counted.{counted}
use Rattle.save_counts.proofs.Entries.{Working}

worked-plain : (ts : List Tree) (rs : List Route) → plains (all_worked_out ts rs) ≡ plains rs
unfolding plains plain all_worked_out worked_out
worked-plain ts [] = refl
worked-plain ts (x ∷ rs) = ap (λ (l : List Route). plain x ∷ l) (worked-plain ts rs)

held-worked : (ts : List Tree) (c : Card) (t : Tree) → holds_right (with_routes (all_worked_out ts c.routes) c) t ≡ holds_right c t
unfolding holds_right holder_of held_for use_of with_routes
held-worked ts c t =
    ap (λ (via : ℕ). eqb (held_for c t) (holder (upstream via) t)) (plain-route (with_routes (all_worked_out ts c.routes) c) c (worked-plain ts c.routes) (root_in t.name))

pub held-working : (i : ℕ) (c₀ c : Card) → Working i c₀ c → holds_right c (tree_at i c) ≡ holds_right c₀ (tree_at i c₀)
held-working i c₀ c w =
    ap (λ (x : Card). holds_right x (tree_at i x)) w.made
    ∙ (unfold with_routes tree_at in held-worked (take i c₀.trees) c₀ (tree_at i c₀))

all_alike : (f g : Tree → Bool) → ((t : Tree) → f t ≡ g t) → (ts : List Tree) → all f ts ≡ all g ts
unfolding all
all_alike f g e [] = refl
all_alike f g e (t ∷ ts) = ap₂ (λ (a b : Bool). pick a b false) (e t) (all_alike f g e ts)

pub held-counted : (c : Card) → all (holds_right (counted c)) (counted c).trees ≡ all (holds_right c) c.trees
unfolding counted
held-counted c = unfold with_routes in all_alike _ _ (held-worked c.trees c) c.trees
