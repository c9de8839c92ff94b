-- What one card says of a tree's label: to whom it is mapped, and where it leads.
-- Assumes nothing.
use Rattle.std.specs.Prelude.{ℕ, ◌<◌, ◌≡◌, true}
use native.Mathlib.Omega.{arith}
use Rattle.std.proofs.Math.Path.{refl, ap}
use Rattle.std.proofs.Common.{sym, ◌∙◌, eq-eqb, lt-ltb}
use mathlib.Core.List.{List}
use Rattle.meaning.specs.Wire.{root_in, element_refusal}
use Rattle.meaning.specs.Card.{Tree, mapped, Card, nobody, tree_of, route_of, leads_on, mapped_to, use_of, held_for, feed_of, feed_of_use, lookup_label, lookup_name, neighbour_count}
use Rattle.meaning.specs.Events.{upstream, holder, holder_of}
use Rattle.promise.specs.Promise.{Past}
use Rattle.promise.specs.LiveLaws.{mapped-eq, Linked}
use Rattle.promise.proofs.CardLaws.{tree-name}
use Rattle.promise.proofs.RuleLaws.{held-named}
use Rattle.promise.specs.PromiseProof.{Upheld}
use Rattle.promise.proofs.PromiseProof.{carrier-is, sender-is}

-- for whom a label is to be held, by the route
route-asked : (c : Card) (t : Tree) (v : ℕ) → v < neighbour_count → route_of (root_in t.name) c ≡ v → leads_on v t ≡ true → holder_of c t ≡ v
unfolding holder_of holder upstream
route-asked c t v near r e = rw r (rw (lt-ltb v neighbour_count near) (rw e refl))

module _ (p : Past) (u : Upheld p) (a : List ℕ) where
  abbrev c : Card
  c = p.card

  abbrev t : Tree
  t = tree_of a p.card

  abbrev v : ℕ
  v = route_of (root_in a) p.card

  -- a label that is mapped is mapped to the neighbour that is the route
  pub mapped-route : (l n : ℕ) → use_of l c ≡ mapped n a → v ≡ n
  mapped-route l n e = u.routed (root_in a) ∙ sym (sender-is p u l n a e)

  -- and it leads where the tree does
  pub mapped-lookup : (l n : ℕ) → use_of l c ≡ mapped n a → lookup_label l c ≡ feed_of v t
  unfolding lookup_label feed_of_use
  mapped-lookup l n e = rw e (ap (feed_of n) (carrier-is p u l n a e) ∙ ap (λ (x : ℕ). feed_of x t) (sym (mapped-route l n e)))

  -- a tree that leads on, and whose route is a neighbour, has a label that is mapped to it
  pub leads-mapped : v < neighbour_count → leads_on v t ≡ true → use_of t.label c ≡ mapped v a
  unfolding held_for mapped_to
  leads-mapped near e =
      let L : Linked (λ (b : List ℕ). (tree_of b c).label) (λ (k : ℕ). use_of k c) = u.sound.linked in
      let route-is : route_of (root_in t.name) c ≡ v = ap (λ (b : List ℕ). route_of (root_in b) c) (tree-name a c) in
      let to : mapped_to (use_of t.label c) ≡ v = held-named c p.live u.sound u.ruled a ∙ route-asked c t v near route-is e in
      let nz : t.label ≡ 0 → ⊥ = λ z. let none : mapped_to (use_of t.label c) ≡ nobody = ap mapped_to (ap (λ (k : ℕ). use_of k c) z ∙ L.zero-free) in omega arith in
      mapped-eq a (use_of t.label c) (L.own a nz) ∙ ap (λ (k : ℕ). mapped k a) to

  pub name-lookup : element_refusal a ≡ 0 → lookup_name a c ≡ feed_of v t
  unfolding lookup_name
  name-lookup good = rw (eq-eqb (element_refusal a) 0 good) refl
