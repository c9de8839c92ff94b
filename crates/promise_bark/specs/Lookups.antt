-- What a card's lookups say of a tree: by its name, and by a label that is live for it.
-- Assumes nothing.
use Rattle.std.specs.Prelude.{ℕ, suc, ◌+◌, ◌≡◌, true, false, ◌&&◌, List, [], ◌∷◌, get_or, set, eqb}
use Rattle.std.proofs.Common.{arith, ap, ap₂, ◌∙◌, eqb-true}
use Rattle.std.proofs.Math.Path.{refl, sym}
use Rattle.meaning.specs.Octets.{count, same}
use Rattle.meaning.specs.Lists.{by-test, picked, same-eq}
use Rattle.meaning_laws.specs.RoundTrip.{both}
use Rattle.meaning.specs.Wire.{element_refusal, mapping}
use Rattle.meaning.specs.Card.{Tree, Use, free, mapped, awaiting, Card, tree_of, use_of, is_branch, not_held, Branch, Feed, nothing, branches_from, feed_of, feed_of_use, carrier, lookup_label, lookup_name}
use Rattle.meaning.specs.Events.{branch}
use Rattle.promise.specs.Promise.{Given, of_label, is_about, Past}
use Rattle.promise.specs.LiveLaws.{Books, only, givens}
use Rattle.promise.proofs.CardLaws.{tree-name}
use Rattle.promise.specs.PromiseProof.{Upheld}
use Rattle.promise.proofs.PromiseProof.{carrier-is}
use Rattle.promise_line.specs.Life.{about}
use Rattle.promise_net.specs.Cards.{mapped-lookup}
use Rattle.promise_net.proofs.PacketProof.{not-held, some-label}
use Rattle.promise_bark.specs.Bark.{Alive}

unfoldable pub EachBranch : (Branch → Type 0) → List Branch → Type 0
EachBranch P [] = Unit {0}
EachBranch P (b ∷ bs) = P b × EachBranch P bs

-- the branch is one that the tree named a has, from that neighbour
abbrev pub Listed : Card → List ℕ → Branch → Type 0
Listed c a b = (b.label ≡ 0 → ⊥) × (branch (tree_of a c) b.neighbour ≡ b.label)

-- a feed goes nowhere but where the tree named a does
pub record Fair (c : Card) (a : List ℕ) (f : Feed) : Type 0 where
  pub leaf : f.leaf ≡ true → (tree_of a c).leaf ≡ true
  pub branches : EachBranch (Listed c a) f.branches

-- ---- branches that are not held

each_from : (P : Branch → Type 0) (n : ℕ) (ls : List ℕ) → ((x k : ℕ) → k ≡ n + x → is_branch (get_or ls x 0) ≡ true → P (record { neighbour = k; label = get_or ls x 0 })) → EachBranch P (branches_from n ls)
unfolding EachBranch branches_from
each_from P n [] h = tt
each_from P n (l ∷ ls) h =
    let later : EachBranch P (branches_from (suc n) ls) = each_from P (suc n) ls (λ x k e b. h (suc x) k (omega arith) b) in
    by-test (is_branch l)
    (λ b. rw b (h 0 n (omega arith) b, later))
    (λ b. rw b later)

listed : (c : Card) (a : List ℕ) (u x k : ℕ) → k ≡ 0 + x → is_branch (get_or (set (tree_of a c).branches u 0) x 0) ≡ true → Listed c a (record { neighbour = k; label = get_or (set (tree_of a c).branches u 0) x 0 })
unfolding branch
listed c a u x k e b =
    let nz : get_or (set (tree_of a c).branches u 0) x 0 ≡ 0 → ⊥ = some-label _ b in
    let same_place : k ≡ x = omega arith in
    (nz, ap (λ (y : ℕ). get_or (tree_of a c).branches y 0) same_place ∙ not-held (tree_of a c).branches u x _ refl nz)

pub feed-fair : (c : Card) (a : List ℕ) (u : ℕ) → Fair c a (feed_of u (tree_of a c))
unfolding feed_of not_held
feed-fair c a u = record { leaf = λ e. e; branches = each_from (Listed c a) 0 (set (tree_of a c).branches u 0) (listed c a u) }

pub nothing-fair : (c : Card) (a : List ℕ) → Fair c a nothing
unfolding nothing EachBranch
nothing-fair c a = record { leaf = λ e. absurd (let z : ◌≡◌ {A = ℕ} 0 1 = cc in omega arith); branches = tt }

pub name-fair : (c : Card) (a : List ℕ) → Fair c a (lookup_name a c)
unfolding lookup_name
name-fair c a = picked (Fair c a) (eqb (element_refusal a) 0) (λ _. feed-fair c a _) (λ _. nothing-fair c a)

-- ---- a label that is live for the tree

count-about : (q : ℕ) (a : List ℕ) (l : ℕ) (gs : List Given) → count (is_about q (about mapping a l)) gs ≡ count (is_about q (about mapping a l)) (only l gs)
unfolding count only of_label is_about
count-about q a l [] = refl
count-about q a l (g ∷ gs) =
    by-test (eqb g.label l)
    (λ e. rw e (rw (e, count-about q a l gs) refl))
    (λ e. rw e (count-about q a l gs))

-- what it is used for
pub data Used (q : ℕ) (a : List ℕ) (u : Use) : Type 0 where
  is_mapped : u ≡ mapped q a → Used q a u
  is-awaiting : u ≡ awaiting q a → Used q a u

about-parts : (q : ℕ) (a : List ℕ) (l : ℕ) (g : Given) → is_about q (about mapping a l) g ≡ true → (g.to ≡ q) × (g.tree ≡ a)
unfolding is_about
about-parts q a l g k =
    let at = both (eqb g.label l && eqb g.to q) (same g.tree a) k in
    (eqb-true _ _ (both (eqb g.label l) (eqb g.to q) at.0).1, same-eq _ _ at.1)

about-both : (q : ℕ) (a : List ℕ) (l : ℕ) (g : Given) → count (is_about q (about mapping a l)) (g ∷ []) ≡ 1 → (g.to ≡ q) × (g.tree ≡ a)
unfolding count
about-both q a l g e =
    by-test (is_about q (about mapping a l) g)
    (λ k. about-parts q a l g k)
    (λ k. absurd (let z : ◌≡◌ {A = ℕ} 0 1 = rw k at e in omega arith))

used : (q : ℕ) (a : List ℕ) (l : ℕ) (u : Use) → count (is_about q (about mapping a l)) (givens l u) ≡ 1 → Used q a u
unfolding givens count
used q a l free e = absurd (omega arith)
used q a l (mapped n t) e = let at = about-both q a l _ e in is_mapped (ap₂ mapped at.0 at.1)
used q a l (awaiting n t) e = let at = about-both q a l _ e in is-awaiting (ap₂ awaiting at.0 at.1)

-- ---- the tree that carries a label

no-leaf : (f : Feed) → f ≡ nothing → f.leaf ≡ true → ⊥
unfolding nothing
no-leaf f e h = let z : false ≡ true = sym (ap (λ (x : Feed). x.leaf) e) ∙ h in let z' : ◌≡◌ {A = ℕ} 0 1 = cc in omega arith

module _ (p : Past) (u : Upheld p) (q : ℕ) (a : List ℕ) (l : ℕ) (alive : Alive q p.live a l) where
  abbrev c : Card
  c = p.card

  its-use : Used q a (use_of l c)
  unfolding Books
  its-use = used q a l (use_of l c) (ap (count (is_about q (about mapping a l))) (sym (u.sound.books l)) ∙ sym (count-about q a l p.live) ∙ alive)

  awaiting-nothing : use_of l c ≡ awaiting q a → lookup_label l c ≡ nothing
  unfolding lookup_label feed_of_use
  awaiting-nothing e = rw e refl

  -- it leads nowhere but where the tree does
  pub label-fair : Fair c a (lookup_label l c)
  label-fair = go its-use
    where
      go : Used q a (use_of l c) → Fair c a (lookup_label l c)
      go (is_mapped e) = rw (mapped-lookup p u a l q e) (feed-fair c a _)
      go (is-awaiting e) = rw (awaiting-nothing e) (nothing-fair c a)

  -- and where it leads to a leaf, it is the tree's own label
  pub label-carried : (lookup_label l c).leaf ≡ true → (carrier l c).name ≡ a
  label-carried leads = go its-use
    where
      go : Used q a (use_of l c) → (carrier l c).name ≡ a
      go (is-awaiting e) = absurd (no-leaf (lookup_label l c) (awaiting-nothing e) leads)
      go (is_mapped e) = ap (λ (t : Tree). t.name) (carrier-is p u l q a e) ∙ tree-name a c
