-- NO BARK AT ONE MOMENT: a packet that takes no time.
-- Assumes nothing.
use Rattle.std.specs.Prelude.{ℕ, zero, suc, Bool, eqb}
use Rattle.std.proofs.Common.{arith, ◌∙◌, eqb-true}
use Rattle.std.proofs.Math.Path.{◌≡◌, refl, sym, ap}
use Rattle.std.proofs.Math.Bool.{true, false}
use mathlib.Core.List.{List, [], ◌∷◌, ◌++◌}
use Rattle.meaning.specs.Octets.{pick, count}
use Rattle.meaning.specs.Lists.{by-test}
use Rattle.meaning.specs.Card.{Card, tree_of, Branch, Feed, lookup_name}
use Rattle.meaning.specs.Events.{branch}
use Rattle.promise_line.specs.Line.{lists, lives}
use Rattle.promise_line.proofs.LineProof.{each_live}
use Rattle.promise_net.specs.Net.{Far, nobody, box, Wires, Net, box_at, laid, turns, onward, along, reaches, fed, joined}
use Rattle.promise_net.specs.NetProof.{AllBound}
use Rattle.promise_net.proofs.NetProof.{turns-bound, laid-bound}
use Rattle.promise_net.proofs.PacketProof.{count-append}
use Rattle.promise_bark.specs.Bark.{NoBarkAtOnce, Alive}
use Rattle.promise_bark.specs.Lookups.{EachBranch, Listed, Fair, name-fair, label-fair}

-- a branch that box i lists from box j is a label of j that is live, for the same tree
pub listed-alive : (far : Wires) (w : Net) → AllBound far w → (a : List ℕ) (i p j q l : ℕ) → far i p ≡ box j q → (l ≡ 0 → ⊥) → branch (tree_of a (w.past i).card) p ≡ l → Alive q (w.past j).live a l
unfolding lists lives box_at
listed-alive far w A a i p j q l e nz b = each_live (record { upper = box_at w i p; lower = box_at w j q }) (A i p j q e) a l nz b

no_both : (t : ℕ → Bool) (xs ys : List ℕ) → count t xs ≡ 0 → count t ys ≡ 0 → count t (xs ++ ys) ≡ 0
no_both t xs ys e f = count-append t xs ys ∙ omega arith

module _ (far : Wires) (w : Net) (A : AllBound far w) (a : List ℕ) (k : ℕ) (out : joined w a k ≡ false) where
  abbrev card : ℕ → Card
  card i = (w.past i).card

  -- the leaf of box i
  own : (i : ℕ) (f : Feed) → Fair (card i) a f → count (eqb k) (pick f.leaf (i ∷ []) []) ≡ 0
  unfolding count joined
  own i f F =
      by-test f.leaf
      (λ e. rw e (by-test (eqb k i)
      (λ h. absurd (let z : true ≡ false = sym (F.leaf e) ∙ ap (λ (x : ℕ). (tree_of a (card x)).leaf) (sym (eqb-true k i h)) ∙ out in let z' : ◌≡◌ {A = ℕ} 0 1 = cc in omega arith))
      (λ h. rw h refl)))
      (λ e. rw e refl)

  module _ (n : ℕ) (next : (j : ℕ) (f : Feed) → Fair (card j) a f → count (eqb k) (reaches far w n j f) ≡ 0) where
    over : (i : ℕ) (b : Branch) → Listed (card i) a b → count (eqb k) (onward w (reaches far w n) (far i b.neighbour) b.label) ≡ 0
    unfolding box_at
    over i b L = at (far i b.neighbour) refl
      where
        at : (x : Far) → far i b.neighbour ≡ x → count (eqb k) (onward w (reaches far w n) x b.label) ≡ 0
        at nobody e = unfold onward count in refl
        at (box j q) e = unfold onward in next j _ (label-fair (w.past j) (A i b.neighbour j q e).giver q a b.label (listed-alive far w A a i b.neighbour j q b.label e L.0 L.1))

    all-over : (i : ℕ) (bs : List Branch) → EachBranch (Listed (card i) a) bs → count (eqb k) (along far w (reaches far w n) i bs) ≡ 0
    unfolding EachBranch along
    all-over i [] h = unfold count in refl
    all-over i (b ∷ bs) h = no_both (eqb k) _ _ (over i b h.0) (all-over i bs h.1)

    step : (i : ℕ) (f : Feed) → Fair (card i) a f → count (eqb k) (reaches far w (suc n) i f) ≡ 0
    unfolding reaches
    step i f F = no_both (eqb k) _ _ (own i f F) (all-over i f.branches F.branches)

  never : (n i : ℕ) (f : Feed) → Fair (card i) a f → count (eqb k) (reaches far w n i f) ≡ 0
  never zero i f F = unfold reaches count in refl
  never (suc n) i f F = step n (never n) i f F

pub at-once : (far : Wires) (w : Net) → AllBound far w → (a : List ℕ) (n i k : ℕ) → joined w a k ≡ false → count (eqb k) (fed far w n i a) ≡ 0
unfolding fed
at-once far w A a n i k out = never far w A a k out n i (lookup_name a (w.past i).card) (name-fair (w.past i).card a)

-- THE FIRST STATEMENT
pub no-bark-at-once : NoBarkAtOnce
no-bark-at-once far W base ts = at-once far (turns far (laid base) ts) (turns-bound far W (laid base) (laid-bound far W base) ts)
