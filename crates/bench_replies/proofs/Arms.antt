-- The kind of an order, by the arm of a match that takes it: all variants of the kind, or all the others. Assumes nothing.
use Prim.Native.Nat.{ℕ}
use mathlib.Core.Path.{◌≡◌, refl, sym, ap, ◌∙◌}
use mathlib.Core.List.{List, [], ◌∷◌}
use mathlib.Core.Logic.{inl, inr}
use mathlib.Core.Bool.{Bool, true, false, not}
use lib.ListN.{get_or}
use lib.Dec.{eqb, eqb→eq, eqb_refl, T_not}
use denote.Enum.Declared.{tag_of}
use types.Run.{OneOf}
use Rattle.bench_orders.specs.declared.Order.{Order}
use Rattle.bench_orders.specs.contracts.Order.{the_type}
use Rattle.bench_replies.specs.Kinds.{Kind, kind_of}

-- by tag, which is the variant's place in the declaration of `Order`
abbrev kinds : List Kind
kinds =
    Kind.blank ∷ Kind.count ∷ Kind.count ∷ Kind.count ∷ Kind.records ∷ Kind.records ∷ Kind.records ∷ Kind.records ∷ Kind.lookup ∷ Kind.lookup ∷ Kind.count ∷ Kind.records ∷ Kind.saves ∷ Kind.saves ∷ Kind.records ∷ Kind.saves ∷ Kind.layers ∷ Kind.layers ∷ Kind.layers ∷ Kind.plans ∷ Kind.plans ∷ []

abbrev tags : List ℕ
tags = 0 ∷ 1 ∷ 2 ∷ 3 ∷ 4 ∷ 5 ∷ 6 ∷ 7 ∷ 8 ∷ 9 ∷ 10 ∷ 11 ∷ 12 ∷ 13 ∷ 14 ∷ 15 ∷ 16 ∷ 17 ∷ 18 ∷ 19 ∷ 20 ∷ []

abbrev kind_at : ℕ → Kind
kind_at t = get_or kinds t Kind.blank

by-tag : (o : Order) → kind_of o ≡ kind_at (tag_of the_type o)
by-tag Order.Blank = refl
by-tag Order.Bad = refl
by-tag (Order.Start n) = refl
by-tag (Order.Room n) = refl
by-tag (Order.Take n w) = refl
by-tag (Order.Join w) = refl
by-tag (Order.Leave w) = refl
by-tag (Order.Route w n) = refl
by-tag (Order.Label n) = refl
by-tag (Order.Tree w) = refl
by-tag Order.Free = refl
by-tag (Order.Notice n k w) = refl
by-tag (Order.Save b) = refl
by-tag (Order.Restore b w) = refl
by-tag (Order.Lost n) = refl
by-tag (Order.Move b w) = refl
by-tag (Order.Layers w) = refl
by-tag (Order.Wrap r d w) = refl
by-tag (Order.Unwrap w) = refl
by-tag (Order.Plan n w) = refl
by-tag (Order.Vet n p w) = refl

-- ---- the tags of a kind, and the others

-- kinds are compared by their ranks, and a kind's rank is its place in this list
abbrev every_kind : List Kind
every_kind = Kind.blank ∷ Kind.count ∷ Kind.lookup ∷ Kind.records ∷ Kind.saves ∷ Kind.layers ∷ Kind.plans ∷ []

abbrev rank : Kind → ℕ
rank Kind.blank = 0
rank Kind.count = 1
rank Kind.lookup = 2
rank Kind.records = 3
rank Kind.saves = 4
rank Kind.layers = 5
rank Kind.plans = 6

ranked : (k : Kind) → get_or every_kind (rank k) Kind.blank ≡ k
ranked Kind.blank = refl
ranked Kind.count = refl
ranked Kind.lookup = refl
ranked Kind.records = refl
ranked Kind.saves = refl
ranked Kind.layers = refl
ranked Kind.plans = refl

abbrev is_of : Kind → ℕ → Bool
is_of k t = eqb (rank (kind_at t)) (rank k)

abbrev is_other : Kind → ℕ → Bool
is_other k t = not (is_of k t)

is-kind : (k : Kind) (t : ℕ) → is_of k t ≡ true → kind_at t ≡ k
is-kind k t e = sym (ranked (kind_at t)) ∙ ap (λ (n : ℕ). get_or every_kind n Kind.blank) (eqb→eq (rank (kind_at t)) (rank k) (rw e tt)) ∙ ranked k

is-other : (k : Kind) (t : ℕ) → is_other k t ≡ true → kind_at t ≡ k → ⊥
is-other k t e h = T_not (is_of k t) (rw e tt) (rw h (eqb_refl (rank k)))

abbrev kept : Bool → ℕ → List ℕ → List ℕ
kept true t ts = t ∷ ts
kept false t ts = ts

abbrev those : (ℕ → Bool) → List ℕ → List ℕ
those p [] = []
those p (t ∷ ts) = kept (p t) t (those p ts)

one_passes : (p : ℕ → Bool) (t : ℕ) (ts : List ℕ) (x : ℕ) (b : Bool) → p t ≡ b → (OneOf ts x → p x ≡ true) → OneOf (kept b t ts) x → p x ≡ true
one_passes p t [] x true h later e = rw e h
one_passes p t (u ∷ ts) x true h later (inl e) = rw e h
one_passes p t (u ∷ ts) x true h later (inr o) = later o
one_passes p t ts x false h later o = later o

passes : (p : ℕ → Bool) (ts : List ℕ) (x : ℕ) → OneOf (those p ts) x → p x ≡ true
passes p [] x o = absurd o
passes p (t ∷ ts) x o = one_passes p t (those p ts) x (p t) refl (passes p ts x) o

-- an order that the arm for all of a kind takes, and one that the arm for all others takes
pub of-kind : (k : Kind) (o : Order) → OneOf (those (is_of k) tags) (tag_of the_type o) → kind_of o ≡ k
of-kind k o h = by-tag o ∙ is-kind k (tag_of the_type o) (passes (is_of k) tags (tag_of the_type o) h)

pub of_others : (k : Kind) (o : Order) → OneOf (those (is_other k) tags) (tag_of the_type o) → kind_of o ≡ k → ⊥
of_others k o h e = is-other k (tag_of the_type o) (passes (is_other k) tags (tag_of the_type o) h) (sym (by-tag o) ∙ e)
