-- The proposal, route by route from the table's last; and what the planner says of it. Assumes nothing.
use Prim.Native.Nat.{ℕ, suc, ◌+◌, ◌*◌, ◌-◌, ◌%◌, ◌≤◌, ◌<◌}
use native.Mathlib.Omega.{arith}
use mathlib.Core.Path.{◌≡◌, refl, sym, ap, ◌∙◌}
use mathlib.Core.Bool.{Bool, true, false, not, ◌&&◌}
use mathlib.Core.List.{List, [], ◌∷◌}
use lib.ListN.{length, take, drop, set, drop_of_length-le}
use lib.Seq.{drop-cons}
use lib.Dec.{leb}
use borrow.Author.Tests.{lt-ltb, le-ltb, eq-eqb, ne_eqb}
use Rattle.meaning.specs.Octets.{all}
use Rattle.meaning.specs.Wire.{root_limit}
use Rattle.meaning.specs.Card.{Route, Card, free_labels}
use Rattle.meaning.specs.Events.{no_neighbour}
use Rattle.meaning.specs.Lists.{by-test}
use Rattle.meaning.specs.Calls.{over}
use Rattle.meaning_save.specs.Save.{spaced}
use Rattle.octets.specs.Part.{mid}
use Rattle.memory.specs.Memory.{root_name}
use Rattle.save_texts.proofs.Parts.{two-parts}
use Rattle.save_texts.proofs.Sizes.{space-length}
use Rattle.save_rules_rows.proofs.RowRules.{At}
use Rattle.meaning_plan.specs.Plan.{Move, Allowed, goes_by, need_list, no_choice, choice, is_before, insert, as_move, through, chosen, proposal, is_found, none, listed, planned}
use Rattle.meaning_plan.specs.PlanOctets.{allowed_in, entry_size, entry_of, list_of, list_in, planned_octets, Carriable, AllCarriable, list_back}
use Rattle.std.specs.Prelude.{Option, Some, None}
use Rattle.std.specs.declared.result.Result.{Result}
use Rattle.std.specs.declared.result.Result.TheVariants.{Ok, Err}
use Rattle.plan_make.specs.Plan.{plan_of, list_made, Readable}
use Rattle.plan_make.specs.Rows.{Holds}
use Rattle.memory.proofs.Memory.{text-le}

-- ---- one row

first-set : (xs : List ℕ) (v : ℕ) → length xs ≡ entry_size → set xs 0 v ≡ mid 0 1 xs (v ∷ [])
first-set [] v l = absurd (omega arith)
first-set (x ∷ xs) v l = refl

pub row_put : (xs vs r : List ℕ) (via : ℕ) → length xs ≡ entry_size → via < 256 → vs ≡ spaced root_limit r → mid 1 (entry_size - 1) (set xs 0 via) vs ≡ entry_of (record { root = r; via = via })
unfolding entry_of
row_put xs vs r via l h es =
    let v : via % 256 ≡ via = omega arith in
    rw (first-set xs via l, v, es) (two-parts 1 (1 + root_limit) xs (via ∷ []) (spaced root_limit r) l refl (space-length root_limit r))

pub root-short : (os : List ℕ) (i : ℕ) (a : List ℕ) → a ≡ root_name os i → length a ≤ root_limit
unfolding root_name
root-short os i a e = rw e (text-le root_limit _ os)

pub row_fits : (r : List ℕ) (via : ℕ) → length r ≤ root_limit → via < 256 → Carriable (record { root = r; via = via })
row_fits r via h k = record { short = h; low = k }

-- ---- the routes through n

module _ (c : Card) (n : ℕ) (ps : List Allowed) where
  chosen-insert : (x : Move) (ms : List Move) → chosen c n ps (insert x ms) ≡ insert (record { root = x.root; via = choice c n ps x.root }) (chosen c n ps ms)
  unfolding chosen insert
  chosen-insert x [] = refl
  chosen-insert x (y ∷ ys) =
      by-test (is_before x.root y.root)
      (λ e. rw e refl)
      (λ e. rw e (ap (λ (l : List Move). record { root = y.root; via = choice c n ps y.root } ∷ l) (chosen-insert x ys)))

  -- what is proposed of the routes from place i on
  unfoldable pub proposed_from : List Route → ℕ → List Move
  proposed_from rs i = chosen c n ps (through n (drop i rs))

  pub proposed-none : (rs : List Route) (i : ℕ) (xs : List ℕ) → length rs ≤ i → Holds xs 0 (proposed_from rs i)
  unfolding proposed_from through chosen
  proposed-none rs i xs h = rw (drop_of_length-le rs {i = i} h) (unfold through chosen in record { many = refl; read = unfold list_of in refl; short = unfold AllCarriable in tt })

  pub proposed-all : (xs : List ℕ) (k i : ℕ) → i ≤ 0 → Holds xs k (proposed_from c.routes i) → Holds xs k (proposal c n ps)
  unfolding proposed_from proposal
  proposed-all xs k i h H = let z : i ≡ 0 = omega arith in rw z at H

  module _ (rs : List Route) (i : ℕ) (x : Route) (low : 0 < i) (a : At rs (i - 1) x) where
    front : drop (i - 1) rs ≡ x ∷ drop i rs
    front = let up : suc (i - 1) ≡ i = omega arith in rw (drop-cons rs (i - 1) x a.inside, a.reads, up) refl

    here : x.via ≡ n → proposed_from rs (i - 1) ≡ insert (record { root = x.root; via = choice c n ps x.root }) (proposed_from rs i)
    unfolding proposed_from through goes_by as_move
    here e = rw (front, eq-eqb x.via n e) (chosen-insert (as_move x) (through n (drop i rs)))

    other : (x.via ≡ n → ⊥) → proposed_from rs (i - 1) ≡ proposed_from rs i
    unfolding proposed_from through goes_by
    other ne = rw (front, ne_eqb x.via n ne) refl

    pub row_more : (root : List ℕ) (v via k : ℕ) (ys : List ℕ) → root ≡ x.root → v ≡ choice c n ps root → via ≡ x.via → via ≡ n → Holds ys k (insert (record { root = root; via = v }) (proposed_from rs i)) → Holds ys k (proposed_from rs (i - 1))
    row_more root v via k ys er ev evia e H =
        let is : ◌≡◌ {A = Move} (record { root = root; via = v }) (record { root = x.root; via = choice c n ps x.root }) = rw (ev, er) refl in
        rw (here (sym evia ∙ e)) (rw is at H)

    pub row-none : (via k : ℕ) (ys : List ℕ) → via ≡ x.via → (via ≡ n → ⊥) → Holds ys k (proposed_from rs i) → Holds ys k (proposed_from rs (i - 1))
    row-none via k ys e ne H = rw (other (λ z. ne (e ∙ z))) H

-- ---- whether it is a plan

module _ (m : Move) (v : ℕ) (e : v ≡ m.via) where
  pub not_found : no_choice ≤ v → not (is_found m) ≡ true
  unfolding is_found
  not_found h = rw (← e, le-ltb v no_choice h) refl

  pub found : v < no_choice → not (is_found m) ≡ false
  unfolding is_found
  found h = rw (← e, lt-ltb v no_choice h) refl

module _ (c : Card) (n : ℕ) (sets : List ℕ) where
  abbrev ms : List Move
  ms = proposal c n (allowed_in sets)

  pub plan-far : 15 < n → (list : List ℕ) → (◌≡◌ {A = Result (Option ℕ) ℕ} (Err 1) (plan_of (planned_octets c n sets))) × (list ≡ over (list_made (planned_octets c n sets)) list) × Readable (planned_octets c n sets)
  unfolding planned_octets planned no_neighbour plan_of list_made over Readable
  plan-far h list = rw (lt-ltb 15 n h) (refl, refl, tt)

  module _ (near : n ≤ 15) (xs : List ℕ) (k : ℕ) (H : Holds xs k ms) where
    part : take (k * entry_size - 0) (drop 0 xs) ≡ list_of ms
    part = let z : k * entry_size - 0 ≡ k * entry_size = omega arith in ap (λ (e : ℕ). take e xs) z ∙ H.read

    read : list_in (take (k * entry_size - 0) (drop 0 xs)) ≡ ms
    read = ap list_in part ∙ list_back ms H.short

    module _ (b : Bool) (is : b ≡ (all is_found (list_in (take (k * entry_size - 0) (drop 0 xs))) && leb (need_list c (list_in (take (k * entry_size - 0) (drop 0 xs)))) (free_labels c))) where
      test : b ≡ (all is_found ms && leb (need_list c ms) (free_labels c))
      test = is ∙ ap (λ (l : List Move). all is_found l && leb (need_list c l) (free_labels c)) read

      is-listed : b ≡ true → planned_octets c n sets ≡ listed ms
      unfolding planned_octets planned no_neighbour
      is-listed h = rw (le-ltb 15 n near, ← test, h) refl

      is_none : b ≡ false → planned_octets c n sets ≡ none
      unfolding planned_octets planned no_neighbour
      is_none h = rw (le-ltb 15 n near, ← test, h) refl

      pub plan-listed : b ≡ true → (list out : List ℕ) → out ≡ over (take (k * entry_size - 0) (drop 0 xs)) list → (◌≡◌ {A = Result (Option ℕ) ℕ} (Ok (Some k)) (plan_of (planned_octets c n sets))) × (out ≡ over (list_made (planned_octets c n sets)) list) × Readable (planned_octets c n sets)
      unfolding plan_of list_made Readable
      plan-listed h list out e = rw (is-listed h) (ap (λ (e : ℕ). Ok (Some e)) (sym H.many), e ∙ ap (λ (o : List ℕ). over o list) part, H.short)

      pub plan-none : b ≡ false → (list : List ℕ) → (◌≡◌ {A = Result (Option ℕ) ℕ} (Ok None) (plan_of (planned_octets c n sets))) × (list ≡ over (list_made (planned_octets c n sets)) list) × Readable (planned_octets c n sets)
      unfolding plan_of list_made over Readable
      plan-none h list = rw (is_none h) (refl, refl, tt)
