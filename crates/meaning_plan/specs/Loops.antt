-- For the code: the definitions one step of a loop at a time.
-- Assumes nothing.
use Rattle.std.specs.Prelude.{ℕ, zero, suc, ◌+◌, ◌*◌, ◌<◌, ◌≡◌, Bool, ◌&&◌, List, [], ◌∷◌, take, drop, get_or, length}
use Rattle.std.proofs.Common.{le_of_suc-le-suc, not-suc-le-zero, arith, ap, ◌∙◌, drop-cons, drop-drop}
use Rattle.std.proofs.Math.Path.{refl}
use Rattle.meaning.specs.Octets.{pick}
use Rattle.meaning.specs.Card.{Route, Card}
use Rattle.meaning.specs.Events.{need_all}
use Rattle.meaning_plan.specs.Plan.{Move, Allowed, goes_by, need_list, goes_first, cheapest, insert, as_move, through}
use Rattle.meaning_plan.specs.PlanOctets.{set_size, set_in, sets_in, entry_size, entry_in, entries_in}

-- ---- rows of octets: the entry at place i

pub entries-length : (k : ℕ) (o : List ℕ) → length (entries_in k o) ≡ k
unfolding entries_in
entries-length zero o = refl
entries-length (suc k) o = ap suc (entries-length k (drop entry_size o))

pub entry_at : (k : ℕ) (o : List ℕ) (i : ℕ) (d : Move) → i < k → get_or (entries_in k o) i d ≡ entry_in (drop (i * entry_size) o)
unfolding entries_in
entry_at zero o i d h = absurd (not-suc-le-zero h)
entry_at (suc k) o zero d h = refl
entry_at (suc k) o (suc i) d h = entry_at k (drop entry_size o) i d (le_of_suc-le-suc h) ∙ ap entry_in (drop-drop (i * entry_size) entry_size o ∙ ap (λ (n : ℕ). drop n o) (later i))
  where
    later : (i : ℕ) → entry_size + i * entry_size ≡ suc i * entry_size
    later i = omega arith

pub sets-length : (k : ℕ) (o : List ℕ) → length (sets_in k o) ≡ k
unfolding sets_in
sets-length zero o = refl
sets-length (suc k) o = ap suc (sets-length k (drop set_size o))

pub set_at : (k : ℕ) (o : List ℕ) (i : ℕ) (d : Allowed) → i < k → get_or (sets_in k o) i d ≡ set_in (drop (i * set_size) o)
unfolding sets_in
set_at zero o i d h = absurd (not-suc-le-zero h)
set_at (suc k) o zero d h = refl
set_at (suc k) o (suc i) d h = set_at k (drop set_size o) i d (le_of_suc-le-suc h) ∙ ap set_in (drop-drop (i * set_size) set_size o ∙ ap (λ (n : ℕ). drop n o) (later i))
  where
    later : (i : ℕ) → set_size + i * set_size ≡ suc i * set_size
    later i = omega arith

-- ---- the sum, upwards

pub need-take : (c : Card) (ms : List Move) (i : ℕ) (d : Move) → i < length ms → need_list c (take (suc i) ms) ≡ need_list c (take i ms) + need_all (get_or ms i d).root (get_or ms i d).via c
unfolding need_list
need-take c [] i d h = absurd (not-suc-le-zero h)
need-take c (m ∷ ms) zero d h = omega arith
need-take c (m ∷ ms) (suc i) d h = omega (arith, need-take c ms i d (le_of_suc-le-suc h))

-- ---- the choice, downwards: from v + 1 on to v on

pub cheapest-step : (ok : ℕ → Bool) (cost : ℕ → ℕ) (k v : ℕ) → cheapest ok cost (suc k) v ≡ pick (ok v && goes_first cost v (cheapest ok cost k (suc v))) v (cheapest ok cost k (suc v))
unfolding cheapest
cheapest-step ok cost k v = refl

-- ---- the routes through n, downwards: from place i + 1 on to place i on

pub through-step : (n : ℕ) (xs : List Route) (i : ℕ) (d : Route) → i < length xs → through n (drop i xs) ≡ pick (goes_by n (get_or xs i d)) (insert (as_move (get_or xs i d)) (through n (drop (suc i) xs))) (through n (drop (suc i) xs))
through-step n xs i d h = ap (through n) (drop-cons xs i d h) ∙ unfold through in refl
