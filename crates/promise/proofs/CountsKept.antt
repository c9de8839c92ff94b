-- After any history the counts are true, and refusal 12 is given exactly as the walk over all trees gives it.
-- Assumes nothing.
use Rattle.std.specs.Prelude.{ℕ, ◌<◌, suc, ◌≡◌, refl, false, ◌&&◌, List, [], ◌∷◌, get_or, length}
use Rattle.std.proofs.Common.{arith, ◌∙◌}
use Rattle.meaning.specs.Octets.{count}
use Rattle.meaning.specs.Card.{Tree, Card, no_entry, bare, tree_at, is_empty, is_lone}
use Rattle.meaning.specs.Events.{labels_short, upstream, of_root, total, in_root, one_standing, one_lone, need_all, route_short, runs_out, on_route, route, outcome}
use Rattle.meaning.specs.Lists.{by-test}
use Rattle.meaning_laws.specs.Counts.{Counted, quick-exact, counted-twelve}
use Rattle.meaning_laws.specs.SaveCounts.{counted-place}
use Rattle.promise.specs.Promise.{Step, begun, history}
use Rattle.promise.specs.RuleLaws.{Ruled}
use Rattle.promise.proofs.PromiseProof.{history-upheld}
use Rattle.promise.specs.Deeds.{Deed, then_deeds, Claimed}
use Rattle.promise.proofs.Deeds.{deeds-counted}
use Rattle.promise.specs.CountsKept.{walked_refusal, on_route_walked}

-- ---- what the counts count

lone-count : (r : List ℕ) (ts : List Tree) → total (in_root r one_lone) ts ≡ count (λ t. of_root r t && is_lone t) ts
unfolding total in_root one_lone count
lone-count r [] = refl
lone-count r (t ∷ ts) =
    let later = lone-count r ts in
    by-test (of_root r t)
    (λ e. by-test (is_lone t) (λ k. rw (e, k) (omega arith)) (λ k. rw (e, k) (omega arith)))
    (λ e. rw e (omega arith))

standing-count : (r : List ℕ) (ts : List Tree) → ((j : ℕ) → j < length ts → is_empty (get_or ts j (bare [])) ≡ false) → total (in_root r one_standing) ts ≡ count (of_root r) ts
unfolding total in_root one_standing count
standing-count r [] full = refl
standing-count r (t ∷ ts) full =
    let later : total (in_root r one_standing) ts ≡ count (of_root r) ts = standing-count r ts (λ j h. full (suc j) (omega arith)) in
    let here : is_empty t ≡ false = full 0 (omega arith) in
    by-test (of_root r t) (λ e. rw (e, here) (omega arith)) (λ e. rw e (omega arith))

-- ---- after any history

module _ (base : ℕ) (steps : List Step) where
  abbrev now : Card
  now = (history base steps).card

  rule : Ruled now
  rule = (history-upheld base steps).ruled

  pub counts-true : (r : List ℕ) → Counted r now
  counts-true r = rule.counts r

  -- With each root that has a route stand how many of its trees stand, and how many of them are lone.
  pub standing-true : (k : ℕ) → k < length now.routes → (get_or now.routes k (no_entry [])).standing ≡ count (of_root (get_or now.routes k (no_entry [])).root) now.trees
  standing-true k h = (counted-place now rule.roots rule.counts k h).0 ∙ standing-count _ now.trees (unfold tree_at in rule.full)

  pub lone-true : (k : ℕ) → k < length now.routes → (get_or now.routes k (no_entry [])).lone ≡ count (λ t. of_root (get_or now.routes k (no_entry [])).root t && is_lone t) now.trees
  lone-true k h = (counted-place now rule.roots rule.counts k h).1 ∙ lone-count _ now.trees

  -- Refusal 12 is given exactly where fewer labels are free than the trees need that need one afterwards.
  pub twelve-exactly : (r : List ℕ) (via : ℕ) → route_short now r via ≡ labels_short now (need_all r (upstream via) now)
  twelve-exactly r via = quick-exact now r via (rule.counts r)

-- Where the counts are true its outcome is the same, refusals and all.
pub counted-route : (c : Card) (r : List ℕ) (via : ℕ) → Counted r c → outcome c (route r via) ≡ on_route_walked c r via
unfolding outcome on_route on_route_walked walked_refusal
counted-route c r via C = rw (counted-twelve c r via C) (unfold runs_out in refl)

-- So it is after any history, and after any deeds.
pub route-as-before : (base : ℕ) (steps : List Step) (r : List ℕ) (via : ℕ) → outcome (history base steps).card (route r via) ≡ on_route_walked (history base steps).card r via
route-as-before base steps r via = counted-route _ r via (counts-true base steps r)

pub deeds-route-as-before : (base : ℕ) (ds : List Deed) → Claimed (begun base) ds → (r : List ℕ) (via : ℕ) → outcome (then_deeds (begun base) ds).card (route r via) ≡ on_route_walked (then_deeds (begun base) ds).card r via
deeds-route-as-before base ds k r via = counted-route _ r via (deeds-counted base ds k r)
