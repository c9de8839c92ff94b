-- REQUEST 14 OF THE CODE: two memories on one line, and calls of `receive`, `join`, `leave`, `route`, `lost` and `notice` on either. Of the calls it takes their contracts (`CallContracts`) and nothing more.
-- Assumes nothing.
use Rattle.std.specs.Prelude.{ℕ, ◌≡◌, Bool, ◌||◌, eqb}
use Rattle.std.proofs.Math.Path.{refl, ap}
use Rattle.std.proofs.Common.{sym, ◌∙◌, subst}
use Rattle.std.proofs.Math.Bool.{false, not}
use mathlib.Core.List.{List, [], ◌∷◌, ◌++◌}
use Rattle.promise.specs.Promise.{answer_to, is_taken, then_step}
use Rattle.promise.specs.Deeds.{then_deed}
use Rattle.promise_line.specs.Line.{parcels, addressed, Box, ready, Act, is_from, hearing, sent_by, refuses, after, heard, answered, acts, says, World, Turn, turn, turns, flipped, OnOneLine}
use Rattle.promise_line.specs.Line
use Rattle.promise_line.proofs.LineProof.{two-boxes}
use Rattle.promise_kept.specs.CallContracts.{Call, Called, made, Telling, Told, told, Started, began}
use Rattle.promise_kept.specs.Kept.{call, tell, live_by, accepted_by, step_of, past_of}
use Rattle.promise_kept.proofs.Kept.{called-deed, told-deed}
use Rattle.promise_kept.specs.LineKept.{Desk, fresh, gets, Makes, hears, does, tells, Joined, laid, above, below, box_of, world_of, TwoMemories}

-- ---- a call is an act

-- by some act of a box it becomes x' and says ms
abbrev ByAct : Box → Box → List (List ℕ) → Type 0
ByAct x x' ms = (a : Act) × (x' ≡ acts x a) × (ms ≡ says x a)

module _ (x : Desk) (k : Call) (ns os : List ℕ) (m : Called x.numbers x.names k ns os) where
  call-past : past_of (call k ∷ x.done) ns os ≡ then_step (past_of x.done x.numbers x.names) (step_of k)
  call-past = unfold then_deed in called-deed x.done x.numbers x.names k ns os m

  call-says : addressed x.peer (parcels k.part) ≡ sent_by (box_of x) (step_of k)
  unfolding sent_by box_of past_of answer_to
  call-says = ap (λ (o : List ℕ). addressed x.peer (parcels o)) (made m).hands

  call-refuses : not (eqb k.answer 0) ≡ refuses (box_of x) (step_of k)
  unfolding refuses is_taken box_of past_of answer_to
  call-refuses = ap (λ (n : ℕ). not (eqb n 0)) (made m).answers

  call-after : (inbox : List (List ℕ)) (r r' : Bool) → r ≡ r' → record { past = past_of (call k ∷ x.done) ns os; peer = x.peer; inbox = inbox; refused = r } ≡ after (box_of x) (step_of k) inbox r'
  unfolding after box_of
  call-after inbox r r' e = λ i. record { past = call-past i; peer = x.peer; inbox = inbox; refused = e i }

  heard-act : (s : List ℕ) (rest : List (List ℕ)) → x.inbox ≡ s ∷ rest → step_of k ≡ hearing k.room x.peer s
      → ByAct (box_of x) (record { past = past_of (call k ∷ x.done) ns os; peer = x.peer; inbox = rest; refused = x.refused || not (eqb k.answer 0) }) (addressed x.peer (parcels k.part))
  heard-act s rest e h = (
    Line.hears k.room,
    call-after rest _ _ (ap (λ (z : Bool). x.refused || z) call-refuses) ∙ ap (λ st. after (box_of x) st rest (x.refused || refuses (box_of x) st)) h ∙ unfold acts heard box_of in rw e refl,
    call-says ∙ ap (sent_by (box_of x)) h ∙ unfold says answered box_of in rw e refl,
  )

  done-act : is_from x.peer k.does ≡ false → ByAct (box_of x) (record { past = past_of (call k ∷ x.done) ns os; peer = x.peer; inbox = x.inbox; refused = x.refused }) (addressed x.peer (parcels k.part))
  done-act d = (
    Line.does (step_of k),
    call-after x.inbox _ _ refl ∙ unfold acts box_of in rw d refl,
    call-says ∙ unfold says box_of in rw d refl,
  )

told-act : (x : Desk) (t : Telling) (ns : List ℕ) → Told x.numbers t ns → ByAct (box_of x) (record { past = past_of (tell t ∷ x.done) ns x.names; peer = x.peer; inbox = x.inbox; refused = x.refused }) (addressed x.peer (parcels t.part))
told-act x t ns m = (
  Line.tells t.room t.neighbour t.number t.octets,
  unfold acts box_of in λ i. record { past = told-deed x.done x.numbers x.names t ns m i; peer = x.peer; inbox = x.inbox; refused = x.refused },
  unfold says box_of past_of in ap (λ (o : List ℕ). addressed x.peer (parcels o)) (told m x.names).hands,
)

makes-act : {x x' : Desk} {ms : List (List ℕ)} → Makes x x' ms → ByAct (box_of x) (box_of x') ms
makes-act {x} (hears {k = k} {ns = ns} {os = os} s rest e h m) = unfold box_of in heard-act x k ns os m s rest e (λ i. record { room = k.room; does = h i })
makes-act {x} (does {k = k} {ns = ns} {os = os} d m) = unfold box_of in done-act x k ns os m d
makes-act {x} (tells {t = t} {ns = ns} m) = unfold box_of in told-act x t ns m

-- ---- any number of them

turns-last : (w : World) (ts : List Turn) (t : Turn) → turns w (ts ++ t ∷ []) ≡ turn (turns w ts) t
unfolding turns
turns-last w [] t = refl
turns-last w (s ∷ ts) t = turns-last (turn w s) ts t

abbrev ByTurns : ℕ → ℕ → ℕ → ℕ → World → Type 0
ByTurns b p d q w = (ts : List Turn) × (w ≡ turns (Line.laid b p d q) ts)

module _ (b p d q : ℕ) where
  then-turn : (w v : World) (t : Turn) → v ≡ turn w t → ByTurns b p d q w → ByTurns b p d q v
  then-turn w v t e r = (r.0 ++ t ∷ [], e ∙ ap (λ (u : World). turn u t) r.1 ∙ sym (turns-last (Line.laid b p d q) r.0 t))

  above-turn : (x y x' : Desk) (ms : List (List ℕ)) → ByAct (box_of x) (box_of x') ms → ByTurns b p d q (world_of x y) → ByTurns b p d q (world_of x' (gets ms y))
  above-turn x y x' ms a = then-turn (world_of x y) _ (Line.above a.0) (unfold world_of turn gets box_of Line.gets in λ i. record { upper = a.1 i; lower = Line.gets (a.2 i) (box_of y) })

  below-turn : (x y y' : Desk) (ms : List (List ℕ)) → ByAct (box_of y) (box_of y') ms → ByTurns b p d q (world_of x y) → ByTurns b p d q (world_of (gets ms x) y')
  below-turn x y y' ms a = then-turn (world_of x y) _ (Line.below a.0) (unfold world_of turn gets box_of Line.gets in λ i. record { upper = Line.gets (a.2 i) (box_of x); lower = a.1 i })

  fresh-box : (base : ℕ) (ns : List ℕ) → Started base ns → (os : List ℕ) (n : ℕ) → box_of (fresh ns os n) ≡ ready base n
  unfolding box_of past_of live_by accepted_by ready
  fresh-box base ns h os n = λ i. record { past = record { card = began h os i; live = []; accepted = [] }; peer = n; inbox = []; refused = false }

  joined-turns : {x y : Desk} → Joined b p d q x y → ByTurns b p d q (world_of x y)
  joined-turns (laid {ns = ns} {ms = ms} h os k ps) = ([], unfold world_of Line.laid turns in λ i. record { upper = fresh-box b ns h os p i; lower = fresh-box d ms k ps q i })
  joined-turns (above {x = x} {y = y} {x' = x'} {ms = ms} j m) = above-turn x y x' ms (makes-act m) (joined-turns j)
  joined-turns (below {x = x} {y = y} {y' = y'} {ms = ms} j m) = below-turn x y y' ms (makes-act m) (joined-turns j)

-- REQUEST 14 OF THE CODE
pub two-memories : TwoMemories
unfolding flipped world_of
two-memories b p d q near far x y j =
    let r = joined-turns b p d q j in
    let both_ends = two-boxes b p d q near far r.0 in (
      subst OnOneLine (sym r.1) both_ends.0,
      subst OnOneLine (sym (ap flipped r.1)) both_ends.1,
    )
