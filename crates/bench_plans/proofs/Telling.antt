-- Laws by which what is written tells of the plan, and is the reply. Assumes nothing.
use Prim.Native.Nat.{ℕ, ◌+◌, ◌*◌, ◌-◌, ◌≤◌}
use native.Mathlib.Numerals.{add-one}
use native.Mathlib.Omega.{arith}
use mathlib.Core.Path.{◌≡◌, refl, sym, ap, ◌∙◌}
use mathlib.Core.List.{List, [], ◌∷◌, ◌++◌, append_assoc}
use lib.ListN.{length, take, drop, length-append}
use lib.Seq.{take-suc, take_at}
use Rattle.std.specs.Prelude.{Bool, true, false, Option, Some, None}
use Rattle.std.specs.declared.result.Result.{Result}
use Rattle.std.specs.declared.result.Result.TheVariants.{Ok, Err}
use Rattle.meaning.specs.Lists.{append-nil}
use Rattle.meaning.specs.Card.{Card, route_limit}
use Rattle.meaning.specs.Calls.{over}
use Rattle.save_rules_rows.proofs.RowRules.{At}
use Rattle.bench_words.specs.Words.{ascii, numeral, hex_of, Puts}
use Rattle.bench_verbs.specs.Line.{Said}
use Rattle.bench_lines.specs.Text.{count_line, text_space}
use Rattle.bench_replies.specs.Reply.{reply_to, Says}
use Rattle.bench_replies.proofs.Reply.{says-only}
use Rattle.meaning_plan.specs.Plan as Plan
use Rattle.meaning_plan.specs.Plan.{Move}
use Rattle.meaning_plan.specs.PlanOctets.{entry_size, list_of, list_in, list_length, list_back, planned_octets, checked_octets}
use Rattle.plan_check.specs.Verdict.{verdict_of}
use Rattle.refusals.specs.declared.Refusal.{Refusal}
use Rattle.plan_make.specs.Plan.{plan_of, list_made, entries_of, Readable}
use Rattle.bench_replies.specs.PlanText.{said_line, move_text, moves_text, moves_line, plan_line, verdict_line}
use Rattle.bench_words.proofs.Words.{front-is}

-- ---- entries

pub move-told : (m : Move) (a : List ℕ) (v : ℕ) → a ≡ m.root → v ≡ m.via → move_text m ≡ 32 ∷ hex_of a ++ (58 ∷ numeral v)
unfolding move_text
move-told m a v ea ev = rw (ea, ev) refl

moves-after : (xs ys : List Move) → moves_text (xs ++ ys) ≡ moves_text xs ++ moves_text ys
unfolding moves_text
moves-after [] ys = refl
moves-after (m ∷ xs) ys = rw (moves-after xs ys) (sym (append_assoc (move_text m) (moves_text xs) (moves_text ys)))

pub moves-none : (ms : List Move) → moves_text (take 0 ms) ≡ []
unfolding moves_text
moves-none ms = refl

pub moves_more : (ms : List Move) (i : ℕ) (m : Move) → At ms i m → moves_text (take i ms) ++ move_text m ≡ moves_text (take (i + 1) ms)
moves_more ms i m a =
    sym (ap (λ (n : ℕ). moves_text (take n ms)) (add-one i)
    ∙ ap moves_text (take-suc ms i m a.inside ∙ ap (λ (x : Move). take i ms ++ (x ∷ [])) a.reads)
    ∙ moves-after (take i ms) (m ∷ [])
    ∙ ap (λ (t : List ℕ). moves_text (take i ms) ++ t) (unfold moves_text in append-nil (move_text m)))

-- ---- the verdict

no_way : {X : Type 0} → ◌≡◌ {A = ℕ} 0 1 → X
no_way z = absurd (omega arith)

pub vet-refused : (p : Plan.Verdict) (n : ℕ) → ◌≡◌ {A = Result Bool ℕ} (Err n) (verdict_of p) → count_line (ascii "vet") n ≡ verdict_line p
unfolding verdict_of verdict_line
vet-refused (Plan.refusal k) n e = let z : n ≡ k = cc in ap (count_line (ascii "vet")) z
vet-refused Plan.rejected n e = no_way cc
vet-refused Plan.accepted n e = no_way cc

pub vet-rejected : (p : Plan.Verdict) → ◌≡◌ {A = Result Bool ℕ} (Ok false) (verdict_of p) → said_line (ascii "vet") (ascii "rejected") ≡ verdict_line p
unfolding verdict_of verdict_line
vet-rejected (Plan.refusal k) e = no_way cc
vet-rejected Plan.rejected e = refl
vet-rejected Plan.accepted e = no_way cc

pub vet-accepted : (p : Plan.Verdict) → ◌≡◌ {A = Result Bool ℕ} (Ok true) (verdict_of p) → count_line (ascii "vet") 0 ≡ verdict_line p
unfolding verdict_of verdict_line
vet-accepted (Plan.refusal k) e = no_way cc
vet-accepted Plan.rejected e = no_way cc
vet-accepted Plan.accepted e = refl

-- ---- the plan

pub plan-refused : (p : Plan.Plan) (n : ℕ) → ◌≡◌ {A = Result (Option ℕ) ℕ} (Err n) (plan_of p) → count_line (ascii "plan") n ≡ plan_line p
unfolding plan_of plan_line
plan-refused (Plan.refused k) n e = let z : n ≡ k = cc in ap (count_line (ascii "plan")) z
plan-refused Plan.none n e = no_way cc
plan-refused (Plan.listed ms) n e = no_way cc

pub plan-none : (p : Plan.Plan) → ◌≡◌ {A = Result (Option ℕ) ℕ} (Ok None) (plan_of p) → said_line (ascii "plan") (ascii "none") ≡ plan_line p
unfolding plan_of plan_line
plan-none (Plan.refused k) e = no_way cc
plan-none Plan.none e = refl
plan-none (Plan.listed ms) e = no_way cc

front-over : (o b : List ℕ) (n : ℕ) → length o ≡ n → take n (over o b) ≡ o
unfolding over
front-over o b n l = take_at o (drop (length o) b) n l

over-long : (o b : List ℕ) → length o ≤ length (over o b)
unfolding over
over-long o b = omega (arith, length-append o (drop (length o) b))

-- the list holds its entries
pub plan-within : (p : Plan.Plan) (k : ℕ) (before after : List ℕ) → ◌≡◌ {A = Result (Option ℕ) ℕ} (Ok (Some k)) (plan_of p) → after ≡ over (list_made p) before → k * entry_size ≤ length after
unfolding plan_of list_made
plan-within (Plan.refused n) k b a e w = no_way cc
plan-within Plan.none k b a e w = no_way cc
plan-within (Plan.listed ms) k b a e w =
    let z : k ≡ length ms = cc in
    rw w (omega (arith, over-long (list_of ms) b, list_length ms))

pub plan-listed : (p : Plan.Plan) (k : ℕ) (before after : List ℕ) → ◌≡◌ {A = Result (Option ℕ) ℕ} (Ok (Some k)) (plan_of p) → Readable p → after ≡ over (list_made p) before → moves_line (list_in (take (k * entry_size - 0) (drop 0 after))) ≡ plan_line p
unfolding plan_of list_made plan_line Readable
plan-listed (Plan.refused n) k b a e r w = no_way cc
plan-listed Plan.none k b a e r w = no_way cc
plan-listed (Plan.listed ms) k b a e r w =
    let z : k ≡ length ms = cc in
    let l : length (list_of ms) ≡ k * entry_size - 0 = list_length ms ∙ omega arith in
    ap moves_line (ap (λ (o : List ℕ). list_in (take (k * entry_size - 0) o)) w ∙ ap list_in (front-over (list_of ms) b (k * entry_size - 0) l) ∙ list_back ms r)

-- how many octets a listed plan's entries have
pub plan-few : (k : ℕ) → entries_of {E = Refusal} (Ok (Some k)) ≤ route_limit → k ≤ route_limit
unfolding entries_of
plan-few k e = e

-- ---- replies: the sets, and a list, are front-is to the front of some space

pub says-plan : (c : Card) (n room r : ℕ) {sets before after text : List ℕ} {k : ℕ} → Puts sets before after k → take r text ≡ plan_line (planned_octets c n (take k after)) → r ≤ text_space → (number : ℕ) → Says (reply_to number room c (Said.plan n sets)) r text c
unfolding reply_to
says-plan c n room r p e h number = says-only _ _ c room r h (e ∙ ap (λ o. plan_line (planned_octets c n o)) (front-is p))

pub says-verdict : (c : Card) (n room r : ℕ) {sets before after list before' after' text : List ℕ} {k l : ℕ} → Puts sets before after k → Puts list before' after' l → take r text ≡ verdict_line (checked_octets c n (take k after) (take l after')) → r ≤ text_space → (number : ℕ) → Says (reply_to number room c (Said.vet n sets list)) r text c
unfolding reply_to
says-verdict c n room r {sets} {after' = after'} {l = l} p q e h number =
    says-only _ _ c room r h
    (e
    ∙ ap (λ o. verdict_line (checked_octets c n o (take l after'))) (front-is p)
    ∙ ap (λ o. verdict_line (checked_octets c n sets o)) (front-is q))
