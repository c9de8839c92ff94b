-- DEMAND 3 OF THE CODE: what is promised of a history, said of what the calls of `card`, `firmware_*`, `notice_writer`, `save_writer`, `save_reader` and `save_mover` are handed and give back.
-- Of the calls it takes their contracts (`CallContracts`) and nothing more.
use Rattle.std.specs.Prelude.{ℕ, ◌+◌, ◌≡◌, true}
use Rattle.std.proofs.Common.{arith, ◌∙◌, subst}
use Rattle.std.proofs.Math.Path.{refl, sym, ap}
use mathlib.Core.List.{List, [], ◌∷◌, ◌++◌}
use Rattle.meaning.specs.Card.{Card}
use Rattle.meaning.specs.Events.{Event, refuse, room_short, event}
use Rattle.meaning_save.specs.Save.{Form, saved, save, fits_save, move}
use Rattle.meaning.specs.Calls.{Hands}
use Rattle.meaning.specs.Lists.{by-test}
use Rattle.promise.specs.Promise.{Given, Past, answer_to, sends, is_taken, live_at, accepted_at, then_step, begun, Each, Leads, Promise}
use Rattle.promise.specs.SaveKept as Swap
use Rattle.promise.specs.Deeds.{Deed, does, saves, swaps, moves, restores, then_deed, then_deeds, IsClaimed, Claimed}
use Rattle.promise.proofs.Deeds.{deeds-kept}
use Rattle.memory.specs.Memory.{card_of}
use Rattle.promise_kept.specs.CallContracts.{Call, Called, made, Telling, Told, told, began, Saved, wrote, Restored, read, Moving, shifted, looked-up, name-looked-up, counted}
use Rattle.promise_kept.specs.Kept.{Done, call, tell, keep, swap, forward, misread, Run, begins, calls, notifies, keeps, exchanges, forwards, misreads, live_by, accepted_by, KeptByCode, step_of, deed_of, deeds_of, past_of, past_by}

deeds-last : (p : Past) (ds : List Deed) (d : Deed) → then_deeds p (ds ++ d ∷ []) ≡ then_deed (then_deeds p ds) d
unfolding then_deeds
deeds-last p [] d = refl
deeds-last p (x ∷ ds) d = deeds-last (then_deed p x) ds d

claimed-last : (p : Past) (ds : List Deed) (d : Deed) → Claimed p ds → IsClaimed (then_deeds p ds) d → Claimed p (ds ++ d ∷ [])
unfolding then_deeds Claimed
claimed-last p [] d h k = (k, tt)
claimed-last p (x ∷ ds) d h k = (h.0, claimed-last (then_deed p x) ds d h.1 k)

-- a save that is answered 0 is the table's
saved-is : (f : Form) (room : ℕ) (c d : Card) (o : List ℕ) → Hands (save f room c) 0 o d → o ≡ saved f c
unfolding save refuse
saved-is f room c d o m =
    by-test (fits_save f c)
    (λ s. by-test (room_short room (saved f c))
    (λ e. let z : 0 ≡ 16 = rw (s, e) at m.answers in absurd (omega arith))
    (λ e. rw (s, e) at m.hands))
    (λ s. let z : 0 ≡ 19 = rw s at m.answers in absurd (omega arith))

saved-fits : (f : Form) (room : ℕ) (c d : Card) (o : List ℕ) → Hands (save f room c) 0 o d → fits_save f c ≡ true
unfolding save refuse
saved-fits f room c d o m =
    by-test (fits_save f c)
    (λ s. s)
    (λ s. let z : 0 ≡ 19 = rw s at m.answers in absurd (omega arith))

-- each thing that was done is its deed
module _ (ks : List Done) (ns os : List ℕ) where
  pub called-deed : (k : Call) (ns' os' : List ℕ) → Called ns os k ns' os' → past_of (call k ∷ ks) ns' os' ≡ then_deed (past_of ks ns os) (does (step_of k))
  unfolding past_of live_by accepted_by then_deed then_step live_at accepted_at is_taken sends answer_to
  called-deed k ns' os' m = rw (← (made m).answers, ← (made m).hands, ← (made m).leaves) refl

  pub told-deed : (t : Telling) (ns' : List ℕ) → Told ns t ns' → past_of (tell t ∷ ks) ns' os ≡ then_deed (past_of ks ns os) (deed_of (tell t))
  unfolding past_of live_by accepted_by then_deed
  told-deed t ns' m = rw (← (told m os).hands, ← (told m os).leaves) refl

  kept-deed : (f : Form) (room answer : ℕ) (octets : List ℕ) → Saved f ns os room answer octets → past_of (keep f room ∷ ks) ns os ≡ then_deed (past_of ks ns os) (saves f room)
  unfolding past_of live_by accepted_by then_deed
  kept-deed f room answer octets m = rw (← (wrote m).leaves) refl

  module _ (f : Form) (room : ℕ) (octets : List ℕ) (m : Saved f ns os room 0 octets) (answer : ℕ) (ms ps ns' os' : List ℕ) where
    is-save : octets ≡ saved f (card_of ns os)
    is-save = saved-is f room (card_of ns os) (card_of ns os) octets (wrote m)

    has_room : fits_save f (card_of ns os) ≡ true
    has_room = saved-fits f room (card_of ns os) (card_of ns os) octets (wrote m)

    swapped-deed : Restored f ms ps octets answer ns' os' → past_of (swap f ms ps ∷ ks) ns' os' ≡ then_deed (past_of ks ns os) (swaps f (card_of ms ps))
    unfolding past_of live_by accepted_by then_deed Swap.swapped
    swapped-deed w = rw ((read w).1, is-save, has_room) refl

    moved-deed : (g : Form) (lent : ℕ) (part : List ℕ) → Moving f g octets lent 0 part → Restored g ms ps part answer ns' os' → past_of (forward f g lent ms ps ∷ ks) ns' os' ≡ then_deed (past_of ks ns os) (moves f g lent (card_of ms ps))
    unfolding past_of live_by accepted_by then_deed Swap.moved_over
    moved-deed g lent part h w =
        let taken : (move f g lent (saved f (card_of ns os))).answer ≡ 0 = sym ((shifted h).answers ∙ ap (λ (o : List ℕ). (move f g lent o).answer) is-save) in
        let given : part ≡ (move f g lent (saved f (card_of ns os))).octets = (shifted h).hands ∙ ap (λ (o : List ℕ). (move f g lent o).octets) is-save in
        rw ((read w).1, given, has_room, taken) refl

  misread-deed : (f : Form) (answer : ℕ) (octets ns' os' : List ℕ) → Restored f ns os octets answer ns' os' → past_of (misread f octets ∷ ks) ns' os' ≡ then_deed (past_of ks ns os) (restores f octets)
  unfolding past_of live_by accepted_by then_deed
  misread-deed f answer octets ns' os' m = rw (read m).1 refl

next_past : (base : ℕ) (ks : List Done) (k : Done) (p : Past) → p ≡ past_by base (deeds_of ks) → then_deed p (deed_of k) ≡ past_by base (deeds_of (k ∷ ks))
unfolding past_by deeds_of
next_past base ks k p e = ap (λ (q : Past). then_deed q (deed_of k)) e ∙ sym (deeds-last _ (deeds_of ks) (deed_of k))

-- The card that the memory denotes, and what the calls said, are those of the history of what was done.
pub run_past : (base : ℕ) (ks : List Done) (ns os : List ℕ) → Run base ks ns os → past_of ks ns os ≡ past_by base (deeds_of ks)
run_past base ks ns os (begins h _) = unfold past_of past_by deeds_of live_by accepted_by then_deeds in λ i. record { card = began h os i; live = []; accepted = [] }
run_past base (call k ∷ ks) ns os (calls r m) = called-deed ks _ _ k ns os m ∙ next_past base ks (call k) _ (run_past base ks _ _ r)
run_past base (tell t ∷ ks) ns os (notifies r m) = told-deed ks _ os t ns m ∙ next_past base ks (tell t) _ (run_past base ks _ os r)
run_past base (keep f room ∷ ks) ns os (keeps r m) = kept-deed ks ns os f room _ _ m ∙ next_past base ks (keep f room) _ (run_past base ks ns os r)
run_past base (swap f ms ps ∷ ks) ns os (exchanges r m w) = swapped-deed ks _ _ f _ _ m _ ms ps ns os w ∙ next_past base ks (swap f ms ps) _ (run_past base ks _ _ r)
run_past base (forward f g lent ms ps ∷ ks) ns os (forwards r m h w) = moved-deed ks _ _ f _ _ m _ ms ps ns os g lent _ h w ∙ next_past base ks (forward f g lent ms ps) _ (run_past base ks _ _ r)
run_past base (misread f octets ∷ ks) ns os (misreads r m z) = misread-deed ks _ _ f _ octets ns os m ∙ next_past base ks (misread f octets) _ (run_past base ks _ _ r)

next-claimed : (base : ℕ) (ks : List Done) (k : Done) (p : Past) → p ≡ past_by base (deeds_of ks) → Claimed (begun base) (deeds_of ks) → IsClaimed p (deed_of k) → Claimed (begun base) (deeds_of (k ∷ ks))
unfolding past_by deeds_of
next-claimed base ks k p e h z = claimed-last (begun base) (deeds_of ks) (deed_of k) h (subst (λ (q : Past). IsClaimed q (deed_of k)) e z)

-- Of all that was done something is claimed.
run-claimed : (base : ℕ) (ks : List Done) (ns os : List ℕ) → Run base ks ns os → Claimed (begun base) (deeds_of ks)
unfolding IsClaimed past_of
run-claimed base ks ns os (begins h _) = unfold deeds_of Claimed in tt
run-claimed base (call k ∷ ks) ns os (calls r m) = next-claimed base ks (call k) _ (run_past base ks _ _ r) (run-claimed base ks _ _ r) tt
run-claimed base (tell t ∷ ks) ns os (notifies r m) = next-claimed base ks (tell t) _ (run_past base ks _ os r) (run-claimed base ks _ os r) tt
run-claimed base (keep f room ∷ ks) ns os (keeps r m) = next-claimed base ks (keep f room) _ (run_past base ks ns os r) (run-claimed base ks ns os r) tt
run-claimed base (swap f ms ps ∷ ks) ns os (exchanges r m w) = next-claimed base ks (swap f ms ps) _ (run_past base ks _ _ r) (run-claimed base ks _ _ r) tt
run-claimed base (forward f g lent ms ps ∷ ks) ns os (forwards r m h w) = next-claimed base ks (forward f g lent ms ps) _ (run_past base ks _ _ r) (run-claimed base ks _ _ r) tt
run-claimed base (misread f octets ∷ ks) ns os (misreads r m z) = next-claimed base ks (misread f octets) _ (run_past base ks _ _ r) (run-claimed base ks _ _ r) (λ e. z ((read m).0 ∙ e))

-- What a call after a run answers, hands back and leaves is what the definition says after that history.
pub call-is : (base : ℕ) (ks : List Done) (ns os : List ℕ) → Run base ks ns os → {k : Call} {ns' os' : List ℕ} → Called ns os k ns' os'
    → Hands (answer_to (past_by base (deeds_of ks)).card (step_of k)) k.answer k.part (card_of ns' os')
unfolding past_of answer_to
call-is base ks ns os r m = rw (← run_past base ks ns os r) (made m)

each_map : (P Q : Given → Type 0) (gs : List Given) → ((g : Given) → P g → Q g) → Each P gs → Each Q gs
unfolding Each
each_map P Q [] f h = tt
each_map P Q (g ∷ gs) f h = (f g h.0, each_map P Q gs f h.1)

-- DEMAND 3, of the code
pub kept-by-code : (base : ℕ) (ks : List Done) (ns os : List ℕ) → Run base ks ns os → KeptByCode ks ns os
unfolding past_of Leads sends answer_to live_at is_taken
kept-by-code base ks ns os r =
    let p : Promise (past_of ks ns os) = subst Promise (sym (run_past base ks ns os r)) (unfold past_by in deeds-kept base (deeds_of ks) (run-claimed base ks ns os r)) in
    record {
      wire = λ {k} m. rw (made m).hands (p.wire (step_of k));
      answers = λ {k} m n s e z. p.answers k.room n s (ap (λ (x : Event). (event k.room (card_of ns os) x).answer) (sym e) ∙ sym (made m).answers ∙ z);
      one = p.one;
      anew = λ {k} m. rw ((made m).answers, (made m).hands) (p.anew (step_of k));
      withdraws = λ {k} m. rw ((made m).answers, (made m).hands) (p.withdraws (step_of k));
      single = p.single;
      leads = each_map _ _ (live_by ks) (λ g h branches leaf m. looked-up m os ∙ h) p.leads;
      others = λ l e branches leaf m. looked-up m os ∙ p.others l e;
      by_name = λ a branches leaf m. name-looked-up m ∙ p.by_name a;
      sum = λ n m. rw (counted m os) p.sum;
      apart = λ {k} m n s e. rw ((made m).leaves ∙ ap (λ (x : Event). (event k.room (card_of ns os) x).card) e) (p.apart k.room n s);
    }
