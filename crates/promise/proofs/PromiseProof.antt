-- THE PROMISE IS KEPT: after any history of a card as the start hands it back.
-- Assumes nothing.
use Prim.Native.Nat.{ℕ, zero, suc, ◌+◌, ◌-◌, ◌≤◌, ◌<◌, zero-le}
use Rattle.std.proofs.Common.{not-suc-le-zero, le_refl, arith, ◌∙◌, length-set}
use Rattle.std.specs.Prelude.{◌≡◌, false, ◌&&◌, ◌||◌, set, leb, ltb}
use Rattle.std.proofs.Math.Path.{refl, sym, ap, ap₂, subst}
use Rattle.std.proofs.Math.Bool.{true}
use mathlib.Core.List.{List, [], ◌∷◌, ◌++◌}
use Rattle.std.proofs.Math.ListN.{get_or, length}
use Rattle.std.proofs.lemmas.List.{set-get_or}
use Rattle.std.proofs.Math.Seq.{get_or-set_same, get_or-set_other}
use Rattle.std.proofs.Math.Dec.{eqb}
use borrow.Author.Tests.{eqb-true, eqb-false, eq-eqb, ne_eqb, ltb-true, ltb-false, lt-ltb, leb-true, not-false}
use Rattle.meaning.specs.Octets.{pick, place, count, same}
use Rattle.meaning.specs.Wire.{root_in, mapping, withdraw, Message, message_in, Sent, records, records_f, records_in, element_refusal, least_label}
use Rattle.meaning.specs.Card.{Tree, Use, free, mapped, awaiting, Card, fresh, with_next, with_branch, with_leaf, with_label, bare, tree_place, tree_of, tree_at, is_free, is_awaiting, mapped_to, not_held, leads_on, use_of, free_labels, held_for, route_of, route_place, branches_from, feed_of, carries, carrier, feed_of_use, lookup_label, is_branch, nothing, lookup_name, neighbour_count, most_base}
use Rattle.meaning.specs.Events.{Out, Outcome, refused, taken, refuse, accept, room_short, finish, upstream, holder, holder_of, branch, less_branch, Event, receive, join, leave, route, outcome, event, base_outside, start, other_label, lost}
use Rattle.promise.specs.Promise.{Given, of_label, is_about, is_withdrawn, Demand3, note_all, note_taken, leaf_by, branches_by, route_by, feed_by, Step, Past, answer_to, sends, then_step, then_steps, history, Each, NoneLive, AllMapped, Leads, Promise, said_by, branches_said, branches_to, is_taken, live_at, accepted_at, Untouched, begun, without_label}
use Rattle.meaning.specs.Lists.{get_d-same, by-test, picked, place-finds, place-count, same-eq, same_refl, get_d-out, get_d-all, count-some, set-replicate}
use Rattle.meaning_laws.specs.Counts.{counted_same, new-counted}
use Rattle.meaning_laws.specs.RoundTrip.{both, AllSendable, records-back}
use Rattle.meaning_laws.specs.Refusals.{refusal-keeps}
use Rattle.meaning_laws.specs.Standing.{standing-at, not-standing}
use Rattle.promise.specs.LiveLaws.{is_mapped, mapped-near, stray, Linked, mapped-one, mapped-not-free, Books, only, givens, count-only, books-one, books-none, each-only}
use Rattle.promise.specs.CardLaws.{shape, Proper, Tidy, AllProper}
use Rattle.promise.proofs.CardLaws.{tree-name, tree-sized, at-proper, at_named, untouched-same}
use Rattle.promise.proofs.LabelLaws.{spent-eq}
use Rattle.promise.proofs.RuleLaws.{held-named}
use Rattle.promise.specs.RouteLaws.{route_now, Routed}
use Rattle.promise.proofs.RouteLaws.{event-routed}
use Rattle.promise.specs.EventLaws.{Awaited, by_message, became, Apart, Keeps, Admits, Meets}
use Rattle.promise.proofs.EventLaws.{heard-awaited, awaiting-eq, event-keeps, event-meets}
use Rattle.promise.specs.PromiseProof.{listed, Reads, new_branch, messages_of, Upheld}

listed-some : (l : ℕ) → least_label ≤ l → listed l ≡ l ∷ []
unfolding listed is_branch
listed-some l h = rw (lt-ltb 0 l (omega arith)) refl

listed-one : (l : ℕ) → length (listed l) ≤ 1
unfolding listed
listed-one l = picked (λ (x : List ℕ). length x ≤ 1) (is_branch l) (λ _. le_refl 1) (λ _. zero-le)

reads-shape : (a : List ℕ) (es : List Event) (t s : Tree) → shape t ≡ shape s → Reads a es s → Reads a es t
unfolding shape with_label
reads-shape a es t s e r = record { name = ap (λ (x : Tree). x.name) e ∙ r.name; said = λ n. r.said n ∙ ap (λ (x : Tree). listed (get_or x.branches n 0)) (sym e); leaf = ap (λ (x : Tree). x.leaf) e ∙ r.leaf }

pub message-branches : (n : ℕ) (m : Message) (t : Tree) → (by_message n m t).branches ≡ set t.branches n (new_branch m (branch t n))
unfolding by_message new_branch less_branch with_branch branch
message-branches n m t =
    by-test (eqb m.kind mapping)
    (λ e. rw e refl)
    (λ e. by-test (eqb m.kind withdraw)
    (λ k. by-test (eqb (get_or t.branches n 0) m.label)
    (λ b. rw (e, k, b) refl)
    (λ b. rw (e, k, b) (sym (set-get_or t.branches n 0))))
    (λ k. rw (e, k) (sym (set-get_or t.branches n 0))))

message-rest : (n : ℕ) (m : Message) (t : Tree) → ((by_message n m t).name ≡ t.name) × ((by_message n m t).leaf ≡ t.leaf)
unfolding by_message less_branch with_branch
message-rest n m t =
    picked (λ (x : Tree). (x.name ≡ t.name) × (x.leaf ≡ t.leaf)) (eqb m.kind mapping) (λ _. (refl, refl))
    (λ _. picked (λ (x : Tree). (x.name ≡ t.name) × (x.leaf ≡ t.leaf)) (eqb m.kind withdraw)
    (λ _. picked (λ (x : Tree). (x.name ≡ t.name) × (x.leaf ≡ t.leaf)) (eqb (branch t n) m.label) (λ _. (refl, refl)) (λ _. (refl, refl)))
    (λ _. (refl, refl)))

-- a label ends: the one that stands, or none
without-same : (l : ℕ) → without_label l (listed l) ≡ []
unfolding without_label listed
without-same l = picked (λ (x : List ℕ). without_label l x ≡ []) (is_branch l) (λ _. unfold without_label in rw (eq-eqb l l refl) refl) (λ _. unfold without_label in refl)

without_other : (l b : ℕ) → eqb b l ≡ false → without_label l (listed b) ≡ listed b
unfolding without_label listed
without_other l b e = picked (λ (x : List ℕ). without_label l x ≡ x) (is_branch b) (λ _. unfold without_label in rw e refl) (λ _. unfold without_label in refl)

-- where no other label stands, what a message says is what it makes of the place
new-said : (m : Message) (b : ℕ) → least_label ≤ m.label → (m.kind ≡ mapping → (eqb b 0 || eqb b m.label) ≡ true) → said_by m (listed b) ≡ listed (new_branch m b)
unfolding said_by new_branch
new-said m b low none =
    by-test (eqb m.kind mapping)
    (λ e. rw e (rw (listed-some m.label low) (ap (λ (x : List ℕ). m.label ∷ x) (by-test (eqb b 0)
    (λ z. ap (λ (x : ℕ). without_label m.label (listed x)) (eqb-true b 0 z) ∙ unfold listed is_branch without_label in refl)
    (λ z. ap (λ (x : ℕ). without_label m.label (listed x)) (eqb-true b m.label (rw z at (none (eqb-true _ _ e)))) ∙ without-same m.label)))))
    (λ e. by-test (eqb m.kind withdraw)
    (λ k. by-test (eqb b m.label)
    (λ q. rw (e, k, q) (ap (λ (x : ℕ). without_label m.label (listed x)) (eqb-true b m.label q) ∙ without-same m.label ∙ unfold listed is_branch in refl))
    (λ q. rw (e, k, q) (without_other m.label b q)))
    (λ k. rw (e, k) refl))

module _ (a : List ℕ) (es : List Event) (t : Tree) (r : Reads a es t) where
  message-reads : (n : ℕ) (s : List ℕ) → n < length t.branches → 16 ≤ (message_in s).label → ((message_in s).kind ≡ mapping → other_label t n (message_in s).label ≡ false)
      → same (message_in s).name a ≡ true → Reads a (receive n s ∷ es) (by_message n (message_in s) t)
  unfolding branches_said leaf_by branch
  message-reads n s within low none k = record {
    name = (message-rest n (message_in s) t).0 ∙ r.name;
    said = λ i. ap (λ (x : List ℕ). pick (eqb n i && same (message_in s).name a) (said_by (message_in s) x) x) (r.said i) ∙ by-test (eqb n i)
        (λ e. rw (e, k, ← eqb-true n i e) (new-said (message_in s) (branch t n) low none' ∙ ap listed (sym (ap (λ (bs : List ℕ). get_or bs n 0) (message-branches n (message_in s) t) ∙ get_or-set_same t.branches n _ 0 within))))
        (λ e. rw e (ap listed (sym (ap (λ (bs : List ℕ). get_or bs i 0) (message-branches n (message_in s) t) ∙ get_or-set_other t.branches n i _ 0 (λ z. eqb-false n i e (sym z))))));
    leaf = (message-rest n (message_in s) t).1 ∙ r.leaf;
  }
    where
      none' : (message_in s).kind ≡ mapping → (eqb (branch t n) 0 || eqb (branch t n) (message_in s).label) ≡ true
      none' z = not-false _ (unfold other_label in none z)

module _ (c : Card) (d : Tidy c.trees) (a : List ℕ) (es : List Event) (r : Reads a es (tree_of a c)) where
  became-reads : (e : Event) → Admits c e → Reads a (e ∷ es) (became e a (tree_of a c))
  unfolding became with_leaf Admits
  became-reads (receive n s) g =
      by-test (same (message_in s).name a)
      (λ k. rw k (message-reads a es (tree_of a c) r n s (rw (tree-sized a c d) g.0) g.1 (λ z. subst (λ (x : List ℕ). other_label (tree_of x c) n (message_in s).label ≡ false) (same-eq _ a k) (g.2 z)) k))
      (λ k. rw k (unfold leaf_by in record { name = r.name; said = λ i. unfold branches_said in rw k (by-test (eqb n i) (λ e. rw e (r.said i)) (λ e. rw e (r.said i))); leaf = r.leaf }))
  became-reads (join e) g =
      by-test (same e a)
      (λ k. rw k (record { name = r.name; said = λ i. unfold branches_said in r.said i; leaf = unfold leaf_by in rw k refl }))
      (λ k. rw k (record { name = r.name; said = λ i. unfold branches_said in r.said i; leaf = unfold leaf_by in rw k r.leaf }))
  became-reads (leave e) g =
      by-test (same e a)
      (λ k. rw k (record { name = r.name; said = λ i. unfold branches_said in r.said i; leaf = unfold leaf_by in rw k refl }))
      (λ k. rw k (record { name = r.name; said = λ i. unfold branches_said in r.said i; leaf = unfold leaf_by in rw k r.leaf }))
  became-reads (route q via) g = record { name = r.name; said = λ i. unfold branches_said in r.said i; leaf = unfold leaf_by in r.leaf }
  became-reads (lost n) g = unfold with_branch in record {
    name = r.name;
    said = λ i. unfold branches_said in by-test (eqb n i)
        (λ e. rw (e, ← eqb-true n i e) (sym (ap listed (set-none (tree_of a c).branches n) ∙ unfold listed is_branch in refl)))
        (λ e. rw e (r.said i ∙ ap listed (sym (get_or-set_other (tree_of a c).branches n i 0 0 (λ z. eqb-false n i e (sym z))))));
    leaf = unfold leaf_by in r.leaf;
  }
    where
      set-none : (bs : List ℕ) (k : ℕ) → get_or (set bs k 0) k 0 ≡ 0
      set-none [] k = refl
      set-none (b ∷ bs) zero = refl
      set-none (b ∷ bs) (suc k) = set-none bs k

-- the routes that the accepted events make
route-by : (e : Event) (q : List ℕ) (es : List Event) → route_by q (e ∷ es) ≡ route_now e q (route_by q es)
unfolding route_by route_now
route-by (receive n s) q es = refl
route-by (join e) q es = refl
route-by (leave e) q es = refl
route-by (route r via) q es = refl
route-by (lost n) q es = refl

module _ (c : Card) (gs : List Given) (es : List Event) (e : Event) where
  -- what a step sends, and the live labels when it does, by its outcome
  abbrev sent_with : Out → Outcome → List Sent
  sent_with out o = pick (eqb out.answer 0) (messages_of o) []

  abbrev live_with : Out → List Given
  live_with out = pick (eqb out.answer 0) (note_taken e gs) gs

  -- what it makes of the past
  abbrev past_with : Out → Outcome → Past
  past_with out o = record { card = out.card; live = note_all (sent_with out o) (live_with out); accepted = pick (eqb out.answer 0) (e ∷ es) es }

  step-upheld : (room : ℕ) (o : Outcome) → Keeps c (note_taken e gs) (became e) (Apart e c) o → Routed c e o → Meets c e o → Upheld (record { card = c; live = gs; accepted = es }) → Upheld (past_with (finish room c o) o)
  unfolding finish refuse accept messages_of Keeps Routed Meets note_all
  step-upheld room (refused n) k w g u = rw (ne_eqb n 0 k) u
  step-upheld room (taken ms after) k w g u =
      by-test (room_short room (records c.next ms))
      (λ t. rw t u)
      (λ t. rw t (unfold with_next tree_of tree_place use_of free_labels in record {
        sound = record { tidy = k.sound.tidy; low = k.sound.low; high = k.sound.high; many = k.sound.many; linked = k.sound.linked; books = k.sound.books; sum = k.sound.sum; last = spent-eq after _ refl refl (λ e. e) k.sound.last };
        reads = λ a. reads-shape a (e ∷ es) _ _ (k.shapes a) (became-reads c u.sound.tidy a es (u.reads a) e g);
        ruled = unfold tree_at held_for holder_of route_of route_place in record { roots = (k.ruled u.ruled).roots; full = (k.ruled u.ruled).full; held = (k.ruled u.ruled).held; trees = (k.ruled u.ruled).trees; routes = (k.ruled u.ruled).routes; counts = λ q. counted_same after _ refl refl q ((k.ruled u.ruled).counts q) };
        routed = λ q. unfold route_of route_place in w q ∙ ap (route_now e q) (u.routed q) ∙ sym (route-by e q es);
      }))

  step-fair : (room : ℕ) (o : Outcome) → Keeps c (note_taken e gs) (became e) (Apart e c) o → NoneLive (sent_with (finish room c o) o) (live_with (finish room c o))
  unfolding messages_of Keeps finish refuse accept NoneLive
  step-fair room (refused n) k = rw (ne_eqb n 0 k) tt
  step-fair room (taken ms after) k =
      by-test (room_short room (records c.next ms))
      (λ t. rw t tt)
      (λ t. rw t k.fair)

  step-ends : (room : ℕ) (o : Outcome) → Keeps c (note_taken e gs) (became e) (Apart e c) o → AllMapped (sent_with (finish room c o) o) (live_with (finish room c o))
  unfolding messages_of Keeps finish refuse accept AllMapped
  step-ends room (refused n) k = rw (ne_eqb n 0 k) tt
  step-ends room (taken ms after) k =
      by-test (room_short room (records c.next ms))
      (λ t. rw t tt)
      (λ t. rw t k.ends)

  -- the octets read back
  step-wire : (room : ℕ) (o : Outcome) → Keeps c (note_taken e gs) (became e) (Apart e c) o → records_in (finish room c o).octets ≡ pick (eqb (finish room c o).answer 0) (messages_of o) []
  unfolding messages_of Keeps finish refuse accept records_in records_f
  step-wire room (refused n) k = picked (λ (ms : List Sent). [] ≡ ms) (eqb n 0) (λ _. refl) (λ _. refl)
  step-wire room (taken ms after) k =
      by-test (room_short room (records c.next ms))
      (λ t. rw t refl)
      (λ t. rw t (records-back (length (records c.next ms)) c.next ms (le_refl _) k.said))

  step-octets : (room : ℕ) (o : Outcome) → Keeps c (note_taken e gs) (became e) (Apart e c) o → (finish room c o).octets ≡ records c.next (pick (eqb (finish room c o).answer 0) (messages_of o) [])
  unfolding messages_of finish refuse accept records
  step-octets room (refused n) k = picked (λ (ms : List Sent). [] ≡ records c.next ms) (eqb n 0) (λ _. refl) (λ _. refl)
  step-octets room (taken ms after) k =
      by-test (room_short room (records c.next ms))
      (λ t. rw t refl)
      (λ t. rw t refl)

  step-apart : (room : ℕ) (a : List ℕ) (o : Outcome) → Keeps c (note_taken e gs) (became e) (Untouched a c) o → Untouched a c (finish room c o).card
  unfolding finish refuse accept Keeps
  step-apart room a (refused n) k = untouched-same a c
  step-apart room a (taken ms after) k =
      picked (λ (x : Out). Untouched a c x.card) (room_short room (records c.next ms)) (λ _. untouched-same a c) (λ _. unfold with_next use_of in record { trees = k.apart.trees; uses = k.apart.uses })

-- what the octets of a step say
pub sends-is : (p : Past) (s : Step) → Upheld p → sends p.card s ≡ pick (eqb (answer_to p.card s).answer 0) (messages_of (outcome p.card s.does)) []
unfolding sends answer_to event
sends-is p s u = step-wire p.card p.live p.accepted s.does s.room (outcome p.card s.does) (event-keeps p.card p.live u.sound s.does)

-- every message that a step sends may be said
pub sends-said : (p : Past) (s : Step) → Upheld p → AllSendable (sends p.card s)
sends-said p s u =
    rw (sends-is p s u)
    (picked AllSendable (eqb (answer_to p.card s).answer 0) (λ _. said (outcome p.card s.does) (event-keeps p.card p.live u.sound s.does)) (λ _. unfold AllSendable in tt))
  where
    said : (o : Outcome) → Keeps p.card (note_taken s.does p.live) (became s.does) (Apart s.does p.card) o → AllSendable (messages_of o)
    said (refused n) k = unfold AllSendable messages_of in tt
    said (taken ms after) k = unfold messages_of Keeps in k.said

pub then-upheld : (p : Past) (s : Step) → Upheld p → Upheld (then_step p s)
unfolding then_step live_at accepted_at is_taken
then-upheld p s u = rw (sends-is p s u) (unfold answer_to event in step-upheld p.card p.live p.accepted s.does s.room (outcome p.card s.does) (event-keeps p.card p.live u.sound s.does) (event-routed p.card p.live u.sound u.ruled s.does) (event-meets p.card s.does) u)

pub steps-upheld : (p : Past) (ss : List Step) → Upheld p → Upheld (then_steps p ss)
unfolding then_steps
steps-upheld p [] u = u
steps-upheld p (s ∷ ss) u = steps-upheld (then_step p s) ss (then-upheld p s u)

-- ---- a refused step

-- On any card it sends nothing, so that its messages, which count as any step's, change nothing: the past stays as it was.
pub refused-silent : (p : Past) (s : Step) → ((answer_to p.card s).answer ≡ 0 → ⊥) → (sends p.card s ≡ []) × (then_step p s ≡ p)
unfolding then_step live_at accepted_at is_taken sends records_in records_f note_all
refused-silent p s some =
    let r : ((answer_to p.card s).card ≡ p.card) × ((answer_to p.card s).octets ≡ []) = unfold answer_to in refusal-keeps s.room p.card s.does (unfold answer_to in some) in (
      rw r.1 refl,
      rw (r.0, r.1, ne_eqb (answer_to p.card s).answer 0 some) refl,
    )

-- ---- a fresh card

fresh-use : (b l : ℕ) → use_of l (fresh b) ≡ free
unfolding use_of fresh
fresh-use b l = picked (λ (u : Use). u ≡ free) (leb b l) (λ _. get_d-all 256 (l - b) free) (λ _. refl)

fresh-upheld : (b : ℕ) → least_label ≤ b → b ≤ most_base → Upheld (record { card = fresh b; live = []; accepted = [] })
fresh-upheld b low high = record {
  sound = record {
    tidy = unfold fresh AllProper in record { once = λ a. unfold count in zero-le; proper = tt };
    low = unfold fresh in low;
    high = unfold fresh in high;
    many = unfold fresh in refl;
    linked = record {
      zero-free = fresh-use b 0;
      real = λ l. rw (fresh-use b l) (unfold stray in refl);
      own = λ a nz. absurd (nz (unfold tree_of tree_place place fresh bare in refl));
      led = λ a l e. absurd (mapped-not-free a (use_of l (fresh b)) e (fresh-use b l));
    };
    books = unfold Books only givens in λ l. rw (fresh-use b l) refl;
    sum = unfold free_labels fresh count is_free in refl;
    last = unfold free_labels fresh count is_free in record { none = λ _. refl; block = λ z. absurd (z refl) };
  };
  reads = λ a. unfold tree_of tree_place place fresh bare branches_said leaf_by in record { name = refl; said = λ n. sym (ap listed (get_d-all 16 n 0) ∙ unfold listed is_branch in refl); leaf = refl };
  ruled = unfold fresh count in record { roots = λ r. zero-le; full = λ j h. absurd (not-suc-le-zero h); held = λ j h. absurd (not-suc-le-zero h); trees = zero-le; routes = zero-le; counts = λ q. unfold fresh in new-counted (fresh b) q (unfold fresh in zero-le) };
  routed = λ q. unfold route_of route_place place fresh route_by in refl;
}

-- ---- where labels lead

-- the first tree that carries l, where the tree a alone does
carried : (c : Card) → Tidy c.trees → (l : ℕ) (a : List ℕ) → (tree_of a c).label ≡ l → (l ≡ 0 → ⊥) → ((b : List ℕ) → (tree_of b c).label ≡ l → b ≡ a) → carrier l c ≡ tree_of a c
unfolding carrier
carried c d l a la nz only-a =
    sym (at_named c d at within) ∙ ap (λ (b : List ℕ). tree_of b c) (only-a (tree_at at c).name (ap (λ (t : Tree). t.label) (at_named c d at within) ∙ eqb-true _ l carries-at))
  where
    at : ℕ
    at = place (carries l) c.trees

    standing : tree_place a c < length c.trees
    standing =
        by-test (ltb (tree_place a c) (length c.trees))
        (λ e. ltb-true _ _ e)
        (λ e. let none : tree_of a c ≡ bare a = unfold tree_of in get_d-out c.trees (tree_place a c) (bare a) (ltb-false _ _ e) in
        absurd (nz (sym la ∙ ap (λ (t : Tree). t.label) none ∙ bare-none a)))
      where
        bare-none : (a : List ℕ) → (bare a).label ≡ 0
        bare-none a = unfold bare in refl

    there : carries l (get_or c.trees (tree_place a c) (bare [])) ≡ true
    there = unfold carries in eq-eqb _ l (ap (λ (t : Tree). t.label) (get_d-same c.trees (tree_place a c) (bare []) (bare a) standing) ∙ (unfold tree_of in la))

    within : at < length c.trees
    within = place-count (carries l) c.trees (count-some (carries l) c.trees (tree_place a c) (bare []) standing there)

    carries-at : eqb (tree_at at c).label l ≡ true
    carries-at = unfold carries tree_at in place-finds (carries l) c.trees (bare []) within

not-withdrawn : (n : ℕ) (m : Message) (g : Given) → eqb g.label m.label ≡ false → is_withdrawn n m g ≡ false
unfolding is_withdrawn is_about
not-withdrawn n m g e = rw e refl

count-about' : (n : ℕ) (m : Message) (gs : List Given) → count (is_withdrawn n m) gs ≡ count (is_withdrawn n m) (only m.label gs)
unfolding count only of_label
count-about' n m [] = refl
count-about' n m (g ∷ gs) =
    by-test (eqb g.label m.label)
    (λ e. rw e (rw (count-about' n m gs) refl))
    (λ e. rw (e, not-withdrawn n m g e) (count-about' n m gs))

mapped-own : (n : ℕ) (a : List ℕ) → is_mapped a (mapped n a) ≡ true
unfolding is_mapped
mapped-own n a = same_refl a

to-whom : (n : ℕ) (a : List ℕ) → mapped_to (mapped n a) ≡ n
unfolding mapped_to
to-whom n a = refl

-- a label that is held is held for the root's route
held-route : (c : Card) (t : Tree) (n : ℕ) → n < neighbour_count → holder_of c t ≡ n → n ≡ route_of (root_in t.name) c
unfolding holder_of holder upstream
held-route c t n near =
    picked (λ (x : ℕ). x ≡ n → n ≡ route_of (root_in t.name) c) (leads_on _ t)
    (λ _. picked (λ (x : ℕ). x ≡ n → n ≡ route_of (root_in t.name) c) (ltb (route_of (root_in t.name) c) 16) (λ _ e. sym e) (λ _ e. absurd (omega arith)))
    (λ _ e. absurd (omega arith))

branches-cons : (n l : ℕ) (ls : List ℕ) → branches_from n (l ∷ ls) ≡ branches_to n (listed l) ++ branches_from (suc n) ls
unfolding branches_from listed
branches-cons n l ls = by-test (is_branch l) (λ e. rw e (unfold branches_to in refl)) (λ e. rw e (unfold branches_to in refl))

feed-from : (a : List ℕ) (u : ℕ) (es : List Event) (bs : List ℕ) (n k : ℕ) → length bs ≡ k → ((i : ℕ) → i < k → listed (get_or bs i 0) ≡ pick (eqb (n + i) u) [] (branches_said a (n + i) es))
    → branches_from n bs ≡ branches_by a u n k es
unfolding branches_by
feed-from a u es [] n zero e h = unfold branches_from in refl
feed-from a u es [] n (suc k) e h = absurd (omega arith)
feed-from a u es (l ∷ ls) n zero e h = absurd (omega arith)
feed-from a u es (l ∷ ls) n (suc k) e h =
    let first : listed l ≡ pick (eqb n u) [] (branches_said a n es) = h 0 (omega arith) ∙ ap (λ (x : ℕ). pick (eqb x u) [] (branches_said a x es)) (omega arith) in
    let later : branches_from (suc n) ls ≡ branches_by a u (suc n) k es =
    feed-from a u es ls (suc n) k (omega arith) (λ i z. h (suc i) (omega arith) ∙ ap (λ (x : ℕ). pick (eqb x u) [] (branches_said a x es)) (omega arith)) in
    let here : branches_to n (listed l) ≡ pick (eqb n u) [] (branches_to n (branches_said a n es)) = ap (branches_to n) first ∙ by-test (eqb n u) (λ z. rw z (unfold branches_to in refl)) (λ z. rw z refl) in
    branches-cons n l ls ∙ ap₂ ◌++◌ here later

bare_leads : (u : ℕ) (a : List ℕ) → feed_of u (bare a) ≡ nothing
unfolding feed_of not_held bare nothing
bare_leads u a = rw (set-replicate {A = ℕ} 16 u 0) (unfold branches_from is_branch in refl)

module _ (p : Past) (u : Upheld p) where
  pub carrier-is : (l n : ℕ) (a : List ℕ) → use_of l p.card ≡ mapped n a → carrier l p.card ≡ tree_of a p.card
  carrier-is l n a us =
      let L : Linked (λ (b : List ℕ). (tree_of b p.card).label) (λ (k : ℕ). use_of k p.card) = u.sound.linked in
      let ma : is_mapped a (use_of l p.card) ≡ true = ap (is_mapped a) us ∙ mapped-own n a in
      let nz : l ≡ 0 → ⊥ = λ z. mapped-not-free a (use_of l p.card) ma (ap (λ (k : ℕ). use_of k p.card) z ∙ L.zero-free) in
      carried p.card u.sound.tidy l a (L.led a l ma) nz
      (λ b lb. mapped-one b a (use_of l p.card) (subst (λ (k : ℕ). is_mapped b (use_of k p.card) ≡ true) lb (L.own b (λ z. nz (sym lb ∙ z)))) ma)

  -- who sends on a mapped label is the upstream of the route in force
  pub sender-is : (l n : ℕ) (a : List ℕ) → use_of l p.card ≡ mapped n a → n ≡ route_by (root_in a) p.accepted
  unfolding held_for
  sender-is l n a us =
      let L : Linked (λ (b : List ℕ). (tree_of b p.card).label) (λ (k : ℕ). use_of k p.card) = u.sound.linked in
      let ma : is_mapped a (use_of l p.card) ≡ true = ap (is_mapped a) us ∙ mapped-own n a in
      let sent : mapped_to (use_of l p.card) ≡ n = ap mapped_to us ∙ to-whom n a in
      let near : n < neighbour_count = subst (λ (k : ℕ). k < neighbour_count) sent (mapped-near a (use_of l p.card) ma (L.real l)) in
      let held : held_for p.card (tree_of a p.card) ≡ n = ap (λ (k : ℕ). mapped_to (use_of k p.card)) (L.led a l ma) ∙ sent in
      let asked : holder_of p.card (tree_of a p.card) ≡ n = sym (held-named p.card p.live u.sound u.ruled a) ∙ held in
      held-route p.card (tree_of a p.card) n near asked
      ∙ ap (λ (b : List ℕ). route_of (root_in b) p.card) (tree-name a p.card)
      ∙ u.routed (root_in a)

  -- the branch places with that of the upstream cleared, read by rising neighbour number, are the branches that were said
  pub feed-is : (n : ℕ) (a : List ℕ) → n ≡ route_by (root_in a) p.accepted → feed_of n (tree_of a p.card) ≡ feed_by a p.accepted
  unfolding feed_of feed_by not_held
  feed-is n a e =
      let bs : List ℕ = (tree_of a p.card).branches in
      let size : length bs ≡ 16 = tree-sized a p.card u.sound.tidy in
      let at : (i : ℕ) → i < neighbour_count → listed (get_or (set bs n 0) i 0) ≡ pick (eqb i n) [] (branches_said a i p.accepted) =
      λ i h. by-test (eqb i n)
      (λ k. rw (k, ← eqb-true i n k) (ap listed (get_or-set_same bs i 0 0 (rw size h)) ∙ unfold listed is_branch in refl))
      (λ k. rw k (ap listed (get_or-set_other bs n i 0 0 (eqb-false i n k)) ∙ sym ((u.reads a).said i))) in
      let branches : branches_from 0 (set bs n 0) ≡ branches_by a n 0 16 p.accepted =
      feed-from a n p.accepted (set bs n 0) 0 16 (length-set bs n 0 ∙ size) (λ i h. at i h ∙ ap (λ (x : ℕ). pick (eqb x n) [] (branches_said a x p.accepted)) (omega arith)) in
      λ i. record { branches = (branches ∙ ap (λ (x : ℕ). branches_by a x 0 16 p.accepted) e) i; leaf = (u.reads a).leaf i }

  -- what 6, 7 or 18 refuses names no tree
  no-tree : (a : List ℕ) → eqb (element_refusal a) 0 ≡ false → tree_of a p.card ≡ bare a
  no-tree a e =
      by-test (ltb (tree_place a p.card) (length p.card.trees))
      (λ k. let at : tree_of a p.card ≡ tree_at (tree_place a p.card) p.card = standing-at p.card a (ltb-true _ _ k) in
      let good : element_refusal (tree_at (tree_place a p.card) p.card).name ≡ 0 = unfold Proper in (at-proper p.card (tree_place a p.card) u.sound.tidy (ltb-true _ _ k)).1 in
      absurd (eqb-false _ _ e (ap element_refusal (sym (tree-name a p.card) ∙ ap (λ (t : Tree). t.name) at) ∙ good)))
      (λ k. not-standing p.card a (ltb-false _ _ k))

  named-leads : (a : List ℕ) → lookup_name a p.card ≡ feed_by a p.accepted
  unfolding lookup_name
  named-leads a =
      let whole : feed_of (route_of (root_in a) p.card) (tree_of a p.card) ≡ feed_by a p.accepted = feed-is (route_of (root_in a) p.card) a (u.routed (root_in a)) in
      by-test (eqb (element_refusal a) 0)
      (λ e. rw e whole)
      (λ e. rw e (sym (bare_leads (route_of (root_in a) p.card) a) ∙ ap (feed_of (route_of (root_in a) p.card)) (sym (no-tree a e)) ∙ whole))

  use-leads : (l : ℕ) (x : Use) → use_of l p.card ≡ x → Each (Leads p) (givens l x)
  unfolding Each Leads givens lookup_label feed_of_use
  use-leads l free e = tt
  use-leads l (mapped n a) e = (rw e (ap (feed_of n) (carrier-is l n a e) ∙ feed-is n a (sender-is l n a e)), tt)
  use-leads l (awaiting n a) e = (rw e refl, tt)

  by-label : (l : ℕ) → only l p.live ≡ givens l (use_of l p.card)
  unfolding Books
  by-label l = u.sound.books l

  awaited-use : (room n : ℕ) (s : List ℕ) (o : Outcome) → (finish room p.card o).answer ≡ 0 → Awaited p.card n (message_in s) o → is_awaiting n (message_in s).name (use_of (message_in s).label p.card) ≡ true
  unfolding finish refuse Awaited
  awaited-use room n s (refused k) z h = absurd (h z)
  awaited-use room n s (taken ms after) z h = h

  released : (n : ℕ) (m : Message) → is_awaiting n m.name (use_of m.label p.card) ≡ true → count (is_withdrawn n m) p.live ≡ 1
  released n m w =
      count-about' n m p.live
      ∙ ap (count (is_withdrawn n m)) (by-label m.label ∙ ap (givens m.label) (awaiting-eq n m.name (use_of m.label p.card) w))
      ∙ unfold count givens is_withdrawn is_about in rw (eq-eqb m.label m.label refl, eq-eqb n n refl, same_refl m.name) refl

  pub kept : Promise p
  kept = record {
    one = books-one _ p.live u.sound.books;
    anew = λ s. rw (sends-is p s u) (unfold live_at is_taken answer_to event in step-fair p.card p.live p.accepted s.does s.room (outcome p.card s.does) (event-keeps p.card p.live u.sound s.does));
    withdraws = λ s. rw (sends-is p s u) (unfold live_at is_taken answer_to event in step-ends p.card p.live p.accepted s.does s.room (outcome p.card s.does) (event-keeps p.card p.live u.sound s.does));
    wire = λ s. rw (sends-is p s u) (unfold answer_to event in step-octets p.card p.live p.accepted s.does s.room (outcome p.card s.does) (event-keeps p.card p.live u.sound s.does));
    answers = λ room n s z e. released n (message_in s) (awaited-use room n s (outcome p.card (receive n s)) (unfold event in z) (heard-awaited p.card n s e));
    single = λ a n. rw ((u.reads a).said n) (listed-one _);
    leads = each-only (Leads p) p.live (λ l. rw (by-label l) (use-leads l (use_of l p.card) refl));
    others = λ l e. unfold lookup_label feed_of_use in rw (books-none l (use_of l p.card) (sym (ap length (by-label l)) ∙ sym (count-only l p.live) ∙ e)) refl;
    by_name = named-leads;
    sum = u.sound.sum;
    apart = λ room n s. unfold event Apart in step-apart p.card p.live p.accepted (receive n s) room (message_in s).name (outcome p.card (receive n s)) (event-keeps p.card p.live u.sound (receive n s));
  }

pub started : (b : ℕ) → Upheld (begun b)
unfolding start accept refuse base_outside with_next fresh
started b =
    by-test (leb least_label b && leb b most_base)
    (λ e. let r = both (leb least_label b) (leb b most_base) e in rw e (fresh-upheld b (leb-true _ _ r.0) (leb-true _ _ r.1)))
    (λ e. rw e (fresh-upheld 16 (omega arith) (omega arith)))

pub history-upheld : (base : ℕ) (steps : List Step) → Upheld (history base steps)
unfolding history
history-upheld base steps = steps-upheld _ steps (started base)

-- DEMAND 3: the promise holds after any history of a card that was started
pub promise-kept : Demand3
promise-kept base steps = kept (history base steps) (history-upheld base steps)
