-- The loss of a neighbour: its trees give up their labels where they lead nowhere any more, and those left empty go; the table stays sound, and keeps its rules.
-- Assumes nothing.
use Rattle.std.specs.Prelude.{ℕ, zero, suc, ◌+◌, ◌≤◌, ◌<◌, ◌≡◌, false, get_or, set, eqb, ltb}
use Rattle.std.proofs.Common.{zero-le, suc-le-suc, le_of_suc-le-suc, not-suc-le-zero, le_refl, arith, ap₂, ◌∙◌, eqb-true, ne_eqb, ltb-false}
use Rattle.std.proofs.Math.Nat.{le_trans}
use Rattle.std.proofs.Math.Path.{refl, sym, ap, subst}
use Rattle.std.proofs.Math.Bool.{true}
use mathlib.Core.List.{List, [], ◌∷◌}
use Rattle.std.proofs.Math.ListN.{length}
use Rattle.std.proofs.lemmas.Bool.{eqb-false}
use Rattle.meaning.specs.Octets.{pick, any, cut}
use Rattle.meaning.specs.Wire.{root_in}
use Rattle.meaning.specs.Card.{Tree, Card, no_route, with_routes, with_trees, with_labels, with_branch, with_label, route_of, bare, tree_of, tree_at, is_branch, is_empty, not_held, leads_on, mapped_to, held_for, free_labels, Route, no_entry, neighbour_count, nobody}
use Rattle.meaning.specs.Events.{Moved, still, followed_by, let_go, upstream, holder, holder_of, swept, tree_without, parted, shed, shed_from, swept_below, total, in_root, worked_out, recounted_without, trees_without}
use Rattle.meaning.specs.Lists.{by-test, picked, neither}
use Rattle.meaning_laws.specs.RoundTrip.{AllSendable}
use Rattle.meaning_laws.specs.Losses.{without-name, parted-held, parted-tree, parted-at, parted-size}
use Rattle.promise.specs.Promise.{Given, note_all, NoneLive, AllMapped, without}
use Rattle.promise.specs.LiveLaws.{linked-eq, books-eq}
use Rattle.promise.specs.CardLaws.{shape}
use Rattle.promise.proofs.CardLaws.{swept-is, swept-tidy, swept-use, swept-labels, swept-base, swept-last, swept-routes}
use Rattle.promise.specs.LabelLaws.{Sound, Fine, Kept}
use Rattle.promise.proofs.LabelLaws.{spent-eq, still-fine, let-go-fine, let-go-none, none-held, held_none, then-kept, at_other, held-other}
use Rattle.meaning_laws.specs.Counts.{empty-leads, plains, plain-length, plain-count, without-plain}
use Rattle.promise.specs.CountLaws.{Tally, found}
use Rattle.promise.proofs.CountLaws.{same-shapes, without-empty, lost-true, counted_of}
use Rattle.promise.specs.RuleLaws.{Ruled}
use Rattle.promise.proofs.RuleLaws.{holder-same, shape-empty, any-set-two, cut_in, swept_at}
use Rattle.promise.proofs.PartedLaws.{parted-sound, parted-route, routes-fewer, roots-fewer, without-shape}
use Rattle.promise.specs.LossLaws.{Held, Loose, FullFrom, Swept}

-- ---- one tree

module _ (c : Card) (gs : List Given) (S : Sound c gs) (i : ℕ) (h : i < length c.trees) where
  shed-fine : Fine i c gs (shed i c)
  unfolding shed
  shed-fine = picked (Fine i c gs) (leads_on (held_for c (tree_at i c)) (tree_at i c)) (λ _. still-fine i c gs S) (λ _. let-go-fine c gs S i h)

  let-go-held : held_for (let_go i c).card (tree_at i (let_go i c).card) ≡ no_route
  let-go-held = let p = let-go-fine c gs S i h in none-held (let_go i c).card _ p.sound i (rw p.size h) (let-go-none c gs S i h)

  -- it holds its label on where it leads on
  shed-held : held_for (shed i c).card (tree_at i (shed i c).card) ≡ holder (held_for c (tree_at i c)) (tree_at i c)
  unfolding shed still holder
  shed-held = by-test (leads_on (held_for c (tree_at i c)) (tree_at i c)) (λ e. rw e refl) (λ e. rw e let-go-held)

  shed-other : (j : ℕ) → j < length c.trees → (i ≡ j → ⊥) → held_for (shed i c).card (tree_at j (shed i c).card) ≡ held_for c (tree_at j c)
  shed-other j k d = ap (held_for (shed i c).card) (at_other c gs S i h (shed i c) shed-fine j k d) ∙ held-other c gs S i h (shed i c) shed-fine j k d

-- ---- the trees one after the other

pub shed-kept : (n i : ℕ) (c : Card) (gs : List Given) → Sound c gs → i + n ≤ length c.trees → Kept c gs (shed_from n i c)
unfolding shed_from
shed-kept zero i c gs S h = unfold still note_all NoneLive AllMapped AllSendable in record { sound = S; fair = tt; ends = tt; said = tt; shapes = λ b. refl; size = refl; routes = refl; at = λ j. refl }
shed-kept (suc n) i c gs S h =
    let p : Fine i c gs (shed i c) = shed-fine c gs S i (omega arith) in
    let size : length (shed i c).card.trees ≡ length c.trees = p.size in
    then-kept c gs (shed i c) (shed_from n (suc i)) (record { sound = p.sound; fair = p.fair; ends = p.ends; said = p.said; shapes = p.shapes; size = p.size; routes = p.routes; at = p.at })
    (shed-kept n (suc i) (shed i c).card _ p.sound (omega arith))

shed-before : (n i : ℕ) (c : Card) (gs : List Given) → Sound c gs → i + n ≤ length c.trees → (j : ℕ) → j < i → j < length c.trees
    → held_for (shed_from n i c).card (tree_at j (shed_from n i c).card) ≡ held_for c (tree_at j c)
unfolding shed_from followed_by still
shed-before zero i c gs S h j lt k = refl
shed-before (suc n) i c gs S h j lt k =
    let within : i < length c.trees = omega arith in
    let p : Fine i c gs (shed i c) = shed-fine c gs S i within in
    let size : length (shed i c).card.trees ≡ length c.trees = p.size in
    shed-before n (suc i) (shed i c).card _ p.sound (omega arith) j (omega arith) (omega arith)
    ∙ shed-other c gs S i within j k (λ e. omega arith)

pub shed-after : (n i : ℕ) (c : Card) (gs : List Given) → Sound c gs → i + n ≤ length c.trees → (j : ℕ) → i ≤ j → j < i + n
    → held_for (shed_from n i c).card (tree_at j (shed_from n i c).card) ≡ holder (held_for c (tree_at j c)) (tree_at j c)
unfolding shed_from followed_by still
shed-after zero i c gs S h j le lt = absurd (omega arith)
shed-after (suc n) i c gs S h j le lt =
    let within : i < length c.trees = omega arith in
    let p : Fine i c gs (shed i c) = shed-fine c gs S i within in
    let size : length (shed i c).card.trees ≡ length c.trees = p.size in
    by-test (eqb i j)
    (λ e. subst (λ (x : ℕ). held_for (shed_from n (suc i) (shed i c).card).card (tree_at x (shed_from n (suc i) (shed i c).card).card) ≡ holder (held_for c (tree_at x c)) (tree_at x c)) (eqb-true i j e)
    (shed-before n (suc i) (shed i c).card _ p.sound (omega arith) i (le_refl _) (omega arith) ∙ shed-held c gs S i within))
    (λ e. let d : i ≡ j → ⊥ = eqb-false i j e in
    shed-after n (suc i) (shed i c).card _ p.sound (omega arith) j (omega arith) (omega arith)
    ∙ ap₂ (λ (x : ℕ) (t : Tree). holder x t) (shed-other c gs S i within j (omega arith) d) (at_other c gs S i within (shed i c) p j (omega arith) d))

-- one place
module _ (c : Card) (gs : List Given) (S : Sound c gs) (i : ℕ) (h : i < length c.trees) (bare-label : is_empty (tree_at i c) ≡ true → (tree_at i c).label ≡ 0) where
  pub one-swept-tree : (b : List ℕ) → tree_of b (swept i c) ≡ tree_of b c
  one-swept-tree b = swept-is c S.tidy i h bare-label b

  pub one-swept-sound : Sound (swept i c) gs
  one-swept-sound = record {
    tidy = swept-tidy c S.tidy i h bare-label;
    low = rw (swept-base c i) S.low;
    high = rw (swept-base c i) S.high;
    many = ap length (swept-labels c i) ∙ S.many;
    linked = linked-eq _ _ _ _ (λ b. ap (λ (t : Tree). t.label) (one-swept-tree b)) (λ l. swept-use c i l) S.linked;
    books = books-eq _ _ _ (λ l. swept-use c i l) S.books;
    sum = unfold free_labels in rw (swept-labels c i) (unfold free_labels in S.sum);
    last = spent-eq c (swept i c) (swept-last c i) (swept-base c i) (λ e. unfold free_labels in rw (swept-labels c i) (unfold free_labels in e)) S.last;
  }

bare_of : (c : Card) → Loose c → (i : ℕ) → i < length c.trees → is_empty (tree_at i c) ≡ true → (tree_at i c).label ≡ 0
unfolding Loose
bare_of c L = L

full-of : (c : Card) → FullFrom 0 c → (j : ℕ) → j < length c.trees → is_empty (tree_at j c) ≡ false
unfolding FullFrom
full-of c F j h = F j zero-le h

swept-loose : (c : Card) (i : ℕ) → Loose c → Loose (swept i c)
unfolding Loose
swept-loose c i L j h = let r = swept_at c i j h in rw r.2 (L r.0 r.1)

swept-held : (c : Card) (i : ℕ) → Held c → Held (swept i c)
unfolding Held
swept-held c i H j h =
    let r = swept_at c i j h in
    rw r.2 (same-held (tree_at r.0 c) ∙ H r.0 r.1 ∙ holder-same c (swept i c) (tree_at r.0 c) (tree_at r.0 c) (ap plains (sym (swept-routes c i))) refl)
  where
    same-held : (t : Tree) → held_for (swept i c) t ≡ held_for c t
    same-held t = unfold held_for in ap mapped_to (swept-use c i t.label)

cut_later {ℓ} : {A : Type ℓ} (l : List A) (i j : ℕ) (d : A) → i ≤ j → get_or (cut l i) j d ≡ get_or l (suc j) d
unfolding cut
cut_later [] zero j d h = refl
cut_later [] (suc i) j d h = refl
cut_later (y ∷ l) zero j d h = refl
cut_later (y ∷ l) (suc i) zero d h = absurd (not-suc-le-zero h)
cut_later (y ∷ l) (suc i) (suc j) d h = cut_later l i j d (le_of_suc-le-suc h)

at-later : (c : Card) (i j : ℕ) → i ≤ j → tree_at j (with_trees (cut c.trees i) c) ≡ tree_at (suc j) c
unfolding tree_at with_trees
at-later c i j h = cut_later c.trees i j (bare []) h

swept-size : (c : Card) (i : ℕ) → i < length c.trees → (i ≤ length (swept i c).trees) × (length (swept i c).trees ≤ length c.trees)
unfolding swept with_trees
swept-size c i h =
    by-test (is_empty (tree_at i c))
    (λ e. rw e (omega (arith, cut_in c.trees i h), omega (arith, cut_in c.trees i h)))
    (λ e. rw e (omega arith, omega arith))

swept-full : (c : Card) (i : ℕ) → i < length c.trees → FullFrom (suc i) c → FullFrom i (swept i c)
unfolding FullFrom swept
swept-full c i h F j low =
    by-test (is_empty (tree_at i c))
    (λ e. rw e (λ high. gone high))
    (λ e. rw e (λ high. by-test (eqb i j)
    (λ k. subst (λ (x : ℕ). is_empty (tree_at x c) ≡ false) (eqb-true i j k) e)
    (λ k. F j (above i j low (eqb-false i j k)) high)))
  where
    above : (i j : ℕ) → i ≤ j → (i ≡ j → ⊥) → suc i ≤ j
    above i j h d = omega arith

    gone : j < length (with_trees (cut c.trees i) c).trees → is_empty (tree_at j (with_trees (cut c.trees i) c)) ≡ false
    gone high =
        let high' : j < length (cut c.trees i) = unfold with_trees in high in
        ap is_empty (at-later c i j low) ∙ F (suc j) (suc-le-suc low) (omega (arith, cut_in c.trees i h))

pub swept-total : (c : Card) (i : ℕ) (get : Route → ℕ) (w : Tree → ℕ) → Tally get w → (q : List ℕ) → total (in_root q w) (swept i c).trees ≡ total (in_root q w) c.trees
unfolding swept with_trees tree_at
swept-total c i get w T q = picked (λ (x : Card). total (in_root q w) x.trees ≡ total (in_root q w) c.trees) (is_empty (tree_at i c)) (without-empty get w T q c.trees i) (λ _. refl)

pub sweep : (n : ℕ) (c : Card) (gs : List Given) → Sound c gs → Loose c → n ≤ length c.trees → FullFrom n c → Swept c gs (swept_below n c)
unfolding swept_below
sweep zero c gs S L h F = record { sound = S; trees = λ b. refl; held = λ H. H; full = F; routes = refl; size = le_refl _; totals = λ get w T q. refl }
sweep (suc n) c gs S L h F =
    let none : is_empty (tree_at n c) ≡ true → (tree_at n c).label ≡ 0 = bare_of c L n h in
    let size = swept-size c n h in
    let r : Swept (swept n c) gs (swept_below n (swept n c)) = sweep n (swept n c) gs (one-swept-sound c gs S n h none) (swept-loose c n L) size.0 (swept-full c n h F) in
    record {
      sound = r.sound;
      trees = λ b. r.trees b ∙ one-swept-tree c gs S n h none b;
      held = λ H. r.held (swept-held c n H);
      full = r.full;
      routes = r.routes ∙ swept-routes c n;
      size = le_trans r.size size.1;
      totals = λ get w T q. r.totals get w T q ∙ swept-total c n get w T q;
    }

-- ---- the rule of labels without n

holder-none : (t : Tree) → holder no_route t ≡ no_route
unfolding holder
holder-none t = picked (λ (x : ℕ). x ≡ nobody) (leads_on nobody t) (λ _. refl) (λ _. refl)

-- with the route r, a tree t held its label for h; without n it is to hold one for whom it leads on from h, if that is not n
asked-without : (n r h : ℕ) (t s : Tree) → n < neighbour_count → ((u : ℕ) → leads_on u t ≡ false → leads_on u s ≡ false) → h ≡ holder (upstream r) t
    → holder (upstream (pick (eqb r n) no_route r)) s ≡ holder (pick (eqb h n) no_route h) s
asked-without n r h t s near less its =
    by-test (ltb r 16)
    (λ low. by-test (leads_on r t)
    (λ on. let h-is : h ≡ r = its ∙ through low on in
    rw h-is (by-test (eqb r n)
    (λ e. rw e (ap (λ (x : ℕ). holder x s) gone))
    (λ e. rw e (ap (λ (x : ℕ). holder x s) (there low)))))
    (λ off. let h-is : h ≡ no_route = its ∙ nowhere low off in
    rw h-is (rw (ne_eqb nobody n (λ z. omega arith)) (by-test (eqb r n)
    (λ e. rw e (ap (λ (x : ℕ). holder x s) gone))
    (λ e. rw e (ap (λ (x : ℕ). holder x s) (there low) ∙ ends (less r off) ∙ sym (holder-none s)))))))
    (λ high. let h-is : h ≡ no_route = its ∙ ap (λ (x : ℕ). holder x t) (far high) ∙ holder-none t in
    rw h-is (rw (ne_eqb nobody n (λ z. omega arith), ne_eqb r n (λ z. omega (arith, ltb-false r 16 high))) (ap (λ (x : ℕ). holder x s) (far high))))
  where
    gone : upstream no_route ≡ no_route
    gone = unfold upstream in refl

    there : ltb r 16 ≡ true → upstream r ≡ r
    there low = unfold upstream in rw low refl

    far : ltb r 16 ≡ false → upstream r ≡ no_route
    far high = unfold upstream in rw high refl

    through : ltb r 16 ≡ true → leads_on r t ≡ true → holder (upstream r) t ≡ r
    through low on = ap (λ (x : ℕ). holder x t) (there low) ∙ unfold holder in rw on refl

    ends : leads_on r s ≡ false → holder r s ≡ no_route
    ends off = unfold holder in rw off refl

    nowhere : ltb r 16 ≡ true → leads_on r t ≡ false → holder (upstream r) t ≡ no_route
    nowhere low off = ap (λ (x : ℕ). holder x t) (there low) ∙ unfold holder in rw off refl

without-leads : (n : ℕ) (c : Card) (t : Tree) (u : ℕ) → leads_on u t ≡ false → leads_on u (tree_without n c t) ≡ false
unfolding leads_on not_held tree_without with_label with_branch
without-leads n c t u e = let r = neither (any is_branch (set t.branches u 0)) t.leaf e in rw (any-set-two t.branches n u r.0) r.1

module _ (n : ℕ) (near : n < neighbour_count) (c : Card) (gs : List Given) (S : Sound c gs) (R : Ruled c) where
  parted-asked : (j : ℕ) → j < length c.trees → holder_of (parted n c) (tree_at j (parted n c)) ≡ holder (held_for (parted n c) (tree_at j (parted n c))) (tree_at j (parted n c))
  parted-asked j h =
      let t : Tree = tree_at j c in
      rw (parted-at n c j) (now t
      ∙ asked-without n (route_of (root_in t.name) c) (held_for c t) t (tree_without n c t) near (without-leads n c t) (R.held j h ∙ unfold holder_of in refl)
      ∙ ap (λ (x : ℕ). holder x (tree_without n c t)) (sym (parted-held n c t S.linked.zero-free)))
    where
      now : (t : Tree) → holder_of (parted n c) (tree_without n c t) ≡ holder (upstream (pick (eqb (route_of (root_in t.name) c) n) no_route (route_of (root_in t.name) c))) (tree_without n c t)
      now t = unfold holder_of in ap (λ (x : ℕ). holder (upstream x) (tree_without n c t)) (ap (λ (a : List ℕ). route_of (root_in a) (parted n c)) (without-name n c t) ∙ parted-route n c (root_in t.name) (R.roots (root_in t.name)))

-- ---- the loss

module _ (n : ℕ) (c : Card) (gs : List Given) (S : Sound c gs) where
  abbrev pub shedding : Moved
  shedding = shed_from (length c.trees) 0 (parted n c)

  abbrev pub ending : Card
  ending = swept_below (length c.trees) shedding.card

  pub loss-kept : Kept (parted n c) (without n gs) shedding
  loss-kept = shed-kept (length c.trees) 0 (parted n c) (without n gs) (parted-sound n c gs S) (omega (arith, parted-size n c))

  -- for whom each tree holds its label then
  loss-held : (j : ℕ) → j < length c.trees → held_for shedding.card (tree_at j shedding.card) ≡ holder (held_for (parted n c) (tree_at j (parted n c))) (tree_at j (parted n c))
  loss-held j h = shed-after (length c.trees) 0 (parted n c) (without n gs) (parted-sound n c gs S) (omega (arith, parted-size n c)) j zero-le (omega arith)

  loss-size : length shedding.card.trees ≡ length c.trees
  loss-size = loss-kept.size ∙ parted-size n c

  loss-loose : Loose shedding.card
  unfolding Loose
  loss-loose j h e =
      let k : j < length c.trees = subst (λ (x : ℕ). j < x) loss-size h in
      let empty : is_empty (tree_at j (parted n c)) ≡ true = sym (shape-empty _ _ (loss-kept.at j)) ∙ e in
      held_none shedding.card _ loss-kept.sound j h (loss-held j k ∙ nobody (held_for (parted n c) (tree_at j (parted n c))) (tree_at j (parted n c)) empty)
    where
      nobody : (u : ℕ) (t : Tree) → is_empty t ≡ true → holder u t ≡ no_route
      nobody u t e = unfold holder in rw (empty-leads u t e) refl

  pub loss-swept : Swept shedding.card (note_all shedding.sent (without n gs)) ending
  loss-swept = sweep (length c.trees) shedding.card _ loss-kept.sound loss-loose (omega (arith, loss-size)) (unfold FullFrom in λ j low high. absurd (omega (arith, loss-size)))

  -- each tree is as it was, but for n's branch and its label
  pub loss-shapes : (b : List ℕ) → shape (tree_of b ending) ≡ shape (with_branch n 0 (tree_of b c))
  loss-shapes b = ap shape (loss-swept.trees b) ∙ loss-kept.shapes b ∙ ap shape (parted-tree n c b) ∙ without-shape n c (tree_of b c)

  pub loss-routes : ending.routes ≡ (parted n c).routes
  loss-routes = loss-swept.routes ∙ loss-kept.routes

  pub loss-ruled : n < neighbour_count → Ruled c → Ruled ending
  loss-ruled near R = record {
    roots = λ r. rw loss-routes (unfold parted with_routes with_trees with_labels in le_trans (roots-fewer n r _) (rw (plain-count counted c.routes but r) (R.roots r)));
    full = full-of ending loss-swept.full;
    held = unfold Held in loss-swept.held (unfold Held in holding);
    trees = le_trans loss-swept.size (rw loss-size R.trees);
    routes = rw loss-routes (unfold parted with_routes with_trees with_labels in le_trans (routes-fewer n _) (rw (plain-length counted c.routes but) R.routes));
    counts = counted_of ending true-now;
  }
    where
      counted : List Route
      counted = recounted_without n c.trees c.routes

      but : plains counted ≡ plains c.routes
      but = without-plain n c.trees c.routes

      -- each tree counts what it counts without n's branch, and those that go count nothing
      now-total : (get : Route → ℕ) (w : Tree → ℕ) → Tally get w → (q : List ℕ) → total (in_root q w) ending.trees ≡ total (in_root q w) (trees_without n c c.trees)
      now-total get w T q = loss-swept.totals get w T q ∙ same-shapes get w T q shedding.card.trees (parted n c).trees loss-kept.size (unfold tree_at in loss-kept.at) ∙ unfold parted with_routes with_trees with_labels in refl

      true-now : (get : Route → ℕ) (w : Tree → ℕ) → Tally get w → (q : List ℕ) → get (found q (worked_out ending.trees (no_entry q)) ending.routes) ≡ total (in_root q w) ending.trees
      true-now get w T q = rw loss-routes (unfold parted with_routes with_trees with_labels in lost-true get w T n c q ending.trees (R.roots q) R.trees (now-total get w T q) (T.counted c q (R.counts q)))

      holding : (j : ℕ) → j < length shedding.card.trees → held_for shedding.card (tree_at j shedding.card) ≡ holder_of shedding.card (tree_at j shedding.card)
      holding j h =
          let k : j < length c.trees = subst (λ (x : ℕ). j < x) loss-size h in
          loss-held j k ∙ sym (parted-asked n near c gs S R j k) ∙ holder-same (parted n c) shedding.card (tree_at j (parted n c)) (tree_at j shedding.card) (ap plains (sym loss-kept.routes)) (sym (loss-kept.at j))
