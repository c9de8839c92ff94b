-- Rows of a list: reading them, and one more at its place. Assumes nothing.
use Prim.Native.Nat.{ℕ, zero, suc, ◌+◌, ◌*◌, ◌-◌, ◌≤◌, ◌<◌}
use native.Mathlib.Numerals.{add-one}
use native.Mathlib.Omega.{arith}
use mathlib.Core.Path.{◌≡◌, refl, sym, ap, ap₂, ◌∙◌}
use mathlib.Core.Bool.{Bool, true, false}
use mathlib.Core.List.{List, [], ◌∷◌, ◌++◌, append_assoc}
use lib.ListN.{length, take, drop, get_or, length-drop, take-append-drop, drop_of_length-le}
use lib.Seq.{drop-cons, drop-drop, take-take, get_or-take, get_or-drop, ext_get_or, length-take-le, take-append-add, drop_at, take_all}
use Rattle.std.specs.List.{CopiedTo, SameBelow}
use Rattle.meaning.specs.Octets.{place}
use Rattle.meaning.specs.Card.{route_limit}
use Rattle.meaning.specs.Lists.{by-test}
use Rattle.octets.specs.Part.{mid}
use Rattle.octets.proofs.Parts.{mid-length}
use Rattle.save_rules_rows.proofs.RowRules.{At}
use Rattle.meaning_plan.specs.Plan.{Move, is_before, insert}
use Rattle.meaning_plan.specs.PlanOctets.{entry_size, entry_of, list_of, entry_in, entries_in, list_limit, Carriable, AllCarriable, entry_length, entry-back}
use Rattle.meaning_plan.specs.Rising.{comes_first, insert-place}
use Rattle.meaning_plan.specs.Loops.{entries-length, entry_at}
use Rattle.plan_make.specs.Rows.{is_after, Holds}

-- ---- the place of a row

module _ {ℓ} {A : Type ℓ} (t : A → Bool) (l : List A) (i : ℕ) where
  pub place-hit : (x : A) → At l i x → t x ≡ true → i + place t (drop i l) ≡ i
  unfolding place
  place-hit x a h = rw (drop-cons l i x a.inside, a.reads, h) (omega arith)

  pub place-miss : (x : A) → At l i x → t x ≡ false → i + place t (drop i l) ≡ i + 1 + place t (drop (i + 1) l)
  unfolding place
  place-miss x a h = rw (drop-cons l i x a.inside, a.reads, h, add-one i) (omega arith)

  pub place_none : (k : ℕ) → length l ≡ k → k ≤ i → i ≤ k → i + place t (drop i l) ≡ k
  unfolding place
  place_none k e h g = rw (drop_of_length-le l {i = i} (omega arith)) (omega arith)

module _ (o : List ℕ) (k i : ℕ) where
  pub row-there : i < k → At (entries_in k o) i (entry_in (drop (i * entry_size) o))
  row-there h = record { inside = rw (entries-length k o) h; reads = entry_at k o i _ h }

-- what the code says of the row
pub row-after : (o : List ℕ) (at : ℕ) (a r : List ℕ) (b : Bool) → a ≡ (entry_in (drop at o)).root → b ≡ is_before r a → b ≡ is_after r (entry_in (drop at o))
unfolding is_after
row-after o at a r b e h = h ∙ ap (is_before r) e

-- ---- rows move up

-- the octets between the places a and e stand one row further up, and those below are as they were
pub record Opened (a e : ℕ) (xs ys : List ℕ) : Type 0 where
  pub long : length ys ≡ length xs
  pub below : (j : ℕ) → j < a + entry_size → get_or ys j 0 ≡ get_or xs j 0
  pub up : (j : ℕ) → a ≤ j → j < e → get_or ys (j + entry_size) 0 ≡ get_or xs j 0

pub opened-moved : (a e : ℕ) (xs ys : List ℕ) → length ys ≡ length xs → CopiedTo xs ys a (a + entry_size) (e - a) × SameBelow xs ys (a + entry_size) → Opened a e xs ys
opened-moved a e xs ys l m = record {
  long = l;
  below = λ j h. m.1 j 0 h;
  up = λ j h k. m.0 (j + entry_size) 0 (omega arith) (omega arith) ∙ ap (λ (n : ℕ). get_or xs n 0) (around j h);
}
  where
    around : (j : ℕ) → a ≤ j → a + (j + entry_size - (a + entry_size)) ≡ j
    around j h = omega arith

-- ---- a row is put

take_past : (p q : List ℕ) (n m k : ℕ) → length p ≡ n → k ≡ n + m → take k (p ++ q) ≡ p ++ take m q
take_past p q n m k e f = let g : k ≡ length p + m = omega arith in ap (λ (x : ℕ). take x (p ++ q)) g ∙ take-append-add p q m

-- what stands below a place
take_same : (a : ℕ) (xs ys : List ℕ) → a ≤ length xs → length ys ≡ length xs → ((j : ℕ) → j < a → get_or ys j 0 ≡ get_or xs j 0) → take a ys ≡ take a xs
take_same a xs ys h e f =
    ext_get_or 0 (take a ys) (take a xs) (length-take-le a ys (omega arith) ∙ sym (length-take-le a xs h))
    (λ i k. let k' : i < a = omega (arith, length-take-le a ys (omega arith)) in get_or-take a ys i 0 k' ∙ f i k' ∙ sym (get_or-take a xs i 0 k'))

-- what stands above it, moved up
drop-same : (a e : ℕ) (xs ys : List ℕ) → a ≤ e → e + entry_size ≤ length xs → length ys ≡ length xs → ((j : ℕ) → a ≤ j → j < e → get_or ys (j + entry_size) 0 ≡ get_or xs j 0) → take (e - a) (drop entry_size (drop a ys)) ≡ drop a (take e xs)
drop-same a e xs ys h room l f =
    ext_get_or 0 (take (e - a) (drop entry_size (drop a ys))) (drop a (take e xs)) (left ∙ sym right)
    (λ i k. let k' : i < e - a = omega (arith, left) in
    get_or-take (e - a) (drop entry_size (drop a ys)) i 0 k'
    ∙ get_or-drop entry_size (drop a ys) i 0
    ∙ get_or-drop a ys (entry_size + i) 0
    ∙ ap (λ (n : ℕ). get_or ys n 0) (around a i)
    ∙ f (a + i) (omega arith) (omega arith)
    ∙ sym (get_or-drop a (take e xs) i 0 ∙ get_or-take e xs (a + i) 0 (omega arith)))
  where
    around : (a i : ℕ) → a + (entry_size + i) ≡ a + i + entry_size
    around a i = omega arith

    left : length (take (e - a) (drop entry_size (drop a ys))) ≡ e - a
    left = length-take-le (e - a) (drop entry_size (drop a ys)) (omega (arith, length-drop entry_size (drop a ys), length-drop a ys))

    right : length (drop a (take e xs)) ≡ e - a
    right = length-drop a (take e xs) ∙ ap (λ (n : ℕ). n - a) (length-take-le e xs (omega arith))

-- the octets of rows, by rows
list-append : (xs ys : List Move) → list_of (xs ++ ys) ≡ list_of xs ++ list_of ys
unfolding list_of
list-append [] ys = refl
list-append (x ∷ xs) ys = ap (λ (o : List ℕ). entry_of x ++ o) (list-append xs ys) ∙ sym (append_assoc (entry_of x) (list_of xs) (list_of ys))

row_step : (p : ℕ) → suc p * entry_size ≡ entry_size + p * entry_size
row_step p = omega arith

list-take : (p : ℕ) (ms : List Move) → take (p * entry_size) (list_of ms) ≡ list_of (take p ms)
unfolding list_of
list-take zero ms = refl
list-take (suc p) [] = take_all (suc p * entry_size) [] (omega arith)
list-take (suc p) (m ∷ ms) = take_past (entry_of m) (list_of ms) entry_size (p * entry_size) (suc p * entry_size) (entry_length m) (row_step p) ∙ ap (λ (o : List ℕ). entry_of m ++ o) (list-take p ms)

list-drop : (p : ℕ) (ms : List Move) → drop (p * entry_size) (list_of ms) ≡ list_of (drop p ms)
unfolding list_of
list-drop zero ms = refl
list-drop (suc p) [] = drop_of_length-le [] {i = suc p * entry_size} (omega arith)
list-drop (suc p) (m ∷ ms) =
    ap (λ (n : ℕ). drop n (entry_of m ++ list_of ms)) (row_step p)
    ∙ sym (drop-drop (p * entry_size) entry_size (entry_of m ++ list_of ms))
    ∙ ap (drop (p * entry_size)) (drop_at (entry_of m) (list_of ms) entry_size (entry_length m))
    ∙ list-drop p ms

-- ---- one more

length-insert : (m : Move) (ms : List Move) → length (insert m ms) ≡ suc (length ms)
unfolding insert
length-insert m [] = refl
length-insert m (y ∷ ys) = by-test (is_before m.root y.root) (λ e. rw e refl) (λ e. rw e (ap suc (length-insert m ys)))

carriable-insert : (m : Move) (ms : List Move) → Carriable m → AllCarriable ms → AllCarriable (insert m ms)
unfolding insert AllCarriable
carriable-insert m [] h p = (h, tt)
carriable-insert m (y ∷ ys) h p = by-test (is_before m.root y.root) (λ e. rw e (h, p)) (λ e. rw e (p.0, carriable-insert m ys h p.1))

after_first : (m : Move) (ms : List Move) → place (is_after m.root) ms ≡ place (comes_first m) ms
unfolding is_after comes_first
after_first m ms = refl

-- k entries are read from their rows, whatever stands behind
entries-there : (ms : List Move) (rest : List ℕ) → AllCarriable ms → entries_in (length ms) (list_of ms ++ rest) ≡ ms
unfolding list_of entries_in AllCarriable
entries-there [] rest p = refl
entries-there (m ∷ ms) rest p =
    rw (append_assoc (entry_of m) (list_of ms) rest)
    (ap₂ ◌∷◌ (entry-back m (list_of ms ++ rest) p.0)
    (rw (drop_at (entry_of m) (list_of ms ++ rest) entry_size (entry_length m)) (entries-there ms rest p.1)))

pub held-entries : (xs : List ℕ) (k : ℕ) (ms : List Move) → Holds xs k ms → entries_in k xs ≡ ms
held-entries xs k ms H =
    ap (entries_in k) (sym (take-append-drop (k * entry_size) xs) ∙ ap (λ (o : List ℕ). o ++ drop (k * entry_size) xs) H.read)
    ∙ ap (λ (n : ℕ). entries_in n (list_of ms ++ drop (k * entry_size) xs)) (sym H.many)
    ∙ entries-there ms (drop (k * entry_size) xs) H.short

module _ (xs ys us : List ℕ) (k p : ℕ) (m : Move) (long : length xs ≡ list_limit) (few : k < route_limit) (within : p ≤ k) (fits : Carriable m) (O : Opened (p * entry_size) (k * entry_size) xs ys) (put : us ≡ entry_of m) where
  abbrev a : ℕ
  a = p * entry_size

  abbrev e : ℕ
  e = k * entry_size

  made : take ((k + 1) * entry_size) (mid a (a + entry_size - a) ys us) ≡ take a xs ++ (entry_of m ++ drop a (take e xs))
  made =
      let q : a + entry_size - a ≡ entry_size = omega arith in
      let w : length (take a ys) ≡ a = length-take-le a ys (omega (arith, O.long)) in
      let v : length us ≡ entry_size = ap length put ∙ entry_length m in
      let o : (k + 1) * entry_size ≡ a + (entry_size + (e - a)) = omega arith in
      ap (λ (n : ℕ). take ((k + 1) * entry_size) (mid a n ys us)) q
      ∙ take_past (take a ys) (us ++ drop entry_size (drop a ys)) a (entry_size + (e - a)) ((k + 1) * entry_size) w o
      ∙ ap (λ (l : List ℕ). take a ys ++ l) (take_past us (drop entry_size (drop a ys)) entry_size (e - a) (entry_size + (e - a)) v refl)
      ∙ ap₂ (λ (l r : List ℕ). l ++ (us ++ r)) (take_same a xs ys (omega arith) O.long (λ j h. O.below j (omega arith))) (drop-same a e xs ys (omega arith) (omega arith) O.long O.up)
      ∙ ap (λ (l : List ℕ). take a xs ++ (l ++ drop a (take e xs))) put

  pub inserted : (ms : List Move) → p ≡ place (is_after m.root) (entries_in k xs) → Holds xs k ms → Holds (mid a (a + entry_size - a) ys us) (k + 1) (insert m ms)
  inserted ms at H = record {
    many = length-insert m ms ∙ ap suc H.many ∙ sym (add-one k);
    read =
        made
        ∙ ap (λ (l : List ℕ). l ++ (entry_of m ++ drop a (take e xs))) (sym (take-take a e xs (omega arith)))
        ∙ ap (λ (l : List ℕ). take a l ++ (entry_of m ++ drop a l)) H.read
        ∙ ap₂ (λ (l r : List ℕ). l ++ (entry_of m ++ r)) (list-take p ms) (list-drop p ms)
        ∙ sym (joined ∙ list-append (take p ms) (m ∷ drop p ms) ∙ unfold list_of in refl);
    short = carriable-insert m ms fits H.short;
  }
    where
      there : place (comes_first m) ms ≡ p
      there = sym (after_first m ms) ∙ ap (place (is_after m.root)) (sym (held-entries xs k ms H)) ∙ sym at

      joined : list_of (insert m ms) ≡ list_of (take p ms ++ (m ∷ drop p ms))
      joined = ap list_of (insert-place m ms ∙ rw there refl)

pub put-long : (a : ℕ) (ys us : List ℕ) (m : Move) (n : ℕ) → us ≡ entry_of m → length ys ≡ n → a + entry_size ≤ n → length (mid a (a + entry_size - a) ys us) ≡ n
put-long a ys us m n e l h =
    let q : a + entry_size - a ≡ entry_size = omega arith in
    ap (λ (k : ℕ). length (mid a k ys us)) q ∙ mid-length a entry_size ys us (omega arith) (ap length e ∙ entry_length m) ∙ l
