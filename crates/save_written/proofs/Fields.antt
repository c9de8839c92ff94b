-- What the code tests of a record's fields, and that it is the same as to write them anew from what is read and to compare.
-- Assumes nothing.
use Prim.Native.Nat.{ℕ, suc, ◌+◌, ◌-◌, ◌≤◌}
use native.Mathlib.Omega.{arith}
use mathlib.Core.Path.{◌≡◌, refl, sym, ap, ◌∙◌}
use mathlib.Core.Bool.{Bool, true, false, ◌&&◌, ◌||◌}
use mathlib.Core.List.{List, ◌∷◌, ◌++◌, append_assoc}
use lib.ListN.{take, drop, get_or, length, replicate, length-append, length-take, length-drop, length-replicate, take-append-drop}
use lib.Seq.{take_all, take_at, take-take, take-add, drop_at, drop-drop, drop-cons, get_or-take, drop-append_seam, take-append_seam, length-take-le}
use lib.Dec.{eqb, leb}
use borrow.Author.Tests.{eqb-true, leb-true, le-leb, eq-eqb}
use Rattle.meaning.specs.Octets.{pick, same, two, two_at}
use Rattle.meaning.specs.Lists.{by-test, never, same-eq, same_refl}
use Rattle.meaning.specs.Wire.{address_length, family_in, root_length, root_in, opaque_in, element, root_limit, name_limit}
use Rattle.meaning_laws.specs.RoundTrip.{both}
use Rattle.meaning_laws.specs.SaveFields.{spaced-length, spaced-back, name-extent}
use Rattle.meaning_save.specs.Save.{Form, old, new, marked, saved_opaque, spaced_name, padded, spaced, name_saved, spaced_in, name_in, extent}
use Rattle.octets.specs.Part.{tab}
use Rattle.octets.proofs.Tab.{tab-is}
use Rattle.save_written.specs.Written.{marked_as, space_written, name_written}

-- two tests that come out alike
pub alike : (a b : Bool) → (a ≡ true → b ≡ true) → (b ≡ true → a ≡ true) → a ≡ b
alike true b there back = sym (there refl)
alike false b there back = by-test b (λ e. absurd (never (back e))) (λ e. sym e)

-- ---- what stands at the front

-- the front of a list, element by element
pub front-spelt : (n : ℕ) (o : List ℕ) → n ≤ length o → o ≡ tab n (λ i. get_or o i 0) ++ drop n o
front-spelt n o h =
    sym (take-append-drop n o) ∙ ap (λ (l : List ℕ). l ++ drop n o) (tab-is (take n o) n (λ i. get_or o i 0) 0 (length-take-le n o h) (λ i k. get_or-take n o i 0 k))

-- that x is the first m octets, with what stands behind them
pub same-front : (x o : List ℕ) (m : ℕ) → same x (take m o) ≡ true → x ++ drop m o ≡ o
same-front x o m h = ap (λ (l : List ℕ). l ++ drop m o) (same-eq x (take m o) h) ∙ take-append-drop m o

pub front_same : (x o : List ℕ) (m : ℕ) → m ≤ length o → x ++ drop m o ≡ o → same x (take m o) ≡ true
front_same x o m long e =
    let size : length x ≡ m = omega (arith, sym (length-append x (drop m o)) ∙ ap length e, length-drop m o) in
    ap (same x) (ap (take m) (sym e) ∙ take_at x (drop m o) m size) ∙ same_refl x

pub marked-spelt : (kind : ℕ) (o : List ℕ) → marked_as kind o ≡ true → o ≡ 0x4C ∷ 0x53 ∷ kind ∷ drop 3 o
unfolding marked_as marked
marked-spelt kind o h = sym (same-front (0x4C ∷ 0x53 ∷ kind ∷ _) o 3 h)

pub marked-front : (kind : ℕ) (fields : List ℕ) → marked_as kind (marked kind fields) ≡ true
unfolding marked_as marked
marked-front kind fields = same_refl _

behind-one : (n : ℕ) (o : List ℕ) → drop n (drop 1 o) ≡ drop (suc n) o
behind-one n o = let at : 1 + n ≡ suc n = omega arith in drop-drop n 1 o ∙ ap (λ (k : ℕ). drop k o) at

-- ---- a text in its space: it finds room there, and behind it are zeros

abbrev pub space_test : ℕ → List ℕ → Bool
space_test n o = leb (get_or o 0 0) n && same (take (n - get_or o 0 0) (drop (suc (get_or o 0 0)) o)) (replicate (n - get_or o 0 0) 0)

module _ (n : ℕ) (o : List ℕ) (fits : space_test n o ≡ true) (long : suc n ≤ length o) where
  abbrev text : List ℕ
  text = take (get_or o 0 0) (drop 1 o)

  text-fits : get_or o 0 0 ≤ n
  text-fits = leb-true _ _ (both (leb (get_or o 0 0) n) _ fits).0

  zeros-behind : take (n - get_or o 0 0) (drop (get_or o 0 0) (drop 1 o)) ≡ replicate (n - get_or o 0 0) 0
  zeros-behind = ap (take (n - get_or o 0 0)) (behind-one (get_or o 0 0) o) ∙ same-eq _ _ (both (leb (get_or o 0 0) n) _ fits).1

  text-is : spaced_in n o ≡ text
  unfolding spaced_in
  text-is = take-take (get_or o 0 0) n (drop 1 o) text-fits

  text-long : length text ≡ get_or o 0 0
  text-long = length-take-le (get_or o 0 0) (drop 1 o) (simp length-drop (omega (arith, text-fits)))

  space-size : length (spaced_in n o) ≡ get_or o 0 0
  space-size = ap length text-is ∙ text-long

  space-again : spaced n (spaced_in n o) ++ drop (suc n) o ≡ o
  unfolding spaced padded
  space-again =
      let k : ℕ = get_or o 0 0 in
      let q : List ℕ = drop 1 o in
      let all_of : take n text ≡ text = take_all n text (omega (arith, text-long, text-fits)) in
      let there : k + (n - k) ≡ n = omega (arith, text-fits) in
      rw (text-is, all_of, text-long, ← zeros-behind, ← behind-one n o)
      (ap (λ (l : List ℕ). k ∷ (l ++ drop n q)) (sym (take-add k (n - k) q) ∙ ap (λ (j : ℕ). take j q) there)
      ∙ ap (λ (l : List ℕ). k ∷ l) (take-append-drop n q)
      ∙ sym (drop-cons o 0 0 (omega arith)))

-- what is written passes
spaced-passes : (n : ℕ) (x rest : List ℕ) → space_test n (spaced n x ++ rest) ≡ true
unfolding spaced padded
spaced-passes n x rest =
    let y : List ℕ = take n x in
    let zeros : List ℕ = replicate (n - length y) 0 in
    let fits : length y ≤ n = simp length-take (omega arith) in
    let behind : drop (length y) ((y ++ zeros) ++ rest) ≡ zeros ++ rest = ap (drop (length y)) (append_assoc y zeros rest) ∙ drop-append_seam y (zeros ++ rest) in
    rw (le-leb (length y) n fits, behind, take_at zeros rest (n - length y) (length-replicate (n - length y) 0)) (same_refl zeros)

pub space-tests : (n : ℕ) (o : List ℕ) → suc n ≤ length o → space_test n o ≡ space_written n o
unfolding space_written
space-tests n o long =
    alike (space_test n o) (same (spaced n (spaced_in n o)) (take (suc n) o))
    (λ e. front_same _ o (suc n) long (space-again n o e long))
    (λ e. ap (space_test n) (sym (same-front (spaced n (spaced_in n o)) o (suc n) e)) ∙ spaced-passes n (spaced_in n o) (drop (suc n) o))

-- and is written again as it was
pub spaced-written : (n : ℕ) (x rest : List ℕ) → length x ≤ n → space_written n (spaced n x ++ rest) ≡ true
unfolding space_written
spaced-written n x rest fits = rw (spaced-back n x fits rest, take_at (spaced n x) rest (suc n) (spaced-length n x)) (same_refl (spaced n x))

-- ---- a name in the old form: a root has the length of an address

abbrev pub is_root_length : ℕ → Bool
is_root_length k = eqb k 4 || eqb k root_limit

abbrev pub spaces_test : List ℕ → Bool
spaces_test o = is_root_length (get_or o 0 0) && (space_written root_limit o && space_written saved_opaque (drop (1 + root_limit) o))

-- the root and the value of an element whose root has that length
module _ (r k : List ℕ) where
  parts-four : length r ≡ 4 → (root_in (element 1 r k) ≡ r) × (opaque_in (element 1 r k) ≡ k)
  unfolding root_in opaque_in root_length family_in element two two_at address_length
  parts-four e = (take_at r _ 4 e, sym (drop-drop 2 4 (r ++ (two (length k) ++ k))) ∙ ap (drop 2) (drop_at r (two (length k) ++ k) 4 e))

  parts-sixteen : length r ≡ root_limit → (root_in (element 2 r k) ≡ r) × (opaque_in (element 2 r k) ≡ k)
  unfolding root_in opaque_in root_length family_in element two two_at address_length
  parts-sixteen e = (take_at r _ root_limit e, sym (drop-drop 2 root_limit (r ++ (two (length k) ++ k))) ∙ ap (drop 2) (drop_at r (two (length k) ++ k) root_limit e))

  parts_again : is_root_length (length r) ≡ true → (let a = element (pick (eqb (length r) 4) 1 2) r k in (root_in a ≡ r) × (opaque_in a ≡ k))
  parts_again h =
      by-test (eqb (length r) 4)
      (λ e. rw e (parts-four (eqb-true _ _ e)))
      (λ e. rw e (parts-sixteen (eqb-true (length r) root_limit (rw e at h))))

  -- any other root would be read longer than it is
  longer : length (root_in (element 2 r k)) ≡ length r → length r ≡ root_limit
  unfolding root_in root_length family_in element two two_at address_length
  longer e = omega (arith, sym (length-take root_limit (r ++ (two (length k) ++ k))) ∙ e, length-append r (two (length k) ++ k))

  root-length : length (root_in (element (pick (eqb (length r) 4) 1 2) r k)) ≡ length r → is_root_length (length r) ≡ true
  root-length e = by-test (eqb (length r) 4) (λ t. rw t refl) (λ t. rw t (eq-eqb (length r) root_limit (longer (rw t at e))))

address-short : (f : ℕ) → address_length f ≤ root_limit
unfolding address_length
address-short f = by-test (eqb f 1) (λ e. rw e (omega arith)) (λ e. by-test (eqb f 2) (λ k. rw (e, k) (omega arith)) (λ k. rw (e, k) (omega arith)))

root-short : (e : List ℕ) → length (root_in e) ≤ root_limit
unfolding root_in root_length
root-short e = let small = address-short (family_in e) in simp length-take (omega arith)

module _ (o : List ℕ) (long : spaced_name ≤ length o) where
  abbrev value_on : List ℕ
  value_on = drop (1 + root_limit) o

  abbrev root : List ℕ
  root = spaced_in root_limit o

  abbrev value : List ℕ
  value = spaced_in saved_opaque value_on

  value-long : suc saved_opaque ≤ length value_on
  value-long = simp length-drop (omega arith)

  root-size : space_written root_limit o ≡ true → length root ≡ get_or o 0 0
  root-size h = space-size root_limit o (space-tests root_limit o (omega arith) ∙ h) (omega arith)

  spaces-again : spaces_test o ≡ true → name_saved old (name_in old o) ++ drop spaced_name o ≡ o
  unfolding name_saved name_in space_written
  spaces-again h =
      let p = both (is_root_length (get_or o 0 0)) _ h in
      let q = both (space_written root_limit o) _ p.1 in
      let parts = parts_again root value (ap is_root_length (root-size q.0) ∙ p.0) in
      let behind : drop spaced_name o ≡ drop (suc saved_opaque) value_on = sym (drop-drop (suc saved_opaque) (1 + root_limit) o) in
      rw (parts.0, parts.1, behind)
      (append_assoc (spaced root_limit root) (spaced saved_opaque value) (drop (suc saved_opaque) value_on)
      ∙ ap (λ (l : List ℕ). spaced root_limit root ++ l) (same-front (spaced saved_opaque value) value_on (suc saved_opaque) q.1)
      ∙ same-front (spaced root_limit root) o (suc root_limit) q.0)

  -- what is written passes: the root is read again as it was written, and so has the length of an address
  written-spaces : (r k rest : List ℕ) → name_in old o ≡ element (pick (eqb (length r) 4) 1 2) r k → r ≡ root → spaced root_limit (root_in (name_in old o)) ++ (spaced saved_opaque (opaque_in (name_in old o)) ++ rest) ≡ o → spaces_test o ≡ true
  written-spaces r k rest named its-root e =
      let a : List ℕ = name_in old o in
      let on : List ℕ = spaced saved_opaque (opaque_in a) ++ rest in
      let passes : space_test root_limit o ≡ true = ap (space_test root_limit) (sym e) ∙ spaced-passes root_limit (root_in a) on in
      let first : space_written root_limit o ≡ true = sym (space-tests root_limit o (omega arith)) ∙ passes in
      let behind : value_on ≡ on = ap (drop (1 + root_limit)) (sym e) ∙ drop_at (spaced root_limit (root_in a)) on (1 + root_limit) (spaced-length root_limit (root_in a)) in
      let second : space_written saved_opaque value_on ≡ true = sym (space-tests saved_opaque value_on value-long) ∙ ap (space_test saved_opaque) behind ∙ spaced-passes saved_opaque (opaque_in a) rest in
      let again : root ≡ root_in a = ap (spaced_in root_limit) (sym e) ∙ spaced-back root_limit (root_in a) (root-short a) on in
      let alike-long : length (root_in (element (pick (eqb (length r) 4) 1 2) r k)) ≡ length r = ap length (ap root_in (sym named) ∙ sym again ∙ sym its-root) in
      let address : is_root_length (get_or o 0 0) ≡ true = ap is_root_length (sym (root-size first) ∙ ap length (sym its-root)) ∙ root-length r k alike-long in
      rw (address, first, second) refl

  pub old-tests : spaces_test o ≡ name_written old o
  unfolding name_written
  old-tests =
      alike (spaces_test o) (same (name_saved old (name_in old o)) (take spaced_name o))
      (λ e. front_same _ o spaced_name long (spaces-again e))
      (λ e. written-spaces root value (drop spaced_name o) (unfold name_in in refl) refl (unfold name_saved in sym (append_assoc (spaced root_limit (root_in (name_in old o))) (spaced saved_opaque (opaque_in (name_in old o))) (drop spaced_name o)) ∙ same-front (name_saved old (name_in old o)) o spaced_name e))

-- ---- and in the new one

new-again : (o : List ℕ) → leb (get_or o 0 0) name_limit ≡ true → suc (get_or o 0 0) ≤ length o → name_saved new (name_in new o) ++ drop (suc (get_or o 0 0)) o ≡ o
unfolding name_saved name_in spaced_in
new-again o h long =
    let k : ℕ = get_or o 0 0 in
    let q : List ℕ = drop 1 o in
    let fits : k ≤ name_limit = leb-true _ _ h in
    let size : length (take k q) ≡ k = length-take-le k q (simp length-drop (omega arith)) in
    rw (take-take k name_limit q fits, take_all name_limit (take k q) (omega (arith, size, fits)), size, ← behind-one k o)
    (ap (λ (l : List ℕ). k ∷ l) (take-append-drop k q) ∙ sym (drop-cons o 0 0 (omega arith)))

name-short : (a rest : List ℕ) → leb (get_or (name_saved new a ++ rest) 0 0) name_limit ≡ true
unfolding name_saved
name-short a rest = le-leb (length (take name_limit a)) name_limit (simp length-take (omega arith))

pub new-tests : (o : List ℕ) → suc (get_or o 0 0) ≤ length o → leb (get_or o 0 0) name_limit ≡ name_written new o
unfolding name_written
new-tests o long =
    alike (leb (get_or o 0 0) name_limit) (same (name_saved new (name_in new o)) (take (suc (get_or o 0 0)) o))
    (λ e. front_same _ o (suc (get_or o 0 0)) long (new-again o e long))
    (λ e. ap (λ (s : List ℕ). leb (get_or s 0 0) name_limit) (sym (same-front (name_saved new (name_in new o)) o (suc (get_or o 0 0)) e)) ∙ name-short (name_in new o) (drop (suc (get_or o 0 0)) o))

-- ---- a name in either form

-- with what stands behind it
pub name-again : (f : Form) (o : List ℕ) → name_written f o ≡ true → name_saved f (name_in f o) ++ drop (extent f o) o ≡ o
unfolding name_written
name-again f o h = same-front (name_saved f (name_in f o)) o (extent f o) h

pub name-written : (f : Form) (o rest : List ℕ) → o ≡ name_saved f (name_in f o) ++ rest → name_written f o ≡ true
unfolding name_written
name-written f o rest e =
    let name : List ℕ = name_saved f (name_in f o) in
    ap (λ (s : List ℕ). same name (take (extent f s) s)) e
    ∙ ap (λ (k : ℕ). same name (take k (name ++ rest))) (name-extent f (name_in f o) rest)
    ∙ ap (same name) (take-append_seam name rest)
    ∙ same_refl name
