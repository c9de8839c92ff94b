-- WRAPPING AND UNWRAPPING ARE EXACT AND INVERSE, and the layers of a wrapped name are its own before those of the name inside.
-- Assumes nothing.
use Prim.Native.Nat.{ℕ, ◌+◌, ◌*◌, ◌-◌, ◌/◌, ◌%◌, ◌≤◌, ◌<◌}
use Rattle.std.proofs.Common.{le_refl, le_trans, ◌∙◌, length-append, drop-drop}
use native.Mathlib.Omega.{arith}
use Rattle.std.specs.Prelude.{◌≡◌, Bool, true, false, not, ◌&&◌, ◌||◌, eqb, leb, ltb}
use Rattle.std.proofs.Math.Path.{refl, sym, ap, ap₂}
use mathlib.Core.List.{List, [], ◌∷◌, ◌++◌}
use Rattle.std.proofs.Math.ListN.{take, drop, get_or, length, length-drop, length-take, take-append-drop}
use Rattle.std.proofs.Math.Seq.{drop-length, take-append_seam, drop-append_seam}
use borrow.Author.Tests.{eqb-true, eq-eqb, ne_eqb, ltb-false, le-ltb, leb-true, le-leb, not-false}
use Rattle.meaning.specs.Octets.{pick, two, two_at, ◌when◌else◌}
use Rattle.meaning.specs.Wire.{address_length, family_in, root_length, root_in, opaque_in, is_element, opaque_limit, is_opaque, head_length, first_end, is_filled, element_refusal, element}
use Rattle.meaning.specs.Events.{not_root}
use Rattle.meaning.specs.Lists.{by-test, no-when, no_way, neither}
use Rattle.meaning_laws.specs.RoundTrip.{both, element-ok, whole, two_back, root-size, element-parts}
use Rattle.meaning_laws.specs.WireLaws.{end_more, filled-end, filled-step, element-0}
use Rattle.meaning_laws.specs.SaveLists.{either}
use Rattle.meaning_layers.specs.Layers.{plain_kind, eight_kind, before_inner, eight_in, inner_in, wraps, is_last, inner_of, Layer, layer_of, holding, family_of, wrapped, not_eight, wrap_refusal, wrap, unwrap_refusal, no_layer, unwrap}
use Rattle.meaning_layers.specs.ElementLaws.{made-root, made-opaque, made-element, root-cases}
use Rattle.meaning_layers.specs.LayerLaws.{least_name, Wrappable, Wraps, Unwrappable}

three : {x y z : Bool} → x ≡ true → y ≡ true → z ≡ true → (x && y && z) ≡ true
three {x} {y} {z} p q r = rw (p, q, r) refl

-- ---- a name that 6, 7 and 18 pass

-- one element alone fills an opaque value
filled-one : (o : List ℕ) → first_end o ≡ length o → 0 < length o → is_filled o ≡ true
filled-one o e h = filled-step o h ∙ rw (e, le-leb (length o) (length o) (le_refl _), drop-length o) filled-end

-- what 18 passes has an element's head
filled-long : (o : List ℕ) → 0 < length o → is_filled o ≡ true → 3 ≤ length o
filled-long o h f =
    by-test (leb (first_end o) (length o))
    (λ e. le_trans (end_more o) (leb-true _ _ e))
    (λ e. no_way (sym f ∙ filled-step o h ∙ rw e refl))

pub name-long : (e : List ℕ) → element_refusal e ≡ 0 → least_name ≤ length e
name-long e ok =
    let w = whole e ok in
    let o = filled-long (opaque_in e) w.some w.filled in
    root-cases e ok (λ _ r. omega (arith, w.fills, w.opaque)) (λ _ r. omega (arith, w.fills, w.opaque))

sized : (o : List ℕ) → is_opaque o ≡ true → length o ≤ opaque_limit
unfolding is_opaque
sized o h = leb-true _ _ (both (ltb 0 (length o)) (leb (length o) opaque_limit) h).1

-- ---- the opaque value that holds a name

module _ (eight name : List ℕ) (right : not_eight eight ≡ false) (short : length (eight ++ name) < 65536) where
  abbrev o : List ℕ
  o = holding eight name

  length-cases : {X : Type 0} → (length eight ≡ 0 → X) → (length eight ≡ 8 → X) → X
  unfolding not_eight
  length-cases f g = either (eqb (length eight) 0) (eqb (length eight) 8) (not-false _ right) (λ e. f (eqb-true _ _ e)) (λ e. g (eqb-true _ _ e))

  its-before : before_inner o ≡ length eight
  unfolding before_inner holding
  its-before =
      length-cases
      (λ z. rw (eq-eqb (length eight) 0 z) (sym z))
      (λ z. rw (ne_eqb (length eight) 0 (λ k. omega arith)) (sym z))

  its-kind : (eqb (get_or o 0 0) plain_kind || eqb (get_or o 0 0) eight_kind) ≡ true
  unfolding holding
  its-kind =
      length-cases
      (λ z. rw (eq-eqb (length eight) 0 z) refl)
      (λ z. rw (ne_eqb (length eight) 0 (λ k. omega arith)) refl)

  its-head : head_length o ≡ 3
  unfolding head_length holding
  its-head =
      length-cases
      (λ z. rw (eq-eqb (length eight) 0 z) refl)
      (λ z. rw (ne_eqb (length eight) 0 (λ k. omega arith)) refl)

  its-field : two_at o 1 ≡ length (eight ++ name)
  unfolding two_at holding two
  its-field = two_back (length (eight ++ name)) short

  its-length : length o ≡ 3 + length (eight ++ name)
  unfolding holding two
  its-length = omega arith

  its-size : first_end o ≡ length o
  unfolding first_end
  its-size = rw its-head (rw its-field (sym its-length))

  rest-is : drop 3 o ≡ eight ++ name
  unfolding holding two
  rest-is = refl

  pub holding-filled : is_filled o ≡ true
  holding-filled = filled-one o its-size (rw its-length (omega arith))

  pub holding-inner : inner_in o ≡ name
  unfolding inner_in
  holding-inner = ap (λ (n : ℕ). drop (3 + n) o) its-before ∙ sym (drop-drop (length eight) 3 o) ∙ ap (drop (length eight)) rest-is ∙ drop-append_seam eight name

  pub holding-eight : eight_in o ≡ eight
  unfolding eight_in
  holding-eight = ap₂ (λ (n : ℕ) (l : List ℕ). take n l) its-before rest-is ∙ take-append_seam eight name

  pub holding-wraps : element_refusal name ≡ 0 → wraps o ≡ true
  unfolding wraps
  holding-wraps ok =
      let alone : length o ≡ 3 + two_at o 1 = its-length ∙ ap (λ (n : ℕ). 3 + n) (sym its-field) in
      three its-kind (eq-eqb (length o) (3 + two_at o 1) alone) (eq-eqb (element_refusal (inner_in o)) 0 (ap element_refusal holding-inner ∙ ok))

pub wrappable : (room : ℕ) (root eight name : List ℕ) → wrap_refusal room root eight name ≡ 0 → Wrappable room root eight name
unfolding wrap_refusal
wrappable room root eight name h =
    let a = no-when 5 _ _ h in
    let b = no-when 6 _ _ a.1 in
    let d = no-when 17 _ _ b.1 in
    let f = no-when 15 _ _ d.1 in
    let x = neither (not (is_element name) || not_root root) (not_eight eight) a.0 in
    let y = neither (not (is_element name)) (not_root root) x.0 in
    let z = neither (not (is_opaque (opaque_in name))) (not (is_opaque (holding eight name))) b.0 in
    record {
      its = element-0 name (not-false _ y.0) (not-false _ z.0) (not-false _ d.0);
      rooted = y.1;
      eights = x.1;
      sized = not-false _ z.1;
      fits = ltb-false _ _ f.0;
    }

pub can-wrap : (room : ℕ) (root eight name : List ℕ) → Wrappable room root eight name → wrap_refusal room root eight name ≡ 0
unfolding wrap_refusal ◌when◌else◌
can-wrap room root eight name w =
    let ok = element-ok name w.its in
    rw (ok.0, w.rooted, w.eights, ok.1, w.sized, ok.2, le-ltb room (length (wrapped root eight name)) w.fits) refl

-- a root's family has its length
length-of : {X : Type 0} (root : List ℕ) → not_root root ≡ false → (length root ≡ 4 → X) → (length root ≡ 16 → X) → X
unfolding not_root
length-of root h f g = either (eqb (length root) 4) (eqb (length root) 16) (not-false _ h) (λ e. f (eqb-true _ _ e)) (λ e. g (eqb-true _ _ e))

family-fits : (root : List ℕ) → not_root root ≡ false → (family_of root < 65536) × (address_length (family_of root) ≡ length root) × (0 < length root)
unfolding family_of address_length
family-fits root h =
    length-of root h
    (λ z. rw (eq-eqb (length root) 4 z) (omega arith, sym z, omega arith))
    (λ z. rw (ne_eqb (length root) 4 (λ k. omega arith)) (omega arith, sym z, omega arith))

module _ (room : ℕ) (root eight name : List ℕ) (w : Wrappable room root eight name) where
  abbrev whole-name : List ℕ
  whole-name = wrapped root eight name

  long-o : length (holding eight name) ≤ opaque_limit
  long-o = sized (holding eight name) w.sized

  short-v : length (eight ++ name) < 65536
  short-v = let h : 3 + length (eight ++ name) ≤ opaque_limit = counted in omega arith
    where
      counted : 3 + length (eight ++ name) ≤ opaque_limit
      counted = unfold holding two in omega (arith, sized (holding eight name) w.sized)

  pub wrapped-root : root_in whole-name ≡ root
  unfolding wrapped
  wrapped-root = let f = family-fits root w.rooted in made-root (family_of root) f.0 root (holding eight name) f.1 (omega (arith, long-o))

  pub wrapped-opaque : opaque_in whole-name ≡ holding eight name
  unfolding wrapped
  wrapped-opaque = let f = family-fits root w.rooted in made-opaque (family_of root) f.0 root (holding eight name) f.1 (omega (arith, long-o))

  wrapped-element : is_element whole-name ≡ true
  unfolding wrapped
  wrapped-element = let f = family-fits root w.rooted in made-element (family_of root) f.0 root (holding eight name) f.1 (omega (arith, long-o)) f.2

  pub wrapped-named : element_refusal whole-name ≡ 0
  wrapped-named = element-0 whole-name wrapped-element (rw wrapped-opaque w.sized) (rw wrapped-opaque (holding-filled eight name w.eights short-v))

  pub wrapped-not-last : is_last whole-name ≡ false
  unfolding is_last
  wrapped-not-last = rw (wrapped-opaque, holding-wraps eight name w.eights short-v w.its) refl

  pub wrapped-inner : inner_of whole-name ≡ name
  unfolding inner_of
  wrapped-inner = rw wrapped-opaque (holding-inner eight name w.eights short-v)

  pub wrapped-layer : layer_of whole-name ≡ record { root = root; eight = eight }
  unfolding layer_of
  wrapped-layer = ap₂ (λ (r o : List ℕ). record { root = r; eight = o }) wrapped-root (ap eight_in wrapped-opaque ∙ holding-eight eight name w.eights short-v)

pub wraps-so : (o : List ℕ) → wraps o ≡ true → Wraps o
unfolding wraps
wraps-so o h =
    let a = both _ (eqb (element_refusal (inner_in o)) 0) h in
    let b = both (eqb (get_or o 0 0) plain_kind || eqb (get_or o 0 0) eight_kind) (eqb (length o) (3 + two_at o 1)) a.0 in
    record { kind = b.0; alone = eqb-true _ _ b.1; inner = eqb-true _ _ a.1 }

three-first : (o : List ℕ) → 3 ≤ length o → o ≡ get_or o 0 0 ∷ get_or o 1 0 ∷ get_or o 2 0 ∷ drop 3 o
three-first [] h = absurd (omega arith)
three-first (a ∷ []) h = absurd (omega arith)
three-first (a ∷ b ∷ []) h = absurd (omega arith)
three-first (a ∷ b ∷ c ∷ o) h = refl

module _ (o : List ℕ) (w : Wraps o) (short : length o ≤ opaque_limit) where
  at_least : 3 ≤ length o
  at_least = omega (arith, w.alone)

  inner-length : length (inner_in o) ≡ length o - (3 + before_inner o)
  unfolding inner_in
  inner-length = length-drop (3 + before_inner o) o

  -- the two kinds: with nothing before the name, or eight octets
  kind-cases : {X : Type 0} → (get_or o 0 0 ≡ 7 → before_inner o ≡ 0 → X) → (get_or o 0 0 ≡ 8 → before_inner o ≡ 8 → X) → X
  unfolding before_inner
  kind-cases f g =
      either (eqb (get_or o 0 0) 7) (eqb (get_or o 0 0) 8) w.kind
      (λ e. let k : get_or o 0 0 ≡ 7 = eqb-true _ _ e in f k (rw (ne_eqb (get_or o 0 0) 8 (λ z. omega arith)) refl))
      (λ e. g (eqb-true _ _ e) (rw e refl))

  pub eight-length : length (eight_in o) ≡ before_inner o
  unfolding eight_in
  eight-length =
      kind-cases
      (λ _ z. rw z refl)
      (λ _ z. length-take (before_inner o) (drop 3 o) ∙ omega (arith, length-drop 3 o, inner-length, name-long (inner_in o) w.inner))

  pub eight-right : not_eight (eight_in o) ≡ false
  unfolding not_eight
  eight-right =
      kind-cases
      (λ _ z. rw (eq-eqb (length (eight_in o)) 0 (eight-length ∙ z)) refl)
      (λ _ z. let l : length (eight_in o) ≡ 8 = eight-length ∙ z in rw (ne_eqb (length (eight_in o)) 0 (λ k. omega arith), eq-eqb (length (eight_in o)) 8 l) refl)

  joined : eight_in o ++ inner_in o ≡ drop 3 o
  unfolding eight_in inner_in
  joined = ap (λ (l : List ℕ). take (before_inner o) (drop 3 o) ++ l) (sym (drop-drop (before_inner o) 3 o)) ∙ take-append-drop (before_inner o) (drop 3 o)

  joined_length : length (eight_in o ++ inner_in o) ≡ two_at o 1
  joined_length = ap length joined ∙ length-drop 3 o ∙ omega (arith, w.alone)

  its-type : pick (eqb (length (eight_in o)) 0) plain_kind eight_kind ≡ get_or o 0 0
  its-type =
      kind-cases
      (λ k z. rw (eq-eqb (length (eight_in o)) 0 (eight-length ∙ z)) (sym k))
      (λ k z. let l : length (eight_in o) ≡ 8 = eight-length ∙ z in rw (ne_eqb (length (eight_in o)) 0 (λ j. omega arith)) (sym k))

  pub holding-back : holding (eight_in o) (inner_in o) ≡ o
  unfolding holding two
  holding-back =
      let n : ℕ = length (eight_in o ++ inner_in o) in
      let field : get_or o 1 0 * 256 + get_or o 2 0 ≡ n = sym (joined_length ∙ unfold two_at in refl) in
      let h : n < 256 = omega (arith, joined_length, w.alone) in
      let hi : get_or o 1 0 ≡ n / 256 % 256 = omega arith in
      let lo : get_or o 2 0 ≡ n % 256 = omega arith in
      ap₂ (λ (k : ℕ) (l : List ℕ). k ∷ n / 256 % 256 ∷ n % 256 ∷ l) its-type joined
      ∙ ap₂ (λ (a b : ℕ). get_or o 0 0 ∷ a ∷ b ∷ drop 3 o) (sym hi) (sym lo)
      ∙ sym (three-first o at_least)

  pub inner-short : length (inner_in o) + 3 ≤ length o
  inner-short = omega (arith, inner-length, at_least)

module _ (e : List ℕ) (n : element_refusal e ≡ 0) (more : is_last e ≡ false) where
  wraps-it : Wraps (opaque_in e)
  unfolding is_last
  wraps-it = wraps-so (opaque_in e) (not-false _ more)

  short-it : length (opaque_in e) ≤ opaque_limit
  short-it = (whole e n).fits

  pub inner-named : element_refusal (inner_of e) ≡ 0
  unfolding inner_of
  inner-named = wraps-it.inner

  root-length : length (root_in e) ≡ root_length e
  root-length = let w = whole e n in root-size e (omega (arith, w.fills))

  root-right : not_root (root_in e) ≡ false
  unfolding not_root
  root-right =
      root-cases e n
      (λ _ a. rw (eq-eqb (length (root_in e)) 4 (root-length ∙ a)) refl)
      (λ _ a. let l : length (root_in e) ≡ 16 = root-length ∙ a in rw (ne_eqb (length (root_in e)) 4 (λ k. omega arith), eq-eqb (length (root_in e)) 16 l) refl)

  family-back : family_of (root_in e) ≡ family_in e
  unfolding family_of
  family-back =
      root-cases e n
      (λ f a. rw (eq-eqb (length (root_in e)) 4 (root-length ∙ a)) (sym f))
      (λ f a. let l : length (root_in e) ≡ 16 = root-length ∙ a in rw (ne_eqb (length (root_in e)) 4 (λ k. omega arith)) (sym f))

  -- the name is its layer round the name inside
  pub wrapped-back : wrapped (root_in e) (eight_in (opaque_in e)) (inner_of e) ≡ e
  unfolding wrapped inner_of
  wrapped-back =
      ap₂ (λ (f : ℕ) (o : List ℕ). element f (root_in e) o) family-back (holding-back (opaque_in e) wraps-it short-it)
      ∙ sym (element-parts e n)

  pub wrappable-back : (room : ℕ) → length e ≤ room → Wrappable room (root_in e) (eight_in (opaque_in e)) (inner_of e)
  wrappable-back room big = record {
    its = inner-named;
    rooted = root-right;
    eights = eight-right (opaque_in e) wraps-it short-it;
    sized = unfold inner_of in rw (holding-back (opaque_in e) wraps-it short-it) (element-ok e n).1;
    fits = rw wrapped-back big;
  }

-- ---- the calls

pub wrap-taken : (room : ℕ) (root eight name : List ℕ) → (wrap room root eight name).answer ≡ 0 → (Wrappable room root eight name) × ((wrap room root eight name).octets ≡ wrapped root eight name)
unfolding wrap
wrap-taken room root eight name h = (wrappable room root eight name h, rw h refl)

pub unwrappable : (room : ℕ) (e : List ℕ) → unwrap_refusal room e ≡ 0 → Unwrappable room e
unfolding unwrap_refusal
unwrappable room e h =
    let a = no-when 5 _ _ h in
    let b = no-when 6 _ _ a.1 in
    let d = no-when 17 _ _ b.1 in
    let l = no-when 21 _ _ d.1 in
    let f = no-when 15 _ _ l.1 in
    record { its = element-0 e (not-false _ a.0) (not-false _ b.0) (not-false _ d.0); more = l.0; fits = ltb-false _ _ f.0 }

pub can-unwrap : (room : ℕ) (e : List ℕ) → Unwrappable room e → unwrap_refusal room e ≡ 0
unfolding unwrap_refusal ◌when◌else◌
can-unwrap room e u = let ok = element-ok e u.its in rw (ok.0, ok.1, ok.2, u.more, le-ltb room (length (inner_of e)) u.fits) refl

unwrap-is : (room : ℕ) (e : List ℕ) → unwrap_refusal room e ≡ 0 → unwrap room e ≡ record { answer = 0; octets = inner_of e; layer = layer_of e }
unfolding unwrap
unwrap-is room e h = rw h refl

wrap-is : (room : ℕ) (root eight name : List ℕ) → wrap_refusal room root eight name ≡ 0 → wrap room root eight name ≡ record { answer = 0; octets = wrapped root eight name }
unfolding wrap
wrap-is room root eight name h = rw h refl

-- UNWRAPPING WHAT WAS WRAPPED gives the name back, with the root and the eight octets.
pub unwrap-wrap : (room room' : ℕ) (root eight name : List ℕ) → (wrap room root eight name).answer ≡ 0 → length name ≤ room'
    → unwrap room' (wrap room root eight name).octets ≡ record { answer = 0; octets = name; layer = record { root = root; eight = eight } }
unwrap-wrap room room' root eight name h big =
    let t = wrap-taken room root eight name h in
    let w = t.0 in
    let a : List ℕ = wrapped root eight name in
    let inner : inner_of a ≡ name = wrapped-inner room root eight name w in
    let u : Unwrappable room' a = record { its = wrapped-named room root eight name w; more = wrapped-not-last room root eight name w; fits = rw inner big } in
    rw t.1 (unwrap-is room' a (can-unwrap room' a u) ∙ ap₂ (λ (i : List ℕ) (l : Layer). record { answer = 0; octets = i; layer = l }) inner (wrapped-layer room root eight name w))

-- WRAPPING WHAT WAS UNWRAPPED gives the wrapped name back.
pub wrap-unwrap : (room room' : ℕ) (e : List ℕ) → (unwrap room e).answer ≡ 0 → length e ≤ room'
    → wrap room' (unwrap room e).layer.root (unwrap room e).layer.eight (unwrap room e).octets ≡ record { answer = 0; octets = e }
wrap-unwrap room room' e h big =
    let r : unwrap_refusal room e ≡ 0 = unfold unwrap in h in
    let u = unwrappable room e r in
    let w = wrappable-back e u.its u.more room' big in
    rw (unwrap-is room e r) (unfold layer_of in wrap-is room' (root_in e) (eight_in (opaque_in e)) (inner_of e) (can-wrap room' (root_in e) (eight_in (opaque_in e)) (inner_of e) w) ∙ ap (λ (o : List ℕ). record { answer = 0; octets = o }) (wrapped-back e u.its u.more))

-- A LAST LAYER is refused 22, whatever the room: there is nothing to write.
pub last-refused : (room : ℕ) (e : List ℕ) → element_refusal e ≡ 0 → is_last e ≡ true → unwrap room e ≡ record { answer = 22; octets = []; layer = no_layer }
last-refused room e ok l = answered (is-22 (element-ok e ok))
  where
    is-22 : (is_element e ≡ true) × (is_opaque (opaque_in e) ≡ true) × (is_filled (opaque_in e) ≡ true) → unwrap_refusal room e ≡ 22
    is-22 n = unfold unwrap_refusal ◌when◌else◌ in rw (n.0, n.1, n.2, l) refl

    answered : unwrap_refusal room e ≡ 22 → unwrap room e ≡ record { answer = 22; octets = []; layer = no_layer }
    answered h = unfold unwrap in rw h refl

-- ---- sizes

pub holding-length : (eight name : List ℕ) → length (holding eight name) ≡ 3 + (length eight + length name)
unfolding holding two
holding-length eight name = omega (arith, length-append eight name)

pub wrapped-length : (root eight name : List ℕ) → length (wrapped root eight name) ≡ 9 + length root + (length eight + length name)
unfolding wrapped element two
wrapped-length root eight name = omega (arith, length-append root (two (length (holding eight name)) ++ holding eight name), holding-length eight name)
