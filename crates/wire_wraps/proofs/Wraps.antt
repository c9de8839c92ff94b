-- The laws by which wrapping and unwrapping follow the definitions. Assumes nothing.
use Prim.Native.Nat.{ℕ, ◌+◌, ◌-◌, ◌≤◌, ◌<◌}
use native.Mathlib.Omega.{arith}
use mathlib.Core.Path.{◌≡◌, refl, sym, ap, ap₂, ◌∙◌}
use mathlib.Core.Bool.{true, false, and-false, ◌&&◌, ◌||◌}
use mathlib.Core.List.{List, [], ◌∷◌, ◌++◌, append_assoc}
use lib.ListN.{length, take, drop, length-append, length-drop, drop_of_length-le}
use lib.Seq.{drop-drop, take_all}
use lib.Dec.{eqb}
use borrow.Author.Tests.{eqb-true, ne_eqb, eq-eqb, lt-ltb, le-ltb, lt-leb, le-leb, not-false}
use Rattle.meaning.specs.Octets.{pick, two, ◌when◌else◌}
use Rattle.meaning.specs.Wire.{root_length, root_in, opaque_in, is_element, is_opaque, is_filled, opaque_limit, element_refusal, element}
use Rattle.meaning.specs.Events.{not_root}
use Rattle.meaning.specs.Calls.{over}
use Rattle.meaning.specs.Lists.{by-test, append-nil}
use Rattle.meaning_laws.specs.RoundTrip.{both, whole, root-size}
use Rattle.meaning_laws.specs.WireLaws.{element-6, element-7, element-18, element-0}
use Rattle.meaning_laws.specs.SaveLists.{either}
use Rattle.meaning_layers.specs.Layers.{plain_kind, eight_kind, eight_size, before_inner, eight_in, is_last, inner_of, Layer, layer_of, holding, family_of, wrapped, not_eight, wrap_refusal, wrap, unwrap_refusal, no_layer, unwrap}
use Rattle.meaning_layers.specs.LayerLaws.{Unwrappable}
use Rattle.meaning_layers.proofs.LayerLaws.{holding-length, wrapped-length, wraps-so, eight-length, unwrappable}
use Rattle.meaning_layers.specs.LayerCalls.{Writes, layer_in, lengths_of}
use Rattle.meaning_layers.specs.InnerStart.{inner_start}
use Rattle.meaning_layers.proofs.InnerStart.{start_none, start-not, start-inner}
use Rattle.octets.specs.Part.{mid}
use Rattle.octets.proofs.Parts.{mid-mid}
use Rattle.wire_wraps.specs.Room.{Fits, head_of}

-- ---- what 6, 7, 18 and 0 say of a name

module _ (e : List ℕ) where
  refusal-cases : {X : Type 0} → (is_element e ≡ false → element_refusal e ≡ 6 → X)
      → (is_element e ≡ true → is_opaque (opaque_in e) ≡ false → element_refusal e ≡ 7 → X)
      → (is_element e ≡ true → is_opaque (opaque_in e) ≡ true → is_filled (opaque_in e) ≡ false → element_refusal e ≡ 18 → X)
      → (is_element e ≡ true → is_opaque (opaque_in e) ≡ true → is_filled (opaque_in e) ≡ true → element_refusal e ≡ 0 → X) → X
  refusal-cases six seven eighteen none =
      by-test (is_element e)
      (λ el. by-test (is_opaque (opaque_in e))
      (λ op. by-test (is_filled (opaque_in e)) (λ fi. none el op fi (element-0 e el op fi)) (λ fi. eighteen el op fi (element-18 e el op fi)))
      (λ op. seven el op (element-7 e el op)))
      (λ el. six el (element-6 e el))

-- ---- wrapping: the refusals in the order of the code

module _ (root eight name : List ℕ) (room : ℕ) where
  abbrev pub Refused : ℕ → Type 0
  Refused k = (k ≡ wrap_refusal room root eight name) × (k ≡ 0 → Fits root eight name room)

  refused-by : (k : ℕ) → (k ≡ 0 → ⊥) → wrap_refusal room root eight name ≡ k → Refused k
  refused-by k n e = (sym e, (λ z. absurd (n z)))

  pub no-layer : ((eqb (length root) 4 || eqb (length root) 16) && (eqb (length eight) 0 || eqb (length eight) eight_size)) ≡ false → Refused 6
  no-layer h =
      refused-by 6 (λ z. omega arith)
      (by-test (eqb (length root) 4 || eqb (length root) 16)
      (λ r. by-test (eqb (length eight) 0 || eqb (length eight) eight_size)
      (λ b. let z : true ≡ false = rw (r, b) at h in let z' : ◌≡◌ {A = ℕ} 0 1 = cc in absurd (omega arith))
      (λ b. third (unfold not_eight in rw b refl)))
      (λ r. second (unfold not_root in rw r refl)))
    where
      second : not_root root ≡ true → wrap_refusal room root eight name ≡ 6
      second r = unfold wrap_refusal ◌when◌else◌ in by-test (is_element name) (λ t. rw (t, r) refl) (λ t. rw t refl)

      third : not_eight eight ≡ true → wrap_refusal room root eight name ≡ 6
      third b = unfold wrap_refusal ◌when◌else◌ in by-test (is_element name) (λ t. by-test (not_root root) (λ u. rw (t, u) refl) (λ u. rw (t, u, b) refl)) (λ t. rw t refl)

  module _ (good : ((eqb (length root) 4 || eqb (length root) 16) && (eqb (length eight) 0 || eqb (length eight) eight_size)) ≡ true) (n : ℕ) (q : n ≡ element_refusal name) where
    rooted : not_root root ≡ false
    unfolding not_root
    rooted = rw (both (eqb (length root) 4 || eqb (length root) 16) (eqb (length eight) 0 || eqb (length eight) eight_size) good).0 refl

    eights : not_eight eight ≡ false
    unfolding not_eight
    eights = rw (both (eqb (length root) 4 || eqb (length root) 16) (eqb (length eight) 0 || eqb (length eight) eight_size) good).1 refl

    pub wrap-6 : n ≡ 6 → Refused 6
    wrap-6 h =
        refused-by 6 (λ z. omega arith)
        (refusal-cases name
        (λ el _. unfold wrap_refusal ◌when◌else◌ in rw el refl)
        (λ _ _ z. absurd (omega arith)) (λ _ _ _ z. absurd (omega arith)) (λ _ _ _ z. absurd (omega arith)))

    pub wrap-7 : n ≡ 7 → Refused 7
    wrap-7 h =
        refused-by 7 (λ z. omega arith)
        (refusal-cases name
        (λ _ z. absurd (omega arith))
        (λ el op _. unfold wrap_refusal ◌when◌else◌ in rw (el, rooted, eights, op) refl)
        (λ _ _ _ z. absurd (omega arith)) (λ _ _ _ z. absurd (omega arith)))

    long-not : opaque_limit < length (holding eight name) → is_opaque (holding eight name) ≡ false
    unfolding is_opaque
    long-not h = simp (lt-leb (length (holding eight name)) opaque_limit h, and-false)

    short-so : length (holding eight name) ≤ opaque_limit → is_opaque (holding eight name) ≡ true
    unfolding is_opaque
    short-so h = rw (lt-ltb 0 (length (holding eight name)) (omega (arith, holding-length eight name)), le-leb (length (holding eight name)) opaque_limit h) refl

    pub wrap-long : (n ≡ 6 → ⊥) → (n ≡ 7 → ⊥) → length eight ≤ eight_size → opaque_limit - 3 - length eight < length name → Refused 7
    wrap-long six seven few h =
        let big = long-not (omega (arith, holding-length eight name)) in
        refused-by 7 (λ z. omega arith)
        (refusal-cases name
        (λ _ z. absurd (six (q ∙ z))) (λ _ _ z. absurd (seven (q ∙ z)))
        (λ el op _ _. unfold wrap_refusal ◌when◌else◌ in rw (el, rooted, eights, op, big) refl)
        (λ el op _ _. unfold wrap_refusal ◌when◌else◌ in rw (el, rooted, eights, op, big) refl))

    module _ (few : length eight ≤ eight_size) (size : length name ≤ opaque_limit - 3 - length eight) where
      right : is_opaque (holding eight name) ≡ true
      right = short-so (omega (arith, holding-length eight name))

      -- what else an element's number may be
      pub wrap-next : (n ≡ 6 → ⊥) → (n ≡ 0 → ⊥) → Refused n
      wrap-next six z =
          refused-by n z
          (refusal-cases name
          (λ _ e. absurd (six (q ∙ e)))
          (λ el op e. unfold wrap_refusal ◌when◌else◌ in rw (el, rooted, eights, op) (sym (q ∙ e)))
          (λ el op fi e. unfold wrap_refusal ◌when◌else◌ in rw (el, rooted, eights, op, right, fi) (sym (q ∙ e)))
          (λ _ _ _ e. absurd (z (q ∙ e))))

      module _ (six : n ≡ 6 → ⊥) (seven : n ≡ 7 → ⊥) (eighteen : n ≡ 18 → ⊥) where
        pub wrap-16 : room < 9 + length root + (length eight + length name) → Refused 16
        wrap-16 h =
            refused-by 16 (λ z. omega arith)
            (refusal-cases name
            (λ _ z. absurd (six (q ∙ z))) (λ _ _ z. absurd (seven (q ∙ z))) (λ _ _ _ z. absurd (eighteen (q ∙ z)))
            (λ el op fi _. unfold wrap_refusal ◌when◌else◌ in rw (el, rooted, eights, op, right, fi, lt-ltb room (length (wrapped root eight name)) (omega (arith, wrapped-length root eight name))) refl))

        pub wrap-0 : length root ≤ 16 → 9 + length root + (length eight + length name) ≤ room → Refused 0
        wrap-0 low h = (
          sym (refusal-cases name
              (λ _ z. absurd (six (q ∙ z))) (λ _ _ z. absurd (seven (q ∙ z))) (λ _ _ _ z. absurd (eighteen (q ∙ z)))
              (λ el op fi _. unfold wrap_refusal ◌when◌else◌ in rw (el, rooted, eights, op, right, fi, le-ltb room (length (wrapped root eight name)) (omega (arith, wrapped-length root eight name))) refl)),
          (λ _. record { all = h; held = omega arith; rooted = low }),
        )

-- the lengths of what can be a layer
pub layer-lengths : (root eight : List ℕ) → ((eqb (length root) 4 || eqb (length root) 16) && (eqb (length eight) 0 || eqb (length eight) eight_size)) ≡ true → (length root ≤ 16) × (length eight ≤ eight_size)
layer-lengths root eight good =
    let b = both (eqb (length root) 4 || eqb (length root) 16) (eqb (length eight) 0 || eqb (length eight) eight_size) good in (
      either (eqb (length root) 4) (eqb (length root) 16) b.0 (λ e. omega (arith, eqb-true (length root) 4 e)) (λ e. omega (arith, eqb-true (length root) 16 e)),
      either (eqb (length eight) 0) (eqb (length eight) eight_size) b.1 (λ e. omega (arith, eqb-true (length eight) 0 e)) (λ e. omega (arith, eqb-true (length eight) eight_size e)),
    )

-- ---- wrapping: the octets, part by part

-- the head: four octets, the root, and five
pub head-parts : (out us rs vs root : List ℕ) (f kind held : ℕ) → length out ≡ 9 + length root → us ≡ 6 ∷ (two f ++ (length root ∷ [])) → f ≡ family_of root → rs ≡ root → vs ≡ two (3 + held) ++ (kind ∷ two held)
    → mid (4 + length root) (4 + length root + 5 - (4 + length root)) (mid 4 (4 + length root - 4) (mid 0 4 out us) rs) vs ≡ head_of root kind held
unfolding head_of two
head-parts out us rs vs root f kind held size eu ef er ev =
    let p : 4 + length root - 4 ≡ length root = omega arith in
    let q : 4 + length root + 5 - (4 + length root) ≡ 5 = omega arith in
    let all : drop (9 + length root) out ≡ [] = drop_of_length-le out {i = 9 + length root} (omega arith) in
    rw (eu, er, ev, ef, p, q)
    (rw (mid-mid 0 4 (length root) 4 (4 + length root) out (6 ∷ (two (family_of root) ++ (length root ∷ []))) root (omega arith) (unfold two in refl) refl refl)
    (mid-mid 0 (4 + length root) 5 (4 + length root) (9 + length root) out ((6 ∷ (two (family_of root) ++ (length root ∷ []))) ++ root) (two (3 + held) ++ (kind ∷ two held)) (omega arith) (unfold two in omega arith) (omega arith) (omega arith)
    ∙ rw all (append-nil _ ∙ unfold two in refl)))

module _ (root eight name : List ℕ) where
  abbrev kind : ℕ
  kind = pick (eqb (length eight) 0) plain_kind eight_kind

  abbrev held : ℕ
  held = length eight + length name

  holding-parts : holding eight name ≡ kind ∷ (two held ++ (eight ++ name))
  unfolding holding
  holding-parts = ap (λ (n : ℕ). kind ∷ (two n ++ (eight ++ name))) (length-append eight name)

  joined : (two (3 + held) ++ (kind ∷ two held)) ++ (eight ++ name) ≡ two (3 + held) ++ (kind ∷ (two held ++ (eight ++ name)))
  unfolding two
  joined = refl

  wrapped-parts : wrapped root eight name ≡ head_of root kind held ++ (eight ++ name)
  unfolding wrapped element head_of
  wrapped-parts =
      ap₂ (λ (n : ℕ) (o : List ℕ). 6 ∷ (two (family_of root) ++ (length root ∷ (root ++ (two n ++ o))))) (holding-length eight name) holding-parts
      ∙ ap (λ (l : List ℕ). 6 ∷ (two (family_of root) ++ (length root ∷ l))) (ap (λ (l : List ℕ). root ++ l) (sym joined) ∙ sym (append_assoc root (two (3 + held) ++ (kind ∷ two held)) (eight ++ name)))
      ∙ unfold two in refl

head-length : (root : List ℕ) (kind held : ℕ) → length (head_of root kind held) ≡ 9 + length root
unfolding head_of two
head-length root kind held = omega (arith, length-append root (two (3 + held) ++ (kind ∷ two held)))

-- the whole: its head, the eight octets or none, and the name
pub wrapped-written : (out hs es ns root eight name : List ℕ) (kind : ℕ) → kind ≡ pick (eqb (length eight) 0) plain_kind eight_kind → 9 + length root + (length eight + length name) ≤ length out
    → hs ≡ head_of root kind (length eight + length name) → es ≡ eight → ns ≡ name
    → mid (9 + length root + length eight) (9 + length root + length eight + length name - (9 + length root + length eight)) (mid (9 + length root) (9 + length root + length eight - (9 + length root)) (mid 0 (9 + length root - 0) out hs) es) ns
    ≡ over (wrapped root eight name) out
wrapped-written out hs es ns root eight name kind ek fits eh ee en =
    let a : ℕ = 9 + length root in
    let k : ℕ = pick (eqb (length eight) 0) plain_kind eight_kind in
    let head : List ℕ = head_of root k (length eight + length name) in
    let p : a + length eight - a ≡ length eight = omega arith in
    let q : a + length eight + length name - (a + length eight) ≡ length name = omega arith in
    let o : a - 0 ≡ a = omega arith in
    let size : length head ≡ a = head-length root k (length eight + length name) in
    let total : length (wrapped root eight name) ≡ a + length eight + length name = wrapped-length root eight name ∙ omega arith in
    rw (eh, ee, en, ek, o, p, q)
    (rw (mid-mid 0 a (length eight) a (a + length eight) out head eight (omega arith) size (omega arith) refl)
    (mid-mid 0 (a + length eight) (length name) (a + length eight) (a + length eight + length name) out (head ++ eight) name (omega arith) (length-append head eight ∙ omega arith) (omega arith) refl
    ∙ ap₂ (λ (l : List ℕ) (i : ℕ). l ++ drop i out) (append_assoc head eight name ∙ sym (wrapped-parts root eight name)) (sym total) ∙ unfold over in refl))

-- ---- wrapping: the call's end

module _ (root eight name out : List ℕ) (r : ℕ) (q : r ≡ wrap_refusal (length out) root eight name) where
  pub wrap-refused : (r ≡ 0 → ⊥) → Writes (wrap (length out) root eight name).answer (wrap (length out) root eight name).octets r 0 out out
  unfolding wrap over
  wrap-refused d = rw (ne_eqb (wrap_refusal (length out) root eight name) 0 (λ z. d (q ∙ z))) (record { answers = q; counts = refl; writes = refl })

  pub wrap-done : r ≡ 0 → (after : List ℕ) → after ≡ over (wrapped root eight name) out
      → Writes (wrap (length out) root eight name).answer (wrap (length out) root eight name).octets r (9 + length root + (length eight + length name)) out after
  unfolding wrap
  wrap-done z after w = rw (eq-eqb (wrap_refusal (length out) root eight name) 0 (sym q ∙ z)) (record { answers = q; counts = sym (wrapped-length root eight name); writes = w })

-- ---- unwrapping

module _ (e : List ℕ) (room n : ℕ) (q : n ≡ element_refusal e) where
  pub unwrap-bad : (n ≡ 0 → ⊥) → n ≡ unwrap_refusal room e
  unwrap-bad d =
      q ∙ refusal-cases e
      (λ el z. z ∙ sym (unfold unwrap_refusal ◌when◌else◌ in rw el refl))
      (λ el op z. z ∙ sym (unfold unwrap_refusal ◌when◌else◌ in rw (el, op) refl))
      (λ el op fi z. z ∙ sym (unfold unwrap_refusal ◌when◌else◌ in rw (el, op, fi) refl))
      (λ _ _ _ z. absurd (d (q ∙ z)))

  module _ (ok : n ≡ 0) (k : ℕ) (s : k ≡ inner_start e) where
    name-ok : {X : Type 0} → (is_element e ≡ true → is_opaque (opaque_in e) ≡ true → is_filled (opaque_in e) ≡ true → X) → X
    name-ok f = refusal-cases e (λ _ z. absurd (omega arith)) (λ _ _ z. absurd (omega arith)) (λ _ _ _ z. absurd (omega arith)) (λ el op fi _. f el op fi)

    pub unwrap-22 : k ≡ 0 → 22 ≡ unwrap_refusal room e
    unwrap-22 z = name-ok (λ el op fi. sym (unfold unwrap_refusal ◌when◌else◌ in rw (el, op, fi, start_none e (sym s ∙ z)) refl))

    module _ (d : k ≡ 0 → ⊥) where
      more : is_last e ≡ false
      more = start-not e (λ z. d (s ∙ z))

      inner-size : length (inner_of e) ≡ length e - k
      inner-size = ap length (sym (start-inner e more)) ∙ length-drop (inner_start e) e ∙ ap (λ (i : ℕ). length e - i) (sym s)

      pub unwrap-16 : room < length e - k → 16 ≡ unwrap_refusal room e
      unwrap-16 h = name-ok (λ el op fi. sym (unfold unwrap_refusal ◌when◌else◌ in rw (el, op, fi, more, lt-ltb room (length (inner_of e)) (omega (arith, inner-size))) refl))

      pub unwrap-0 : length e - k ≤ room → 0 ≡ unwrap_refusal room e
      unwrap-0 h = name-ok (λ el op fi. sym (unfold unwrap_refusal ◌when◌else◌ in rw (el, op, fi, more, le-ltb room (length (inner_of e)) (omega (arith, inner-size))) refl))

abbrev layer-of : List ℕ → List ℕ → Layer
layer-of r d = record { root = r; eight = d }

eight-part : (e : List ℕ) → take (before_inner (opaque_in e)) (drop (9 + root_length e) e) ≡ eight_in (opaque_in e)
unfolding eight_in opaque_in
eight-part e =
    let p : 9 + root_length e ≡ 6 + root_length e + 3 = omega arith in
    ap (take (before_inner (drop (6 + root_length e) e))) (ap (λ (i : ℕ). drop i e) p ∙ sym (drop-drop 3 (6 + root_length e) e))

-- the call's end
module _ (e out : List ℕ) where
  abbrev pub Unwraps : ℕ → ℕ → List ℕ → List ℕ → Type 0
  Unwraps r count after lengths = Writes (unwrap (length out) e).answer (unwrap (length out) e).octets r count out after × (layer_in e lengths ≡ (unwrap (length out) e).layer) × (lengths ≡ lengths_of (unwrap (length out) e).layer)

  module _ (r : ℕ) (q : r ≡ unwrap_refusal (length out) e) where
    pub unwrap-refused : (r ≡ 0 → ⊥) → Unwraps r 0 out (0 ∷ 0 ∷ [])
    unfolding unwrap over layer_in no_layer lengths_of
    unwrap-refused d = rw (ne_eqb (unwrap_refusal (length out) e) 0 (λ z. d (q ∙ z))) (record { answers = q; counts = refl; writes = refl }, refl, refl)

    module _ (z : r ≡ 0) where
      its : Unwrappable (length out) e
      its = unwrappable (length out) e (sym q ∙ z)

      -- there is room
      pub unwrap-room : (k : ℕ) → k ≡ inner_start e → length e - k ≤ length out
      unwrap-room k s = omega (arith, its.fits, ap length (sym (start-inner e its.more)) ∙ length-drop (inner_start e) e, s)

      pub unwrap-done : (k rl : ℕ) (xs es : List ℕ) → k ≡ inner_start e → k ≤ length e → xs ≡ take (length e - k) (drop k e) → rl ≡ root_length e → es ≡ eight_in (opaque_in e)
          → Unwraps r (length e - k) (mid 0 (length e - k - 0) out xs) (rl ∷ length es ∷ [])
      unwrap-done k rl xs es s le ex er ee = ended inner size layer lengths
        where
          inner : xs ≡ inner_of e
          inner = ex ∙ take_all (length e - k) (drop k e) (omega (arith, length-drop k e)) ∙ ap (λ (i : ℕ). drop i e) s ∙ start-inner e its.more

          whole_part : length e - k - 0 ≡ length e - k
          whole_part = omega arith

          size : length e - k ≡ length (inner_of e)
          size = sym (ap length (sym (start-inner e its.more)) ∙ length-drop (inner_start e) e ∙ ap (λ (i : ℕ). length e - i) (sym s))

          before : length es ≡ before_inner (opaque_in e)
          before = ap length ee ∙ eight-length (opaque_in e) (wraps-so (opaque_in e) (unfold is_last in not-false _ its.more)) (whole e its.its).fits

          layer : layer_in e (rl ∷ length es ∷ []) ≡ layer_of e
          layer = rw (er, before) (unfold layer_in layer_of in ap (layer-of (take (root_length e) (drop 4 e))) (eight-part e) ∙ ap (λ (l : List ℕ). layer-of l (eight_in (opaque_in e))) (unfold root_in in refl))

          lengths : rl ∷ length es ∷ [] ≡ lengths_of (layer_of e)
          lengths =
              let w = whole e its.its in
              rw (er ∙ sym (root-size e (omega (arith, w.fills))), ee) (unfold lengths_of layer_of in refl)

          ended : xs ≡ inner_of e → length e - k ≡ length (inner_of e) → layer_in e (rl ∷ length es ∷ []) ≡ layer_of e → rl ∷ length es ∷ [] ≡ lengths_of (layer_of e)
              → Unwraps r (length e - k) (mid 0 (length e - k - 0) out xs) (rl ∷ length es ∷ [])
          ended i n l m = unfold unwrap in rw (eq-eqb (unwrap_refusal (length out) e) 0 (sym q ∙ z)) (record { answers = q; counts = n; writes = rw (i, whole_part, n) (unfold over in refl) }, l, m)
