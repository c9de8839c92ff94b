-- What is written of a PDU, part by part. Assumes nothing.
use Prim.Native.Nat.{ℕ, ◌+◌, ◌-◌, ◌≤◌, ◌<◌}
use native.Mathlib.Omega.{arith}
use mathlib.Core.Path.{◌≡◌, refl, sym, ap, ◌∙◌}
use mathlib.Core.List.{List, ◌++◌, append_assoc}
use lib.ListN.{take, drop, length, length-append, length-drop, take-append-drop, drop_of_length-le}
use lib.Seq.{take_at, drop_at, take-append-le, drop-append-le, drop-drop, length-take-le}
use borrow.Author.Tests.{le-leb, lt-leb}
use Rattle.meaning.specs.Octets.{two}
use Rattle.meaning.specs.Lists.{append-nil}
use Rattle.octets.specs.Part.{mid}
use Rattle.octets.proofs.Parts.{mid-length, mid-mid}
use Rattle.session.specs.Stream.{pdu_head, identifier_size, body_limit}
use Rattle.session.specs.Pack.{pdu}
use Rattle.session_pdu.specs.Packing.{body_after, added_by, length_place, with_message, Put}
use Rattle.session_pdu.proofs.Filling.{pdu-length}

-- ---- how full

pub body_more : (body k : ℕ) → body + k ≤ body_limit → (body + k ≡ body_after body k) × (body + k ≤ body_limit)
unfolding body_after
body_more body k h = rw (le-leb (body + k) body_limit h) (refl, h)

pub body_new : (body k : ℕ) → body_limit < body + k → k ≤ body_limit → (k ≡ body_after body k) × (k ≤ body_limit)
unfolding body_after
body_new body k h l = rw (lt-leb (body + k) body_limit h) (refl, l)

pub added_more : (body k : ℕ) → body + k ≤ body_limit → k ≡ added_by body k
unfolding added_by
added_more body k h = rw (le-leb (body + k) body_limit h) refl

pub added_new : (body k : ℕ) → body_limit < body + k → pdu_head + k ≡ added_by body k
unfolding added_by
added_new body k h = rw (lt-leb (body + k) body_limit h) refl

-- ---- one PDU

pub open-parts : (xs us vs ws id m : List ℕ) → length id ≡ identifier_size → length xs ≡ pdu_head + length m → us ≡ two 1 ++ two (identifier_size + length m) → vs ≡ id → ws ≡ m
    → mid pdu_head (pdu_head + length m - pdu_head) (mid 4 6 (mid 0 4 xs us) vs) ws ≡ pdu id m
open-parts xs us vs ws id m six long hu hv hw =
    let r : pdu_head + length m - pdu_head ≡ length m = omega arith in
    let h : List ℕ = two 1 ++ two (identifier_size + length m) in
    let four : length h ≡ 4 = (unfold two in refl) in
    let ten : length (h ++ id) ≡ 10 = length-append h id ∙ omega (arith, four, six) in
    let fits : 0 + 4 ≤ length xs = omega (arith, long) in
    let fits' : 0 + 10 ≤ length xs = omega (arith, long) in
    rw (hu, hv, hw, r)
    (rw (mid-mid 0 4 6 4 10 xs h id fits four (omega arith) (omega arith))
    (mid-mid 0 10 (length m) 10 (10 + length m) xs (h ++ id) m fits' ten (omega arith) (omega arith)
    ∙ rw (drop_of_length-le xs {i = 10 + length m} (omega (arith, long)), append-nil ((h ++ id) ++ m)) (append_assoc h id m ∙ (unfold pdu two in refl))))

pub fill-parts : (at body : ℕ) (xs us ws m : List ℕ) → us ≡ two (identifier_size + (body + length m)) → ws ≡ m
    → mid at (at + length m - at) (mid (at - (body + 8)) (at - (body + 8) + 2 - (at - (body + 8))) xs us) ws ≡ mid at (length m) (mid (length_place at body) 2 xs (two (identifier_size + (body + length m)))) m
unfolding length_place
fill-parts at body xs us ws m hu hw =
    let r : at + length m - at ≡ length m = omega arith in
    let q : at - (body + 8) + 2 - (at - (body + 8)) ≡ 2 = omega arith in
    rw (hu, hw, r, q) refl

-- ---- a message behind what is written

module _ (id : List ℕ) (at body : ℕ) (out m : List ℕ) where
  front : List ℕ
  front = take at out

  front_long : at ≤ length out → length front ≡ at
  unfolding front
  front_long h = length-take-le at out h

  -- a part of the front anew
  mid-front : (q : ℕ) (t : List ℕ) → at ≤ length out → q + 2 ≤ at → mid q 2 out t ≡ mid q 2 front t ++ drop at out
  unfolding front
  mid-front q t h k =
      let a : List ℕ = take at out in
      let b : List ℕ = drop at out in
      let la : length a ≡ at = length-take-le at out h in
      let ld : length (drop q a) ≡ at - q = length-drop q a ∙ ap (λ (n : ℕ). n - q) la in
      let e : mid q 2 (a ++ b) t ≡ mid q 2 a t ++ b =
      rw (take-append-le q a b (omega (arith, la)), drop-append-le q a b (omega (arith, la)), drop-append-le 2 (drop q a) b (omega (arith, ld)))
      (sym (append_assoc (take q a) (t ++ drop 2 (drop q a)) b ∙ ap (λ (l : List ℕ). take q a ++ l) (append_assoc t (drop 2 (drop q a)) b))) in
      rw (take-append-drop at out) at e

  module _ (h : at + length m ≤ length out) (fits : body + length m ≤ body_limit) (room : body + pdu_head ≤ at) where
    pub put-more : (out' : List ℕ) → out' ≡ mid at (length m) (mid (length_place at body) 2 out (two (identifier_size + (body + length m)))) m → Put id at body out m (at + length m) out'
    unfolding front with_message
    put-more out' e =
        let t : List ℕ = two (identifier_size + (body + length m)) in
        let lt : length t ≡ 2 = (unfold two in refl) in
        let q : ℕ = length_place at body in
        let inside : length_place at body + 2 ≤ at = (unfold length_place in omega arith) in
        let here : at ≤ length out = omega arith in
        let la : length (take at out) ≡ at = length-take-le at out here in
        let f : List ℕ = mid q 2 (take at out) t in
        let lf : length f ≡ at = mid-length q 2 (take at out) t (omega (arith, la, inside)) lt ∙ la in
        let x : mid q 2 out t ≡ f ++ drop at out = mid-front q t here inside in
        let d : drop (length m) (drop at out) ≡ drop (at + length m) out = drop-drop (length m) at out in
        let w : out' ≡ (f ++ m) ++ drop (at + length m) out =
        e ∙ rw (x, take_at f (drop at out) at lf, drop_at f (drop at out) at lf, d) (sym (append_assoc f m (drop (at + length m) out))) in
        let lw : length (f ++ m) ≡ at + length m = length-append f m ∙ omega (arith, lf) in
        let added = added_more body (length m) fits in
        record {
          ends = omega (arith, added);
          writes = rw w (take_at (f ++ m) (drop (at + length m) out) (at + length m) lw ∙ rw (le-leb (body + length m) body_limit fits, la) refl);
          stays = rw w (drop_at (f ++ m) (drop (at + length m) out) (at + length m) lw);
          long = rw w (length-append (f ++ m) (drop (at + length m) out) ∙ omega (arith, lw, length-drop (at + length m) out));
        }

  module _ (six : length id ≡ identifier_size) (h : at + (pdu_head + length m) ≤ length out) (new : body_limit < body + length m) where
    pub put-new : (p out' : List ℕ) → p ≡ pdu id m → out' ≡ mid at (at + pdu_head + length m - at) out p → Put id at body out m (at + pdu_head + length m) out'
    unfolding front with_message
    put-new p out' i e =
        let z : at + pdu_head + length m - at ≡ pdu_head + length m = omega arith in
        let y : at + pdu_head + length m ≡ at + (pdu_head + length m) = omega arith in
        let la : length (take at out) ≡ at = length-take-le at out (omega arith) in
        let lp : length (pdu id m) ≡ pdu_head + length m = pdu-length id six m in
        let d : drop (pdu_head + length m) (drop at out) ≡ drop (at + (pdu_head + length m)) out = drop-drop (pdu_head + length m) at out in
        let w : out' ≡ (take at out ++ pdu id m) ++ drop (at + (pdu_head + length m)) out =
        e ∙ rw (i, z, d) (sym (append_assoc (take at out) (pdu id m) (drop (at + (pdu_head + length m)) out))) in
        let lw : length (take at out ++ pdu id m) ≡ at + (pdu_head + length m) = length-append (take at out) (pdu id m) ∙ omega (arith, la, lp) in
        let added = added_new body (length m) new in
        rw y
        (record {
          ends = omega (arith, added);
          writes = rw w (take_at (take at out ++ pdu id m) (drop (at + (pdu_head + length m)) out) (at + (pdu_head + length m)) lw ∙ rw (lt-leb (body + length m) body_limit new) refl);
          stays = rw w (drop_at (take at out ++ pdu id m) (drop (at + (pdu_head + length m)) out) (at + (pdu_head + length m)) lw);
          long = rw w (length-append (take at out ++ pdu id m) (drop (at + (pdu_head + length m)) out) ∙ omega (arith, lw, length-drop (at + (pdu_head + length m)) out));
        })
