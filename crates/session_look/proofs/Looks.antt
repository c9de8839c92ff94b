-- Each return of the looks, by the facts that its tests tell. Assumes nothing.
use Prim.Native.Nat.{ℕ, zero, suc, ◌+◌, ◌-◌, ◌≤◌, ◌<◌}
use native.Mathlib.Omega.{arith}
use mathlib.Core.Path.{◌≡◌, refl, ap, ◌∙◌}
use mathlib.Core.Bool.{true, false}
use mathlib.Core.List.{List, [], ◌∷◌}
use lib.ListN.{length, take, drop}
use borrow.Author.Tests.{lt-ltb, le-ltb, eq-eqb, ne_eqb}
use denote.Enum.Declared.{tag_of}
use types.Run.{OneOf, miss}
use Rattle.meaning.specs.Octets.{same, two_at}
use Rattle.session.specs.Stream.{least_length, most_length, body_limit, pdu_head, Look, wait, bad, head, message, wrong_version, wrong_length, wrong_id, look_head, message_size, look_message, look}
use Rattle.session.specs.StreamLaws.{Tells}
use Rattle.session.proofs.StreamLaws.{look-tells}
use Rattle.std.specs.Prelude.{Option, Some, None, IfSome}
use Rattle.session_look.specs.Shown.{shown, head_in}
use Rattle.session_look.specs.declared.Shows.{Shows}
use Rattle.session_look.specs.contracts.Shows.{the_type}

module _ (id s : List ℕ) where
  pub head-none : length s < 2 → shown Shows.Wait ≡ look_head id s
  unfolding shown look_head
  head-none h = rw (lt-ltb (length s) 2 h) refl

  pub head-version : 2 ≤ length s → (two_at s 0 ≡ 1 → ⊥) → shown Shows.Bad ≡ look_head id s
  unfolding shown look_head wrong_version
  head-version h v = rw (le-ltb (length s) 2 h, ne_eqb (two_at s 0) 1 v) refl

  module _ (h : 2 ≤ length s) (v : two_at s 0 ≡ 1) where
    pub head-two : length s < 4 → shown Shows.Wait ≡ look_head id s
    unfolding shown look_head wrong_version
    head-two k = rw (le-ltb (length s) 2 h, eq-eqb (two_at s 0) 1 v, lt-ltb (length s) 4 k) refl

    pub head-low : 4 ≤ length s → two_at s 2 < least_length → shown Shows.Bad ≡ look_head id s
    unfolding shown look_head wrong_version wrong_length
    head-low k l = rw (le-ltb (length s) 2 h, eq-eqb (two_at s 0) 1 v, le-ltb (length s) 4 k, lt-ltb (two_at s 2) least_length l) refl

    pub head-high : 4 ≤ length s → most_length < two_at s 2 → shown Shows.Bad ≡ look_head id s
    unfolding shown look_head wrong_version wrong_length
    head-high k l = rw (le-ltb (length s) 2 h, eq-eqb (two_at s 0) 1 v, le-ltb (length s) 4 k, le-ltb (two_at s 2) least_length (omega arith), lt-ltb most_length (two_at s 2) l) refl

    module _ (k : 4 ≤ length s) (low : least_length ≤ two_at s 2) (high : two_at s 2 ≤ most_length) where
      pub head-four : length s < pdu_head → shown Shows.Wait ≡ look_head id s
      unfolding shown look_head wrong_version wrong_length
      head-four l = rw (le-ltb (length s) 2 h, eq-eqb (two_at s 0) 1 v, le-ltb (length s) 4 k, le-ltb (two_at s 2) least_length low, le-ltb most_length (two_at s 2) high, lt-ltb (length s) pdu_head l) refl

      pub head-whole : pdu_head ≤ length s → (n : ℕ) → n ≡ two_at s 2 - 6 → same (take 6 (drop 4 s)) id ≡ true → shown (Shows.Head n) ≡ look_head id s
      unfolding shown look_head wrong_version wrong_length wrong_id
      head-whole l n e i = rw (le-ltb (length s) 2 h, eq-eqb (two_at s 0) 1 v, le-ltb (length s) 4 k, le-ltb (two_at s 2) least_length low, le-ltb most_length (two_at s 2) high, le-ltb (length s) pdu_head l, i, e) refl

      pub head-other : pdu_head ≤ length s → same (take 6 (drop 4 s)) id ≡ false → shown Shows.Bad ≡ look_head id s
      unfolding shown look_head wrong_version wrong_length wrong_id
      head-other l i = rw (le-ltb (length s) 2 h, eq-eqb (two_at s 0) 1 v, le-ltb (length s) 4 k, le-ltb (two_at s 2) least_length low, le-ltb most_length (two_at s 2) high, le-ltb (length s) pdu_head l, i) refl

module _ (left : ℕ) (s : List ℕ) where
  pub message-end : left < 4 → shown Shows.Bad ≡ look_message left s
  unfolding shown look_message
  message-end h = rw (lt-ltb left 4 h) refl

  module _ (h : 4 ≤ left) where
    pub message-none : length s < 4 → shown Shows.Wait ≡ look_message left s
    unfolding shown look_message
    message-none k = rw (le-ltb left 4 h, lt-ltb (length s) 4 k) refl

    module _ (k : 4 ≤ length s) where
      pub message-past : left < 4 + two_at s 2 → shown Shows.Bad ≡ look_message left s
      unfolding shown look_message message_size
      message-past l = rw (le-ltb left 4 h, le-ltb (length s) 4 k, lt-ltb left (4 + two_at s 2) l) refl

      module _ (l : 4 + two_at s 2 ≤ left) where
        pub message-part : length s < 4 + two_at s 2 → shown Shows.Wait ≡ look_message left s
        unfolding shown look_message message_size
        message-part m = rw (le-ltb left 4 h, le-ltb (length s) 4 k, le-ltb left (4 + two_at s 2) l, lt-ltb (length s) (4 + two_at s 2) m) refl

        pub message-whole : 4 + two_at s 2 ≤ length s → (n : ℕ) → n ≡ 4 + two_at s 2 → shown (Shows.Message n) ≡ look_message left s
        unfolding shown look_message message_size
        message-whole m n e = rw (le-ltb left 4 h, le-ltb (length s) 4 k, le-ltb left (4 + two_at s 2) l, le-ltb (length s) (4 + two_at s 2) m, e) refl

pub look_none : (id : List ℕ) (left : ℕ) (s : List ℕ) → left ≡ 0 → look_head id s ≡ look id left s
unfolding look
look_none id zero s e = refl
look_none id (suc n) s e = absurd (omega arith)

pub look-some : (id : List ℕ) (left : ℕ) (s : List ℕ) → (left ≡ 0 → ⊥) → look_message left s ≡ look id left s
unfolding look
look-some id zero s e = absurd (e refl)
look-some id (suc n) s e = refl

-- ---- a PDU's head

pub head-most : (id : List ℕ) (left : ℕ) (s : List ℕ) → IfSome (head_in (look id left s)) (λ n. n ≤ body_limit)
head-most id left s = by (look id left s) (look-tells id left s)
  where
    by : (l : Look) → Tells left s l → IfSome (head_in l) (λ n. n ≤ body_limit)
    by wait t = unfold head_in in tt
    by bad t = unfold head_in in tt
    by (head n) t = unfold head_in Tells in t.3
    by (message k) t = unfold head_in in tt

module _ (id : List ℕ) (left : ℕ) (s : List ℕ) where
  told-head : (r : Option ℕ) → r ≡ head_in (look id left s) → (r ≡ head_in (look id left s)) × IfSome r (λ n. n ≤ body_limit)
  told-head r e = (e, rw e (head-most id left s))

  pub head-is : (n : ℕ) → shown (Shows.Head n) ≡ look id left s → (Some n ≡ head_in (look id left s)) × IfSome (Some n) (λ n. n ≤ body_limit)
  unfolding shown
  head-is n e = told-head (Some n) (unfold head_in in ap head_in e)

  pub head-none-is : (w : Shows) → OneOf (0 ∷ 1 ∷ 3 ∷ []) (tag_of the_type w) → shown w ≡ look id left s → (None ≡ head_in (look id left s)) × IfSome {T = ℕ} None (λ n. n ≤ body_limit)
  head-none-is w h e = told-head None (by w h ∙ ap head_in e)
    where
      by : (w : Shows) → OneOf (0 ∷ 1 ∷ 3 ∷ []) (tag_of the_type w) → None ≡ head_in (shown w)
      by Shows.Wait h = unfold head_in shown in refl
      by Shows.Bad h = unfold head_in shown in refl
      by (Shows.Head n) h = absurd (miss (0 ∷ 1 ∷ 3 ∷ []) 2 tt h)
      by (Shows.Message k) h = unfold head_in shown in refl
