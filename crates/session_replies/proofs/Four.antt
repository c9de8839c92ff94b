-- One of the streams: each has its numbers and its buffer. And a part of a list that is anew. Assumes nothing.
use Prim.Native.Nat.{ℕ, ◌+◌, ◌-◌, ◌≤◌, ◌<◌}
use native.Mathlib.Omega.{arith}
use mathlib.Core.Path.{◌≡◌, refl}
use mathlib.Core.List.{List, [], ◌++◌}
use lib.ListN.{length, take, drop, get_or, set}
use lib.Seq.{length-take-le, take_at, drop_at, get_or-set_same, get_or-set_other}
use Rattle.octets.specs.Part.{mid}
use Rattle.octets.proofs.Tab.{tab-get, tab-set}
use Rattle.session.specs.Stream.{empty}
use Rattle.session.specs.Lent.{stream_of}
use Rattle.session_orders.specs.Told.{stream_count}
use Rattle.session_replies.specs.Four.{lent_at, streams_of}

-- ---- a part anew

pub width : (a w : ℕ) → a + w - a ≡ w
width a w = omega arith

pub part_same : (a w : ℕ) (xs ys : List ℕ) → a ≤ length xs → length ys ≡ w → take w (drop a (mid a w xs ys)) ≡ ys
part_same a w xs ys h e =
    rw (drop_at (take a xs) (ys ++ drop w (drop a xs)) a (length-take-le a xs h))
    (take_at ys (drop w (drop a xs)) w e)

-- ---- one of the streams

pub four-at : (ns bs : List (List ℕ)) (n : ℕ) → n < stream_count → get_or (streams_of ns bs) n empty ≡ stream_of (lent_at ns n) (lent_at bs n)
unfolding streams_of
four-at ns bs n h = tab-get stream_count (λ n. stream_of (lent_at ns n) (lent_at bs n)) n empty h

module _ (ns bs : List (List ℕ)) (s : List ℕ) (n : ℕ) (h : n < stream_count) (e : n < length ns) where
  -- its numbers anew
  pub four-numbers : streams_of (set ns n s) bs ≡ set (streams_of ns bs) n (stream_of s (lent_at bs n))
  unfolding streams_of
  four-numbers =
      tab-set stream_count (λ j. stream_of (lent_at ns j) (lent_at bs j)) (λ j. stream_of (lent_at (set ns n s) j) (lent_at bs j)) n (stream_of s (lent_at bs n)) h
      (rw (get_or-set_same ns n s [] e) refl)
      (λ j k l. rw (get_or-set_other ns n j s [] k) refl)

  -- and its buffer
  pub four-both : (b : List ℕ) → n < length bs → streams_of (set ns n s) (set bs n b) ≡ set (streams_of ns bs) n (stream_of s b)
  unfolding streams_of
  four-both b f =
      tab-set stream_count (λ j. stream_of (lent_at ns j) (lent_at bs j)) (λ j. stream_of (lent_at (set ns n s) j) (lent_at (set bs n b) j)) n (stream_of s b) h
      (rw (get_or-set_same ns n s [] e, get_or-set_same bs n b [] f) refl)
      (λ j k l. rw (get_or-set_other ns n j s [] k, get_or-set_other bs n j b [] k) refl)
