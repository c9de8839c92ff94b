-- What the words of a line make, as the code finds them. Assumes nothing.
use Rattle.std.specs.Prelude.{Option, None, Some, unwrap_or}
use Prim.Native.Nat.{ℕ, ◌-◌, ◌≤◌, ◌<◌}
use native.Mathlib.Omega.{arith}
use mathlib.Core.Path.{◌≡◌, refl, sym, ◌∙◌}
use mathlib.Core.Bool.{Bool, true, false}
use mathlib.Core.List.{List, [], ◌∷◌}
use lib.ListN.{length}
use borrow.Author.Tests.{lt-ltb, le-ltb, lt-leb, le-leb}
use denote.Enum.Declared.{tag_of}
use types.Run.{OneOf, miss}
use Rattle.meaning.specs.Octets.{same}
use Rattle.bench_words.specs.Words.{ascii, words, Lies, is_hex, octets_of, hex_limit}
use Rattle.bench_words.specs.Scan.{Within, text_of, number_in}
use Rattle.bench_words.specs.declared.Word.{Word}
use Rattle.bench_words.proofs.Words.{number-value, number-none, hex-lies}
use Rattle.bench_verbs.specs.Line.{line_limit, order_of}
use Rattle.session_orders.specs.Told.{Told, bench, stream_count, Given, none, given, number_hex, lone_number, may_offer, octets_by, pack_by, lost_by, told_by, told_of, stream_for}
use Rattle.session_orders.specs.Asks.{pair_in, Gives, meant, InLine, Tells, TellsIf}
use Rattle.session_orders.specs.declared.Ask.{Ask}
use Rattle.session_orders.specs.contracts.Ask.{the_type}

-- ---- a number and HEX

pub gives_none : (l : List ℕ) (g : Given) → g ≡ none → Gives l g None
unfolding pair_in
gives_none l g e = record { means = sym e; lies = tt }

pub no_number : (w h : List ℕ) → number_in w ≡ None → number_hex (w ∷ h ∷ []) ≡ none
unfolding number_hex
no_number w h e = rw (number-none w e) refl

pub no-hex : (n : ℕ) (w h : List ℕ) (b : Bool) → number_in w ≡ Some n → b ≡ is_hex h → b ≡ false → number_hex (w ∷ h ∷ []) ≡ none
unfolding number_hex
no-hex n w h b e f i = let v = number-value w n e in rw (v.0, sym f ∙ i) refl

pub gives-pair : (l : List ℕ) (n : ℕ) (v : Word) (w : List ℕ) (b : Bool) → Within v l
    → number_in w ≡ Some n → b ≡ is_hex (text_of v l) → b ≡ true → Gives l (number_hex (w ∷ text_of v l ∷ [])) (Some (n, v))
unfolding pair_in number_hex is_hex
gives-pair l n v w b h g p q =
    let k = number-value w n g in
    record { means = rw (k.0, sym p ∙ q) (rw k.1 refl); lies = hex-lies hex_limit l v.start v.end (omega arith) h.0 h.1 (sym p ∙ q) }

-- ---- the orders

module _ (l : List ℕ) (g : Given) (r : Option (ℕ × Word)) (gives : Gives l g r) where
  pub given-none : r ≡ None → g ≡ none
  unfolding pair_in
  given-none e = let z : none ≡ g = rw e at gives.means in sym z

  pub given_is : (p : ℕ × Word) → r ≡ Some p → (g ≡ given p.0 (octets_of (text_of p.1 l))) × Lies l p.1.start p.1.end
  unfolding pair_in
  given_is p q = let z : given p.0 (octets_of (text_of p.1 l)) ≡ g = rw q at gives.means in (sym z, rw q at gives.lies)

  pub octets-none : r ≡ None → octets_by (bench (order_of l)) g ≡ bench (order_of l)
  unfolding octets_by
  octets-none e = rw (given-none e)

  pub octets-taken : (p : ℕ × Word) → r ≡ Some p → may_offer p.0 ≡ true → Tells l (octets_by (bench (order_of l)) g) (Ask.Octets p.0 p.1)
  unfolding octets_by meant
  octets-taken p q t = let k = given_is p q in record { means = rw (k.0, t) refl; lies = k.1 }

  pub octets-passed : (p : ℕ × Word) → r ≡ Some p → may_offer p.0 ≡ false → octets_by (bench (order_of l)) g ≡ bench (order_of l)
  unfolding octets_by
  octets-passed p q t = rw ((given_is p q).0, t)

  pub pack-none : r ≡ None → pack_by (bench (order_of l)) g ≡ bench (order_of l)
  unfolding pack_by
  pack-none e = rw (given-none e)

  pub pack-taken : (p : ℕ × Word) → r ≡ Some p → Tells l (pack_by (bench (order_of l)) g) (Ask.Pack p.0 p.1)
  unfolding pack_by meant
  pack-taken p q = let k = given_is p q in record { means = rw k.0 refl; lies = k.1 }

-- ---- a loss

pub lost-none : (l : List ℕ) (k r : Option ℕ) → r ≡ k → r ≡ None → lost_by (bench (order_of l)) k ≡ bench (order_of l)
unfolding lost_by
lost-none l k r e q = rw (sym e ∙ q)

pub lost-taken : (l : List ℕ) (k r : Option ℕ) (n : ℕ) → r ≡ k → r ≡ Some n → n < stream_count → Tells l (lost_by (bench (order_of l)) k) (Ask.Lost n)
unfolding lost_by meant
lost-taken l k r n e q h = record { means = rw (sym e ∙ q) (rw (lt-ltb n stream_count h) refl); lies = h }

pub lost-passed : (l : List ℕ) (k r : Option ℕ) (n : ℕ) → r ≡ k → r ≡ Some n → stream_count ≤ n → lost_by (bench (order_of l)) k ≡ bench (order_of l)
unfolding lost_by
lost-passed l k r n e q h = rw (sym e ∙ q) (rw (le-ltb n stream_count h))

-- ---- an order in any case

pub asked : (l : List ℕ) (t : Told) (r : Option Ask) → TellsIf l t r → Tells l t (unwrap_or r Ask.Bench)
unfolding meant
asked l t None h = record { means = sym h; lies = tt }
asked l t (Some r) h = h

-- ---- whose stream

pub near-stream : (l : List ℕ) (a : Ask) (n : ℕ) (w : Word) → a ≡ Ask.Octets n w → n < stream_count → n ≡ stream_for (meant l a)
unfolding meant stream_for
near-stream l a n w q h = rw q (rw (lt-ltb n stream_count h) refl)

pub far-stream : (l : List ℕ) (a : Ask) (n : ℕ) (w : Word) → a ≡ Ask.Octets n w → stream_count ≤ n → 0 ≡ stream_for (meant l a)
unfolding meant stream_for
far-stream l a n w q h = rw q (rw (le-ltb n stream_count h) refl)

pub lost-stream : (l : List ℕ) (a : Ask) (n : ℕ) → a ≡ Ask.Lost n → (n ≡ stream_for (meant l a)) × (InLine l a → n < stream_count)
unfolding meant stream_for
lost-stream l a n q = (rw q refl, λ h. rw q at h)

pub no_stream : (l : List ℕ) (a : Ask) → OneOf (0 ∷ 2 ∷ []) (tag_of the_type a) → 0 ≡ stream_for (meant l a)
unfolding meant stream_for
no_stream l Ask.Bench h = refl
no_stream l (Ask.Octets n w) h = absurd (miss (0 ∷ 2 ∷ []) 1 tt h)
no_stream l (Ask.Pack n w) h = refl
no_stream l (Ask.Lost n) h = absurd (miss (0 ∷ 2 ∷ []) 3 tt h)

-- ---- a line by its first word

pub long-told : (l : List ℕ) → line_limit < length l → told_of l ≡ bench (order_of l)
unfolding told_of
long-told l h = rw (lt-leb (length l) line_limit h)

pub blank-told : (l : List ℕ) → length l ≤ line_limit → words l ≡ [] → told_of l ≡ bench (order_of l)
unfolding told_of told_by
blank-told l h e = rw (le-leb (length l) line_limit h, e)

module _ (l w : List ℕ) (ws : List (List ℕ)) (short : length l ≤ line_limit) (first : words l ≡ w ∷ ws) where
  pub octets-told : (b : Bool) → b ≡ same w (ascii "octets") → b ≡ true → told_of l ≡ octets_by (bench (order_of l)) (number_hex ws)
  unfolding told_of told_by
  octets-told b e t = rw (le-leb (length l) line_limit short, first) (rw (sym e ∙ t))

  pub pack-told : (b d : Bool) → b ≡ same w (ascii "octets") → b ≡ false → d ≡ same w (ascii "pack") → d ≡ true → told_of l ≡ pack_by (bench (order_of l)) (number_hex ws)
  unfolding told_of told_by
  pack-told b d e t f u = rw (le-leb (length l) line_limit short, first) (rw (sym e ∙ t, sym f ∙ u))

  pub lost-told : (b d k : Bool) → b ≡ same w (ascii "octets") → b ≡ false → d ≡ same w (ascii "pack") → d ≡ false → k ≡ same w (ascii "lost") → k ≡ true → told_of l ≡ lost_by (bench (order_of l)) (lone_number ws)
  unfolding told_of told_by
  lost-told b d k e t f u g v = rw (le-leb (length l) line_limit short, first) (rw (sym e ∙ t, sym f ∙ u, sym g ∙ v))

  pub other-told : (b d k : Bool) → b ≡ same w (ascii "octets") → b ≡ false → d ≡ same w (ascii "pack") → d ≡ false → k ≡ same w (ascii "lost") → k ≡ false → told_of l ≡ bench (order_of l)
  unfolding told_of told_by
  other-told b d k e t f u g v = rw (le-leb (length l) line_limit short, first) (rw (sym e ∙ t, sym f ∙ u, sym g ∙ v))
