-- What the reader of a line hands on. Assumes nothing.
use Rattle.std.specs.Prelude.{ℕ, ◌<◌, ◌≡◌, List, Option, None, Some}
use Rattle.bench_words.specs.Words.{Lies, octets_of}
use Rattle.bench_words.specs.Scan.{text_of}
use Rattle.bench_words.specs.declared.Word.{Word}
use Rattle.bench_verbs.specs.Line.{order_of}
use Rattle.session_orders.specs.Told.{Told, bench, octets, pack, lost, stream_count, Given, none, given}
use Rattle.session_orders.specs.declared.Ask.{Ask}

-- ---- a number and HEX

unfoldable pub pair_in : List ℕ → Option (ℕ × Word) → Given
pair_in l None = none
pair_in l (Some p) = given p.0 (octets_of (text_of p.1 l))

abbrev pub PairLies : List ℕ → Option (ℕ × Word) → Type 0
PairLies l None = Unit
PairLies l (Some p) = Lies l p.1.start p.1.end

pub record Gives (l : List ℕ) (g : Given) (r : Option (ℕ × Word)) : Type 0 where
  pub means : pair_in l r ≡ g
  pub lies : PairLies l r

-- ---- the order

unfoldable pub meant : List ℕ → Ask → Told
meant l Ask.Bench = bench (order_of l)
meant l (Ask.Octets n w) = octets n (octets_of (text_of w l))
meant l (Ask.Pack n w) = pack n (octets_of (text_of w l))
meant l (Ask.Lost n) = lost n

abbrev pub InLine : List ℕ → Ask → Type 0
InLine l Ask.Bench = Unit
InLine l (Ask.Octets n w) = Lies l w.start w.end
InLine l (Ask.Pack n w) = Lies l w.start w.end
InLine l (Ask.Lost n) = n < stream_count

pub record Tells (l : List ℕ) (told : Told) (r : Ask) : Type 0 where
  pub means : meant l r ≡ told
  pub lies : InLine l r

-- the same, or the line is the bench's where there is none
abbrev pub TellsIf : List ℕ → Told → Option Ask → Type 0
TellsIf l told None = told ≡ bench (order_of l)
TellsIf l told (Some r) = Tells l told r
