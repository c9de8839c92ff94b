-- What `read_order` answers. Assumes nothing.
use Rattle.std.specs.Prelude.{ℕ, ◌*◌, ◌≡◌, List, Option, None, Some}
use Rattle.meaning_save.specs.Save.{Form, form_of, save_limit}
use Rattle.bench_words.specs.Words.{LiesTo, Lies, octets_of}
use Rattle.bench_words.specs.Scan.{text_of}
use Rattle.bench_verbs.specs.Line.{Said, nothing, bad, start, room, take, join, leave, route, label, tree, free, notice, save, restore, lost, moves, layers, wrap, unwrap, plan, vet}
use Rattle.bench_orders.specs.declared.Order.{Order}

-- the order that the code hands on says so much, with the line it was read from
unfoldable pub meant : List ℕ → Order → Said
meant l Order.Blank = nothing
meant l Order.Bad = bad
meant l (Order.Start n) = start n
meant l (Order.Room n) = room n
meant l (Order.Take n w) = take n (octets_of (text_of w l))
meant l (Order.Join w) = join (octets_of (text_of w l))
meant l (Order.Leave w) = leave (octets_of (text_of w l))
meant l (Order.Route w n) = route (octets_of (text_of w l)) n
meant l (Order.Label n) = label n
meant l (Order.Tree w) = tree (octets_of (text_of w l))
meant l Order.Free = free
meant l (Order.Notice n k w) = notice n k (octets_of (text_of w l))
meant l (Order.Save b) = save (form_of b)
meant l (Order.Restore b w) = restore (form_of b) (octets_of (text_of w l))
meant l (Order.Lost n) = lost n
meant l (Order.Move b w) = moves (form_of b) (octets_of (text_of w l))
meant l (Order.Layers w) = layers (octets_of (text_of w l))
meant l (Order.Wrap r d w) = wrap (octets_of (text_of r l)) (octets_of (text_of d l)) (octets_of (text_of w l))
meant l (Order.Unwrap w) = unwrap (octets_of (text_of w l))
meant l (Order.Plan n w) = plan n (octets_of (text_of w l))
meant l (Order.Vet n p w) = vet n (octets_of (text_of p l)) (octets_of (text_of w l))

abbrev pub SaveLies : Form → List ℕ → ℕ → ℕ → Type 0
SaveLies f l s e = LiesTo (2 * save_limit f) l s e

abbrev pub InLine : List ℕ → Order → Type 0
InLine l Order.Blank = Unit
InLine l Order.Bad = Unit
InLine l (Order.Start n) = Unit
InLine l (Order.Room n) = Unit
InLine l (Order.Take n w) = Lies l w.start w.end
InLine l (Order.Join w) = Lies l w.start w.end
InLine l (Order.Leave w) = Lies l w.start w.end
InLine l (Order.Route w n) = Lies l w.start w.end
InLine l (Order.Label n) = Unit
InLine l (Order.Tree w) = Lies l w.start w.end
InLine l Order.Free = Unit
InLine l (Order.Notice n k w) = Lies l w.start w.end
InLine l (Order.Save b) = Unit
InLine l (Order.Restore b w) = SaveLies (form_of b) l w.start w.end
InLine l (Order.Lost n) = Unit
InLine l (Order.Move b w) = SaveLies (form_of b) l w.start w.end
InLine l (Order.Layers w) = Lies l w.start w.end
InLine l (Order.Wrap r d w) = Lies l r.start r.end × Lies l d.start d.end × Lies l w.start w.end
InLine l (Order.Unwrap w) = Lies l w.start w.end
InLine l (Order.Plan n w) = Lies l w.start w.end
InLine l (Order.Vet n p w) = Lies l p.start p.end × Lies l w.start w.end

-- what is said is what the order means
pub record Tells (l : List ℕ) (said : Said) (r : Order) : Type 0 where
  pub means : meant l r ≡ said
  pub lies : InLine l r

-- the same, or there is no order where what is said is bad
abbrev pub TellsIf : List ℕ → Said → Option Order → Type 0
TellsIf l said None = said ≡ bad
TellsIf l said (Some r) = Tells l said r
