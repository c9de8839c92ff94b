-- From a writer to a reader: what one box packs, the other hands on in order, however the stream between them is cut.
-- Assumes nothing.
use Rattle.std.specs.Prelude.{ℕ, ◌≡◌, false, List, length}
use Rattle.std.proofs.Common.{ap, ◌∙◌}
use Rattle.meaning.specs.Card.{Card}
use Rattle.session.specs.Stream.{empty, holds_message, digest}
use Rattle.session.specs.Session.{Label, Piece, came_in, pieced, whole}
use Rattle.session.proofs.Kept.{empty-kept}
use Rattle.session.specs.Cuts.{AllEaten}
use Rattle.session.proofs.Cuts.{pieces_whole}
use Rattle.session.specs.Pack.{packed}
use Rattle.session.specs.PackLaws.{AllPackable}
use Rattle.session.proofs.PackLaws.{packed-back}
use Rattle.session.specs.PackCuts.{handed}

whole-handed : (step : Label) (id : List ℕ) (n : ℕ) (c : Card) (ms : List (List ℕ)) (s : List ℕ) → digest id empty s ≡ record { messages = ms; stream = empty } → whole step id n c empty s ≡ handed step n c ms
unfolding whole handed
whole-handed step id n c ms s e = rw e

pub packed-cuts : (step : Label) (id : List ℕ) → length id ≡ 6 → (n : ℕ) (c : Card) (ms : List (List ℕ)) → AllPackable ms
    → (ps : List Piece) → came_in ps ≡ packed id ms → AllEaten step id n ps c empty → holds_message (pieced step id n ps c empty).stream ≡ false
    → pieced step id n ps c empty ≡ handed step n c ms
packed-cuts step id six n c ms p ps e a h =
    pieces_whole step id n c empty (empty-kept id) ps a h
    ∙ ap (whole step id n c empty) e
    ∙ whole-handed step id n c ms (packed id ms) (packed-back id six ms p)
