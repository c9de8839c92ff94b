-- However the stream is cut: the messages, the records, the card and the stream at the end are those of the whole stream read at once.
-- Assumes nothing.
use Prim.Native.Nat.{ℕ, zero, suc}
use Rattle.std.specs.Prelude.{◌≡◌, false}
use Rattle.std.proofs.Math.Path.{refl, sym, ap}
use Rattle.std.proofs.Common.{◌∙◌, take-append-drop}
use mathlib.Core.List.{List, [], ◌∷◌, ◌++◌, append_assoc}
use Rattle.std.proofs.Math.ListN.{take, drop}
use Rattle.std.proofs.lemmas.List.{drop-append-le}
use Rattle.meaning.specs.Lists.{append-nil}
use Rattle.meaning.specs.Card.{Card}
use Rattle.session.specs.Stream.{Stream, holds_message, taken, digest}
use Rattle.session.specs.StreamLaws.{and_then}
use Rattle.session.proofs.StreamLaws.{taken-law}
use Rattle.session.specs.Kept.{Kept, Quiet}
use Rattle.session.proofs.Kept.{kept-fits, taken-kept, taken-eaten, kept-quiet, quiet-digest}
use Rattle.session.specs.Session.{Label, heeded, call_refusal, accepted, called_by, called, Cut, Driven, driven, Piece, came_in, pieced, whole}
use Rattle.session.specs.Cuts.{then_whole, AllEaten, Over}

then-then : (ms ns : List (List ℕ)) (w v : List ℕ) (d : Driven) → then_whole ms w (then_whole ns v d) ≡ then_whole (ms ++ ns) (w ++ v) d
unfolding then_whole
then-then ms ns w v d = rw (append_assoc ms ns d.messages, append_assoc w v d.octets) refl

module _ (step : Label) (id : List ℕ) (n : ℕ) where
  heeded-octets : (c : Card) (ms ns : List (List ℕ)) → (heeded step n c (ms ++ ns)).octets ≡ (heeded step n c ms).octets ++ (heeded step n (heeded step n c ms).card ns).octets
  unfolding heeded
  heeded-octets c [] ns = refl
  heeded-octets c (m ∷ ms) ns = rw (heeded-octets (step c n m).card ms ns) (sym (append_assoc (step c n m).octets _ _))

  heeded-card : (c : Card) (ms ns : List (List ℕ)) → (heeded step n c (ms ++ ns)).card ≡ (heeded step n (heeded step n c ms).card ns).card
  unfolding heeded
  heeded-card c [] ns = refl
  heeded-card c (m ∷ ms) ns = heeded-card (step c n m).card ms ns

  -- the whole stream, where the first messages are known
  whole-then : (c : Card) (ms : List (List ℕ)) (s s' : Stream) (r r' : List ℕ) → digest id s r ≡ and_then ms (digest id s' r')
      → whole step id n c s r ≡ then_whole ms (heeded step n c ms).octets (whole step id n (heeded step n c ms).card s' r')
  unfolding whole then_whole and_then
  whole-then c ms s s' r r' e =
      let ns : List (List ℕ) = (digest id s' r').messages in
      rw e (rw (heeded-octets c ms ns, heeded-card c ms ns) refl)

  pub rest-drop : (s : Stream) (k : ℕ) (r : List ℕ) → drop (taken id s (take k r)).eaten (take k r) ++ drop k r ≡ drop (taken id s (take k r)).eaten r
  rest-drop s k r =
      let e : ℕ = (taken id s (take k r)).eaten in
      sym (drop-append-le e (take k r) (drop k r) (taken-eaten id s (take k r))) ∙ ap (drop e) (take-append-drop k r)

  -- octets z are still to come after those that the caller has
  called-law : (f k : ℕ) (c : Card) (s : Stream) (r z : List ℕ) →
      whole step id n c s (r ++ z) ≡ then_whole (called_by f step id n c s (take k r)).messages (called_by f step id n c s (take k r)).octets
      (whole step id n (called_by f step id n c s (take k r)).card (called_by f step id n c s (take k r)).stream (drop (called_by f step id n c s (take k r)).eaten r ++ z))
  unfolding called_by accepted then_whole
  called-law zero k c s r z =
      let o : List ℕ = take k r in
      let t = taken id s o in
      let parts : r ++ z ≡ o ++ (drop k r ++ z) = ap (λ (l : List ℕ). l ++ z) (sym (take-append-drop k r)) ∙ append_assoc o (drop k r) z in
      let rests : drop t.eaten o ++ (drop k r ++ z) ≡ drop t.eaten r ++ z = sym (append_assoc (drop t.eaten o) (drop k r) z) ∙ ap (λ (l : List ℕ). l ++ z) (rest-drop s k r) in
      whole-then c t.messages s t.stream (r ++ z) (drop t.eaten r ++ z)
      (ap (digest id s) parts ∙ taken-law id s o (drop k r ++ z) ∙ ap (λ (l : List ℕ). and_then t.messages (digest id t.stream l)) rests)
  called-law (suc f) k c s r z = refl

  -- Whatever the calls, what they did and then the whole of the rest is the whole.
  pub driven-law : (xs : List Cut) (c : Card) (s : Stream) (r z : List ℕ) →
      whole step id n c s (r ++ z) ≡ then_whole (driven step id n xs c s r).messages (driven step id n xs c s r).octets
      (whole step id n (driven step id n xs c s r).card (driven step id n xs c s r).stream ((driven step id n xs c s r).rest ++ z))
  unfolding driven then_whole called
  driven-law [] c s r z = refl
  driven-law (x ∷ xs) c s r z =
      let k = called_by (call_refusal n x.room x.lent) step id n c s (take x.size r) in
      let d = driven step id n xs k.card k.stream (drop k.eaten r) in
      called-law (call_refusal n x.room x.lent) x.size c s r z
      ∙ ap (then_whole k.messages k.octets) (driven-law xs k.card k.stream (drop k.eaten r) z)
      ∙ then-then k.messages d.messages k.octets d.octets (whole step id n d.card d.stream (d.rest ++ z))

  -- ---- the end

  called-kept : (f : ℕ) (c : Card) (s : Stream) (o : List ℕ) → Kept id s → Kept id (called_by f step id n c s o).stream
  unfolding called_by accepted
  called-kept zero c s o g = taken-kept id s o (kept-fits id s g)
  called-kept (suc f) c s o g = g

  pub driven-kept : (xs : List Cut) (c : Card) (s : Stream) (r : List ℕ) → Kept id s → Kept id (driven step id n xs c s r).stream
  unfolding driven called
  driven-kept [] c s r g = g
  driven-kept (x ∷ xs) c s r g =
      let k = called_by (call_refusal n x.room x.lent) step id n c s (take x.size r) in
      driven-kept xs k.card k.stream (drop k.eaten r) (called-kept (call_refusal n x.room x.lent) c s (take x.size r) g)

  whole-quiet : (c : Card) (s : Stream) → Quiet id s → whole step id n c s [] ≡ record { messages = []; octets = []; card = c; stream = s; rest = [] }
  unfolding whole heeded
  whole-quiet c s q = rw (quiet-digest id s q) refl

module _ (step : Label) (id : List ℕ) (n : ℕ) where
  pieced-law : (ps : List Piece) (c : Card) (s : Stream) → AllEaten step id n ps c s →
      whole step id n c s (came_in ps) ≡ then_whole (pieced step id n ps c s).messages (pieced step id n ps c s).octets
      (whole step id n (pieced step id n ps c s).card (pieced step id n ps c s).stream [])
  unfolding came_in pieced AllEaten then_whole
  pieced-law [] c s a = refl
  pieced-law (p ∷ ps) c s a =
      let d = driven step id n p.calls c s p.octets in
      let e = pieced step id n ps d.card d.stream in
      driven-law step id n p.calls c s p.octets (came_in ps)
      ∙ ap (then_whole d.messages d.octets) (ap (λ (l : List ℕ). whole step id n d.card d.stream (l ++ came_in ps)) a.0 ∙ pieced-law ps d.card d.stream a.1)
      ∙ then-then d.messages e.messages d.octets e.octets (whole step id n e.card e.stream [])

  pieced-kept : (ps : List Piece) (c : Card) (s : Stream) → Kept id s → Kept id (pieced step id n ps c s).stream
  unfolding pieced
  pieced-kept [] c s g = g
  pieced-kept (p ∷ ps) c s g =
      let d = driven step id n p.calls c s p.octets in
      pieced-kept ps d.card d.stream (driven-kept step id n p.calls c s p.octets g)

  pieced-rest : (ps : List Piece) (c : Card) (s : Stream) → AllEaten step id n ps c s → (pieced step id n ps c s).rest ≡ []
  unfolding pieced AllEaten
  pieced-rest [] c s a = refl
  pieced-rest (p ∷ ps) c s a =
      let d = driven step id n p.calls c s p.octets in
      rw a.0 (pieced-rest ps d.card d.stream a.1)

module _ (step : Label) (id : List ℕ) (n : ℕ) (c : Card) (s : Stream) (kept : Kept id s) where
  -- at the end the whole of nothing more is nothing more
  at-end : (d : Driven) → Kept id d.stream → Over d → then_whole d.messages d.octets (whole step id n d.card d.stream []) ≡ d
  unfolding then_whole
  at-end d g o =
      rw (whole-quiet step id n d.card d.stream (kept-quiet id d.stream g o.none))
      (rw (append-nil d.messages, append-nil d.octets, ← o.eaten) refl)

  -- Pieces on which the calls have gone on so long have been read, written and left as the whole stream at once.
  pub pieces_whole : (ps : List Piece) → AllEaten step id n ps c s → holds_message (pieced step id n ps c s).stream ≡ false → pieced step id n ps c s ≡ whole step id n c s (came_in ps)
  pieces_whole ps a h =
      sym (pieced-law step id n ps c s a ∙ at-end (pieced step id n ps c s) (pieced-kept step id n ps c s kept) (record { eaten = pieced-rest step id n ps c s a; none = h }))

  -- HOWEVER THE STREAM IS CUT, the messages, the records, the card and the stream at the end are equal,
  -- if calls go on until all is eaten and no whole message is held.
  pub pieces-agree : (ps qs : List Piece) → came_in ps ≡ came_in qs
      → AllEaten step id n ps c s → holds_message (pieced step id n ps c s).stream ≡ false
      → AllEaten step id n qs c s → holds_message (pieced step id n qs c s).stream ≡ false
      → pieced step id n ps c s ≡ pieced step id n qs c s
  pieces-agree ps qs e a h b k = pieces_whole ps a h ∙ ap (whole step id n c s) e ∙ sym (pieces_whole qs b k)

  -- The same of a caller that holds the whole stream, and offers from its front what it likes.
  pub driven-whole : (r : List ℕ) (xs : List Cut) → Over (driven step id n xs c s r) → driven step id n xs c s r ≡ whole step id n c s r
  driven-whole r xs o =
      let d = driven step id n xs c s r in
      let g = driven-kept step id n xs c s r kept in
      let w = driven-law step id n xs c s r [] in
      let v : whole step id n c s r ≡ then_whole d.messages d.octets (whole step id n d.card d.stream []) = rw (append-nil r, append-nil d.rest, o.eaten) at w in
      sym (v ∙ at-end d g o)

  pub cuts-agree : (r : List ℕ) (xs ys : List Cut) → Over (driven step id n xs c s r) → Over (driven step id n ys c s r) → driven step id n xs c s r ≡ driven step id n ys c s r
  cuts-agree r xs ys o p = driven-whole r xs o ∙ sym (driven-whole r ys p)
