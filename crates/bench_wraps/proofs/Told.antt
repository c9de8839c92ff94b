-- The laws by which the orders on layers are told. Assumes nothing.
use Prim.Native.Nat.{ℕ, ◌≤◌, min}
use native.Mathlib.Omega.{arith}
use mathlib.Core.Path.{◌≡◌, refl, sym, ap, ◌∙◌}
use mathlib.Core.List.{List}
use lib.ListN.{length, take, get_or}
use lib.Dec.{eqb}
use borrow.Author.Tests.{eq-eqb, ne_eqb, eqb-true}
use Rattle.meaning.specs.Wire.{root_in, opaque_in, name_limit, root_limit}
use Rattle.meaning.specs.Card.{Card}
use Rattle.meaning_save.specs.Save.{new, save_limit}
use Rattle.meaning.specs.Lists.{by-test}
use Rattle.meaning_laws.specs.RoundTrip.{whole}
use Rattle.meaning_layers.specs.Layers.{eight_in, eight_kind, eight_size, before_inner, inner_of, layer_of, read, wrap_refusal, wrap, unwrap_refusal, unwrap}
use Rattle.meaning_layers.proofs.LayerLaws.{wrappable, unwrappable}
use Rattle.meaning_layers.specs.LayerCalls.{HandsPart}
use Rattle.bench_words.specs.Words.{Puts, ascii}
use Rattle.bench_lines.specs.Text.{count_line, event_line, text_space}
use Rattle.bench_layers.specs.LayerText.{layers_line, wrap_line, unwrapped_line, unwrap_line}
use Rattle.bench_layers.proofs.Shown.{root-most, eight-most}
use Rattle.bench_replies.specs.Reply.{only, Says}
use Rattle.bench_replies.proofs.Reply.{says-only}
use Rattle.bench_words.proofs.Words.{front-is}

pub says-layers : {n : ℕ} {name from at : List ℕ} → Puts name from at n → (text : List ℕ) (c : Card) (room r : ℕ) → r ≤ text_space → take r text ≡ layers_line (read (take n at)) → Says (only (layers_line (read name)) c room) r text c
says-layers p text c room r k e = says-only _ text c room r k (e ∙ ap (λ (o : List ℕ). layers_line (read o)) (front-is p))

-- ---- wrapping

wrap-fits : (room : ℕ) (root eight name : List ℕ) → length (wrap room root eight name).octets ≤ room
unfolding wrap
wrap-fits room root eight name =
    by-test (eqb (wrap_refusal room root eight name) 0)
    (λ e. rw e (wrappable room root eight name (eqb-true _ _ e)).fits)
    (λ e. rw e (omega arith))

-- the three words of HEX are front-is, each to the front of some space
module _ (room : ℕ) {l most k m n a : ℕ} {root eight name from at from' at' from'' at'' part : List ℕ} (all : name_limit ≡ most) (lent : l ≡ min room most)
    (p : Puts root from at k) (q : Puts eight from' at' m) (s : Puts name from'' at'' n)
    (h : HandsPart (wrap l (take k at) (take m at') (take n at'')).answer (wrap l (take k at) (take m at') (take n at'')).octets a part) where
  pub wrap-short : length part ≤ save_limit new
  wrap-short = rw h.hands (omega (arith, wrap-fits l (take k at) (take m at') (take n at'')))

  told : event_line (ascii "wrap") a part ≡ wrap_line (wrap l (take k at) (take m at') (take n at''))
  unfolding wrap_line
  told = rw (h.answers, h.hands) refl

  pub says-wrap : (text : List ℕ) (c : Card) (r : ℕ) → r ≤ text_space → take r text ≡ event_line (ascii "wrap") a part → Says (only (wrap_line (wrap (min room name_limit) root eight name)) c room) r text c
  says-wrap text c r j e =
      let room-is : l ≡ min room name_limit = omega arith in
      says-only _ text c room r j (e ∙ told ∙ rw (room-is, front-is p, front-is q, front-is s) refl)

-- ---- unwrapping

module _ (l : ℕ) (name : List ℕ) {a : ℕ} {part : List ℕ} (h : HandsPart (unwrap l name).answer (unwrap l name).octets a part) where
  pub not-unwrapped : (a ≡ 0 → ⊥) → count_line (ascii "unwrap") a ≡ unwrap_line (unwrap l name)
  unfolding unwrap_line
  not-unwrapped d = rw (ne_eqb (unwrap l name).answer 0 (λ z. d (h.answers ∙ z))) (ap (count_line (ascii "unwrap")) h.answers)

  module _ (z : a ≡ 0) where
    ok : unwrap_refusal l name ≡ 0
    unfolding unwrap
    ok = sym h.answers ∙ z

    inner-is : (unwrap l name).octets ≡ inner_of name
    unfolding unwrap
    inner-is = rw (eq-eqb (unwrap_refusal l name) 0 ok) refl

    layer-is : (unwrap l name).layer ≡ layer_of name
    unfolding unwrap
    layer-is = rw (eq-eqb (unwrap_refusal l name) 0 ok) refl

    pub inner-short : length part ≤ l
    inner-short = rw (h.hands ∙ inner-is) (unwrappable l name ok).fits

    pub root-short : (root : List ℕ) → root ≡ root_in name → length root ≤ root_limit
    root-short root e = rw e (omega (arith, root-most name, (whole name (unwrappable l name ok).its).family.1))

    pub unwrapped : (root eight : List ℕ) → root ≡ root_in name → eight ≡ eight_in (opaque_in name) → unwrapped_line part root eight ≡ unwrap_line (unwrap l name)
    unfolding unwrap_line layer_of
    unwrapped root eight er ee = rw (eq-eqb (unwrap l name).answer 0 (sym h.answers ∙ z)) (rw (layer-is, h.hands, er, ee) refl)

before-most : (o : List ℕ) → before_inner o ≤ eight_size
unfolding before_inner
before-most o = by-test (eqb (get_or o 0 0) eight_kind) (λ e. rw e (omega arith)) (λ e. rw e (omega arith))

pub eight-short : (name eight : List ℕ) → eight ≡ eight_in (opaque_in name) → length eight ≤ eight_size
eight-short name eight e = rw e (omega (arith, eight-most name, before-most (opaque_in name)))

pub says-unwrap : (room : ℕ) {l most n : ℕ} {name from at : List ℕ} → name_limit ≡ most → l ≡ min room most → Puts name from at n → (text : List ℕ) (c : Card) (r : ℕ) → r ≤ text_space → take r text ≡ unwrap_line (unwrap l (take n at))
    → Says (only (unwrap_line (unwrap (min room name_limit) name)) c room) r text c
says-unwrap room {l} all lent p text c r k e =
    let room-is : l ≡ min room name_limit = omega arith in
    says-only _ text c room r k (e ∙ rw (room-is, front-is p) refl)
