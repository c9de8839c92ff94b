-- The laws by which a message that is read follows the definitions. Assumes nothing.
use Prim.Native.Nat.{ℕ, zero, suc, ◌≤◌, ◌<◌}
use native.Mathlib.Omega.{arith}
use mathlib.Core.Path.{◌≡◌, refl, sym, ap, ◌∙◌, subst}
use mathlib.Core.List.{List}
use lib.ListN.{length}
use borrow.Author.Tests.{eq-eqb, ne_eqb}
use Rattle.meaning.specs.Wire.{Message, mapping, withdraw, release, message_in, message_refusal, name_limit, least_label}
use Rattle.meaning_laws.specs.RoundTrip.{heard, name-fits}
use Rattle.meaning.specs.Card.{Card}
use Rattle.meaning.specs.Events.{Outcome, refused, unless, finish, on_mapping, on_withdraw, on_release, on_message}
use Rattle.meaning.specs.Calls.{Does}
use Rattle.event_tree.proofs.Ends.{does-refused}
use Rattle.wire_reader.specs.declared.Kind.{Kind}
use Rattle.wire_reader.specs.declared.Kind.TheVariants.{Mapping, Withdraw, Release}
use Rattle.wire_reader.specs.Read.{type_of}
use Rattle.card_messages.specs.Messages.{on_read}

-- ---- a message by its kind

module _ (c : Card) (n : ℕ) (m : Message) where
  pub says-mapping : m.kind ≡ mapping → on_mapping c n m.name m.label ≡ on_message c n m
  unfolding on_message
  says-mapping e = rw (eq-eqb m.kind mapping e) refl

  pub says-withdraw : m.kind ≡ withdraw → on_withdraw c n m.name m.label ≡ on_message c n m
  unfolding on_message
  says-withdraw e = rw (ne_eqb m.kind mapping (λ p. omega (arith, p, e)), eq-eqb m.kind withdraw e) refl

  pub says-release : m.kind ≡ release → on_release c n m.name m.label ≡ on_message c n m
  unfolding on_message
  says-release e = rw (ne_eqb m.kind mapping (λ p. omega (arith, p, e)), ne_eqb m.kind withdraw (λ p. omega (arith, p, e)), eq-eqb m.kind release e) refl

  -- another kind is refused 3; the code meets none, since `wire_reader::Kind` has these three and another type is refused before
  pub says_nothing : (m.kind ≡ mapping → ⊥) → (m.kind ≡ withdraw → ⊥) → (m.kind ≡ release → ⊥) → refused 3 ≡ on_message c n m
  unfolding on_message
  says_nothing p q r = rw (ne_eqb m.kind mapping p, ne_eqb m.kind withdraw q, ne_eqb m.kind release r) refl

-- ---- a message, or its refusal

pub unless-refused : (k : ℕ) (o : Outcome) → 0 < k → unless k o ≡ refused k
unfolding unless
unless-refused zero o h = absurd (omega arith)
unless-refused (suc k) o h = refl

pub unless-none : (k : ℕ) (o : Outcome) → k ≡ 0 → unless k o ≡ o
unless-none k o e = rw e (unfold unless in refl)

module _ (c : Card) (n : ℕ) (s : List ℕ) where
  pub read-refused : (k : ℕ) (t : List ℕ) → k ≡ message_refusal s → 0 < k → Does (finish (length t) c (on_read c n s)) k 0 t t c
  unfolding on_read
  read-refused k t e h = rw (← e, unless-refused k _ h) (does-refused c k t)

  pub read-says : (m : Message) → message_refusal s ≡ 0 → message_in s ≡ m → on_message c n m ≡ on_read c n s
  unfolding on_read
  read-says m e q = sym (unless-none (message_refusal s) _ e ∙ ap (on_message c n) q)

-- a message that is read, by its kind
module _ (c : Card) (n : ℕ) (s : List ℕ) (k : Kind) (a : List ℕ) (l : ℕ) (z : message_refusal s ≡ 0) (q : message_in s ≡ record { kind = type_of k; name = a; label = l }) where
  abbrev what-it-says : Message
  what-it-says = record { kind = type_of k; name = a; label = l }

  pub read-mapping : k ≡ Mapping → on_mapping c n a l ≡ on_read c n s
  read-mapping e = says-mapping c n what-it-says (ap type_of e) ∙ read-says c n s what-it-says z q

  pub read-withdraw : k ≡ Withdraw → on_withdraw c n a l ≡ on_read c n s
  read-withdraw e = says-withdraw c n what-it-says (ap type_of e) ∙ read-says c n s what-it-says z q

  pub read-release : k ≡ Release → on_release c n a l ≡ on_read c n s
  read-release e = says-release c n what-it-says (ap type_of e) ∙ read-says c n s what-it-says z q

-- the name and the label of a message that is read
pub read_fits : (s : List ℕ) (kind label : ℕ) (a : List ℕ) → message_refusal s ≡ 0 → message_in s ≡ record { kind = kind; name = a; label = label } → (least_label ≤ label) × (length a ≤ name_limit)
read_fits s kind label a e q =
    let g = heard 0 s (omega arith) e in
    let l : (message_in s).label ≡ label = ap (λ (m : Message). m.label) q in
    let n : (message_in s).name ≡ a = ap (λ (m : Message). m.name) q in
    (rw l at g.low, rw n at (name-fits (message_in s).name g.name))

-- the same outcome by another name
pub does-same : (room : ℕ) (c : Card) (o o' : Outcome) (a n : ℕ) (s s' : List ℕ) (d : Card) → o ≡ o' → Does (finish room c o) a n s s' d → Does (finish room c o') a n s s' d
does-same room c o o' a n s s' d e p = subst (λ (x : Outcome). Does (finish room c x) a n s s' d) e p
