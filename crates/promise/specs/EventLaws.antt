-- What `proofs/EventLaws` speaks of.
-- Assumes nothing.
use Prim.Native.Nat.{ℕ, ◌≤◌, ◌<◌}
use Rattle.std.specs.Prelude.{◌≡◌, eqb}
use Rattle.std.proofs.Math.Bool.{true, false}
use mathlib.Core.List.{List}
use Rattle.meaning.specs.Octets.{pick, same}
use Rattle.meaning.specs.Wire.{mapping, withdraw, Message, message_in, Sent}
use Rattle.meaning.specs.Card.{Tree, Card, with_branch, with_leaf, tree_of, is_awaiting, use_of, neighbour_count}
use Rattle.meaning.specs.Events.{Outcome, refused, taken, other_label, less_branch, Event, receive, join, leave, route, lost}
use Rattle.promise.specs.Promise.{Given, note_all, NoneLive, AllMapped, Untouched}
use Rattle.meaning_laws.specs.RoundTrip.{AllSendable}
use Rattle.promise.specs.CardLaws.{shape}
use Rattle.promise.specs.RuleLaws.{Ruled}
use Rattle.promise.specs.LabelLaws.{Sound}

-- ---- what an event that is taken makes of the tree named a

unfoldable pub by_message : ℕ → Message → Tree → Tree
by_message n m t = pick (eqb m.kind mapping) (with_branch n m.label t) (pick (eqb m.kind withdraw) (less_branch n m.label t) t)

unfoldable pub became : Event → List ℕ → Tree → Tree
became (receive n s) a t = pick (same (message_in s).name a) (by_message n (message_in s) t) t
became (join e) a t = pick (same e a) (with_leaf true t) t
became (leave e) a t = pick (same e a) (with_leaf false t) t
became (route r via) a t = t
became (lost n) a t = with_branch n 0 t

-- what an event leaves alone: all that is not of the tree that it names; a route order and a loss may touch any
unfoldable pub Apart : Event → Card → Card → Type 0
Apart (receive n s) = Untouched (message_in s).name
Apart (join e) = Untouched e
Apart (leave e) = Untouched e
Apart (route r via) = λ before after. Unit {0}
Apart (lost n) = λ before after. Unit {0}

-- ---- what is to be kept, from a table c with gs live

pub record Follows (c : Card) (gs : List Given) (f : List ℕ → Tree → Tree) (A : Card → Type 0) (ms : List Sent) (after : Card) : Type 0 where
  pub sound : Sound after (note_all ms gs)
  pub fair : NoneLive ms gs
  pub ends : AllMapped ms gs
  pub said : AllSendable ms
  pub shapes : (b : List ℕ) → shape (tree_of b after) ≡ shape (f b (tree_of b c))
  pub apart : A after
  pub ruled : Ruled c → Ruled after

unfoldable pub Keeps : Card → List Given → (List ℕ → Tree → Tree) → (Card → Type 0) → Outcome → Type 0
Keeps c gs f t (refused n) = n ≡ 0 → ⊥
Keeps c gs f t (taken ms after) = Follows c gs f t ms after

-- messages that make no label live, and mark none
unfoldable pub Quiet : List Given → List Sent → Type 0
Quiet gs ms = (note_all ms gs ≡ gs) × NoneLive ms gs × AllSendable ms × AllMapped ms gs

-- ---- one tree's event

unfoldable pub only_for : List ℕ → (Tree → Tree) → List ℕ → Tree → Tree
only_for a f b t = pick (same a b) (f t) t

-- ---- a Release that is taken

unfoldable pub Awaited : Card → ℕ → Message → Outcome → Type 0
Awaited c n m (refused k) = k ≡ 0 → ⊥
Awaited c n m (taken ms after) = is_awaiting n m.name (use_of m.label c) ≡ true

-- ---- a message that is taken

-- It is from a neighbour, its label is one, and where it is a Mapping its branch stood with no other.
unfoldable pub Admits : Card → Event → Type 0
Admits c (receive n s) = (n < neighbour_count) × (16 ≤ (message_in s).label) × ((message_in s).kind ≡ mapping → other_label (tree_of (message_in s).name c) n (message_in s).label ≡ false)
Admits c (join e) = Unit {0}
Admits c (leave e) = Unit {0}
Admits c (route r via) = Unit {0}
Admits c (lost n) = Unit {0}

unfoldable pub Meets : Card → Event → Outcome → Type 0
Meets c e (refused k) = Unit {0}
Meets c e (taken ms after) = Admits c e
