-- A LINE THAT IS CUT: after both its boxes have lost each other, it is as a line between two fresh cards.
-- Assumes nothing.
use Rattle.std.specs.Prelude.{ℕ, zero, suc, ◌<◌, ◌≡◌, refl, true, false, List, [], ◌∷◌, get_or, set, eqb}
use Rattle.std.proofs.Common.{le_refl, arith, sym, ◌∙◌}
use Rattle.std.proofs.Math.Path.{ap}
use borrow.Author.Tests.{eq-eqb}
use Rattle.meaning.specs.Lists.{by-test}
use Rattle.meaning.specs.Wire.{records}
use Rattle.meaning.specs.Card.{Use, free, mapped, awaiting, Card, with_next, with_branch, tree_of, use_of, neighbour_count}
use Rattle.meaning.specs.Events.{Outcome, refuse, accept, room_short, finish, branch, is_of, lost, outcome, event}
use Rattle.promise.specs.Promise.{Past, answer_to, is_taken, then_step}
use Rattle.promise.specs.LiveLaws.{givens, Books}
use Rattle.promise.specs.EventLaws.{became}
use Rattle.promise.specs.LossKept.{NoneOf}
use Rattle.promise.proofs.LossKept.{lost-taken, Gone, lost-gone}
use Rattle.promise.proofs.Sizes.{loss-taken}
use Rattle.promise.specs.PromiseProof.{Upheld}
use Rattle.promise.proofs.PromiseProof.{then-upheld}
use Rattle.promise_line.specs.Line.{Box}
use Rattle.promise_line.specs.Life.{idle}
use Rattle.promise_line.specs.Sends.{kin, mine, mine-only}
use Rattle.promise_line.specs.Steps.{from}
use Rattle.promise_line.proofs.Steps.{branches}
use Rattle.promise_line.specs.LineProof.{Bound}
use Rattle.promise_net.specs.Net.{losing}
use Rattle.promise_line.proofs.LineRefusals.{far-off}

-- no label of the table is at n
none_kept : (room : ℕ) (c : Card) (n : ℕ) (o : Outcome) → Gone n o → eqb (finish room c o).answer 0 ≡ true → (l : ℕ) → is_of n (use_of l (finish room c o).card) ≡ false
unfolding finish refuse accept with_next use_of NoneOf
none_kept room c n o G z l =
    rw G.so (by-test (room_short room (records c.next G.sent))
    (λ t. absurd (let h : false ≡ true = rw (G.so, t) at z in let h' : ◌≡◌ {A = ℕ} 0 1 = cc in omega arith))
    (λ t. rw t (unfold use_of in G.labels l)))

none-mine : (n l : ℕ) (u : Use) → is_of n u ≡ false → mine n l (givens l u) ≡ []
unfolding is_of mine givens
none-mine n l free e = refl
none-mine n l (mapped k a) e = rw (eq-eqb l l refl, e) refl
none-mine n l (awaiting k a) e = rw (eq-eqb l l refl, e) refl

set-none : (bs : List ℕ) (k : ℕ) → get_or (set bs k 0) k 0 ≡ 0
set-none [] k = refl
set-none (b ∷ bs) zero = refl
set-none (b ∷ bs) (suc k) = set-none bs k

module _ (p : Past) (u : Upheld p) (n : ℕ) (near : n < neighbour_count) where
  -- it is taken
  pub loses : is_taken p.card (losing n) ≡ true
  unfolding is_taken answer_to
  loses = eq-eqb _ 0 (loss-taken p.card p.live u.sound u.ruled _ n near (le_refl _))

  table_none : (l : ℕ) → is_of n (use_of l (then_step p (losing n)).card) ≡ false
  unfolding is_taken then_step answer_to event
  table_none l = none_kept _ p.card n (outcome p.card (lost n)) (rw (lost-taken p.card n (far-off n near)) (lost-gone p.card n near)) loses l

  -- no label is live at n any more
  pub lost-mine : (l : ℕ) → mine n l (then_step p (losing n)).live ≡ []
  unfolding Books
  lost-mine l = mine-only n l _ ∙ ap (mine n l) ((then-upheld p (losing n) u).sound.books l) ∙ none-mine n l _ (table_none l)

  -- and no branch is listed from n
  pub lost-from : (a : List ℕ) → from n (then_step p (losing n)) a ≡ 0
  unfolding became branch with_branch
  lost-from a = unfold branch in (branches p u (losing n) loses a n) ∙ set-none (tree_of a p.card).branches n

-- a box at its end of a line that begins anew
abbrev pub anew_at : Past → ℕ → Box
anew_at p n = record { past = then_step p (losing n); peer = n; inbox = []; refused = false }

pub cut-bound : (x y : Past) → Upheld x → Upheld y → (p q : ℕ) → p < neighbour_count → q < neighbour_count → Bound (anew_at x p) (anew_at y q)
cut-bound x y u v p q near far = record {
  near = near;
  user = then-upheld x (losing p) u;
  giver = then-upheld y (losing q) v;
  lives = λ l nz. rw (lost-mine y v q far l) (unfold kin in idle (λ a e. nz (sym e ∙ lost-from x u p near a)));
}
