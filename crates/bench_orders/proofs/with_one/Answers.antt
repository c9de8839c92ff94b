use Rattle.std.proofs.Common.{refl, sym, ◌∙◌}
use borrow.Enum.Refused.{opened}
use Rattle.bench_verbs.specs.Line.{Said, does}
use Rattle.bench_orders.specs.Tells.{meant}
use Rattle.bench_orders.proofs.Verbs.{number-of, no_number, found, not-found, hex-of, no-hex, found-save, no-save, one-bad}
use Rattle.bench_orders.proofs.with_one.Goals as goal

pub returns-in_err-number_at-in-Start : goal.returns-in_err-number_at-in-Start
unfolding does meant
returns-in_err-number_at-in-Start c = rw (c.from_residual.ensures, c.in-Start.is) (no_number Said.start _ (sym c.number_at.ensures ∙ c.in_err-number_at-in-Start.was))

pub returns-in_ok-number_at-in-Start : goal.returns-in_ok-number_at-in-Start
unfolding does meant
returns-in_ok-number_at-in-Start c = record { means = rw c.in-Start.is (sym (number-of Said.start _ _ (sym c.number_at.ensures ∙ c.in_ok-number_at-in-Start.was))); lies = tt }

pub returns-in_err-number_at-in-Room : goal.returns-in_err-number_at-in-Room
unfolding does meant
returns-in_err-number_at-in-Room c = rw (c.from_residual-in_err-number_at-in-Room.ensures, c.in-Room.is) (no_number Said.room _ (sym c.number_at-in-Room.ensures ∙ c.in_err-number_at-in-Room.was))

pub returns-in_ok-number_at-in-Room : goal.returns-in_ok-number_at-in-Room
unfolding does meant
returns-in_ok-number_at-in-Room c = record { means = rw c.in-Room.is (sym (number-of Said.room _ _ (sym c.number_at-in-Room.ensures ∙ c.in_ok-number_at-in-Room.was))); lies = tt }

pub returns-in_err-number_at-in-Label : goal.returns-in_err-number_at-in-Label
unfolding does meant
returns-in_err-number_at-in-Label c = rw (c.from_residual-in_err-number_at-in-Label.ensures, c.in-Label.is) (no_number Said.label _ (sym c.number_at-in-Label.ensures ∙ c.in_err-number_at-in-Label.was))

pub returns-in_ok-number_at-in-Label : goal.returns-in_ok-number_at-in-Label
unfolding does meant
returns-in_ok-number_at-in-Label c = record { means = rw c.in-Label.is (sym (number-of Said.label _ _ (sym c.number_at-in-Label.ensures ∙ c.in_ok-number_at-in-Label.was))); lies = tt }

pub returns-in_err-number_at-in-Lost : goal.returns-in_err-number_at-in-Lost
unfolding does meant
returns-in_err-number_at-in-Lost c = rw (c.from_residual-in_err-number_at-in-Lost.ensures, c.in-Lost.is) (no_number Said.lost _ (sym c.number_at-in-Lost.ensures ∙ c.in_err-number_at-in-Lost.was))

pub returns-in_ok-number_at-in-Lost : goal.returns-in_ok-number_at-in-Lost
unfolding does meant
returns-in_ok-number_at-in-Lost c = record { means = rw c.in-Lost.is (sym (number-of Said.lost _ _ (sym c.number_at-in-Lost.ensures ∙ c.in_ok-number_at-in-Lost.was))); lies = tt }

pub returns-in_err-hex_at-in-Join : goal.returns-in_err-hex_at-in-Join
unfolding does meant
returns-in_err-hex_at-in-Join c = rw (c.from_residual-in_err-hex_at-in-Join.ensures, c.in-Join.is) (no-hex Said.join _ (not-found c.args.line.now c.args.word _ c.hex_at.ensures c.in_err-hex_at-in-Join.was))

pub returns-in_ok-hex_at-in-Join : goal.returns-in_ok-hex_at-in-Join
unfolding does meant
returns-in_ok-hex_at-in-Join c =
    let h = found _ _ _ _ c.requires c.hex_at.ensures c.in_ok-hex_at-in-Join.was in
    record { means = rw c.in-Join.is (sym (hex-of Said.join _ _ _ h)); lies = h.lies }

pub returns-in_err-hex_at-in-Leave : goal.returns-in_err-hex_at-in-Leave
unfolding does meant
returns-in_err-hex_at-in-Leave c = rw (c.from_residual-in_err-hex_at-in-Leave.ensures, c.in-Leave.is) (no-hex Said.leave _ (not-found c.args.line.now c.args.word _ c.hex_at-in-Leave.ensures c.in_err-hex_at-in-Leave.was))

pub returns-in_ok-hex_at-in-Leave : goal.returns-in_ok-hex_at-in-Leave
unfolding does meant
returns-in_ok-hex_at-in-Leave c =
    let h = found _ _ _ _ c.requires c.hex_at-in-Leave.ensures c.in_ok-hex_at-in-Leave.was in
    record { means = rw c.in-Leave.is (sym (hex-of Said.leave _ _ _ h)); lies = h.lies }

pub returns-in_err-hex_at-in-Tree : goal.returns-in_err-hex_at-in-Tree
unfolding does meant
returns-in_err-hex_at-in-Tree c = rw (c.from_residual-in_err-hex_at-in-Tree.ensures, c.in-Tree.is) (no-hex Said.tree _ (not-found c.args.line.now c.args.word _ c.hex_at-in-Tree.ensures c.in_err-hex_at-in-Tree.was))

pub returns-in_ok-hex_at-in-Tree : goal.returns-in_ok-hex_at-in-Tree
unfolding does meant
returns-in_ok-hex_at-in-Tree c =
    let h = found _ _ _ _ c.requires c.hex_at-in-Tree.ensures c.in_ok-hex_at-in-Tree.was in
    record { means = rw c.in-Tree.is (sym (hex-of Said.tree _ _ _ h)); lies = h.lies }

pub returns-in_err-hex_at-in-Layers : goal.returns-in_err-hex_at-in-Layers
unfolding does meant
returns-in_err-hex_at-in-Layers c = rw (c.from_residual-in_err-hex_at-in-Layers.ensures, c.in-Layers.is) (no-hex Said.layers _ (not-found c.args.line.now c.args.word _ c.hex_at-in-Layers.ensures c.in_err-hex_at-in-Layers.was))

pub returns-in_ok-hex_at-in-Layers : goal.returns-in_ok-hex_at-in-Layers
unfolding does meant
returns-in_ok-hex_at-in-Layers c =
    let h = found _ _ _ _ c.requires c.hex_at-in-Layers.ensures c.in_ok-hex_at-in-Layers.was in
    record { means = rw c.in-Layers.is (sym (hex-of Said.layers _ _ _ h)); lies = h.lies }

pub returns-in_err-hex_at-in-Unwrap : goal.returns-in_err-hex_at-in-Unwrap
unfolding does meant
returns-in_err-hex_at-in-Unwrap c = rw (c.from_residual-in_err-hex_at-in-Unwrap.ensures, c.in-Unwrap.is) (no-hex Said.unwrap _ (not-found c.args.line.now c.args.word _ c.hex_at-in-Unwrap.ensures c.in_err-hex_at-in-Unwrap.was))

pub returns-in_ok-hex_at-in-Unwrap : goal.returns-in_ok-hex_at-in-Unwrap
unfolding does meant
returns-in_ok-hex_at-in-Unwrap c =
    let h = found _ _ _ _ c.requires c.hex_at-in-Unwrap.ensures c.in_ok-hex_at-in-Unwrap.was in
    record { means = rw c.in-Unwrap.is (sym (hex-of Said.unwrap _ _ _ h)); lies = h.lies }

pub returns-in_err-save_at-in-Restore : goal.returns-in_err-save_at-in-Restore
unfolding does meant
returns-in_err-save_at-in-Restore c = rw (c.from_residual-in_err-save_at-in-Restore.ensures, c.in-Restore.is) (no-save Said.restore _ c.args.line.now c.args.word _ c.save_at.ensures c.in_err-save_at-in-Restore.was)

pub returns-in_ok-save_at-in-Restore : goal.returns-in_ok-save_at-in-Restore
unfolding does meant
returns-in_ok-save_at-in-Restore c =
    let h = found-save Said.restore _ _ _ _ _ c.requires c.save_at.ensures c.in_ok-save_at-in-Restore.was in
    record { means = rw c.in-Restore.is h.means; lies = h.lies }

pub returns-in_err-save_at-in-Move : goal.returns-in_err-save_at-in-Move
unfolding does meant
returns-in_err-save_at-in-Move c = rw (c.from_residual-in_err-save_at-in-Move.ensures, c.in-Move.is) (no-save Said.moves _ c.args.line.now c.args.word _ c.save_at-in-Move.ensures c.in_err-save_at-in-Move.was)

pub returns-in_ok-save_at-in-Move : goal.returns-in_ok-save_at-in-Move
unfolding does meant
returns-in_ok-save_at-in-Move c =
    let h = found-save Said.moves _ _ _ _ _ c.requires c.save_at-in-Move.ensures c.in_ok-save_at-in-Move.was in
    record { means = rw c.in-Move.is h.means; lies = h.lies }

pub returns-in_default : goal.returns-in_default
returns-in_default c = one-bad c.args.verb _ c.in_default.in_default-own.keys12
