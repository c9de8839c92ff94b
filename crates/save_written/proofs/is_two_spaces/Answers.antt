-- `save_written::is_two_spaces` meets its contract. Assumes nothing.
use native.Mathlib.Omega.{arith}
use mathlib.Core.Path.{refl, sym, ◌∙◌}
use Rattle.save_written.proofs.Places.{no_address, no-root, root-and-value}
use Rattle.save_written.proofs.is_two_spaces.Goals as goal

pub overflow_cast-k : goal.overflow_cast-k
overflow_cast-k c = omega (arith, c.shared_slice_known-2-1.given c.args.at)

pub returns-then-k : goal.returns-then-k
returns-then-k c =
    let a = c.args in
    no_address a.octets.now a.at _ (omega arith) refl c.if-k.true

pub returns-then-is_space : goal.returns-then-is_space
returns-then-is_space c =
    let a = c.args in
    root-and-value a.octets.now a.at _ (omega arith) refl c.if-k.false (sym c.is_space.ensures ∙ c.if-is_space.true) _ c.is_space-then-is_space.ensures

pub returns-else-is_space : goal.returns-else-is_space
returns-else-is_space c =
    let a = c.args in
    c.if-is_space.false ∙ no-root a.octets.now a.at _ (omega arith) refl c.if-k.false (sym c.is_space.ensures ∙ c.if-is_space.false)
