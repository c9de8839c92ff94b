-- `save_written::routes_written` meets its contract: what is left decides. Assumes nothing.
use Prim.Native.Nat.{ℕ, ◌+◌, ◌-◌}
use native.Mathlib.Omega.{arith}
use mathlib.Core.Path.{◌≡◌, sym, ◌∙◌}
use lib.ListN.{drop}
use Rattle.meaning_save.specs.Save.{route_size}
use Rattle.save_written.specs.Written.{routes_written}
use Rattle.save_written.proofs.Steps.{routes-stop, routes-next, routes-done}
use mathlib.Core.Path.{ap}
use Rattle.save_written.proofs.routes_written.Goals as goal

pub returns-then-not-is_route : goal.returns-then-not-is_route
returns-then-not-is_route c =
    let l = c.loop in
    sym (l.invariant.0 ∙ routes-stop _ l.at (c.args.n - l.counter) (omega (arith, c.loop-test.true)) (sym c.is_route.ensures ∙ c.if-not-is_route.true))

pub loop-preserved : goal.loop-preserved
loop-preserved c =
    let l = c.loop in
    let n = c.args.n in
    let one_less : n - l.counter - 1 ≡ n - (l.counter + 1) = omega arith in
    (l.invariant.0 ∙ routes-next _ l.at (n - l.counter) (omega (arith, c.loop-test.true)) (sym c.is_route.ensures ∙ c.if-not-is_route.false) ∙ ap (λ (k : ℕ). routes_written k (drop (l.at + route_size) c.args.octets.now)) one_less, omega (arith, l.invariant.1))

pub returns : goal.returns
returns c =
    let l = c.loop in
    sym (l.invariant.0 ∙ routes-done _ l.at (c.args.n - l.counter) (omega (arith, c.loop-test.false)))
