-- `save_written::uses_written` meets its contract: what is left decides. Assumes nothing.
use Prim.Native.Nat.{ℕ, ◌+◌, ◌-◌}
use native.Mathlib.Omega.{arith}
use mathlib.Core.Path.{◌≡◌, sym, ◌∙◌}
use lib.ListN.{drop}
use Rattle.meaning_save.specs.Save.{form_of, use_beside}
use Rattle.save_fields.proofs.Read.{four-drop}
use Rattle.save_written.specs.Written.{uses_written}
use Rattle.save_written.proofs.Steps.{uses-stop, uses-next, uses-done}
use mathlib.Core.Path.{ap}
use Rattle.save_written.proofs.uses_written.Goals as goal

pub is_use-requires : goal.is_use-requires
is_use-requires c =
    let l = c.loop in
    let e = c.extent_at-e.ensures in
    (omega (arith, l.invariant.1), e.0, e.1, c.four_at-l.ensures.0 ∙ sym (four-drop c.args.octets.now l.at 3), c.requires.1)

pub returns-then-not-is_use : goal.returns-then-not-is_use
returns-then-not-is_use c =
    let l = c.loop in
    sym (l.invariant.0 ∙ uses-stop _ l.at (c.args.n - l.counter) (omega (arith, c.loop-test.true)) _ _ _ (sym c.is_use.ensures ∙ c.if-not-is_use.true))

pub loop-preserved : goal.loop-preserved
loop-preserved c =
    let l = c.loop in
    let n = c.args.n in
    let o = c.args.octets.now in
    let one_less : n - l.counter - 1 ≡ n - (l.counter + 1) = omega arith in
    let label = c.four_at-l.ensures.0 ∙ sym (four-drop o l.at 3) in (
      l.invariant.0
          ∙ uses-next o l.at (n - l.counter) (omega (arith, c.loop-test.true)) _ _ _ _ _ label c.extent_at-e.ensures.0 (sym c.is_use.ensures ∙ c.if-not-is_use.false)
          ∙ ap (λ (k : ℕ). uses_written (form_of c.args.second) c.args.base (c.four_at-l.result + 1) k (drop (l.at + (use_beside + c.extent_at-e.result)) o)) one_less,
      omega (arith, l.invariant.1, c.extent_at-e.ensures.1),
    )

pub returns : goal.returns
returns c =
    let l = c.loop in
    let a = c.args in
    uses-done a.octets.now l.at _ _ l.least (a.n - l.counter) (omega (arith, c.loop-test.false)) ∙ sym l.invariant.0
