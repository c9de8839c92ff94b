use mathlib.Core.Path.{sym, ◌∙◌}
use Rattle.save_reader.proofs.Whole.{refused, restored}
use Rattle.save_reader.proofs.restore.Goals as goal

pub returns-then-not-is_taken : goal.returns-then-not-is_taken
returns-then-not-is_taken c =
    let r = refused _ c.args.octets.now _ (sym c.is_taken.ensures.0 ∙ c.if-not-is_taken.true) in
    (c.number.ensures ∙ r.0, r.1)

pub returns : goal.returns
returns c =
    let the-is-taken = c.is_taken in
    let the-if1 = c.if-not-is_taken in
    let t = the-is-taken.ensures in
    let e = the-if1.false in
    restored _ c.args.octets.now _ _ (sym t.0 ∙ e) (rw (c.put_over.ensures.0, c.put_over.ensures.1) (t.1 e))
