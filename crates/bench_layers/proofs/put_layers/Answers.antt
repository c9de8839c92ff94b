use native.Mathlib.Omega.{arith}
use mathlib.Core.Path.{refl, sym, ◌∙◌}
use Rattle.meaning_laws.specs.RoundTrip.{name-fits}
use Rattle.refusals.proofs.Numbers.{number-not-0}
use Rattle.bench_words.specs.Words.{ascii}
use Rattle.bench_lines.proofs.Text.{adds_then}
use Rattle.bench_layers.proofs.Shown.{line_refused, line-shown}
use borrow.Author.Rules.{rules}
use Rattle.bench_layers.proofs.put_layers.Goals as goal

pub returns-in-Err : goal.returns-in-Err
unfolding ascii
returns-in-Err c =
    let the-put-count = c.put_count in
    record { text_after = the-put-count.ensures.text_after ∙ line_refused _ _ (c.number.ensures ∙ c.in-Err.ensures) (λ z. number-not-0 c.in-Err.refusal (sym c.number.ensures ∙ z)); upper_bound = omega (arith, the-put-count.ensures.upper_bound) }

pub add_layers-at-requires : goal.add_layers-at-requires
add_layers-at-requires c =
    let ok = sym c.in_default.ensures in
    let fits = name-fits c.args.name.now ok in
    let the-add = c.add-at in
    (ok, omega (arith, fits, the-add.ensures.count, the-add.auto.text, c.requires))

pub add-requires : goal.add-requires
add-requires c =
    let ok = sym c.in_default.ensures in
    let fits = name-fits c.args.name.now ok in
    let the-add = c.add-at in
    let the-add-layers = c.add_layers-at in
    omega (arith, fits, the-add.ensures.count, the-add.auto.text, the-add-layers.ensures.upper_bound, the-add-layers.auto.text, c.requires)

pub returns : goal.returns
unfolding ascii
returns c =
    let ok = sym c.in_default.ensures in
    let fits = name-fits c.args.name.now ok in
    let the-add = c.add-at in
    let the-add-layers = c.add_layers-at in
    let the-add2 = c.add in record { text_after = (adds_then the-add.ensures (adds_then the-add-layers.ensures.adds the-add2.ensures)).text ∙ line-shown c.args.name.now 0 c.in_default.ensures refl; upper_bound = omega (arith, fits, the-add.ensures.count, the-add-layers.ensures.upper_bound, the-add2.ensures.count) }
