use native.Mathlib.Omega.{arith}
use mathlib.Core.Path.{ap, ◌∙◌}
use Rattle.meaning.specs.Wire.{element_refusal}
use Rattle.bench_lines.proofs.Text.{adds_then}
use Rattle.layers.proofs.Words.{adds_same, line_of}
use Rattle.layers.proofs.add_tree.Goals as goal

pub add_layers-at-requires : goal.add_layers-at-requires
add_layers-at-requires c =
    let name = c.tree_name-name in
    (ap element_refusal (name.ensures.0 c.args.numbers.now c.requires.4.0) ∙ c.requires.2, omega (arith, name.ensures.1, c.requires.3))

pub add_label-at-requires : goal.add_label-at-requires
add_label-at-requires c =
    let name = c.tree_name-name in
    let layers = c.add_layers-at in
    omega (arith, name.ensures.1, layers.ensures.upper_bound, layers.auto.text, c.requires.3)

pub add_leads-requires : goal.add_leads-requires
add_leads-requires c =
    let name = c.tree_name-name in
    let layers = c.add_layers-at in
    let label = c.add_label-at in
    (c.requires.0, c.requires.1, omega (arith, name.ensures.1, layers.ensures.upper_bound, layers.auto.text, label.ensures.upper_bound, label.auto.text, c.requires.3))

pub returns : goal.returns
returns c =
    let name = c.tree_name-name in
    let layers = c.add_layers-at in
    let own = c.tree_label in
    let label = c.add_label-at in
    let leads = c.add_leads in
    record {
      fact = adds_same (line_of _ _ _ _ (name.ensures.0 c.args.numbers.now c.requires.4.0) (own.ensures c.args.names.now)) (adds_then layers.ensures.adds (adds_then label.ensures.adds leads.ensures.adds));
      upper_bound = omega (arith, name.ensures.1, layers.ensures.upper_bound, label.ensures.upper_bound, leads.ensures.upper_bound);
    }
