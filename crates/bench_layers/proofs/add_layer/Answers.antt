use native.Mathlib.Omega.{arith}
use Rattle.bench_lines.proofs.Text.{adds_then}
use Rattle.bench_layers.proofs.Shown.{root-sized, eight-sized}
use Rattle.meaning_layers.specs.Layers.{layer_of}
use Rattle.bench_layers.specs.LayerText.{layer_text}
use borrow.Author.Rules.{rules}
use Rattle.bench_layers.proofs.add_layer.Goals as goal

pub add_hex-at-requires : goal.add_hex-at-requires
add_hex-at-requires c =
    let root = root-sized c.args.name.now _ c.root_of.ensures in
    omega (arith, root, c.requires)

pub add_eight-at-requires : goal.add_eight-at-requires
add_eight-at-requires c =
    let the-root-of = c.root_of in
    let root = root-sized c.args.name.now _ the-root-of.ensures in
    let eight = eight-sized c.args.name.now _ c.eight_of.ensures in
    let the-add-hex = c.add_hex-at in
    omega (arith, root, eight, c.requires, the-add-hex.ensures.value, the-add-hex.auto.text)

pub add-requires : goal.add-requires
add-requires c =
    let the-root-of = c.root_of in
    let the-eight-of = c.eight_of in
    let root = root-sized c.args.name.now _ the-root-of.ensures in
    let eight = eight-sized c.args.name.now _ the-eight-of.ensures in
    let the-add-hex = c.add_hex-at in
    let the-add-eight = c.add_eight-at in
    omega (arith, root, eight, c.requires, the-add-hex.ensures.value, the-add-hex.auto.text, the-add-eight.ensures.upper_bound, the-add-eight.auto.text)

pub returns : goal.returns
unfolding layer_text layer_of
returns c =
    let the-root-of = c.root_of in
    let the-eight-of = c.eight_of in
    let root = root-sized c.args.name.now _ the-root-of.ensures in
    let eight = eight-sized c.args.name.now _ the-eight-of.ensures in
    let the-add-hex = c.add_hex-at in
    let the-add-eight = c.add_eight-at in
    let the-add = c.add in record { adds = rw (← the-root-of.ensures, ← the-eight-of.ensures) (adds_then the-add-hex.ensures.adds (adds_then the-add-eight.ensures.adds the-add.ensures)); upper_bound = omega (arith, root, eight, the-add-hex.ensures.value, the-add-eight.ensures.upper_bound, the-add.ensures.count) }
