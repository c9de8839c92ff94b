use native.Mathlib.Omega.{arith}
use Prim.Native.Nat.{◌+◌}
use Rattle.bench_lines.proofs.Text.{adds_then}
use Rattle.bench_layers.proofs.Shown.{name-sizes, root-sized, rest-sized, opaque-part}
use Rattle.bench_layers.specs.LayerText.{innermost_text}
use borrow.Author.Rules.{rules}
use Rattle.bench_layers.proofs.add_innermost.Goals as goal

pub add_hex-at-requires : goal.add_hex-at-requires
add_hex-at-requires c =
    let sizes = name-sizes c.args.name.now c.requires.0 in
    let root = root-sized c.args.name.now _ c.root_of.ensures in
    omega (arith, sizes, root, c.requires.1)

pub add-at-requires : goal.add-at-requires
add-at-requires c =
    let the-root-of = c.root_of in
    let sizes = name-sizes c.args.name.now c.requires.0 in
    let root = root-sized c.args.name.now _ the-root-of.ensures in
    let the-add-hex = c.add_hex-at in
    omega (arith, sizes, root, c.requires.1, the-add-hex.ensures.value, the-add-hex.auto.text)

pub slice_bounds-add_hex-count : goal.slice_bounds-add_hex-count
slice_bounds-add_hex-count c =
    let the-root-of = c.root_of in
    let sizes = name-sizes c.args.name.now c.requires.0 in
    let root = root-sized c.args.name.now _ the-root-of.ensures in
    omega (arith, sizes, c.root_length-opaque.ensures.0)

pub slice_bounds-add_hex-start : goal.slice_bounds-add_hex-start
slice_bounds-add_hex-start c =
    let the-root-of = c.root_of in
    let sizes = name-sizes c.args.name.now c.requires.0 in
    let root = root-sized c.args.name.now _ the-root-of.ensures in
    omega (arith, sizes, c.root_length-opaque.ensures.0)

pub add_hex-requires : goal.add_hex-requires
add_hex-requires c =
    let the-root-of = c.root_of in
    let sizes = name-sizes c.args.name.now c.requires.0 in
    let root = root-sized c.args.name.now _ the-root-of.ensures in
    let the-add-hex = c.add_hex-at in
    let the-add = c.add-at in
    let the-root-length = c.root_length-opaque in
    omega (arith, sizes, root, c.requires.1, the-add-hex.ensures.value, the-add-hex.auto.text, the-add.ensures.count, the-add.auto.text, the-root-length.ensures.0, rest-sized c.args.name.now (6 + the-root-length.result))

pub returns : goal.returns
unfolding innermost_text
returns c =
    let sizes = name-sizes c.args.name.now c.requires.0 in
    let the-root-of = c.root_of in
    let root = root-sized c.args.name.now _ the-root-of.ensures in
    let the-add-hex = c.add_hex-at in
    let the-add = c.add-at in
    let the-root-length = c.root_length-opaque in
    let the-add-hex2 = c.add_hex in record { adds = rw (← the-root-of.ensures, ← opaque-part c.args.name.now _ the-root-length.ensures.0) (adds_then the-add-hex.ensures.adds (adds_then the-add.ensures the-add-hex2.ensures.adds)); upper_bound = omega (arith, sizes, root, the-add-hex.ensures.value, the-add.ensures.count, the-root-length.ensures.0, the-add-hex2.ensures.value, rest-sized c.args.name.now (6 + the-root-length.result)) }
