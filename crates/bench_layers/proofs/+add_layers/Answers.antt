use native.Mathlib.Omega.{arith}
use lib.ListN.{length}
use Rattle.bench_lines.proofs.Text.{adds_then}
use Rattle.bench_layers.proofs.Shown.{shown-end, shown-part, part-start, part-named, rest-sized}
use Rattle.bench_layers.proofs.+add_layers.Goals as goal

pub add_innermost-requires : goal.add_innermost-requires
add_innermost-requires t c = c.requires

pub returns-then-k-eq0 : goal.returns-then-k-eq0
returns-then-k-eq0 t c = record {
  adds = rw (← shown-end _ _ c.inner_start-k.ensures.0 c.if-k-eq0.true) c.add_innermost.ensures.adds;
  upper_bound = c.add_innermost.ensures.upper_bound;
}

pub add_layer-next-requires : goal.add_layer-next-requires
add_layer-next-requires t c =
    omega (arith, part-start _ _ c.inner_start-k.ensures.0 c.if-k-eq0.false, c.inner_start-k.ensures.1, c.requires.1)

pub slice_bounds-add_layers-count : goal.slice_bounds-add_layers-count
slice_bounds-add_layers-count t c = omega (arith, c.inner_start-k.ensures.1)

pub slice_bounds-add_layers-start : goal.slice_bounds-add_layers-start
slice_bounds-add_layers-start t c = omega (arith, c.inner_start-k.ensures.1)

pub add_layers-requires : goal.add_layers-requires
add_layers-requires t c =
    let begins = part-start c.args.name.now _ c.inner_start-k.ensures.0 c.if-k-eq0.false in
    let rest = rest-sized c.args.name.now c.inner_start-k.result in (
      omega (arith, begins, rest, c.inner_start-k.ensures.1),
      (part-named c.args.name.now _ c.inner_start-k.ensures.0 c.if-k-eq0.false c.requires.0, omega (arith, begins, rest, c.inner_start-k.ensures.1, c.add_layer-next.ensures.upper_bound, c.add_layer-next.auto.text, c.requires.1)),
    )

pub returns : goal.returns
returns t c =
    let begins = part-start c.args.name.now _ c.inner_start-k.ensures.0 c.if-k-eq0.false in
    let rest = rest-sized c.args.name.now c.inner_start-k.result in record {
      adds = rw (← shown-part c.args.name.now _ c.inner_start-k.ensures.0 c.if-k-eq0.false) (adds_then c.add_layer-next.ensures.adds c.add_layers.ensures.adds);
      upper_bound = omega (arith, begins, rest, c.inner_start-k.ensures.1, c.add_layer-next.ensures.upper_bound, c.add_layers.ensures.upper_bound);
    }
