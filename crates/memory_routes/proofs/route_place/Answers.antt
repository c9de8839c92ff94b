use mathlib.Core.Path.{sym, ap}
use lib.ListN.{length}
use lib.Seq.{take_all}
use native.Mathlib.Nat.{le_refl}
use native.Mathlib.Omega.{arith}
use borrow.Author.Rules.{rules}
use Rattle.memory.proofs.Columns.{roots-within}
use Rattle.memory_routes.proofs.Routes.{root-found}
use Rattle.memory_routes.proofs.route_place.Goals as goal

pub slice_bounds-text_place-end : goal.slice_bounds-text_place-end
slice_bounds-text_place-end c =
    sym (ap length (take_all (length c.args.root.now) c.args.root.now (le_refl _)))

pub text_place-requires : goal.text_place-requires
text_place-requires c = (search rules, roots-within _ c.route_count-n.ensures.1)

pub returns : goal.returns
returns c =
    let count = c.route_count-n.ensures in
    let place = c.text_place.ensures in
    let whole = take_all (length c.args.root.now) c.args.root.now (le_refl _) in
    (rw whole at (root-found _ c.args.numbers.now _ _ _ count.0 place.0 place.1 place.2), omega (arith, place.0, count.0), omega (arith, place.0, count.1))
