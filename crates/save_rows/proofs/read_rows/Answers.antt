-- `save_rows::read_rows` meets its contract: the head, the routes and the trees, one stage after the other. Assumes nothing.
use Rattle.save_rows.proofs.Rows.{head-empty, still-empty, rows_whole}
use mathlib.Core.Path.{◌∙◌}
use native.Mathlib.Omega.{arith}
use Rattle.save_rows.proofs.read_rows.Goals as goal

pub read_routes-requires : goal.read_routes-requires
read_routes-requires c =
    let the-start-fresh = c.start_fresh in
    let the-set-next-id = c.set_next_id in
    let the-numbers2 = c.numbers-2-1 in
    let the-numbers = c.numbers-1 in
    let r = c.at-routes.ensures.0 in
    let none = head-empty _ _ _ _ (the-start-fresh.ensures c.args.names.now) (the-set-next-id.ensures c.args.names.now) in
    (the-numbers2.given ∙ the-numbers.given ∙ c.requires.0, c.requires.1, omega (arith, c.requires.4), omega (arith, c.head_size-head.ensures.2), none.0)

pub read_trees-requires : goal.read_trees-requires
read_trees-requires c =
    let the_at = c.at-routes in
    let the-start-fresh = c.start_fresh in
    let the-set-next-id = c.set_next_id in
    let the-numbers3 = c.numbers-3-1 in
    let the-numbers2 = c.numbers-2-1 in
    let the-numbers = c.numbers-1 in
    let the-names = c.names-1 in
    let the-head-size = c.head_size-head in
    let the-read-routes = c.read_routes in
    let r = the_at.ensures.0 in
    let t = c.at-trees.ensures.0 in
    let none = head-empty _ _ _ _ (the-start-fresh.ensures c.args.names.now) (the-set-next-id.ensures c.args.names.now) in
    (the-numbers3.given ∙ the-numbers2.given ∙ the-numbers.given ∙ c.requires.0, the-names.given ∙ c.requires.1, omega (arith, c.requires.5), omega (arith, c.requires.4, the-head-size.ensures.2), still-empty _ _ _ none.1 the-read-routes.ensures)

pub returns : goal.returns
returns c =
    let the-read-trees = c.read_trees in
    let the-four-at = c.four_at in
    let the-four-at2 = c.four_at-2 in
    let the-head-size = c.head_size-head in
    let the_at = c.at-routes in
    let the-at2 = c.at-trees in
    let the-start-fresh = c.start_fresh in
    let the-set-next-id = c.set_next_id in
    let the-read-routes = c.read_routes in
    let t = the-read-trees.ensures in
    let whole = rows_whole _ c.args.octets.now _ _ _ _ _ the-read-trees.result _ _ _ _ the-four-at.ensures.0 the-four-at2.ensures.0 the-head-size.ensures.0 the_at.ensures.0 the-at2.ensures.0 (the-start-fresh.ensures c.args.names.now) (the-set-next-id.ensures c.args.names.now) the-read-routes.ensures t.0 t.1 in
    (whole.0, whole.1, omega (arith, t.2, c.requires.4, c.requires.5, the-head-size.ensures.2, the_at.ensures.0, the-at2.ensures.0))
