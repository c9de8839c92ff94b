-- `save_writer::write_save` meets its contract: the head, the routes, the trees and the labels, each behind the one before, are the save. Assumes nothing.
use mathlib.Core.Path.{◌≡◌}
use Prim.Native.Nat.{◌-◌}
use Rattle.meaning_save.specs.Save.{form_of}
use Rattle.save_writer.proofs.Saved.{parts-length, parts-laid}
use native.Mathlib.Omega.{arith}
use borrow.Author.Rules.{rules}
use Rattle.save_writer.proofs.write_save.Goals as goal

pub slice_bounds-put_save_head-end : goal.slice_bounds-put_save_head-end
slice_bounds-put_save_head-end c =
    omega (arith, parts-length (form_of c.args.second) c.args.numbers.now c.args.names.now, c.head_size-h.ensures.0, c.requires.2)

pub put_routes-a-requires : goal.put_routes-a-requires
put_routes-a-requires c =
    let the-head-size = c.head_size-h in
    (search rules, search rules, omega (arith, parts-length (form_of c.args.second) c.args.numbers.now c.args.names.now, the-head-size.ensures.0, c.requires.2))

pub put_trees-b-requires : goal.put_trees-b-requires
put_trees-b-requires c =
    let the-head-size = c.head_size-h in
    (search rules, search rules, omega (arith, parts-length (form_of c.args.second) c.args.numbers.now c.args.names.now, the-head-size.ensures.0, c.requires.2))

pub put_labels-requires : goal.put_labels-requires
put_labels-requires c =
    let the-head-size = c.head_size-h in
    (search rules, search rules, omega (arith, parts-length (form_of c.args.second) c.args.numbers.now c.args.names.now, the-head-size.ensures.0, c.requires.2))

pub returns : goal.returns
returns c =
    let the-put-save-head = c.put_save_head in
    let the-put-routes = c.put_routes-a in
    let the-put-trees = c.put_trees-b in
    let h = c.head_size-h in
    let whole : h.result - 0 ≡ h.result = omega arith in
    parts-laid (form_of c.args.second) c.args.numbers.now c.args.names.now c.args.out.now c.requires.2 _ _ _ _ _ _ _ _ _ h.ensures.0 whole (the-put-save-head.ensures c.args.names.now) the-put-routes.ensures the-put-trees.ensures c.put_labels.ensures
