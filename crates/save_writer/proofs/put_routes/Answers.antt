-- `save_writer::put_routes` meets its contract: the invariant is that i rows stand. Assumes nothing.
use Prim.Native.Nat.{◌<◌}
use native.Mathlib.Omega.{arith}
use borrow.Author.Rules.{rules}
use Rattle.meaning_save.specs.Save.{route_size}
use Rattle.memory.specs.Memory.{route_count, route_in}
use Rattle.save_records.proofs.Rows.{rows_none, rows-room, rows-lent, rows-done}
use Rattle.meaning_laws.specs.SaveFields.{route-length}
use Rattle.save_writer.proofs.Saved.{routes-lot}
use Rattle.save_writer.proofs.put_routes.Goals as goal

pub loop-i-init : goal.loop-i-init
loop-i-init c =
    let a = c.args in rows_none (routes-lot a.numbers.now a.names.now a.from a.out.now c.requires.2)

pub overflow_add-e : goal.overflow_add-e
overflow_add-e c =
    let a = c.args in
    let l = c.loop-i in
    let lt : l.i < route_count a.numbers.now = omega (arith, c.route_count-n.ensures.0) in
    omega (arith, rows-room (routes-lot a.numbers.now a.names.now a.from a.out.now c.requires.2) l.i l.at l.out l.invariant route_size lt (route-length (route_in a.numbers.now a.names.now l.i)))

pub slice_bounds-put_route_record-end : goal.slice_bounds-put_route_record-end
slice_bounds-put_route_record-end c =
    let a = c.args in
    let l = c.loop-i in
    let lt : l.i < route_count a.numbers.now = omega (arith, c.route_count-n.ensures.0) in
    rows-room (routes-lot a.numbers.now a.names.now a.from a.out.now c.requires.2) l.i l.at l.out l.invariant route_size lt (route-length (route_in a.numbers.now a.names.now l.i))

pub put_route_record-requires : goal.put_route_record-requires
put_route_record-requires c = (search rules, search rules, omega arith, search rules)

pub loop-i-preserved : goal.loop-i-preserved
loop-i-preserved c =
    let a = c.args in
    let l = c.loop-i in
    let lt : l.i < route_count a.numbers.now = omega (arith, c.route_count-n.ensures.0) in
    rows-lent (routes-lot a.numbers.now a.names.now a.from a.out.now c.requires.2) l.i l.at l.out l.invariant route_size _ lt c.put_route_record.ensures (route-length (route_in a.numbers.now a.names.now l.i))

pub shape_of-out : goal.shape_of-out
shape_of-out c = c.loop-i.invariant.1

pub returns : goal.returns
returns c =
    let a = c.args in
    rows-done (routes-lot a.numbers.now a.names.now a.from a.out.now c.requires.2) _ _ _ c.loop-i.invariant (omega (arith, c.route_count-n.ensures.0))
