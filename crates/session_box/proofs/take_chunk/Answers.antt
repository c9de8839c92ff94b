-- `session_box::take_chunk` meets its contract. Assumes nothing.
use Rattle.std.proofs.Common.{◌<◌, length, sym, rules, take_all}
use Rattle.bench_input.proofs.Input.{after_none, after_next}
use Rattle.session_box.specs.Input.{box_left}
use Rattle.session_box.proofs.take_chunk.Goals as goal

pub loop-c-init : goal.loop-c-init
loop-c-init g c = λ s h. rw (after_none box_left s) h

pub loop-c-preserved : goal.loop-c-preserved
loop-c-preserved g c =
    let chunk = c.args.chunk.now in
    let i = c.loop-c.c-index in
    let h : i < length chunk = search rules in
    λ s k. rw (sym (after_next box_left s chunk i h)) (c.take_octet-state.ensures _ (c.loop-c.invariant s k))

pub returns : goal.returns
returns g c =
    let whole = take_all c.loop-c.c-index c.args.chunk.now (search rules) in
    λ s h. rw whole at (c.loop-c.invariant s h)
