-- `bench_saves::move_into` meets its contract, in either form. Assumes nothing.
use Rattle.std.proofs.Common.{min, ap, ◌∙◌, arith}
use Rattle.meaning_save.specs.Save.{new, save_limit}
use Rattle.save_mover.proofs.Moving.{given, given-count}
use Rattle.bench_words.proofs.Words.{front-is}
use Rattle.bench_saves.proofs.Saves.{limit-most, moved-fits, says-moved}
use Rattle.bench_saves.proofs.move_into.Goals as goal

pub slice_bounds-put_event-end : goal.slice_bounds-put_event-end
slice_bounds-put_event-end c = given-count _ _ _ _ _ c.move_core-k.ensures

pub put_event-requires : goal.put_event-requires
put_event-requires c =
    let most = limit-most c.args.second in
    (c.move_word.ensures.1, moved-fits _ _ _ _ (save_limit new) _ _ (given _ _ _ _ _ c.move_core-k.ensures) (omega (arith, c.lent-out.ensures.1, most, c.requires.2)), c.requires.1)

pub returns : goal.returns
returns c =
    λ number d. says-moved c.args.second number c.args.room _ d _ _ _ _ _ _ (c.lent-out.ensures.1 ∙ ap (min c.args.room) c.requires.2) (front-is c.decode_hex-n.ensures.puts) (given _ _ _ _ _ c.move_core-k.ensures) c.put_event.ensures.upper_bound (rw c.move_word.ensures.0 at c.put_event.ensures.text_after)
