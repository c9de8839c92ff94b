-- `bench_saves::on_save` meets its contract. Assumes nothing.
use Rattle.bench_saves.proofs.Saves.{says-saved}
use Rattle.bench_replies.proofs.Reply.{save-fits, part-fits}
use Rattle.meaning_save.specs.Save.{new, form_of, save_limit}
use lib.Seq.{length-take-le}
use lib.ListN.{length, take}
use Prim.Native.Nat.{min}
use mathlib.Core.Path.{◌≡◌, sym, ap, ◌∙◌}
use native.Mathlib.Omega.{arith}
use borrow.Author.Rules.{rules}
use Rattle.bench_saves.proofs.on_save.Goals as goal

pub slice_bounds-lent-end : goal.slice_bounds-lent-end
slice_bounds-lent-end c = sym (length-take-le _ _ (omega (arith, c.most_of-most.ensures.1, c.longest_save-out.ensures)))

pub put_event-requires : goal.put_event-requires
put_event-requires c =
    let the_lent = c.lent in
    let the-most-of = c.most_of-most in
    let the-longest-save = c.longest_save-out in
    (c.save_word.ensures.1, part-fits _ (save_limit new) c.save-octets.ensures.0 (save-fits _ _ _) (omega (arith, the_lent.ensures.1, the-most-of.ensures.1, length-take-le the-most-of.result the-longest-save.result (omega (arith, the-most-of.ensures.1, the-longest-save.ensures)))), c.requires)

pub returns : goal.returns
returns c =
    let the-most-of = c.most_of-most in
    let the-longest-save = c.longest_save-out in
    let the_lent = c.lent in
    let the-save = c.save-octets in
    let whole : length (take the-most-of.result the-longest-save.result) ≡ the-most-of.result = length-take-le _ _ (omega (arith, the-most-of.ensures.1, the-longest-save.ensures)) in
    λ number. says-saved (form_of c.args.second) number c.args.room _ _ _ _ _ _ (the_lent.ensures.1 ∙ ap (min c.args.room) (whole ∙ the-most-of.ensures.0)) the-save.ensures.0 c.put_event.ensures.upper_bound (rw c.save_word.ensures.0 at c.put_event.ensures.text_after)
