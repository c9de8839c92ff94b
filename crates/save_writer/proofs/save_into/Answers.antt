-- `save_writer::save_into` meets its contract: 19 where a name has no space, 16 where the save is longer than the output, and else what `write_save` does. Assumes nothing.
use native.Mathlib.Omega.{arith}
use mathlib.Core.Path.{sym, ◌∙◌}
use Rattle.memory.specs.Memory.{card_of}
use Rattle.save_writer.proofs.Saved.{does-long, does-short, does-save}
use borrow.Author.Rules.{rules}
use Rattle.save_writer.proofs.save_into.Goals as goal

pub returns-then-not-fits_save : goal.returns-then-not-fits_save
returns-then-not-fits_save c =
    does-long _ (card_of c.args.numbers.now c.args.names.now) c.args.out.now (sym c.fits_save.ensures ∙ c.if-not-fits_save.true)

pub returns-then-out-saved_size : goal.returns-then-out-saved_size
returns-then-out-saved_size c =
    let the-fits-save = c.fits_save in
    let the-if1 = c.if-not-fits_save in
    does-short _ (card_of c.args.numbers.now c.args.names.now) c.args.out.now _ c.saved_size.ensures.0 (sym the-fits-save.ensures ∙ the-if1.false) c.if-out-saved_size.true

pub write_save-requires : goal.write_save-requires
write_save-requires c =
    let the-saved-size = c.saved_size in
    (search rules, search rules, omega (arith, the-saved-size.ensures.0))

pub returns : goal.returns
returns c =
    let the-saved-size = c.saved_size in
    let the-fits-save = c.fits_save in
    let the-if1 = c.if-not-fits_save in
    let the-if2 = c.if-out-saved_size in
    does-save _ (card_of c.args.numbers.now c.args.names.now) c.args.out.now _ the-saved-size.ensures.0 (sym the-fits-save.ensures ∙ the-if1.false) the-if2.false _ _ c.write_save.ensures
