-- `bench_saves::on_restore` meets its contract. Assumes nothing.
use Rattle.bench_saves.proofs.Saves.{says-restored}
use native.Mathlib.Omega.{arith}
use Rattle.memory.specs.Memory.{card_of}
use Rattle.meaning_save.specs.Save.{form_of}
use borrow.Author.Rules.{rules}
use Rattle.bench_words.proofs.Words.{front-is}
use Rattle.bench_saves.proofs.on_restore.Goals as goal

pub returns : goal.returns
returns c =
    let the-decode-hex = c.decode_hex-n in
    let the-restore = c.restore-answer in
    λ number room. says-restored (form_of c.args.second) number room (card_of c.args.numbers.now c.args.names.now) _ _ _ _ _ _ (front-is the-decode-hex.ensures.puts) the-restore.ensures.0 the-restore.ensures.1 (omega (arith, c.put_count.ensures.upper_bound, c.restore_word.ensures.1)) (rw c.restore_word.ensures.0 at c.put_count.ensures.text_after)
