use Rattle.std.proofs.Common.{rules, ◌*◌, sym, ◌∙◌, arith}
use Rattle.meaning_save.specs.Save.{new, save_limit}
use Rattle.bench_words.proofs.Words.{hex-short}
use Rattle.layers.proofs.Printed.{shows-hex, shows-other}
use Rattle.layers.proofs.is_taken_input.Goals as goal

pub is_taken_hex-requires : goal.is_taken_hex-requires
is_taken_hex-requires c =
    let short = hex-short (2 * save_limit new) _ (omega arith) (sym c.is_hex_to.ensures ∙ c.if-is_hex_to.true) in
    (short, search rules, search rules, search rules)

pub returns-then-is_hex_to : goal.returns-then-is_hex_to
returns-then-is_hex_to c =
    shows-hex c.args.input.now _ c.hex_in-hex.ensures _ c.is_hex_to.ensures c.if-is_hex_to.true c.is_taken_hex.ensures

pub returns-else-is_hex_to : goal.returns-else-is_hex_to
returns-else-is_hex_to c =
    let e = c.if-is_hex_to.false in
    rw e (shows-other c.args.input.now _ c.hex_in-hex.ensures _ c.is_hex_to.ensures e)
