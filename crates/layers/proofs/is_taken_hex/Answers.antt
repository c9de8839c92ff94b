use Rattle.layers.proofs.Printed.{shows-decoded}
use Rattle.layers.proofs.is_taken_hex.Goals as goal

pub returns : goal.returns
returns c =
    let the-decode-hex = c.decode_hex-n in
    let the-is-taken = c.is_taken in
    shows-decoded the-decode-hex.ensures.puts the-is-taken.ensures
