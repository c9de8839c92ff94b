-- `save_texts::opaque_of` meets its contract: what stands behind the opaque length field, if anything. Assumes nothing.
use Rattle.save_texts.proofs.Texts.{opaque-none, opaque-all}
use native.Mathlib.Omega.{arith}
use Rattle.save_texts.proofs.opaque_of.Goals as goal

pub returns-then-name-n : goal.returns-then-name-n
returns-then-name-n c =
    let n = c.root_length-n in
    opaque-none c.args.name.now n.result n.ensures.0 (omega arith)

pub returns : goal.returns
returns c = opaque-all _ _ c.root_length-n.ensures.0
