use Prim.Native.Nat.{◌+◌, ◌-◌}
use native.Mathlib.Omega.{arith}
use mathlib.Core.Path.{◌∙◌}
use Rattle.meaning.specs.Wire.{name_limit}
use Rattle.memory.proofs.Parts.{text-laid}
use borrow.Author.Rules.{rules}
use Rattle.save_fields.proofs.lay_name.Goals as goal

pub returns : goal.returns
returns c =
    let the-read-name = c.read_name-n in
    let f = c.args.a + 1 in
    text-laid name_limit c.args.a (f + name_limit - f) _ _ c.args.names.now _ c.requires.0 (omega arith) (c.names-1.given.0 ∙ search rules) the-read-name.ensures.1 the-read-name.ensures.0
