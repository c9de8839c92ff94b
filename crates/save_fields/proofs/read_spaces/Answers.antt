use native.Mathlib.Omega.{arith}
use mathlib.Core.Path.{refl, ◌∙◌}
use Rattle.save_fields.proofs.Read.{name-put, name_in_lem}
use Rattle.save_fields.proofs.read_spaces.Goals as goal

pub returns : goal.returns
returns c =
    let root = c.spaced-root.ensures in
    let opaque = c.spaced-opaque.ensures in (
      name-put c.args.out.now _ _ _ _ _ _ _ _ _ c.requires.0 root.1 opaque.1 refl refl refl c.put_element_head.ensures c.copy_field.ensures c.put_two.ensures c.copy_field-2.ensures
          ∙ name_in_lem c.args.octets.now _ _ c.args.at root.0 opaque.0,
      omega arith,
    )
