-- `save_records::leaf_octet` meets its contract: by what `is_leaf` answers. Assumes nothing.
use mathlib.Core.Path.{refl, sym, ◌∙◌}
use Rattle.meaning.specs.Lists.{by-test}
use Rattle.save_records.proofs.leaf_octet.Goals as goal

pub returns : goal.returns
returns c = λ os.
    let e = sym (c.is_leaf.ensures os) in
    c.from.ensures ∙ by-test c.is_leaf.result (λ t. rw (t, (e ∙ t)) refl) (λ t. rw (t, (e ∙ t)) refl)
