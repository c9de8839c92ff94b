use mathlib.Core.List.{[], ◌∷◌}
use Prim.Native.Nat.{ℕ}
use mathlib.Core.Path.{refl, ap, ◌∙◌}
use Rattle.save_records.proofs.Records.{tree-name-put}
use Rattle.save_records.proofs.put_tree_name.Goals as goal

pub returns : goal.returns
returns c =
    let the_copy = c.copy in
    let the-tree-kind = c.tree_kind in
    tree-name-put _ _ _ c.args.out.now _ _ refl c.requires (the_copy.ensures ∙ ap (λ (k : ℕ). 0x4C ∷ 0x53 ∷ k ∷ []) the-tree-kind.ensures) c.put_name.ensures
