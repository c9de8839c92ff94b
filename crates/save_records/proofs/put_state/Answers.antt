use Rattle.meaning_save.specs.Save.{marked}
use Rattle.meaning.specs.Octets.{four}
use mathlib.Core.List.{[], ◌∷◌, ◌++◌}
use Prim.Native.Nat.{ℕ}
use mathlib.Core.Path.{refl, ap, ◌∙◌}
use Rattle.save_records.proofs.Records.{state-put}
use Rattle.save_records.proofs.put_state.Goals as goal

pub returns : goal.returns
unfolding marked four
returns c =
    let the_copy = rw c.to_be_bytes.ensures at c.copy.ensures in
    let the-use-kind = c.use_kind-kind in
    state-put _ c.args.label c.args.state c.args.neighbour _ c.args.name.now c.args.out.now _ _ refl c.requires.0 (the_copy ∙ ap (λ (k : ℕ). marked k (four c.args.label ++ (c.args.state ∷ c.args.neighbour ∷ []))) the-use-kind.ensures) c.put_name.ensures
