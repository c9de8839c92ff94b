-- What a record says, as C gets it: five fields. Assumes nothing.
use Rattle.std.specs.Prelude.{ℕ, List, [], ◌∷◌}
use Rattle.std.specs.declared.result.Result.{Result}
use Rattle.std.specs.declared.result.Result.TheVariants.{Ok, Err}
use Rattle.refusals.specs.declared.Refusal.{Refusal}
use Rattle.notice_reader.specs.declared.Notice.{Notice}

-- what the record says; refused octets leave the fields as they were
unfoldable pub fields_of : Result Notice Refusal → List ℕ → List ℕ
fields_of (Ok n) before = n.neighbour ∷ n.id ∷ n.status ∷ n.copied_id ∷ n.copied_type ∷ []
fields_of (Err _) before = before
