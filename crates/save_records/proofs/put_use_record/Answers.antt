use mathlib.Core.List.{List}
use Rattle.meaning_save.specs.Save.{form_of, use_beside}
use Rattle.meaning_laws.specs.SaveFields.{name_size}
use mathlib.Core.Path.{sym, ap, ◌∙◌}
use Prim.Native.Nat.{ℕ, ◌+◌}
use Rattle.meaning.specs.Card.{mapped}
use Rattle.memory.specs.Memory.{label_in, label_name}
use Rattle.memory.proofs.Labels.{mapped-is}
use Rattle.save_records.proofs.Records.{use-mapped, use-awaiting}
use borrow.Author.Rules.{rules}
use Rattle.save_records.proofs.put_use_record.Goals as goal

-- `save_records::put_use_record` meets its contract: the label is mapped, or it awaits release; its record is that of the definition. Assumes nothing.

pub awaited_at-awaited-requires : goal.awaited_at-awaited-requires
awaited_at-awaited-requires c =
    (search rules, search rules, c.requires.3, c.mapped_at-n.ensures.2 c.if-n-eq-NOBODY.true)

pub put_state-requires : goal.put_state-requires
put_state-requires c =
    (c.requires.4 ∙ ap (λ (a : List ℕ). use_beside + name_size (form_of c.args.second) a) (sym c.label_name-name.ensures), search rules)

pub put_state-requires-else-n-eq-NOBODY : goal.put_state-requires-else-n-eq-NOBODY
put_state-requires-else-n-eq-NOBODY c =
    (c.requires.4 ∙ ap (λ (a : List ℕ). use_beside + name_size (form_of c.args.second) a) (sym c.label_name-name.ensures), search rules)

pub returns-then-n-eq-NOBODY : goal.returns-then-n-eq-NOBODY
returns-then-n-eq-NOBODY c =
    use-awaiting _ (label_in c.args.numbers.now c.args.names.now c.args.p) _ _ _ _ _ _ (ap (λ (b : ℕ). b + c.args.p) c.base.ensures.0) c.label_name-name.ensures (c.awaited_at-awaited.ensures.0 c.args.names.now) c.put_state.ensures

pub returns-else-n-eq-NOBODY : goal.returns-else-n-eq-NOBODY
returns-else-n-eq-NOBODY c =
    let os = c.args.names.now in
    use-mapped _ (label_in c.args.numbers.now os c.args.p) _ _ _ _ _ _ (ap (λ (b : ℕ). b + c.args.p) c.base.ensures.0) c.label_name-name.ensures
    (mapped-is _ _ os (c.mapped_at-n.ensures.3 c.if-n-eq-NOBODY.false) ∙ ap (λ (n : ℕ). mapped n (label_name os c.args.p)) (sym (c.mapped_at-n.ensures.0 os))) c.put_state-else-n-eq-NOBODY.ensures
