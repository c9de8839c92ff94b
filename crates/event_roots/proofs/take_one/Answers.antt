use Rattle.event_roots.proofs.Roots.{need-of, need-not, size_of, size-not}
use Rattle.event_holder.proofs.Sizes.{need-none, need-one}
use Rattle.event_holder.specs.Move.{move_size}
use Rattle.meaning.specs.Events.{need_move}
use mathlib.Core.Path.{sym, ap, ◌∙◌}
use native.Mathlib.Omega.{arith}
use Rattle.event_roots.proofs.take_one.Goals as goal

pub returns-then-h-eq-NOBODY : goal.returns-then-h-eq-NOBODY
returns-then-h-eq-NOBODY c =
    let the-is-of-root = c.is_of_root in
    let ours = sym c.if-is_of_root.true ∙ the-is-of-root.ensures _ c.requires.2.0 in (
      sym (need-of _ _ _ ours ∙ ap need_move (sym (c.holder-h.ensures _)) ∙ need-none _ c.if-h-eq-NOBODY.true),
      c.move_size-octets.ensures.0 ∙ ap (move_size _) (c.holder-h.ensures _) ∙ sym (size_of _ _ _ ours),
      omega arith,
      c.move_size-octets.ensures.1,
    )

pub returns-then-is_of_root : goal.returns-then-is_of_root
returns-then-is_of_root c =
    let the-is-of-root = c.is_of_root in
    let ours = sym c.if-is_of_root.true ∙ the-is-of-root.ensures _ c.requires.2.0 in (
      sym (need-of _ _ _ ours ∙ ap need_move (sym (c.holder-h.ensures _)) ∙ need-one _ c.if-h-eq-NOBODY.false),
      c.move_size-octets.ensures.0 ∙ ap (move_size _) (c.holder-h.ensures _) ∙ sym (size_of _ _ _ ours),
      omega arith,
      c.move_size-octets.ensures.1,
    )

pub returns : goal.returns
returns c =
    let other = sym c.if-is_of_root.false ∙ c.is_of_root.ensures c.args.numbers.now c.requires.2.0 in
    (sym (need-not _ _ _ other), sym (size-not _ _ _ other), omega arith, omega arith)
