use Rattle.event_tree.proofs.Standing.{branch-stands, standing-refused, standing-taken, first_fits, settle-ready}
use Rattle.event_withdraw.proofs.Withdrawn.{withdraw-standing, release-size, sent-length, withdraw-ends}
use mathlib.Core.Path.{refl, sym, ap, ◌∙◌}
use mathlib.Core.List.{List, [], ◌∷◌}
use native.Mathlib.Omega.{arith}
use Prim.Native.Nat.{ℕ, ◌<◌}
use lib.ListN.{length}
use Rattle.meaning.specs.Card.{tree_at}
use Rattle.memory.specs.Memory.{card_of}
use Rattle.memory.proofs.Memory.{trees-length}
use Rattle.meaning.specs.Wire.{release, record_size}
use Rattle.meaning.specs.Events.{tell, become}
use Rattle.refusals.proofs.Numbers.{number-not-0}
use Rattle.std.proofs.lemmas.Result.{err_from_is_err_and}
use borrow.Author.Rules.{rules}
use Rattle.event_withdraw.proofs.withdraw_standing.Goals as goal

pub returns-in_err-check_standing : goal.returns-in_err-check_standing
returns-in_err-check_standing c =
    let the-less-empty = c.less_empty-empty in
    let the-branch-holder = c.branch_holder-u in
    let the-its-root = c.its_root-k in
    let the-tree-name = c.tree_name-name in
    let the-record-size = c.record_size-first in
    let the-less-branch = c.less_branch-left in
    let card = (card_of c.args.numbers.now c.args.names.now) in
    let within : c.args.i < length card.trees = rw trees-length c.requires.4.0 in
    let S = branch-stands card c.args.i c.requires.3 within _ c.args.n _ (the-branch-holder.ensures.0 _ the-its-root.ensures.0) in
    let its-name = the-tree-name.ensures.0 _ c.requires.4.0 in
    let long = the-record-size.ensures ∙ ap (λ (l : List ℕ). record_size l) its-name ∙ release-size card _ c.args.i _ c.args.n c.args.label S c.args.out.now in
    let becomes = sym (withdraw-standing card _ c.args.i c.requires.3 within c.args.n c.args.label) ∙ ap (become card (tell c.args.n release (tree_at c.args.i card).name c.args.label ∷ [])) (sym (the-less-branch.ensures _)) in
    let p = err_from_is_err_and c.from_residual.result c.from_residual.ensures.1 in
    rw (p.1, p.2, becomes) (standing-refused card _ _ _ _ S _ _ _ long c.in_err-check_standing.ensures (number-not-0 _))

pub send-id-requires : goal.send-id-requires
send-id-requires c =
    let the-less-empty = c.less_empty-empty in
    let the-branch-holder = c.branch_holder-u in
    let the-its-root = c.its_root-k in
    let the-tree-name = c.tree_name-name in
    let the-record-size = c.record_size-first in
    let the-check-standing = c.in_ok-check_standing in
    let card = (card_of c.args.numbers.now c.args.names.now) in
    let within : c.args.i < length card.trees = rw trees-length c.requires.4.0 in
    let S = branch-stands card c.args.i c.requires.3 within _ c.args.n _ (the-branch-holder.ensures.0 _ the-its-root.ensures.0) in
    let its-name = the-tree-name.ensures.0 _ c.requires.4.0 in
    let long = the-record-size.ensures ∙ ap (λ (l : List ℕ). record_size l) its-name ∙ release-size card _ c.args.i _ c.args.n c.args.label S c.args.out.now in
    let fits = first_fits card _ _ _ _ S c.args.out.now _ _ long the-check-standing.ensures refl in
    (omega (arith, fits, the-record-size.ensures), omega (arith, the-tree-name.ensures.1))

pub change_branch-requires : goal.change_branch-requires
change_branch-requires c =
    (c.requires.0, c.requires.2, c.requires.4)

pub settle-requires : goal.settle-requires
settle-requires c =
    let the-less-empty = c.less_empty-empty in
    let the-branch-holder = c.branch_holder-u in
    let the-its-root = c.its_root-k in
    let the-tree-name = c.tree_name-name in
    let the-record-size = c.record_size-first in
    let the-less-branch = c.less_branch-left in
    let the-check-standing = c.in_ok-check_standing in
    let the-change-branch = c.change_branch in
    let the_send = c.send-id in
    let card = (card_of c.args.numbers.now c.args.names.now) in
    let within : c.args.i < length card.trees = rw trees-length c.requires.4.0 in
    let S = branch-stands card c.args.i c.requires.3 within _ c.args.n _ (the-branch-holder.ensures.0 _ the-its-root.ensures.0) in
    let its-name = the-tree-name.ensures.0 _ c.requires.4.0 in
    let long = the-record-size.ensures ∙ ap (λ (l : List ℕ). record_size l) its-name ∙ release-size card _ c.args.i _ c.args.n c.args.label S c.args.out.now in
    let becomes = sym (withdraw-standing card _ c.args.i c.requires.3 within c.args.n c.args.label) ∙ ap (become card (tell c.args.n release (tree_at c.args.i card).name c.args.label ∷ [])) (sym (the-less-branch.ensures _)) in
    let R = settle-ready card _ _ _ _ S c.args.out.now _ _ long the-check-standing.ensures refl _ _ (the-change-branch.ensures _ the-its-root.ensures.0) in
    let fits = first_fits card _ _ _ _ S c.args.out.now _ _ long the-check-standing.ensures refl in
    let kept = sent-length c.args.out.now _ _ _ _ _ _ (omega (arith, fits, the-record-size.ensures)) the_send.ensures.1 in
    (search rules, search rules, search rules, search rules, R.1, rw kept R.2, (R.0, search rules))

pub returns : goal.returns
returns c =
    let the-less-empty = c.less_empty-empty in
    let the-branch-holder = c.branch_holder-u in
    let the-its-root = c.its_root-k in
    let the-tree-name = c.tree_name-name in
    let the-record-size = c.record_size-first in
    let the-less-branch = c.less_branch-left in
    let the-check-standing = c.in_ok-check_standing in
    let the_send = c.send-id in
    let the-next-id = c.next_id in
    let the-change-branch = c.change_branch in
    let the-settle = c.settle in
    let card = (card_of c.args.numbers.now c.args.names.now) in
    let within : c.args.i < length card.trees = rw trees-length c.requires.4.0 in
    let S = branch-stands card c.args.i c.requires.3 within _ c.args.n _ (the-branch-holder.ensures.0 _ the-its-root.ensures.0) in
    let its-name = the-tree-name.ensures.0 _ c.requires.4.0 in
    let long = the-record-size.ensures ∙ ap (λ (l : List ℕ). record_size l) its-name ∙ release-size card _ c.args.i _ c.args.n c.args.label S c.args.out.now in
    let becomes = sym (withdraw-standing card _ c.args.i c.requires.3 within c.args.n c.args.label) ∙ ap (become card (tell c.args.n release (tree_at c.args.i card).name c.args.label ∷ [])) (sym (the-less-branch.ensures _)) in
    let sized = the-record-size.ensures ∙ ap (λ (l : List ℕ). record_size l) its-name in
    let fits = rw sized at (first_fits card _ _ _ _ S c.args.out.now _ _ long the-check-standing.ensures refl) in
    let sent-it = rw its-name at the_send.ensures.1 in
    rw becomes (standing-taken card _ _ _ _ S c.args.out.now _ _ long the-check-standing.ensures refl _ _ _
    (withdraw-ends card _ c.args.i _ c.args.n c.args.label S c.args.out.now _ _ _ _ _ _ _ _ _ (the-next-id.ensures _) fits the_send.ensures.0 sent-it sized (the-change-branch.ensures _ the-its-root.ensures.0) (the-less-empty.ensures _) the-settle.ensures))
