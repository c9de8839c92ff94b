use mathlib.Core.Path.{refl, sym, ◌∙◌}
use mathlib.Core.List.{[]}
use native.Mathlib.Omega.{arith}
use Prim.Native.Nat.{◌<◌}
use lib.ListN.{length}
use Rattle.meaning.specs.Card.{tree_at}
use Rattle.memory.specs.Memory.{card_of}
use Rattle.memory.proofs.Memory.{trees-length}
use Rattle.memory.proofs.Trees.{branches-length}
use Rattle.event_mapping.proofs.Mapping.{mapping-other, mapping-standing, branch-left}
use Rattle.event_tree.proofs.Ends.{no-records}
use Rattle.event_tree.proofs.Standing.{branch-stands, standing-refused, standing-taken, standing-ends, settle-ready}
use Rattle.refusals.proofs.Numbers.{number-not-0}
use Rattle.std.proofs.lemmas.Result.{err_from_is_err_and}
use borrow.Author.Rules.{rules}
use Rattle.event_mapping.proofs.map_standing.Goals as goal

pub returns-then-other_label : goal.returns-then-other_label
returns-then-other_label c =
    let card = (card_of c.args.numbers.now c.args.names.now) in
    let within : c.args.i < length card.trees = rw trees-length c.requires.5.0 in
    mapping-other card _ c.args.i c.requires.4 within _ _ _ (sym (c.other_label.ensures _) ∙ c.if-other_label.true)

pub returns-in_err-check_standing : goal.returns-in_err-check_standing
returns-in_err-check_standing c =
    let the-branch-holder = c.branch_holder-u in
    let the-its-root = c.its_root-k in
    let the-other-label = c.other_label in
    let the-if1 = c.if-other_label in
    let card = (card_of c.args.numbers.now c.args.names.now) in
    let within : c.args.i < length card.trees = rw trees-length c.requires.5.0 in
    let S = branch-stands card c.args.i c.requires.4 within _ c.args.n c.args.label (the-branch-holder.ensures.0 _ the-its-root.ensures.0) in
    let p = err_from_is_err_and c.from_residual.result c.from_residual.ensures.1 in
    rw (p.1, p.2, mapping-standing card _ c.args.i c.requires.4 within _ _ (sym (the-other-label.ensures _) ∙ the-if1.false))
    (standing-refused card [] _ _ _ S _ 0 _ (no-records _) c.in_err-check_standing.ensures (number-not-0 _))

pub settle-requires : goal.settle-requires
settle-requires c =
    let the-branch-holder = c.branch_holder-u in
    let the-its-root = c.its_root-k in
    let the-check-standing = c.in_ok-check_standing in
    let the-change-branch = c.change_branch in
    let card = (card_of c.args.numbers.now c.args.names.now) in
    let within : c.args.i < length card.trees = rw trees-length c.requires.5.0 in
    let S = branch-stands card c.args.i c.requires.4 within _ c.args.n c.args.label (the-branch-holder.ensures.0 _ the-its-root.ensures.0) in
    let R = settle-ready card [] _ _ _ S c.args.out.now 0 _ (no-records _) the-check-standing.ensures refl _ _ (the-change-branch.ensures _ the-its-root.ensures.0) in
    (search rules, search rules, search rules, search rules, R.1, R.2, (R.0, search rules))

pub returns : goal.returns
returns c =
    let the-branch-holder = c.branch_holder-u in
    let the-its-root = c.its_root-k in
    let the-other-label = c.other_label in
    let the-if1 = c.if-other_label in
    let the-check-standing = c.in_ok-check_standing in
    let the-next-id = c.next_id-id in
    let the-change-branch = c.change_branch in
    let the-settle = c.settle in
    let card = (card_of c.args.numbers.now c.args.names.now) in
    let within : c.args.i < length card.trees = rw trees-length c.requires.5.0 in
    let S = branch-stands card c.args.i c.requires.4 within _ c.args.n c.args.label (the-branch-holder.ensures.0 _ the-its-root.ensures.0) in
    let filled = branch-left (tree_at c.args.i card) c.args.n c.args.label (rw (branches-length _ _ _ c.requires.5.0) c.requires.2) (λ z. omega (arith, c.requires.3)) in
    rw (mapping-standing card _ c.args.i c.requires.4 within _ _ (sym (the-other-label.ensures _) ∙ the-if1.false))
    (standing-taken card [] _ _ _ S c.args.out.now 0 _ (no-records _) the-check-standing.ensures refl _ _ _
    (standing-ends card [] _ _ _ S c.args.out.now _ _ _ _ _ _ (the-next-id.ensures _) (the-change-branch.ensures _ the-its-root.ensures.0) filled the-settle.ensures))
