use mathlib.Core.Path.{sym, ◌∙◌}
use Rattle.memory.specs.Memory.{card_of}
use Rattle.event_parted.proofs.Branches.{none-there}
use Rattle.event_parted.proofs.end_branch.Goals as goal

pub returns-then-branch-eq0 : goal.returns-then-branch-eq0
returns-then-branch-eq0 c =
    let the-branch = c.branch-numbers in
    none-there (card_of c.args.numbers.now c.args.names.now) c.args.i c.args.n (sym (the-branch.ensures _) ∙ c.if-branch-eq0.true)

pub returns : goal.returns
returns c =
    let the-its-root = c.its_root-k in
    let the-change-branch = c.change_branch in
    the-change-branch.ensures _ the-its-root.ensures.0
