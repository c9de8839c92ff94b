-- `bench_answers::obey` meets its contract, by the order's variant. Assumes nothing.
use Rattle.bench_orders.specs.Tells.{meant}
use Rattle.bench_replies.specs.Reply.{only, reply_to}
use Rattle.bench_replies.specs.Kinds.{Kind}
use Rattle.bench_replies.proofs.Arms.{of-kind}
use Rattle.bench_replies.proofs.Reply.{lies, says-only}
use Rattle.bench_words.proofs.Words.{part-short}
use mathlib.Core.List.{[]}
use mathlib.Core.Path.{refl}
use native.Mathlib.Omega.{arith}
use borrow.Author.Rules.{rules}
use borrow.Enum.Refused.{opened}
use Rattle.bench_answers.proofs.obey.Goals as goal

pub on_counted-requires : goal.on_counted-requires
on_counted-requires c =
    (of-kind Kind.count c.args.order c.in-Bad.in-Bad-own.keys2, c.requires.1)

pub of-requires : goal.of-requires
of-requires c =
    let word = lies _ _ _ c.requires.0 c.in-Tree.is in
    (word.0, word.1)

pub on_tree-requires : goal.on_tree-requires
on_tree-requires c = (rw c.of.ensures (part-short _ _ _ _ (lies _ _ _ c.requires.0 c.in-Tree.is)), c.requires.1)

pub on_saved-requires : goal.on_saved-requires
on_saved-requires c =
    (c.requires.0, of-kind Kind.saves c.args.order c.in-Save.in-Save-own.keys5, c.requires.1)

pub on_layered-requires : goal.on_layered-requires
on_layered-requires c =
    (c.requires.0, of-kind Kind.layers c.args.order c.in-Layers.in-Layers-own.keys6, c.requires.1)

pub on_planned-requires : goal.on_planned-requires
on_planned-requires c =
    (c.requires.0, of-kind Kind.plans c.args.order c.in-Plan.in-Plan-own.keys7, c.requires.1)

pub on_event-requires : goal.on_event-requires
on_event-requires c =
    (c.requires.0, of-kind Kind.records c.args.order c.in_default.in_default-own.keys8, c.requires.1)

pub returns-in-Blank : goal.returns-in-Blank
unfolding meant reply_to only
returns-in-Blank c = rw c.in-Blank.is (says-only [] _ _ _ _ (omega arith) refl)

pub returns-in-Bad : goal.returns-in-Bad
returns-in-Bad c = c.on_counted.ensures _ _ _

pub returns-in-Label : goal.returns-in-Label
unfolding meant
returns-in-Label c =
    let the-order = c.in-Label in
    rw the-order.is (c.on_label.ensures _ _ _)

pub returns-in-Tree : goal.returns-in-Tree
unfolding meant
returns-in-Tree c =
    rw c.in-Tree.is (rw c.of.ensures at (c.on_tree.ensures c.args.number c.args.room))

pub returns-in-Save : goal.returns-in-Save
returns-in-Save c = c.on_saved.ensures _

pub returns-in-Layers : goal.returns-in-Layers
returns-in-Layers c = c.on_layered.ensures _ _

pub returns-in-Plan : goal.returns-in-Plan
returns-in-Plan c = c.on_planned.ensures _ _

pub returns-in_default : goal.returns-in_default
returns-in_default c = c.on_event.ensures _
