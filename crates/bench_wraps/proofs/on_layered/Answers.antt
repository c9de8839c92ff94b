-- `bench_wraps::on_layered` meets its contract, by the order's variant. Assumes nothing.
use Rattle.bench_orders.specs.Tells.{meant}
use Rattle.bench_replies.specs.Kinds.{Kind}
use Rattle.bench_replies.proofs.Arms.{of_others}
use Rattle.bench_replies.proofs.Reply.{lies}
use Rattle.bench_words.proofs.Words.{part-short}
use borrow.Enum.Refused.{opened}
use Rattle.bench_wraps.proofs.on_layered.Goals as goal

pub of-requires : goal.of-requires
of-requires c =
    let word = lies _ _ _ c.requires.0 c.in-Layers.is in
    (word.0, word.1)

pub on_layers-requires : goal.on_layers-requires
on_layers-requires c = (rw c.of.ensures (part-short _ _ _ _ (lies _ _ _ c.requires.0 c.in-Layers.is)), c.requires.2)

pub of-requires-in-Wrap : goal.of-requires-in-Wrap
of-requires-in-Wrap c =
    let words = lies _ _ _ c.requires.0 c.in-Wrap.is in
    (words.0.0, words.0.1)

pub of-requires-in-Wrap-2 : goal.of-requires-in-Wrap-2
of-requires-in-Wrap-2 c =
    let words = lies _ _ _ c.requires.0 c.in-Wrap.is in
    (words.1.0, words.1.1)

pub of-requires-in-Wrap-3 : goal.of-requires-in-Wrap-3
of-requires-in-Wrap-3 c =
    let words = lies _ _ _ c.requires.0 c.in-Wrap.is in
    (words.2.0, words.2.1)

pub on_wrap-requires : goal.on_wrap-requires
on_wrap-requires c =
    let words = lies _ _ _ c.requires.0 c.in-Wrap.is in (
      rw c.of-in-Wrap.ensures (part-short _ _ _ _ words.0),
      rw c.of-in-Wrap-2.ensures (part-short _ _ _ _ words.1),
      rw c.of-in-Wrap-3.ensures (part-short _ _ _ _ words.2),
      c.requires.2,
    )

pub of-requires-in-Unwrap : goal.of-requires-in-Unwrap
of-requires-in-Unwrap c =
    let word = lies _ _ _ c.requires.0 c.in-Unwrap.is in
    (word.0, word.1)

pub on_unwrap-requires : goal.on_unwrap-requires
on_unwrap-requires c = (rw c.of-in-Unwrap.ensures (part-short _ _ _ _ (lies _ _ _ c.requires.0 c.in-Unwrap.is)), c.requires.2)

pub returns-in-Layers : goal.returns-in-Layers
unfolding meant
returns-in-Layers c = λ number d. rw c.in-Layers.is (rw c.of.ensures at (c.on_layers.ensures number c.args.room d))

pub returns-in-Wrap : goal.returns-in-Wrap
unfolding meant
returns-in-Wrap c = λ number d. rw c.in-Wrap.is (rw (c.of-in-Wrap.ensures, c.of-in-Wrap-2.ensures, c.of-in-Wrap-3.ensures) at (c.on_wrap.ensures number d))

pub returns-in-Unwrap : goal.returns-in-Unwrap
unfolding meant
returns-in-Unwrap c = λ number d. rw c.in-Unwrap.is (rw c.of-in-Unwrap.ensures at (c.on_unwrap.ensures number d))

pub returns-in_default : goal.returns-in_default
returns-in_default c = λ number d. absurd (of_others Kind.layers c.args.order (opened c.in_default.in_default-own.keys4) c.requires.1)
