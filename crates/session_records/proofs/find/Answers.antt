-- `session_records::find` meets its contract: record after record. Assumes nothing.
use Prim.Native.Nat.{◌-◌, ◌≤◌}
use native.Mathlib.Omega.{arith}
use mathlib.Core.Path.{◌≡◌, refl, sym, ◌∙◌}
use lib.ListN.{length, drop}
use borrow.Author.Tests.{not-true, not-false}
use Rattle.session.specs.Pack.{messages_to}
use Rattle.session_records.proofs.Finding.{finds-none, finds-there, finds-end, finds-on}
use borrow.Author.Rules.{rules}
use mathlib.Core.Path.{ap}
use mathlib.Core.Bool.{not}
use Rattle.session_records.proofs.find.Goals as goal

pub loop-i-init : goal.loop-i-init
loop-i-init c = (omega arith, c.requires, refl)

pub returns-then-not-is_record : goal.returns-then-not-is_record
returns-then-not-is_record c =
    let the-loop = c.loop-i in
    finds-none _ _ _ _ the-loop.invariant.0 the-loop.invariant.1 the-loop.invariant.2 (sym c.is_record.ensures ∙ c.if-not-is_record.true)

pub returns-then-two_at-to : goal.returns-then-two_at-to
returns-then-two_at-to c =
    let the-loop = c.loop-i in
    let the-loop-test = c.loop-i-test in
    finds-there _ _ _ _ the-loop.invariant.0 the-loop.invariant.1 the-loop.invariant.2 the-loop-test.true (sym c.is_record.ensures ∙ c.if-not-is_record.false) (sym c.two_at.ensures.0 ∙ c.if-two_at-to.true)

pub overflow_add-i-in-loop-i : goal.overflow_add-i-in-loop-i
overflow_add-i-in-loop-i c =
    let the-loop = c.loop-i in
    let the-is-record = c.is_record in
    let more = finds-on c.args.to c.args.from c.args.records.now the-loop.i the-loop.invariant.0 the-loop.invariant.1 the-loop.invariant.2 _ c.message_size.ensures.0 (sym the-is-record.ensures ∙ c.if-not-is_record.false) (λ e. c.if-two_at-to.false (c.two_at.ensures.0 ∙ e)) in
    omega (arith, c.message_size.ensures.1)

pub overflow_add-i-in-loop-i-2 : goal.overflow_add-i-in-loop-i-2
overflow_add-i-in-loop-i-2 c =
    let the-loop = c.loop-i in
    let the-is-record = c.is_record in
    let more = finds-on c.args.to c.args.from c.args.records.now the-loop.i the-loop.invariant.0 the-loop.invariant.1 the-loop.invariant.2 _ c.message_size.ensures.0 (sym the-is-record.ensures ∙ c.if-not-is_record.false) (λ e. c.if-two_at-to.false (c.two_at.ensures.0 ∙ e)) in
    omega (arith, more.0)

pub loop-i-smaller : goal.loop-i-smaller
loop-i-smaller c =
    let the-loop = c.loop-i in
    let the-is-record = c.is_record in
    let the-loop-test = c.loop-i-test in
    let more = finds-on c.args.to c.args.from c.args.records.now the-loop.i the-loop.invariant.0 the-loop.invariant.1 the-loop.invariant.2 _ c.message_size.ensures.0 (sym the-is-record.ensures ∙ c.if-not-is_record.false) (λ e. c.if-two_at-to.false (c.two_at.ensures.0 ∙ e)) in
    omega (arith, more.0, the-loop-test.true)

pub loop-i-preserved : goal.loop-i-preserved
loop-i-preserved c =
    let the-loop = c.loop-i in
    let the-is-record = c.is_record in
    let more = finds-on c.args.to c.args.from c.args.records.now the-loop.i the-loop.invariant.0 the-loop.invariant.1 the-loop.invariant.2 _ c.message_size.ensures.0 (sym the-is-record.ensures ∙ c.if-not-is_record.false) (λ e. c.if-two_at-to.false (c.two_at.ensures.0 ∙ e)) in
    (omega (arith, the-loop.invariant.0), more.0, more.1)

pub returns : goal.returns
returns c = finds-end _ _ _ _ c.loop-i.invariant.0 c.loop-i.invariant.1 c.loop-i.invariant.2 c.loop-i-test.false
