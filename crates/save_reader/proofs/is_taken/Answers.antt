-- `save_reader::is_taken` meets its contract: where the table that is read keeps the rules, the octets are a save exactly where they are laid out as one. Assumes nothing.
use native.Mathlib.Omega.{arith}
use mathlib.Core.Path.{sym, ◌∙◌}
use borrow.Author.Rules.{rules}
use Rattle.save_reader.proofs.Whole.{taken, not_taken}
use Rattle.meaning.specs.Lists.{never}
use Rattle.save_reader.proofs.is_taken.Goals as goal

pub returns-then-not-decode : goal.returns-then-not-decode
returns-then-not-decode c =
    let the-decode = c.decode in
    (sym (the-decode.ensures.1 c.if-not-decode.true), (λ t. absurd (never t)))

pub is_ruled-requires : goal.is_ruled-requires
is_ruled-requires c =
    let the-decode = c.decode in
    let d = the-decode.ensures.0 c.if-not-decode.false in
    (search rules, search rules, rw d.0 d.1, rw d.0 d.2, rw d.0 d.3)

pub returns-then-not-is_ruled : goal.returns-then-not-is_ruled
returns-then-not-is_ruled c =
    let the-if1 = c.if-not-decode in
    let d = (c.decode.ensures.0 the-if1.false).0 in
    (sym (not_taken _ _ _ d (sym c.is_ruled.ensures ∙ c.if-not-is_ruled.true)), (λ t. absurd (never t)))

pub returns : goal.returns
returns c =
    let the-decode = c.decode in
    let the-if1 = c.if-not-decode in
    let known = c.shared_slice_known-1 in
    let d = (the-decode.ensures.0 the-if1.false).0 in
    (taken _ _ _ _ d (sym c.is_ruled.ensures ∙ c.if-not-is_ruled.false) (λ i. omega (arith, known.given i)) c.is_written.ensures, (λ _. d))
