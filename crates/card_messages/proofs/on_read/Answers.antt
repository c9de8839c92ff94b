use Rattle.card_messages.proofs.Messages.{does-same, read-refused, read-mapping, read-withdraw, read-release, read_fits}
use Rattle.std.proofs.lemmas.Result.{err_from_is_err_and}
use borrow.Author.Rules.{rules}
use Rattle.card_messages.proofs.on_read.Goals as goal

pub returns-in_err-said : goal.returns-in_err-said
returns-in_err-said c =
    let p = err_from_is_err_and c.from_residual.result c.from_residual.ensures.1 in
    let refusal = c.in_err-said.ensures in
    rw (p.1, p.2) (read-refused _ _ _ _ _ refusal.0 refusal.1)

pub map-requires : goal.map-requires
map-requires c =
    let says = c.in_ok-said.ensures in
    let fits = read_fits _ _ _ _ says.0 says.1 in
    (search rules, search rules, search rules, fits.0, fits.1)

pub withdraw-requires : goal.withdraw-requires
withdraw-requires c =
    let says = c.in_ok-said.ensures in
    let fits = read_fits _ _ _ _ says.0 says.1 in
    (search rules, search rules, search rules, fits.0, fits.1)

pub returns-in-Mapping : goal.returns-in-Mapping
returns-in-Mapping c =
    let says = c.in_ok-said.ensures in
    does-same _ _ _ _ _ _ _ _ _ (read-mapping _ _ _ _ _ _ says.0 says.1 c.in-Mapping.is) c.map.ensures

pub returns-in-Withdraw : goal.returns-in-Withdraw
returns-in-Withdraw c =
    let says = c.in_ok-said.ensures in
    does-same _ _ _ _ _ _ _ _ _ (read-withdraw _ _ _ _ _ _ says.0 says.1 c.in-Withdraw.is) c.withdraw.ensures

pub returns-in_err-release-in-Release : goal.returns-in_err-release-in-Release
returns-in_err-release-in-Release c =
    let says = c.in_ok-said.ensures in
    let r = c.from_residual-in_err-release-in-Release in
    let p = err_from_is_err_and r.result r.ensures.1 in
    rw (p.1, p.2) (does-same _ _ _ _ _ _ _ _ _ (read-release _ _ _ _ _ _ says.0 says.1 c.in-Release.is) (c.in_err-release-in-Release.ensures _))

pub returns-in_ok-release-in-Release : goal.returns-in_ok-release-in-Release
returns-in_ok-release-in-Release c =
    let says = c.in_ok-said.ensures in
    does-same _ _ _ _ _ _ _ _ _ (read-release _ _ _ _ _ _ says.0 says.1 c.in-Release.is) (c.in_ok-release-in-Release.ensures _)
