-- `session_streams::work_off` meets its contract: the stream stops, or goes on. Assumes nothing.
use mathlib.Core.Path.{ap}
use Rattle.session_streams.proofs.Settling.{settles-bad, settles_on}
use borrow.Enum.Refused.{opened}
use denote.Enum.Declared.{tag_of}
use Rattle.session_look.specs.contracts.Shows.{the_type}
use Rattle.session_streams.proofs.work_off.Goals as goal

pub returns-in-Bad : goal.returns-in-Bad
returns-in-Bad c =
    let pass = c.pass.ensures in
    let stop = c.stop.ensures in
    let s = settles-bad _ _ _ _ _ _ (pass.1 _) c.held_in-rest.ensures _ c.octets.ensures _ c.look-shows.ensures _ (ap (tag_of the_type) c.in-Bad.is) (stop.1 _) in
    (stop.0, s.0, s.1)

pub returns : goal.returns
returns c =
    let pass = c.pass.ensures in
    let s = settles_on _ _ _ _ _ _ (pass.1 _) c.held_in-rest.ensures _ c.octets.ensures _ c.look-shows.ensures (opened c.in_default.in_default-own.keys2) in
    (pass.0, s.0, s.1)
