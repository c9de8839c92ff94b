-- `session_calls::tell_label` meets its contract. Assumes nothing.
use mathlib.Core.Path.{sym}
use lib.Seq.{length-take-le}
use Rattle.session.specs.Session.{message_room}
use Rattle.session_calls.proofs.Serving.{front-does}
use borrow.Author.Rules.{rules}
use Rattle.session_calls.proofs.tell_label.Goals as goal

pub slice_bounds-receive_core-end-2 : goal.slice_bounds-receive_core-end-2
slice_bounds-receive_core-end-2 c =
    sym (length-take-le message_room c.args.out.now c.requires)

pub returns : goal.returns
returns c =
    front-does _ _ _ _ _ _ _ _ c.requires c.receive_core.ensures
