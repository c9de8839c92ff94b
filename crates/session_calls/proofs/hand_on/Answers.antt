-- `session_calls::hand_on` meets its contract. Assumes nothing.
use native.Mathlib.Omega.{arith}
use Rattle.session_calls.proofs.Serving.{message-ends, message-does}
use Rattle.session_calls.proofs.hand_on.Goals as goal

pub slice_bounds-tell_label-end : goal.slice_bounds-tell_label-end
slice_bounds-tell_label-end c =
    omega (arith, message-ends _ _ _ _ c.held_in-place.ensures.left c.held_in-place.ensures.within c.requires.3, c.requires.1)

pub returns : goal.returns
returns c = message-does _ _ _ _ _ _ _ _ _ _ _ c.held_in-place.ensures.place c.requires.3 c.tell_label.ensures
