-- `session_look::look_message` meets its contract: each return's tests are those of one law. Assumes nothing.
use native.Mathlib.Omega.{arith}
use Rattle.session_look.proofs.Looks.{message-end, message-none, message-past, message-part, message-whole}
use Rattle.session_look.proofs.look_message.Goals as goal

pub returns-then-left-lt4 : goal.returns-then-left-lt4
returns-then-left-lt4 c = message-end _ _ c.if-left-lt4.true

pub returns-then-held-lt4 : goal.returns-then-held-lt4
returns-then-held-lt4 c = message-none _ _ (omega arith) (omega arith)

pub returns-then-left-size : goal.returns-then-left-size
returns-then-left-size c = message-past _ _ (omega arith) (omega arith) (omega arith)

pub returns-then-held-size : goal.returns-then-held-size
returns-then-held-size c = message-part _ _ (omega arith) (omega arith) (omega arith) (omega arith)

pub returns : goal.returns
returns c = message-whole _ _ (omega arith) (omega arith) (omega arith) (omega arith) _ (omega arith)
