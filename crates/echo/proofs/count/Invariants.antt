-- `echo::count` meets its contract: no more are kept than were tried. Assumes nothing.
use Rattle.std.proofs.Common.{◌+◌, ◌≤◌}
use Rattle.echo.proofs.count.Given as goal

abbrev pub invariant-loop-opaque : goal.invariant-loop-opaque
invariant-loop-opaque l = l.kept + 3 ≤ l.opaque
