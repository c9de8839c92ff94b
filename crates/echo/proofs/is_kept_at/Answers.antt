-- `echo::is_kept_at` meets its contract: the part lent to `put_element` comes back with its length. Assumes nothing.
use Rattle.std.proofs.Common.{arith, length-append}
use Rattle.echo.proofs.is_kept_at.Goals as goal

pub slice_bounds-is_kept-end : goal.slice_bounds-is_kept-end
slice_bounds-is_kept-end c = simp length-append (omega (arith, c.put_element.ensures))
