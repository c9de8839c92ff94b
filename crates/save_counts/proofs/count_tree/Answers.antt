use Rattle.save_counts.proofs.Entries.{nothing-stands, nothing-lone}
use Rattle.save_counts.proofs.count_tree.Goals as goal

pub returns : goal.returns
returns c =
    let the-its-root = c.its_root-k in
    let the-holds-right = c.holds_right-right in
    let the-counts-at = c.counts_at in
    let the-recount = c.recount in
    let counts = the-counts-at.ensures.0 _ in
    (the-recount.ensures _ _ _ the-its-root.ensures.0 nothing-stands nothing-lone counts.0 counts.1, the-holds-right.ensures _ the-its-root.ensures.0)
