use Rattle.memory.proofs.Parts.{placed}
use Rattle.memory_rows.proofs.enter_tree.Goals as goal

pub returns : goal.returns
returns c =
    let the-set-text = c.set_text in
    c.enter_row.ensures _ _ _ (placed _ _ _ _ _ c.requires.3 the-set-text.ensures)
