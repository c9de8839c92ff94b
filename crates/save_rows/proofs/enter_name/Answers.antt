use Rattle.save_rows.proofs.enter_name.Goals as goal

pub returns : goal.returns
returns c =
    let the-lay-name = c.lay_name in
    c.enter_row.ensures _ _ _ the-lay-name.ensures
