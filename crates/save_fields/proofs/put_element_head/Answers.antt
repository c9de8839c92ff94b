use Rattle.save_fields.proofs.Read.{head-put}
use Rattle.save_fields.proofs.put_element_head.Goals as goal

pub returns : goal.returns
returns c =
    let the_family = c.family in
    head-put _ _ _ c.copy.ensures the_family.ensures
