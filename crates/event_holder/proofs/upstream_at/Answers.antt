use Rattle.event_holder.proofs.upstream_at.Goals as goal

pub returns : goal.returns
returns c =
    let up = c.upstream_via.ensures in
    ((λ os root e. rw (← (c.route_at.ensures os root e)) up.0), up.1, up.2)
