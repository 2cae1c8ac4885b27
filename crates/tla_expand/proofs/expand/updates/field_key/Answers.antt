use Rattle.tla_expand.proofs.expand.updates.field_key.Goals as goal

pub returns : goal.returns
returns c =
    let e = c.in_ok-inside.ensures in
    let g = c.leaf_of.ensures c.in_ok-inside.inside.depth_left in
    rw c.place_of-place.ensures at (rw (e.depth_left, e.nodes_left) at g)
