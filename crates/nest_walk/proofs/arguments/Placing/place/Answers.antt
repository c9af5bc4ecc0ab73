use Rattle.nest_walk.proofs.arguments.Placing.place.Goals as goal

pub returns-in-Index : goal.returns-in-Index
returns-in-Index c = rw c.in-Index.is (c.place_index.ensures c.in-Index.field-0)
