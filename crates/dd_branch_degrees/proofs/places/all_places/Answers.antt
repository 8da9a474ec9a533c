use Rattle.dd_branch_degrees.proofs.Beginnings.{both_places}
use Rattle.dd_branch_degrees.proofs.places.all_places.Goals as goal

pub returns : goal.returns
returns c =
    both_places c.args.q.now c.args.table.now c.new-places.result.items c.add_places.new.places.items c.add_places-2.new.places.items
    c.new-places.ensures c.add_places.ensures c.add_places-2.ensures
