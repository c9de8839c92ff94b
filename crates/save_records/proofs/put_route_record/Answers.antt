-- `save_records::put_route_record` meets its contract: four octets and a space are the route. Assumes nothing.
use Rattle.memory.specs.Memory.{entry_in, route_in}
use Rattle.save_records.proofs.Records.{route-put}
use Rattle.save_records.proofs.put_route_record.Goals as goal

pub returns : goal.returns
unfolding route_in entry_in
returns c =
    route-put (route_in c.args.numbers.now c.args.names.now c.args.i) c.args.out.now _ _ _ _ c.requires.3 (c.route_via.ensures c.args.names.now) c.root_name.ensures c.copy.ensures c.put_space.ensures
