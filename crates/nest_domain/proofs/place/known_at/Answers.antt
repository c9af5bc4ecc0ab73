use Rattle.std.proofs.Common.{map, ◌+◌}
use Rattle.nest_domain.specs.Gathered.{known_of}
use Rattle.nest_domain.specs.Steps.{header_of}
use Rattle.nest_domain.specs.Ways.{loop_count}
use Rattle.nest_domain.specs.Domains.{symbol_count}
use Rattle.nest_domain.proofs.Starting.{ready_marked}
use Rattle.nest_domain.proofs.place.known_at.Goals as goal

pub along-requires : goal.along-requires
along-requires c =
    ready_marked c.args.args.now (map header_of c.args.way.items) c.args.own.now (symbol_count c.args.args.now + loop_count (map header_of c.as_slice.result.now)) (known_of c.in_ok-known.known) c.in_ok-found.found.items c.in_ok-known.ensures c.in_ok-found.ensures c.requires
