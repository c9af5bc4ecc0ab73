use Rattle.std.proofs.Common.{◌≡◌, Ok, sym, ap, ◌∙◌, map}
use Rattle.nest_domain.specs.Steps.{header_of}
use Rattle.nest_domain.specs.Domains.{access}
use Rattle.nest_domain.specs.Accessing.{accessed_of}
use Rattle.access_region.proofs.Ranged.{workable_there}
use Rattle.access_region.proofs.gather.reached_at.Goals as goal

pub reaching_of-requires : goal.reaching_of-requires
reaching_of-requires c =
    let found : access c.args.args.now (map header_of c.args.way.now) c.args.at.now ≡ Ok (accessed_of c.in_ok-found.found) = ap (λ hs. access c.args.args.now hs c.args.at.now) (sym c.in_ok-way.ensures) ∙ c.in_ok-found.ensures in
    workable_there c.args.args.now (map header_of c.args.way.now) c.args.at.now (accessed_of c.in_ok-found.found) found c.requires.subscripts
