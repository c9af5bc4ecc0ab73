use Rattle.std.proofs.Common.{map, ◌++◌, sym, ap, subst, ◌∙◌, []}
use Rattle.std.proofs.lemmas.Result.{err_from_is_err_and}
use Rattle.nest_domain.specs.Ways.{loop_names}
use Rattle.nest_domain.specs.Steps.{header_of}
use Rattle.nest_domain.specs.Domains.{symbol_names, place}
use Rattle.nest_domain.specs.Gathered.{known_of}
use Rattle.nest_domain.specs.Answers.{domain_of}
use Rattle.nest_domain.specs.Accessing.{Tells}
use Rattle.nest_domain.proofs.Answering.{tells_fault, domain_wide, domain_with}
use Rattle.nest_domain.proofs.domain.domain_at.Goals as goal

pub returns-in_err-known : goal.returns-in_err-known
returns-in_err-known c =
    let args = c.args.args.now in
    let hs = map header_of c.args.way.items in
    let p = err_from_is_err_and c.from_residual-in_err-known.result c.from_residual-in_err-known.ensures.1 in
    subst (λ r. Tells (domain_of args hs) r) (sym p.1) (tells_fault (domain_of args hs) (place args hs []) known_of _ p.0 c.in_err-known.ensures p.2 (domain_wide args hs))

pub returns : goal.returns
returns c =
    let args = c.args.args.now in
    let hs = map header_of c.args.way.items in
    let names = c.in_ok-names.ensures ∙ ap (λ l. symbol_names args ++ loop_names (map header_of l)) c.as_slice.ensures.value in
    subst (λ w. Tells w c.limited.result) (domain_with args hs (known_of c.in_ok-known.known) c.in_ok-names.names.items c.in_ok-known.ensures names) c.limited.ensures
