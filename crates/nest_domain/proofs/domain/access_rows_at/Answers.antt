use Rattle.std.proofs.Common.{rules, ◌≡◌, map, ◌++◌, sym, ap, subst, ◌∙◌}
use Rattle.std.proofs.lemmas.Result.{err_from_is_err_and}
use Rattle.nest_domain.specs.Ways.{loop_names}
use Rattle.nest_domain.specs.Steps.{header_of}
use Rattle.nest_domain.specs.Domains.{symbol_names, access, row_at}
use Rattle.nest_domain.specs.Answers.{access_of}
use Rattle.nest_domain.specs.Accessing.{accessed_of, Tells}
use Rattle.nest_domain.proofs.Answering.{tells_fault, access_wide, refused_with, given_with}
use Rattle.nest_domain.proofs.domain.access_rows_at.Goals as goal

pub returns-in_err-found : goal.returns-in_err-found
returns-in_err-found c =
    let args = c.args.args.now in
    let hs = map header_of c.args.way.items in
    let at = c.args.at.now in
    let p = err_from_is_err_and c.from_residual-in_err-found.result c.from_residual-in_err-found.ensures.1 in
    subst (λ r. Tells (access_of args hs at) r) (sym p.1) (tells_fault (access_of args hs at) (access args hs at) accessed_of _ p.0 c.in_err-found.ensures p.2 (access_wide args hs at))

pub returns-in_err-domain : goal.returns-in_err-domain
returns-in_err-domain c =
    let args = c.args.args.now in
    let hs = map header_of c.args.way.items in
    let at = c.args.at.now in
    let names = c.in_ok-names.ensures ∙ ap (λ l. symbol_names args ++ loop_names (map header_of l)) c.as_slice.ensures.value in
    let p = err_from_is_err_and c.from_residual-in_err-domain.result c.from_residual-in_err-domain.ensures.1 in
    subst (λ r. Tells (access_of args hs at) r) (sym p.1) (refused_with args hs at (accessed_of c.in_ok-found.found) c.in_ok-names.names.items _ p.0 c.in_ok-found.ensures names p.2 c.in_err-domain.ensures)

pub returns : goal.returns
returns c =
    let args = c.args.args.now in
    let hs = map header_of c.args.way.items in
    let at = c.args.at.now in
    let names = c.in_ok-names.ensures ∙ ap (λ l. symbol_names args ++ loop_names (map header_of l)) c.as_slice.ensures.value in
    let rows : map (row_at c.in_ok-found.found.known.next) c.as_slice-2.result.now ≡ c.in_ok-forms.forms.items = search rules in
    given_with args hs at (accessed_of c.in_ok-found.found) c.in_ok-names.names.items c.in_ok-domain.domain c.as_slice-2.result.now c.in_ok-forms.forms.items c.in_ok-found.ensures names c.in_ok-domain.ensures c.as_slice-2.ensures.value rows
