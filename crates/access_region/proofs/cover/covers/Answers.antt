use Rattle.std.proofs.Common.{rules, ◌≡◌, map, get_or, sym, ap, subst, ◌∙◌}
use Rattle.std.specs.Prelude.{IfOk}
use Rattle.std.specs.Option.{option_map}
use Rattle.constraint_set.specs.Lists.{Each}
use Rattle.affine_ast.specs.Nest.{nest}
use Rattle.direct_meaning.specs.Work.{start_ranges}
use Rattle.nest_domain.specs.Ways.{at_path}
use Rattle.nest_domain.specs.Steps.{header_of, spot_of}
use Rattle.nest_domain.specs.Ready.{Ready}
use Rattle.text_places.specs.Finding.{block_of}
use Rattle.access_region.specs.Finding.{ReadyUse, uses_in, covers_in}
use Rattle.access_region.proofs.ReadyUses.{loop_ready}
use Rattle.access_region.proofs.AtLoops.{covers_there, same_item}
use Rattle.access_region.proofs.cover.covers.Goals as goal

pub covers_in-requires-clause-way : goal.covers_in-requires-clause-way
covers_in-requires-clause-way c =
    let steps = c.args.at.now.steps in
    let is = subst (λ o. option_map spot_of o ≡ at_path (nest c.as_slice.result.now) steps) c.in-Some.is c.in_ok-found.ensures ∙ ap (λ l. at_path (nest l) steps) c.as_slice.ensures in
    let ready = loop_ready c.module-module.result.now c.module-module.ensures.valid steps (spot_of c.in-Some.found) (block_of c.in-Some-loop_of.block) (sym is) (sym c.in-Some-loop_of.ensures) in
    subst (λ l. Ready (map header_of c.in-Some-loop_of.block.way.items) (start_ranges l)) (sym c.as_slice-args.ensures) ready.way

pub covers_in-requires-clause-uses : goal.covers_in-requires-clause-uses
covers_in-requires-clause-uses c =
    let steps = c.args.at.now.steps in
    let is = subst (λ o. option_map spot_of o ≡ at_path (nest c.as_slice.result.now) steps) c.in-Some.is c.in_ok-found.ensures ∙ ap (λ l. at_path (nest l) steps) c.as_slice.ensures in
    let ready = loop_ready c.module-module.result.now c.module-module.ensures.valid steps (spot_of c.in-Some.found) (block_of c.in-Some-loop_of.block) (sym is) (sym c.in-Some-loop_of.ensures) in
    subst (λ l. Each (ReadyUse (start_ranges l)) (uses_in c.index-args-memref.result.name (block_of c.in-Some-loop_of.block))) (sym c.as_slice-args.ensures) (ready.uses c.index-args-memref.result.name)

pub returns : goal.returns
returns c = λ s arg e g. (
    let m = c.args.module.now.inner in
    let steps = c.args.at.now.steps in
    let found = c.in-Some.found in
    let b = block_of c.in-Some-loop_of.block in
    let is = subst (λ o. option_map spot_of o ≡ at_path (nest c.as_slice.result.now) steps) c.in-Some.is c.in_ok-found.ensures ∙ ap (λ l. at_path (nest l) steps) c.as_slice.ensures ∙ ap (λ x. at_path (nest x.body) steps) c.module-module.ensures.value in
    let all = c.as_slice-args.ensures ∙ ap (λ x. x.args) c.module-module.ensures.value in
    let item = same_item m.args c.args.memref c.index-args-memref.result arg (subst (λ l. c.index-args-memref.result ≡ get_or l c.args.memref c.index-args-memref.result) all c.index-args-memref.is) g in
    let inside : c.region.inside.dims.items ≡ c.args.region.now = search rules in
    let dims = c.as_slice-dims.ensures.value ∙ inside in
    let there = covers_there m.args s (spot_of found) (at_path (nest m.body) steps) b arg.name c.args.region.now is e c.in-Some-loop_of.ensures in
    subst (λ w. IfOk c.covers_in.result (λ covered. covered ≡ w)) ((λ i. covers_in (all i) b (item i).name (dims i)) ∙ there) c.covers_in.ensures)
