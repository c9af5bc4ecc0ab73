use Rattle.std.proofs.Common.{rules, ◌≡◌, ◌∙◌, ◌++◌, ◌∷◌, [], ap, w64, SFits}
use Rattle.std.specs.Prelude.{IfOk, Result, Ok, Err}
use Rattle.std.proofs.lemmas.Int.{to_z-of_z}
use Rattle.affine_ast.specs.declared.stmt.What as what
use Rattle.placement_texts.specs.Spots.{Here}
use Rattle.placement_code.specs.Placed.{placement_of}
use Rattle.placement_stage.proofs.Redirections.{small_body}
use Rattle.placement_stage.proofs.Staging.{staged_here, staged_inside, stays_here}
use Rattle.placement_stage.proofs.stage.redirected_loop.Goals as goal

where_ok : {A E : Type 0} {P Q : A → Type 0} (r : Result A E) → ((a : A) → P a → Q a) → IfOk r P → IfOk r Q
where_ok (Ok a) so h = so a h
where_ok (Err e) so h = tt

pub redirected_all-requires-clause-constants : goal.redirected_all-requires-clause-constants
redirected_all-requires-clause-constants c = small_body c.args.what c.in-For.var c.in-For.lower c.in-For.upper c.in-For.step c.in-For.body c.as_slice.result.now c.in-For.is c.as_slice.ensures c.requires.constants

pub returns-in_ok-append-in-For : goal.returns-in_ok-append-in-For
returns-in_ok-append-in-For c =
    let same = to_z-of_z w64 c.in-For.step (let f : SFits w64 c.in-For.step = search rules in f) in
    let last : c.append.new.self ≡ c.push.new.self ++ c.in_ok-behind-in-For.field-0 = c.in_ok-append-in-For.ensures in
    let first = c.in_ok-push-in-For.ensures.ok in
    staged_here (placement_of c.args.placed.now) c.lists_are_the_template.ensures (record { line = c.args.line; what = c.args.what }) c.append.new.self c.in_ok-stmts-in-For.stmts c.in_ok-behind-in-For.field-0
    c.in-For.var c.in-For.lower c.in-For.upper c.in-For.step c.in-For.body c.as_slice.result.now c.in_ok-body-in-For.body c.requires.line c.in-For.is c.as_slice.ensures c.in_ok-body-in-For.ensures
    c.in_ok-stmts-in-For.ensures c.in_ok-behind-in-For.ensures
    (last ∙ ap (λ ss. ss ++ c.in_ok-behind-in-For.field-0) (
    first ∙ ap (λ z. c.in_ok-stmts-in-For.stmts ++ (record { line = c.args.line; what = what.For c.in-For.var c.in-For.lower c.in-For.upper z c.in_ok-body-in-For.body }) ∷ []) same))

pub returns-in_default : goal.returns-in_default
returns-in_default c =
    where_ok c.alone.result
    (λ made is. staged_inside (placement_of c.args.placed.now) Here (record { line = c.args.line; what = c.args.what }) c.args.what made c.requires.line (stays_here (placement_of c.args.placed.now) c.args.what c.in_default.not-For) is)
    c.alone.ensures
