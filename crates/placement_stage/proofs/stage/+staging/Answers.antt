use Rattle.std.proofs.Common.{rules, arith, ◌≡◌, ◌+◌, ◌*◌, ◌<◌, ◌≤◌, ◌∙◌, ◌++◌, ◌∷◌, [], length, refl, sym, ap, subst, w64, SFits}
use Rattle.std.specs.Prelude.{IfOk, Result, Ok, Err}
use Rattle.std.proofs.lemmas.Int.{to_z-of_z}
use Rattle.affine_ast.specs.declared.stmt.What as what
use Rattle.placement_code.specs.Placed.{placement_of}
use Rattle.placement_stage.specs.Places.{behind_all, inward, line_count, IsPlaceOf}
use Rattle.placement_stage.specs.Stages.{IsStagedAs}
use Rattle.placement_stage.proofs.Redirections.{small_body, small_first_region, small_other_region}
use Rattle.placement_stage.proofs.Staging.{staged_none, staged_parts, staged_inside, for_staged, if_staged, if_else_staged, plain_staged, small_parted, parted_at}
use Rattle.placement_stage.proofs.stage.+staging.Goals as goal

where_ok : {A E : Type 0} {P Q : A → Type 0} (r : Result A E) → ((a : A) → P a → Q a) → IfOk r P → IfOk r Q
where_ok (Ok a) so h = so a h
where_ok (Err e) so h = tt

pub staged_list-returns-in_default : goal.staged_list-returns-in_default
staged_list-returns-in_default t c =
    let few : line_count c.as_slice.result.now ≤ c.args.position = c.in_default.ensures in
    sym (staged_none (placement_of c.args.placed.now) c.args.stmts c.args.position (inward c.args.inside.now) (subst (λ ss. line_count ss ≤ c.args.position) c.as_slice.ensures few))

pub staged_list-staged_stmt-requires : goal.staged_list-staged_stmt-requires
staged_list-staged_stmt-requires t c =
    let there : IsPlaceOf c.as_slice.result.now c.args.position c.in-Some.place = c.in-Some.ensures in
    let two : (c.args.stmts ≡ c.tail.new.stmts ++ c.in_ok-back.back) × (length c.tail.new.stmts ≡ c.in-Some.place + 1) = c.in_ok-back.ensures in
    let last : c.tail.new.stmts ≡ c.pop.new.self ++ c.in-Some-pop.stmt ∷ [] = c.in-Some-pop.ensures in
    let parted =
    parted_at c.args.stmts c.tail.new.stmts c.pop.new.self c.in_ok-back.back c.args.position c.in-Some.place c.in-Some-pop.stmt
    (subst (λ ss. IsPlaceOf ss c.args.position c.in-Some.place) c.as_slice.ensures there) two.0 two.1 last in
    let d : 4 * length c.args.inside.now + 2 < t = omega (arith, c.decreases) in
    (d, (c.requires.placed, (small_parted c.args.stmts c.args.position c.pop.new.self c.in-Some-pop.stmt c.in_ok-back.back parted c.requires.constants, parted.line)))

pub staged_list-returns : goal.staged_list-returns
staged_list-returns t c =
    let there : IsPlaceOf c.as_slice.result.now c.args.position c.in-Some.place = c.in-Some.ensures in
    let two : (c.args.stmts ≡ c.tail.new.stmts ++ c.in_ok-back.back) × (length c.tail.new.stmts ≡ c.in-Some.place + 1) = c.in_ok-back.ensures in
    let last : c.tail.new.stmts ≡ c.pop.new.self ++ c.in-Some-pop.stmt ∷ [] = c.in-Some-pop.ensures in
    let parted =
    parted_at c.args.stmts c.tail.new.stmts c.pop.new.self c.in_ok-back.back c.args.position c.in-Some.place c.in-Some-pop.stmt
    (subst (λ ss. IsPlaceOf ss c.args.position c.in-Some.place) c.as_slice.ensures there) two.0 two.1 last in
    let first : c.append.new.self ≡ c.pop.new.self ++ c.in_ok-staged_stmt.field-0 = c.in_ok-append.ensures in
    let more : c.append-2.new.self ≡ c.append.new.self ++ c.in_ok-back.back = c.in_ok-append-2.ensures in
    staged_parts (placement_of c.args.placed.now) c.args.stmts c.args.position (inward c.args.inside.now) c.pop.new.self c.in-Some-pop.stmt c.in_ok-back.back c.in_ok-staged_stmt.field-0 c.append-2.new.self parted
    c.in_ok-staged_stmt.ensures (more ∙ ap (λ ss. ss ++ c.in_ok-back.back) first)

pub staged_stmt-returns : goal.staged_stmt-returns
staged_stmt-returns t c =
    let first : c.args.inside.now ≡ c.in-Some.step.now ∷ c.in-Some.deeper.now = search rules in
    where_ok c.alone.result
    (λ made is. subst (λ xs. IsStagedAs (placement_of c.args.placed.now) (inward xs) c.args.stmt made) (sym first)
    (staged_inside (placement_of c.args.placed.now) (inward (c.in-Some.step.now ∷ c.in-Some.deeper.now)) c.args.stmt c.in_ok-made.made made c.requires.line c.in_ok-made.ensures is))
    c.alone.ensures

pub staged_what-staged_region-requires : goal.staged_what-staged_region-requires
staged_what-staged_region-requires t c =
    let d : 4 * length c.args.inside.now + 4 < t = omega (arith, c.decreases) in
    (d, (c.requires.placed, small_body c.args.what c.in-For.var c.in-For.lower c.in-For.upper c.in-For.step c.in-For.body c.in-For.body c.in-For.is refl c.requires.constants))

pub staged_what-staged_region-requires-in-If : goal.staged_what-staged_region-requires-in-If
staged_what-staged_region-requires-in-If t c =
    let d : 4 * length c.args.inside.now + 4 < t = omega (arith, c.decreases) in
    (d, (c.requires.placed, small_first_region c.args.what c.in-If.set c.in-If.operands c.in-If.first c.in-If.second c.in-If.first c.in-If.is refl c.requires.constants))

pub staged_what-staged_region-requires-in-Some : goal.staged_what-staged_region-requires-in-Some
staged_what-staged_region-requires-in-Some t c =
    let d : 4 * length c.args.inside.now + 4 < t = omega (arith, c.decreases) in
    let is = c.in-If.is ∙ ap (what.If c.in-If.set c.in-If.operands c.in-If.first) c.in-Some.is in
    (d, (c.requires.placed, small_other_region c.args.what c.in-If.set c.in-If.operands c.in-If.first c.in-Some.second c.in-Some.second is refl c.requires.constants))

pub staged_what-returns-in_ok-staged_region-in-For : goal.staged_what-returns-in_ok-staged_region-in-For
staged_what-returns-in_ok-staged_region-in-For t c =
    let same = to_z-of_z w64 c.in-For.step (let f : SFits w64 c.in-For.step = search rules in f) in
    for_staged (placement_of c.args.placed.now) c.args.what _ (behind_all c.args.position (inward c.args.inside.now)) c.args.other c.in-For.var c.in-For.lower c.in-For.upper c.in-For.step c.in-For.body c.in-For.body
    c.in_ok-staged_region-in-For.field-0 c.in-For.is refl c.in_ok-staged_region-in-For.ensures (ap (λ z. what.For c.in-For.var c.in-For.lower c.in-For.upper z c.in_ok-staged_region-in-For.field-0) same)

pub staged_what-returns-in-None : goal.staged_what-returns-in-None
staged_what-returns-in-None t c =
    if_staged (placement_of c.args.placed.now) c.args.what _ (behind_all c.args.position (inward c.args.inside.now)) c.args.other c.in-If.set c.in-If.operands c.in-If.first c.in-If.first
    c.in_ok-first-in-If.first (c.in-If.is ∙ ap (what.If c.in-If.set c.in-If.operands c.in-If.first) c.in-None.is) refl c.in_ok-first-in-If.ensures refl

pub staged_what-returns-in_ok-second-in-Some : goal.staged_what-returns-in_ok-second-in-Some
staged_what-returns-in_ok-second-in-Some t c =
    if_else_staged (placement_of c.args.placed.now) c.args.what _ (behind_all c.args.position (inward c.args.inside.now)) c.args.other c.in-If.set c.in-If.operands c.in-If.first c.in-Some.second c.in-If.first c.in-Some.second
    c.in_ok-first-in-If.first c.in_ok-second-in-Some.second (c.in-If.is ∙ ap (what.If c.in-If.set c.in-If.operands c.in-If.first) c.in-Some.is) refl refl c.in_ok-first-in-If.ensures c.in_ok-second-in-Some.ensures refl

pub staged_what-returns-in_default : goal.staged_what-returns-in_default
staged_what-returns-in_default t c =
    plain_staged (placement_of c.args.placed.now) c.args.what c.args.what (behind_all c.args.position (inward c.args.inside.now)) c.args.other c.in_default.not-For c.in_default.not-If refl
