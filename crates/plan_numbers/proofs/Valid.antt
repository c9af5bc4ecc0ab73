-- The tiles are valid, may be staged, and a module staged by their plan is there.
use Rattle.std.proofs.Common.{◌≡◌, refl, ap, sym, subst, ◌∙◌, ◌++◌, ℕ, List, Bool, arith}
use Rattle.std.specs.Prelude.{◌&&◌, None, map, false}
use Rattle.affine_expr.specs.declared.expr.Expr.{Expr, Add, fold-Expr, fold-roll-Expr}
use Rattle.affine_expr.specs.declared.expr.Expr.TheVariants.{rolls-Add}
use Rattle.affine_expr.specs.declared.expr.Expr.TheOpen.{Expr-F}
use Rattle.affine_expr.specs.Bounded.{limited}
use Rattle.affine_expr.specs.Pure.{Purity, purity_step, is_pure, leaves_step, has_leaves_below}
use Rattle.affine_ast.specs.declared.module.Module.{Module}
use Rattle.affine_ast.specs.Intervals.{first_turn, last_end}
use Rattle.affine_ast.specs.Names.{same_name, put}
use Rattle.affine_ast.specs.Nest.{Nest, nest}
use Rattle.affine_ast.specs.PlainLimits.{is_short, access_short, plain_told, line_of_fault, plain_fault}
use Rattle.affine_ast.specs.Rules.{is_in, are_in, is_dimension, is_symbol, is_value, operands_stand, is_memref_of, is_of, same_type, in_signed_range, map_fits, subscripts_fit, access_pure, is_small_dimension, has_interval, access_bounded, sizes_positive, shape_within}
use Rattle.affine_ast.specs.Scope.{ranges_in}
use Rattle.affine_ast.specs.Validity.{rule_of_argument, rule_of_plain, rule_of_loop, told, told_arguments, told_module, outside, broken_of, first_broken, IsValid}
use Rattle.affine_ast.proofs.PlainLaws.{counts, depth_laws}
use Rattle.placement_texts.proofs.ScopedAccess.{pure-Const, pure-Dim}
use Rattle.placement_texts.proofs.ScopedRedirect.{leaves-Const, leaves-Dim}
use Rattle.printed_texts.proofs.Unnested.{stmts_of}
use Rattle.placement_texts.specs.Fold.{staged_all}
use Rattle.placement_texts.specs.Own.{OwnNest}
use Rattle.lined_modules.proofs.Trees.{made}
use Rattle.plan_laws.specs.Sites.{lined}
use Rattle.plan_laws.specs.Plan.{planned, planned_text}
use Rattle.plan_theorem.specs.Law.{of_text, IsWritten, IsStagedModule}
use Rattle.placement_texts.specs.Renamed.{named}
use Rattle.normal_texts.specs.Texts.{normal_text, IsNormal}
use Rattle.numbered_names.specs.Numbers.{defined, value_names, prefix, begins, numbered_name, numbered_arg, IsNumbered}
use Rattle.stage_laws.specs.Law.{IsStageOf}
use Rattle.stage_laws.proofs.Law.{stage_runs}
use Rattle.affine_ast.specs.declared.module.Arg.{Arg}
use Rattle.affine_ast.specs.declared.name.Name.{Name}
use Rattle.std.specs.List.{list_any}
use Rattle.plan_numbers.specs.Modules.{tiles}
use Rattle.plan_numbers.specs.Law.{with_transfers, TilesAreStaged}
use Rattle.plan_numbers.proofs.Folds.{bounds, spread_parts}
use Rattle.plan_numbers.proofs.Plans.{round, round_is, text, steps_are}

leaves-Add : (d s : ℕ) (a b : Expr) → has_leaves_below d s (Add a b) ≡ (has_leaves_below d s a && has_leaves_below d s b)
unfolding has_leaves_below
leaves-Add d s a b = ap (fold-Expr Bool (leaves_step d s)) (sym (rolls-Add a b)) ∙ fold-roll-Expr Bool (leaves_step d s) (Expr-F.Add a b)

pure-Add : (a b : Expr) → is_pure (Add a b) ≡ (is_pure a && is_pure b)
unfolding is_pure
pure-Add a b = ap (λ e. (fold-Expr Purity purity_step e).pure) (sym (rolls-Add a b)) ∙ ap (λ (p : Purity). p.pure) (fold-roll-Expr Purity purity_step (Expr-F.Add a b))

told_round : broken_of (told_arguments tiles.args (told round) outside) ≡ None
unfolding told told_arguments rule_of_argument rule_of_loop rule_of_plain is_in are_in is_dimension is_symbol is_value operands_stand is_memref_of is_of same_type in_signed_range map_fits subscripts_fit access_pure is_small_dimension has_interval access_bounded sizes_positive shape_within put same_name first_turn last_end ranges_in limited
told_round = simp (bounds, spread_parts, pure-Const, pure-Dim, pure-Add, leaves-Const, leaves-Dim, leaves-Add) refl

pub tiles_valid : IsValid tiles
unfolding first_broken told_module
tiles_valid = ap (λ n. broken_of (told_arguments tiles.args (told n) outside)) round_is ∙ told_round

counted_round : line_of_fault (plain_told round 0 0) ≡ None
unfolding plain_told is_short access_short
counted_round = simp (counts, depth_laws) refl

pub tiles_may_be_staged : plain_fault tiles ≡ None
unfolding plain_fault
tiles_may_be_staged = ap (λ n. line_of_fault (plain_told n 0 0)) round_is ∙ counted_round

-- ---- the module with its placement
written_round : OwnNest of_text round
written_round = (refl, tt, tt, (refl, (refl, tt), (refl, tt), ((refl, (refl, (refl, tt))), (refl, ((refl, refl, refl), ((refl, (refl, (refl, tt))), tt)))), tt), (tt, tt))

tiles_written : IsWritten tiles
tiles_written = record { names = subst (OwnNest of_text) (sym round_is) written_round; arguments = (refl, tt) }

abbrev staged_tiles : Module
staged_tiles = record tiles { body = stmts_of text }

staged_is : nest staged_tiles.body ≡ text
staged_is = made text ((tt, tt), tt)

planned_is : planned_text (with_transfers 64) tiles ≡ text
planned_is = ap (λ n. staged_all (planned (with_transfers 64) tiles.args n).steps (lined n)) round_is ∙ ap (λ xs. staged_all xs round) steps_are

tiles_staged : IsStagedModule (with_transfers 64) tiles staged_tiles
tiles_staged = record { arguments = refl; body = staged_is ∙ sym planned_is }

-- its subscripts as the grammar reads them
abbrev ordered_tiles : Module
ordered_tiles = record tiles { body = stmts_of (normal_text text) }

ordered_is : nest ordered_tiles.body ≡ normal_text text
ordered_is = made (normal_text text) ((tt, tt), tt)

tiles_ordered : IsNormal staged_tiles ordered_tiles
tiles_ordered = record { arguments = refl; body = ordered_is ∙ ap normal_text (sym staged_is) }

-- and its names numbered
abbrev number : Name → Name
number = numbered_name 0 (value_names ordered_tiles)

abbrev numbered_tiles : Module
numbered_tiles = record ordered_tiles { args = map (numbered_arg number) tiles.args; body = stmts_of (named number (normal_text text)) }

abbrev its_names : Nest → List Name
its_names n = map (λ (arg : Arg). arg.name) tiles.args ++ defined n

copy_free : list_any (begins (prefix 0)) (its_names (normal_text text)) ≡ false
unfolding defined same_name
copy_free = refl

no_copy : list_any (begins (prefix 0)) (value_names ordered_tiles) ≡ false
no_copy = ap (λ n. list_any (begins (prefix 0)) (its_names n)) ordered_is ∙ copy_free

tiles_numbered : IsNumbered ordered_tiles numbered_tiles
tiles_numbered = record {
  underscore_count = 0;
  prefix_is = record { free = no_copy; least = λ j less. absurd (omega (arith, less)) };
  name = refl;
  args = refl;
  body = made (named number (normal_text text)) ((tt, tt), tt) ∙ ap (named number) (sym ordered_is);
}

tiles_stage : IsStageOf (with_transfers 64) tiles numbered_tiles
tiles_stage = record { placed = staged_tiles; ordered = ordered_tiles; is_placed = tiles_staged; is_ordered = tiles_ordered; is_numbered = tiles_numbered }

pub tiles_are_staged : TilesAreStaged
tiles_are_staged = record {
  valid = tiles_valid;
  may_be_staged = tiles_may_be_staged;
  written = tiles_written;
  staged = numbered_tiles;
  is = tiles_stage;
  runs = stage_runs (with_transfers 64) tiles numbered_tiles tiles_valid tiles_may_be_staged tiles_written tiles_stage;
}
