-- A module with `affine.for %j = 0 to 4 { %r = affine.load %a[] }`, valid before and after %a is staged at the loop by copies.
use Rattle.std.proofs.Common.{◌≡◌, inl, ℕ, ◌+◌, ◌*◌, pos, List, [], ◌∷◌, refl, sym, ap, ◌∙◌, subst, arith, Bool, true, false}
use Rattle.std.specs.Prelude.{not, Option, Some, None, slice_index_or, nat_eq, is_some, if◌then◌else◌}
use Rattle.std.proofs.lemmas.Bool.{eqb-true, eq-eqb}
use Rattle.affine_ast.specs.declared.module.Arg.{Arg}
use Rattle.affine_ast.specs.declared.module.ArgKind.TheVariants as kind
use Rattle.affine_ast.specs.declared.module.Module.{Module}
use Rattle.affine_ast.specs.declared.name.Name.{Name}
use Rattle.affine_ast.specs.declared.stmt.Stmt.{Stmt}
use Rattle.affine_ast.specs.declared.stmt.What as what
use Rattle.affine_ast.specs.declared.stmt.What.{What}
use Rattle.affine_expr.specs.declared.expr.Expr.{Const, fold-Expr, fold-roll-Expr}
use Rattle.affine_expr.specs.declared.expr.Expr.TheVariants.{rolls-Const}
use Rattle.affine_expr.specs.declared.expr.Expr.TheOpen.{Expr-F}
use Rattle.affine_expr.specs.Spread.{Range, Spread}
use Rattle.affine_expr.specs.Bounded.{limited, bounded_step, bounded}
use Rattle.affine_ast.specs.declared.types.Access.{Access}
use Rattle.affine_ast.specs.declared.types.Bound.TheVariants as bound
use Rattle.affine_ast.specs.declared.types.Element.TheVariants.{I32}
use Rattle.affine_ast.specs.declared.types.MemrefType.{MemrefType}
use Rattle.affine_ast.specs.Names.{same_name, put}
use Rattle.affine_ast.proofs.Names.{same_name-eq, same_name-is, same_name-sym, same_name-made}
use Rattle.affine_ast.specs.Nest.{Plain, Nest, Nothing, Loop, Does, Load, Store, Alloc, Dealloc, put_what, nest}
use Rattle.affine_ast.proofs.Nests.{nest-nil, nest-cons, put-For, put-Load, put-Store, put-Alloc, put-Dealloc}
use Rattle.affine_ast.specs.Intervals.{first_turn, last_end}
use Rattle.affine_ast.specs.Rules.{is_in, are_in, is_dimension, is_symbol, is_value, operands_stand, is_memref_of, is_of, same_type, map_fits, subscripts_fit, access_pure, is_small_dimension, has_interval, access_bounded, deallocs, own_deallocs, is_released_once, is_allocated, sizes_positive, shape_within}
use Rattle.affine_ast.specs.Scope.{ranges_in}
use Rattle.affine_ast.specs.Validity.{rule_of_argument, rule_of_plain, rule_of_loop, told, told_arguments, told_module, outside, broken_of, first_broken, IsValid}
use Rattle.placement_texts.specs.Own.{OwnNest}
use Rattle.placement_texts.specs.Spots.{Here, IsLoop, staged_at}
use Rattle.placement_texts.specs.Template.{Placement, Copies, in_fast, slow_at_turns, fast_at_turns}
use Rattle.placement_texts.specs.Valid.{Stageable, PassesTests}
use Rattle.placement_texts.proofs.ScopedRedirect.{leaves-Const}
use Rattle.placement_texts.proofs.ScopedAccess.{pure-Const}
use Rattle.affine_ast.proofs.Names.{put-same, same_name-refl}
use Rattle.direct_meaning.specs.Action.{SlowMemref}
use Rattle.direct_meaning.specs.Memory.{start_env}
use Rattle.valid_laws.proofs.Passing.{passed_of}
use Rattle.placement_texts.specs.Fold.{Step, AllApart}
use Rattle.placement_texts.proofs.ApartValid.{all_apart}
use Rattle.placement_texts.proofs.StagedValid.{staged_valid}

abbrev letter : ℕ → Name
letter k = record { text = k ∷ []; made = false }

abbrev made : ℕ → Name
made k = record { text = k ∷ []; made = true }

abbrev own : Name → Bool
own n = not n.made

abbrev ty : MemrefType
ty = record { sizes = []; element = I32; space = 0 }

abbrev fast : MemrefType
fast = record { sizes = 1 ∷ []; element = I32; space = 1 }

abbrev at : Access
at = record { map = record { dims = 0; syms = 0; results = [] }; operands = [] }

abbrev placement : Placement
placement = record { memref = letter 97; element = I32; dims = []; reads = true; writes = true; how = Copies; name = made }

abbrev inner : Nest
inner = Does 2 (Load (letter 114) (letter 97) at ty) Nothing

abbrev text : Nest
text = Loop 1 (letter 106) (bound.Int (pos 0)) (bound.Int (pos 4)) (pos 1) inner Nothing

abbrev argument : Arg
argument = record { name = letter 97; kind = kind.Memref ty; line = 1 }

same_head : (t : Bool) (x y : ℕ) → (same_name (record { text = x ∷ []; made = t }) (record { text = y ∷ []; made = t })) ≡ nat_eq x y
same_head t x y = by (same_name (record { text = x ∷ []; made = t }) (record { text = y ∷ []; made = t })) (nat_eq x y) refl refl
  where
    by : (b c : Bool) → same_name (record { text = x ∷ []; made = t }) (record { text = y ∷ []; made = t }) ≡ b → nat_eq x y ≡ c → b ≡ c
    by true c h k = sym (eq-eqb x y (ap (λ (n : Name). slice_index_or n.text 0 0) (same_name-eq (record { text = x ∷ []; made = t }) (record { text = y ∷ []; made = t }) h))) ∙ k
    by false true h k = sym h ∙ same_name-is (record { text = x ∷ []; made = t }) (record { text = y ∷ []; made = t }) (ap (λ z. record { text = z ∷ []; made = t }) (eqb-true x y k))
    by false false h k = refl

letters : (x y : ℕ) → same_name (letter x) (letter y) ≡ nat_eq x y
letters x y = same_head false x y

mades : (x y : ℕ) → same_name (made x) (made y) ≡ nat_eq x y
mades x y = same_head true x y

made_letter : (x y : ℕ) → same_name (made x) (letter y) ≡ false
made_letter x y = same_name-made (made x) (letter y) refl refl

letter_made : (x y : ℕ) → same_name (letter x) (made y) ≡ false
letter_made x y = same_name-sym (letter x) (made y) ∙ made_letter y x

source_told : broken_of (told_arguments (argument ∷ []) (told text) outside) ≡ None
unfolding told told_arguments rule_of_argument rule_of_loop rule_of_plain is_in are_in is_dimension is_symbol is_value operands_stand is_memref_of is_of same_type map_fits subscripts_fit access_pure is_small_dimension has_interval access_bounded deallocs own_deallocs is_released_once is_allocated sizes_positive shape_within put first_turn last_end ranges_in
source_told = simp (letters, mades, made_letter, letter_made) refl

interval_zero : (ds ss : List Range) → has_interval ds ss (Const (pos 0)) ≡ true
unfolding has_interval bounded limited
interval_zero ds ss = ap (λ e. is_some (fold-Expr (Option Spread) (bounded_step ds ss) e)) (sym (rolls-Const (pos 0))) ∙ ap is_some (fold-roll-Expr (Option Spread) (bounded_step ds ss) (Expr-F.Const (pos 0)))

staged_told : broken_of (told_arguments (argument ∷ []) (told (staged_at placement Here text)) outside) ≡ None
unfolding told told_arguments rule_of_argument rule_of_loop rule_of_plain is_in are_in is_dimension is_symbol is_value operands_stand is_memref_of is_of same_type map_fits subscripts_fit access_pure is_small_dimension access_bounded deallocs own_deallocs is_released_once is_allocated sizes_positive shape_within put first_turn last_end ranges_in
staged_told = simp (letters, mades, made_letter, letter_made, leaves-Const, pure-Const, interval_zero) refl

-- ---- the two modules
abbrev slow_at : Access
slow_at = slow_at_turns (λ d. made (9 + 4 * d)) []

abbrev fast_at : Access
fast_at = fast_at_turns (λ d. made (9 + 4 * d)) []

abbrev statement : ℕ → What → Stmt
statement line w = record { line = line; what = w }

abbrev loop_of : List Stmt → What
loop_of body = what.For (letter 106) (bound.Int (pos 0)) (bound.Int (pos 4)) (pos 1) body

abbrev source : Module
source = record { name = 102 ∷ []; args = argument ∷ []; body = statement 1 (loop_of (statement 2 (what.Load (letter 114) (letter 97) at ty) ∷ [])) ∷ [] }

abbrev after_loop : List Stmt
after_loop = statement 0 (what.Load (made 6) (made 0) fast_at fast) ∷ statement 0 (what.Store (made 6) (letter 97) slow_at ty) ∷ statement 0 (what.Dealloc (made 0) fast) ∷ []

abbrev after : Module
after = record {
  name = 102 ∷ [];
  args = argument ∷ [];
  body = statement 0 (what.Alloc (made 0) fast) ∷ statement 0 (what.Load (made 5) (letter 97) slow_at ty) ∷ statement 0 (what.Store (made 5) (made 0) fast_at fast)
      ∷ statement 1 (loop_of (statement 2 (what.Load (letter 114) (made 0) (in_fast [] at) fast) ∷ [])) ∷ after_loop;
}

does : (line : ℕ) (w : What) (q : Plain) (ss : List Stmt) (n : Nest) → ((rest : Nest) → put_what w line rest ≡ Does line q rest) → nest ss ≡ n → nest (statement line w ∷ ss) ≡ Does line q n
does line w q ss n h k = nest-cons (statement line w) ss ∙ h (nest ss) ∙ ap (Does line q) k

loop : (body : List Stmt) (ss : List Stmt) (b n : Nest) → nest body ≡ b → nest ss ≡ n → nest (statement 1 (loop_of body) ∷ ss) ≡ Loop 1 (letter 106) (bound.Int (pos 0)) (bound.Int (pos 4)) (pos 1) b n
loop body ss b n h k =
    nest-cons (statement 1 (loop_of body)) ss ∙ put-For 1 (nest ss) (letter 106) (bound.Int (pos 0)) (bound.Int (pos 4)) (pos 1) body
    ∙ (λ i. Loop 1 (letter 106) (bound.Int (pos 0)) (bound.Int (pos 4)) (pos 1) (h i) (k i))

source_nest : nest source.body ≡ text
source_nest = loop _ [] inner Nothing (does 2 _ (Load (letter 114) (letter 97) at ty) [] Nothing (λ rest. put-Load 2 rest (letter 114) (letter 97) at ty) nest-nil) nest-nil

abbrev after_nest : Bool → Nest
after_nest t =
    Does 0 (Alloc (made 0) fast) (Does 0 (Load (made 5) (letter 97) slow_at ty) (Does 0 (Store (made 5) (made 0) fast_at fast)
    (Loop 1 (letter 106) (bound.Int (pos 0)) (bound.Int (pos 4)) (pos 1) (Does 2 (if t then Load (letter 114) (made 0) (in_fast [] at) fast else Load (letter 114) (letter 97) at ty) Nothing)
    (Does 0 (Load (made 6) (made 0) fast_at fast) (Does 0 (Store (made 6) (letter 97) slow_at ty) (Does 0 (Dealloc (made 0) fast) Nothing))))))

staged_nest : nest after.body ≡ staged_at placement Here text
staged_nest =
    does 0 _ (Alloc (made 0) fast) _ _ (λ rest. put-Alloc 0 rest (made 0) fast)
    (does 0 _ (Load (made 5) (letter 97) slow_at ty) _ _ (λ rest. put-Load 0 rest (made 5) (letter 97) slow_at ty)
    (does 0 _ (Store (made 5) (made 0) fast_at fast) _ _ (λ rest. put-Store 0 rest (made 5) (made 0) fast_at fast)
    (loop _ after_loop _ _ (does 2 _ (Load (letter 114) (made 0) (in_fast [] at) fast) [] Nothing (λ rest. put-Load 2 rest (letter 114) (made 0) (in_fast [] at) fast) nest-nil)
    (does 0 _ (Load (made 6) (made 0) fast_at fast) _ _ (λ rest. put-Load 0 rest (made 6) (made 0) fast_at fast)
    (does 0 _ (Store (made 6) (letter 97) slow_at ty) _ _ (λ rest. put-Store 0 rest (made 6) (letter 97) slow_at ty)
    (does 0 _ (Dealloc (made 0) fast) [] Nothing (λ rest. put-Dealloc 0 rest (made 0) fast) nest-nil))))))
    ∙ ap after_nest (sym (letters 97 97))

source_valid : IsValid source
unfolding first_broken told_module
source_valid = ap (λ n. broken_of (told_arguments (argument ∷ []) (told n) outside)) source_nest ∙ source_told

after_passes : PassesTests after
unfolding first_broken told_module
after_passes line n h =
    let none : broken_of (told_module after) ≡ None = ap (λ n. broken_of (told_arguments (argument ∷ []) (told n) outside)) staged_nest ∙ staged_told in
    let z : None ≡ Some (line, n) = sym none ∙ h in absurd (cc)

head_is : (x y : ℕ) → made x ≡ made y → x ≡ y
head_is x y e = ap (λ (n : Name). slice_index_or n.text 0 0) e

fits : Stageable own placement Here source
fits = record {
  loop = subst (λ n. IsLoop Here n) (sym source_nest) tt;
  memref = inl (refl, refl);
  dims = tt;
  numbers = record { least = omega arith; most = omega arith; chunks = tt };
  names = record { made = λ k. refl; apart = λ x y e. head_is x y (same_name-eq (made x) (made y) e) };
  own_dims = tt;
  own_arguments = (refl, tt);
  own_text = subst (OwnNest own) (sym source_nest) (refl, tt, tt, ((refl, (refl, tt)), tt), tt);
}

pub after_valid : IsValid after
after_valid = staged_valid own placement Here source after source_valid fits (record { arguments = refl; body = staged_nest ∙ ap (staged_at placement Here) (sym source_nest) }) after_passes

-- and the law on accesses of other memrefs, by one step
abbrev made_by : Name → ℕ
made_by n = if n.made then 1 else 0

abbrev step : Step
step = record { placement = placement; spot = Here; order = 0; first = 0 }

pub apart_met : AllApart made_by (step ∷ []) text (start_env (argument ∷ []) [])
unfolding start_env
apart_met =
    let p = passed_of (told_arguments (argument ∷ []) (told text) outside) source_told in
    all_apart made_by (argument ∷ []) [] (step ∷ []) text
    ((inl (refl, refl), put-same (λ n. None) (letter 97) (Some (SlowMemref 0 0)) (letter 97) (same_name-refl (letter 97))), tt)
    (record { totals = p.0; passed = p.1 }, tt)
