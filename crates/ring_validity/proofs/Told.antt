-- What is told of a text, and whether it is well-formed.
use Rattle.std.proofs.Common.{◌≡◌, ℤ, List, [], ◌∷◌, refl, sym, ap, ◌∙◌, subst, Bool, true, false}
use Rattle.std.specs.Prelude.{◌&&◌, Option, Some, None, if◌then◌else◌}
use mathlib.Core.Path.{fun_ext}
use Rattle.affine_expr.specs.declared.map.Set.{Set}
use Rattle.affine_ast.specs.declared.name.Name.{Name}
use Rattle.affine_ast.specs.declared.types.Bound.{Bound}
use Rattle.affine_ast.specs.declared.types.Bound.TheVariants as bound
use Rattle.affine_ast.specs.declared.types.Scalar.{Scalar}
use Rattle.affine_ast.specs.declared.types.Scalar.TheVariants.{Int, Index}
use Rattle.affine_ast.specs.Names.{same_name, put}
use Rattle.affine_ast.specs.Nest.{Plain, Nest, Nothing, Loop, Branch, Does, Value, Load, Store, RawLoad, RawStore, Constant, Binary, Cast, Alloc, Dealloc, Start, Wait, Return}
use Rattle.affine_ast.specs.Parts.{uses_of, result_of}
use Rattle.affine_ast.specs.Rules.{uses_in_scope, is_new, is_new_result, defines_new, uses_stand, types_agree, constant_in_range, counts_fit, maps_pure, maps_bounded, bound_in, bound_stands, bound_fits, bound_pure, bound_bounded, step_positive, are_in, operands_stand, set_fits, set_pure, set_bounded, spaces_agree, text_within}
use Rattle.affine_ast.specs.Scope.{Binding, Variable, Symbol, IndexConstant, Data, MemrefArgument, Allocation, Scope, Totals, Around, with_totals, counted, in_loop, in_condition, behind_plain, binding_of_constant}
use Rattle.affine_ast.specs.Validity.{Told, Broken, Passed, judged, then_told, rule, elements_within, rule_of_plain, rule_of_loop, rule_of_condition, told}
use Rattle.valid_laws.proofs.Passing.{judged_passed, then_passed, Holds, plain_holds, LoopHolds, loop_holds, ConditionHolds, condition_holds}
use Rattle.placement_texts.specs.Tests.{OnlyTested, BreaksOnlyTested}
use Rattle.placement_texts.proofs.Scoped.{rules_of_plain}
use Rattle.placement_texts.proofs.ScopedTexts.{rules_of_loop, judged_only, then_only}
use Rattle.ring_validity.specs.Bodies.{bound_uses}
use Rattle.ring_validity.specs.Wells.{kind_of, kinds, a_number, known_behind, released_behind, around, PlainWell, LoopWell, ConditionWell, WellFormed}
use Rattle.ring_validity.specs.Law.{PassedIsWell}
use Rattle.ring_validity.proofs.Same.{Same, AllSame, new_same, Again, plain_well, loop_well, condition_well}

-- ---- kinds
twice : (b : Option Binding) → kind_of (kind_of b) ≡ kind_of b
twice None = refl
twice (Some (Variable r)) = refl
twice (Some (Symbol r)) = refl
twice (Some (IndexConstant z)) = refl
twice (Some (Data ty)) = refl
twice (Some (MemrefArgument ty)) = refl
twice (Some (Allocation ty)) = refl

kind_if : (c : Bool) (x y : Option Binding) → kind_of (if c then x else y) ≡ (if c then kind_of x else kind_of y)
kind_if true x y = refl
kind_if false x y = refl

pub kinds_put : (s : Scope) (r : Name) (x : Option Binding) → kinds (put s r x) ≡ put (kinds s) r (kind_of x)
unfolding put
kinds_put s r x = fun_ext (λ n. kind_if (same_name r n) x (s n))

kind_of_constant : (z : ℤ) (ty : Scalar) → kind_of (Some (binding_of_constant z ty)) ≡ Some (binding_of_constant z ty)
kind_of_constant z (Int e) = refl
kind_of_constant z Index = refl

pub known_kinds : (q : Plain) (a : Around) → kinds (behind_plain q (counted a)).scope ≡ known_behind q (kinds a.scope)
known_kinds (Value r pick at) a = kinds_put a.scope r _
known_kinds (Load r m at ty) a = kinds_put a.scope r _
known_kinds (Store x m at ty) a = refl
known_kinds (RawLoad r m at ty) a = kinds_put a.scope r _
known_kinds (RawStore x m at ty) a = refl
known_kinds (Constant r z ty) a = kinds_put a.scope r _ ∙ ap (put (kinds a.scope) r) (kind_of_constant z ty)
known_kinds (Binary r op x y ty) a = kinds_put a.scope r _
known_kinds (Cast r kind x from to) a = kinds_put a.scope r _
known_kinds (Alloc r ty) a = kinds_put a.scope r _
known_kinds (Dealloc m ty) a = refl
known_kinds (Start x x_at y y_at t t_at n stride types) a = refl
known_kinds (Wait t at n ty) a = refl
known_kinds Return a = refl

pub known_released : (q : Plain) (a : Around) → (behind_plain q (counted a)).released ≡ released_behind q a.released
known_released (Value r pick at) a = refl
known_released (Load r m at ty) a = refl
known_released (Store x m at ty) a = refl
known_released (RawLoad r m at ty) a = refl
known_released (RawStore x m at ty) a = refl
known_released (Constant r z ty) a = refl
known_released (Binary r op x y ty) a = refl
known_released (Cast r kind x from to) a = refl
known_released (Alloc r ty) a = refl
known_released (Dealloc m ty) a = refl
known_released (Start x x_at y y_at t t_at n stride types) a = refl
known_released (Wait t at n ty) a = refl
known_released Return a = refl

-- ---- names by their kinds alone
module _ (s : Scope) (d : Name → Bool) where
  to_kinds : (ns : List Name) → AllSame s (kinds s) d d ns
  to_kinds [] = tt
  to_kinds (n ∷ ns) = ((twice (s n), refl), to_kinds ns)

  of_kinds : (ns : List Name) → AllSame (kinds s) s d d ns
  of_kinds [] = tt
  of_kinds (n ∷ ns) = ((sym (twice (s n)), refl), of_kinds ns)

  new_kinds : (n : Name) → is_new (kinds s) n ≡ is_new s n
  new_kinds n = new_same s (kinds s) d d n (twice (s n), refl)

  result_kinds : (o : Option Name) → is_new_result (kinds s) o ≡ is_new_result s o
  result_kinds None = refl
  result_kinds (Some r) = new_kinds r

  pub defines_kinds : (q : Plain) → defines_new (kinds s) q ≡ defines_new s q
  defines_kinds q = result_kinds (result_of q)

  again : (s' : Scope) (d' : Name → Bool) (q : Plain) (rest : Nest) → Again s s' d d' q rest rest
  again s' d' (Alloc r ty) rest = refl
  again s' d' (Value r pick at) rest = tt
  again s' d' (Load r m at ty) rest = tt
  again s' d' (Store x m at ty) rest = tt
  again s' d' (RawLoad r m at ty) rest = tt
  again s' d' (RawStore x m at ty) rest = tt
  again s' d' (Constant r z ty) rest = tt
  again s' d' (Binary r op x y ty) rest = tt
  again s' d' (Cast r kind x from to) rest = tt
  again s' d' (Dealloc m ty) rest = tt
  again s' d' (Start x x_at y y_at t t_at n stride types) rest = tt
  again s' d' (Wait t at n ty) rest = tt
  again s' d' Return rest = tt

-- V10 speaks of what is in scope and of what is released
spaces_around : (a : Around) (q : Plain) (rest : Nest) → spaces_agree (counted a) q rest ≡ spaces_agree (around a.scope a.released) q rest
spaces_around a (Value r pick at) rest = refl
spaces_around a (Load r m at ty) rest = refl
spaces_around a (Store x m at ty) rest = refl
spaces_around a (RawLoad r m at ty) rest = refl
spaces_around a (RawStore x m at ty) rest = refl
spaces_around a (Constant r z ty) rest = refl
spaces_around a (Binary r op x y ty) rest = refl
spaces_around a (Cast r kind x from to) rest = refl
spaces_around a (Alloc r ty) rest = refl
spaces_around a (Dealloc m ty) rest = refl
spaces_around a (Start x x_at y y_at t t_at n stride types) rest = refl
spaces_around a (Wait t at n ty) rest = refl
spaces_around a Return rest = refl

-- ---- a text that passes
plain_kinds : (a : Around) (q : Plain) (rest : Nest) → Holds (counted a) q rest → PlainWell (kinds a.scope) a.released q rest
plain_kinds a q rest h =
    let s = a.scope in
    let w : PlainWell s a.released q rest = record {
      uses = h.uses;
      new_name = h.new_name;
      stand = h.stand;
      types = h.types;
      constants = h.constants;
      counts = h.counts;
      pure = h.pure;
      spaces = sym (spaces_around a q rest) ∙ h.spaces;
    } in
    plain_well s (kinds s) a.released a.released q rest rest (to_kinds s a.released (uses_of q)) (again s a.released (kinds s) a.released q rest) (defines_kinds s a.released q ∙ h.new_name) w

loop_kinds : (a : Around) (v : Name) (l u : Bound) (step : ℤ) → LoopHolds (counted a) v l u step → LoopWell (kinds a.scope) v l u step
loop_kinds a v l u step h =
    let s = a.scope in
    let w : LoopWell s v l u step = record { uses = h.uses; new_name = h.new_name; stand = h.stand; fits = h.fits; pure = h.pure } in
    loop_well s (kinds s) a.released a.released v l u step (to_kinds s a.released (bound_uses l)) (to_kinds s a.released (bound_uses u)) (new_kinds s a.released v ∙ h.new_name) w

condition_kinds : (a : Around) (set : Set) (names : List Name) → ConditionHolds (counted a) set names → ConditionWell (kinds a.scope) set names
condition_kinds a set names h =
    let s = a.scope in
    let w : ConditionWell s set names = record { uses = h.uses; stand = h.stand; fits = h.fits; pure = h.pure } in
    condition_well s (kinds s) a.released a.released set names (to_kinds s a.released names) w

pub passed_is_well : PassedIsWell
unfolding told
passed_is_well Nothing a t h = tt
passed_is_well (Loop line v l u step body rest) a t h =
    let j = judged_passed line (rule_of_loop (counted a) v l u step) _ t h in
    let k = then_passed (told body (in_loop v l u (counted a))) (λ t. told rest (with_totals t a)) t j.1 in (
      loop_kinds a v l u step (loop_holds (counted a) v l u step j.0),
      subst (λ s. WellFormed body s a.released) (kinds_put a.scope v _) (passed_is_well body (in_loop v l u (counted a)) k.0 k.1),
      passed_is_well rest (with_totals k.0 a) t k.2,
    )
passed_is_well (Branch line set ns first has other rest) a t h =
    let j = judged_passed line (rule_of_condition (counted a) set ns) _ t h in
    let k = then_passed (told first (in_condition (counted a))) (λ t. then_told (told other (in_condition (with_totals t a))) (λ u. told rest (with_totals u a))) t j.1 in
    let m = then_passed (told other (in_condition (with_totals k.0 a))) (λ u. told rest (with_totals u a)) t k.2 in (
      condition_kinds a set ns (condition_holds (counted a) set ns j.0),
      passed_is_well first (in_condition (counted a)) k.0 k.1,
      passed_is_well other (in_condition (with_totals k.0 a)) m.0 m.1,
      passed_is_well rest (with_totals m.0 a) t m.2,
    )
passed_is_well (Does line q rest) a t h =
    let j = judged_passed line (rule_of_plain (counted a) q rest) _ t h in
    let b = behind_plain q (counted a) in (
      plain_kinds a q rest (plain_holds (counted a) q rest j.0),
      subst (λ d. WellFormed rest (known_behind q (kinds a.scope)) d) (known_released q a)
          (subst (λ s. WellFormed rest s b.released) (known_kinds q a) (passed_is_well rest b t j.1)),
    )

-- ---- a well-formed text breaks no rule but those on intervals, sizes and the length of a text
plain_tested : (a : Around) (q : Plain) (rest : Nest) → PlainWell (kinds a.scope) a.released q rest → OnlyTested (rule_of_plain (counted a) q rest)
unfolding rule_of_plain
plain_tested a q rest w =
    let s = a.scope in
    let h = plain_well (kinds s) s a.released a.released q rest rest (of_kinds s a.released (uses_of q)) (again (kinds s) a.released s a.released q rest) (sym (defines_kinds s a.released q) ∙ w.new_name) w in
    rules_of_plain (uses_in_scope s q) (defines_new s q) (uses_stand s q) (types_agree s q) (constant_in_range q) (counts_fit q) (maps_pure q) (maps_bounded s q) (spaces_agree (counted a) q rest) (elements_within (counted a).totals q) (text_within (counted a))
    h.uses h.new_name h.stand h.types h.constants h.counts h.pure (spaces_around a q rest ∙ h.spaces)

loop_tested : (a : Around) (v : Name) (l u : Bound) (step : ℤ) → LoopWell (kinds a.scope) v l u step → OnlyTested (rule_of_loop (counted a) v l u step)
unfolding rule_of_loop
loop_tested a v l u step w =
    let s = a.scope in
    let h = loop_well (kinds s) s a.released a.released v l u step (of_kinds s a.released (bound_uses l)) (of_kinds s a.released (bound_uses u)) (sym (new_kinds s a.released v) ∙ w.new_name) w in
    rules_of_loop _ _ _ _ _ (bound_bounded s l && bound_bounded s u) (text_within (counted a)) h.uses h.new_name h.stand h.fits h.pure

rules_of_condition : (b1 b4 b7 b8 b9 b12 : Bool) → b1 ≡ true → b4 ≡ true → b7 ≡ true → b8 ≡ true → OnlyTested (rule 1 b1 (rule 4 b4 (rule 7 b7 (rule 8 b8 (rule 9 b9 (rule 12 b12 None))))))
rules_of_condition b1 b4 b7 b8 b9 b12 h1 h4 h7 h8 = rw (h1, h4, h7, h8) (last b9 b12)
  where
    last : (b9 b12 : Bool) → OnlyTested (rule 9 b9 (rule 12 b12 None))
    last false b12 = refl
    last true false = refl
    last true true = tt

condition_tested : (a : Around) (set : Set) (names : List Name) → ConditionWell (kinds a.scope) set names → OnlyTested (rule_of_condition (counted a) set names)
unfolding rule_of_condition
condition_tested a set names w =
    let s = a.scope in
    let h = condition_well (kinds s) s a.released a.released set names (of_kinds s a.released names) w in
    rules_of_condition _ _ _ _ (set_bounded s set names) (text_within (counted a)) h.uses h.stand h.fits h.pure

pub well_tested : (n : Nest) (a : Around) → WellFormed n (kinds a.scope) a.released → BreaksOnlyTested (told n a)
unfolding told
well_tested Nothing a h = tt
well_tested (Loop line v l u step body rest) a h =
    judged_only line (rule_of_loop (counted a) v l u step) _ (loop_tested a v l u step h.0)
    (then_only (told body (in_loop v l u (counted a))) (λ t. told rest (with_totals t a))
    (well_tested body (in_loop v l u (counted a)) (subst (λ s. WellFormed body s a.released) (sym (kinds_put a.scope v _)) h.1))
    (λ t. well_tested rest (with_totals t a) h.2))
well_tested (Branch line set ns first has other rest) a h =
    judged_only line (rule_of_condition (counted a) set ns) _ (condition_tested a set ns h.0)
    (then_only (told first (in_condition (counted a))) (λ t. then_told (told other (in_condition (with_totals t a))) (λ u. told rest (with_totals u a)))
    (well_tested first (in_condition (counted a)) h.1)
    (λ t. then_only (told other (in_condition (with_totals t a))) (λ u. told rest (with_totals u a))
    (well_tested other (in_condition (with_totals t a)) h.2)
    (λ u. well_tested rest (with_totals u a) h.3)))
well_tested (Does line q rest) a h =
    let b = behind_plain q (counted a) in
    judged_only line (rule_of_plain (counted a) q rest) _ (plain_tested a q rest h.0)
    (well_tested rest b
    (subst (λ s. WellFormed rest s b.released) (sym (known_kinds q a))
    (subst (λ d. WellFormed rest (known_behind q (kinds a.scope)) d) (sym (known_released q a)) h.1)))
