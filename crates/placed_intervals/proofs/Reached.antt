-- At a placement's loop in a valid module its template fits.
use Rattle.std.proofs.Common.{◌≡◌, ℕ, Bool, true, false, cond, List, [], ◌∷◌, ◌++◌, map, fold, Some, None, pos, refl, sym, ap, ◌∙◌, subst, arith}
use Rattle.std.specs.Prelude.{not, Option, is_some, nat_eq}
use Rattle.std.proofs.lemmas.Bool.{and_parts, eqb-true}
use Rattle.std.specs.Cmp.Lexicographic.{pointwise}
use mathlib.Core.Path.{fun_ext}
use Rattle.constraint_set.specs.Lists.{Each}
use Rattle.constraint_set.proofs.Steps.{Each-first, Each-second}
use Rattle.affine_expr.specs.Spread.{Range, only}
use Rattle.affine_ast.specs.declared.module.Arg.{Arg}
use Rattle.affine_ast.specs.declared.module.ArgKind.{ArgKind}
use Rattle.affine_ast.specs.declared.module.ArgKind.TheVariants as kind
use Rattle.affine_ast.specs.declared.module.Module.{Module}
use Rattle.affine_ast.specs.declared.name.Name.{Name}
use Rattle.affine_ast.specs.declared.types.Access.{Access}
use Rattle.affine_ast.specs.declared.types.Bound.{Bound}
use Rattle.affine_ast.specs.declared.types.Element.{Element}
use Rattle.affine_ast.specs.declared.types.Element.TheVariants.{I8, I16, I32, I64}
use Rattle.affine_ast.specs.declared.types.MemrefType.{MemrefType}
use Rattle.affine_ast.specs.declared.types.Scalar.TheVariants as scalar
use Rattle.affine_ast.specs.Intervals.{Ranges, ranges_at, first_turn, last_end, turn_range}
use Rattle.affine_ast.specs.Names.{same_name, put}
use Rattle.affine_ast.proofs.Names.{put-same, put-other, same_name-eq}
use Rattle.affine_ast.specs.Nest.{Plain, Nest, Nothing, Loop, Branch, Does, Value, Load, Store, RawLoad, RawStore, Constant, Binary, Cast, Alloc, Dealloc, Start, Wait, Return, nest}
use Rattle.affine_ast.specs.Rules.{is_in, defines_new, same_type, same_element, is_memref_of, binding_is_memref_of, is_of, subscripts_fit, map_fits, types_agree}
use Rattle.affine_ast.specs.Scope.{Binding, Variable, Scope, range_of_binding, ranges_in, Totals, Around, with_totals, counted, in_loop, in_condition, behind_plain}
use Rattle.affine_ast.specs.Sizes.{element_bits}
use Rattle.affine_ast.specs.Validity.{Passed, then_told, told, rule_of_plain, rule_of_loop, rule_of_condition, outside, behind_argument, IsValid}
use Rattle.direct_meaning.specs.Work.{ranges_after, arg_ranges, start_ranges}
use Rattle.valid_laws.proofs.Passing.{judged_passed, then_passed, Holds, plain_holds, loop_holds}
use Rattle.valid_laws.proofs.SafeStart.{ArgumentHolds, behind_arguments, ArgumentsHold}
use Rattle.nest_domain.specs.Ways.{Header, Round, Given, Except, Behind, Past, Use, Affine, if_named, use_of, uses}
use Rattle.nest_domain.specs.Ready.{ranges_along, ranges_at_end}
use Rattle.nest_domain.specs.Boxes as region
use Rattle.place_intervals.specs.Places.{place_ranges, copies_fit}
use Rattle.access_region.proofs.ReadyUses.{ends_with}
use Rattle.placement_texts.specs.Spots as spot
use Rattle.placement_texts.specs.Spots.{Spot, Here, IsLoop}
use Rattle.placement_texts.specs.Template.{Placement, Copies, slow_type, dim_sizes}
use Rattle.placement_texts.specs.Tests.{Argued, loop_scope, scope_at}
use Rattle.placement_texts.specs.Valid.{HasArgument, scope_behind_arguments}
use Rattle.placement_texts.proofs.ScopedTexts.{loop_argued, plain_argued, scope_behind}
use Rattle.placement_texts.proofs.StagedValid.{scope_is, arguments_argued}
use Rattle.placement_regions.specs.Sites.{from_spot, way_to, loop_uses, outer_names, dims_over, IsOfRegion}
use Rattle.placement_regions.proofs.Theorem.{opens, argument_sizes, region_extents}
use Rattle.placement_regions.proofs.Extents.{AllFit}
use Rattle.plan_validity.proofs.Numbers.{argument_small}
use Rattle.staged_plans.specs.Plans.{how_over}
use Rattle.placed_intervals.specs.Fits.{CopiesFit, PlacesFit, LessFit, Sized, SubscriptsFit, AccessFits, Under, LoopFits, FitsAt}
use Rattle.placed_intervals.proofs.Places.{places_fit, copies_fit_, all_sized, all_small}
use Rattle.placed_intervals.proofs.Known.{end, is_tested, fits_parts, UseFits, uses_fit, all_long}

cases : {P : Type 0} (b : Bool) → (b ≡ true → P) → (b ≡ false → P) → P
cases true y n = y refl
cases false y n = n refl

-- ---- the intervals of a scope with a name more
ranges_put : (s : Scope) (n : Name) (b : Binding) → ranges_in (put s n (Some b)) ≡ put (ranges_in s) n (range_of_binding (Some b))
unfolding ranges_in
ranges_put s n b = fun_ext (λ m. cases (same_name n m)
    (λ t. ap range_of_binding (put-same s n (Some b) m t) ∙ sym (put-same (ranges_in s) n (range_of_binding (Some b)) m t))
    (λ t. ap range_of_binding (put-other s n (Some b) m t) ∙ sym (put-other (ranges_in s) n (range_of_binding (Some b)) m t)))

-- one without an interval changes none
ranges_kept : (s : Scope) (n : Name) (b : Binding) → range_of_binding (Some b) ≡ only (pos 0) → not (is_in s n) ≡ true → ranges_in (put s n (Some b)) ≡ ranges_in s
unfolding is_in ranges_in
ranges_kept s n b e new = fun_ext (λ m. cases (same_name n m)
    (λ t. ap range_of_binding (put-same s n (Some b) m t) ∙ e ∙ none (s n) new ∙ ap (λ k. range_of_binding (s k)) (same_name-eq n m t))
    (λ t. ap range_of_binding (put-other s n (Some b) m t)))
  where
    none : (o : Option Binding) → not (is_some o) ≡ true → only (pos 0) ≡ range_of_binding o
    none None h = refl
    none (Some x) h = absurd (let z : ⊥ = cc in z)

pub ranges_loop : (s : Scope) (v : Name) (l u : Bound) → ranges_in (loop_scope v l u s) ≡ put (ranges_in s) v (turn_range (first_turn (ranges_in s) l) (last_end (ranges_in s) u))
ranges_loop s v l u = ranges_put s v (Variable (turn_range (first_turn (ranges_in s) l) (last_end (ranges_in s) u)))

pub ranges_behind : (q : Plain) (a : Around) → defines_new a.scope q ≡ true → ranges_in (behind_plain q (counted a)).scope ≡ ranges_after q (ranges_in a.scope)
ranges_behind (Value r pick at) a new = ranges_put a.scope r _
ranges_behind (Load r m at ty) a new = ranges_put a.scope r _
ranges_behind (Store x m at ty) a new = refl
ranges_behind (RawLoad r m at ty) a new = ranges_put a.scope r _
ranges_behind (RawStore x m at ty) a new = refl
ranges_behind (Constant r z (scalar.Int element)) a new = ranges_put a.scope r _
ranges_behind (Constant r z scalar.Index) a new = ranges_put a.scope r _
ranges_behind (Binary r op x y ty) a new = ranges_put a.scope r _
ranges_behind (Cast r k x from to) a new = ranges_put a.scope r _
ranges_behind (Alloc r ty) a new = ranges_kept a.scope r _ refl new
ranges_behind (Dealloc m ty) a new = refl
ranges_behind (Start x x_at y y_at t t_at n stride types) a new = refl
ranges_behind (Wait t at n ty) a new = refl
ranges_behind Return a new = refl

ranges_argument : (arg : Arg) (k : ArgKind) (a : Around) → ArgumentHolds a arg.name k → ranges_in (behind_argument arg.name k a).scope ≡ arg_ranges (ranges_in a.scope) (record { name = arg.name; kind = k; line = arg.line })
ranges_argument arg (kind.Memref ty) a h = ranges_kept a.scope arg.name _ refl h.new_name
ranges_argument arg (kind.Index range) a h = ranges_put a.scope arg.name _

pub ranges_arguments : (args : List Arg) (a : Around) → ArgumentsHold args a → ranges_in (behind_arguments args a).scope ≡ fold arg_ranges (ranges_in a.scope) args
ranges_arguments [] a h = refl
ranges_arguments (arg ∷ args) a h = ranges_arguments args (behind_argument arg.name arg.kind a) h.1 ∙ ap (λ (rho : Ranges). fold arg_ranges rho args) (ranges_argument arg arg.kind a h.0)

pub nothing_ranges : ranges_in outside.scope ≡ (λ n. only (pos 0))
unfolding ranges_in
nothing_ranges = refl

-- ---- the element of an access
element_is : (d e : Element) → element_bits d ≡ element_bits e → d ≡ e
element_is I8 I8 h = refl
element_is I16 I16 h = refl
element_is I32 I32 h = refl
element_is I64 I64 h = refl
element_is I8 I16 h = absurd (omega (arith, h))
element_is I8 I32 h = absurd (omega (arith, h))
element_is I8 I64 h = absurd (omega (arith, h))
element_is I16 I8 h = absurd (omega (arith, h))
element_is I16 I32 h = absurd (omega (arith, h))
element_is I16 I64 h = absurd (omega (arith, h))
element_is I32 I8 h = absurd (omega (arith, h))
element_is I32 I16 h = absurd (omega (arith, h))
element_is I32 I64 h = absurd (omega (arith, h))
element_is I64 I8 h = absurd (omega (arith, h))
element_is I64 I16 h = absurd (omega (arith, h))
element_is I64 I32 h = absurd (omega (arith, h))

module _ (args : List Arg) (p : Placement) (rs : List Range) where
  typed : (a : Around) (m : Name) (ty : MemrefType) → Argued p a → same_name p.memref m ≡ true → is_memref_of a.scope m ty ≡ true → ty.element ≡ p.element
  unfolding is_memref_of same_type
  typed a m ty argued e h =
      let same : same_type (slow_type p) ty ≡ true = sym (ap (λ x. binding_is_memref_of x ty) (sym (ap a.scope (same_name-eq p.memref m e)) ∙ argued.scope)) ∙ h in
      let q = and_parts (pointwise nat_eq (dim_sizes p.dims) ty.sizes) _ same in
      let r = and_parts (same_element p.element ty.element) _ q.1 in
      sym (element_is p.element ty.element (eqb-true (element_bits p.element) (element_bits ty.element) r.0))

  counts : (at : Access) (ty : MemrefType) → subscripts_fit at ty ≡ true → map_fits at ≡ true
  unfolding subscripts_fit
  counts at ty h = (and_parts (map_fits at) _ h).0

  -- ---- an access in the loop
  named_use : (m n : Name) (u : Use) (more : List Use) → same_name m n ≡ true → Each (UseFits args rs) (if_named m n u ++ more) → UseFits args rs u
  named_use m n u more e h = (subst (λ b. Each (UseFits args rs) (cond b (u ∷ []) [] ++ more)) e h).0

  fitting : (a : Around) (w : List Header) (stores : Bool) (m : Name) (at : Access) (ty : MemrefType) (more : List Use) → ranges_in a.scope ≡ end args w → Argued p a → types_agree a.scope (Load m m at ty) ≡ true → map_fits at ≡ true
      → Each (UseFits args rs) (if_named p.memref m (Affine w stores at) ++ more) → same_name p.memref m ≡ true → SubscriptsFit p rs a.scope at ty
  fitting a w stores m at ty more known argued types fits h e = record {
    fits = fits;
    element = typed a m ty argued e types;
    less = subst (λ (rho : Ranges). LessFit (ranges_at rho at) rs) (sym known) (named_use p.memref m (Affine w stores at) more e h);
  }

  access_fits : (q : Plain) (a : Around) (rest : Nest) (w : List Header) (more : List Use) → ranges_in a.scope ≡ end args w → Argued p a → Holds (counted a) q rest → Each (UseFits args rs) (use_of p.memref q w ++ more) → AccessFits p rs q a.scope
  access_fits (Load r m at ty) a rest w more known argued j h = fitting a w false m at ty more known argued j.types (counts at ty j.counts) h
  access_fits (Store x m at ty) a rest w more known argued j h = fitting a w true m at ty more known argued (and_parts (is_of a.scope x (scalar.Int ty.element)) _ j.types).1 (counts at ty j.counts) h
  access_fits (Value r pick at) a rest w more known argued j h = tt
  access_fits (RawLoad r m at ty) a rest w more known argued j h = tt
  access_fits (RawStore x m at ty) a rest w more known argued j h = tt
  access_fits (Constant r z ty) a rest w more known argued j h = tt
  access_fits (Binary r op x y ty) a rest w more known argued j h = tt
  access_fits (Cast r k x from to) a rest w more known argued j h = tt
  access_fits (Alloc r ty) a rest w more known argued j h = tt
  access_fits (Dealloc m ty) a rest w more known argued j h = tt
  access_fits (Start x x_at y y_at t t_at n stride types) a rest w more known argued j h = tt
  access_fits (Wait t at n ty) a rest w more known argued j h = tt
  access_fits Return a rest w more known argued j h = tt

  -- one thing more on the way
  pub further : (w : List Header) (h : Header) (rho : Ranges) → rho ≡ ranges_along h (end args w) → rho ≡ end args (w ++ h ∷ [])
  further w h rho e = e ∙ sym (ends_with w h (start_ranges args))

  pub same_argued : (a b : Around) → b.scope ≡ a.scope → b.released ≡ a.released → Argued p a → Argued p b
  same_argued a b e f h = record { scope = ap (λ s. s p.memref) e ∙ h.scope; live = ap (λ s. s p.memref) f ∙ h.live }

  pub text_fits : (n : Nest) (a : Around) (t : Totals) (w : List Header) → told n a ≡ Passed t → ranges_in a.scope ≡ end args w → Argued p a → Each (UseFits args rs) (uses p.memref n w) → Under (AccessFits p rs) n a.scope
  unfolding told uses
  text_fits Nothing a t w h known argued k = tt
  text_fits (Loop line v l u s body rest) a t w h known argued k =
      let j = judged_passed line (rule_of_loop (counted a) v l u s) _ t h in
      let b = then_passed (told body (in_loop v l u (counted a))) (λ t. told rest (with_totals t a)) t j.1 in
      let first = uses p.memref body (w ++ Round v l u s ∷ []) in
      let second = uses p.memref rest (w ++ Past body ∷ []) in (
        text_fits body (in_loop v l u (counted a)) b.0 (w ++ Round v l u s ∷ []) b.1
            (further w (Round v l u s) _ (ranges_loop a.scope v l u ∙ (λ i. put (known i) v (turn_range (first_turn (known i) l) (last_end (known i) u)))))
            (loop_argued p a v l u (loop_holds (counted a) v l u s j.0).new_name argued) (Each-first (UseFits args rs) first second k),
        text_fits rest (with_totals b.0 a) t (w ++ Past body ∷ []) b.2 (further w (Past body) _ known) (same_argued a (with_totals b.0 a) refl refl argued) (Each-second (UseFits args rs) first second k),
      )
  text_fits (Branch line set ns first has other rest) a t w h known argued k =
      let j = judged_passed line (rule_of_condition (counted a) set ns) _ t h in
      let b = then_passed (told first (in_condition (counted a))) (λ t. then_told (told other (in_condition (with_totals t a))) (λ u. told rest (with_totals u a))) t j.1 in
      let c = then_passed (told other (in_condition (with_totals b.0 a))) (λ u. told rest (with_totals u a)) t b.2 in
      let x = uses p.memref first (w ++ Given set ns ∷ []) in
      let y = uses p.memref other (w ++ Except set ns first ∷ []) in
      let z = uses p.memref rest ((w ++ Past first ∷ []) ++ Past other ∷ []) in (
        text_fits first (in_condition (counted a)) b.0 (w ++ Given set ns ∷ []) b.1 (further w (Given set ns) _ known) (same_argued a (in_condition (counted a)) refl refl argued) (Each-first (UseFits args rs) x (y ++ z) k),
        text_fits other (in_condition (with_totals b.0 a)) c.0 (w ++ Except set ns first ∷ []) c.1 (further w (Except set ns first) _ known) (same_argued a (in_condition (with_totals b.0 a)) refl refl argued) (Each-first (UseFits args rs) y z (Each-second (UseFits args rs) x (y ++ z) k)),
        text_fits rest (with_totals c.0 a) t ((w ++ Past first ∷ []) ++ Past other ∷ []) c.2 (further (w ++ Past first ∷ []) (Past other) _ (further w (Past first) _ known)) (same_argued a (with_totals c.0 a) refl refl argued)
            (Each-second (UseFits args rs) y z (Each-second (UseFits args rs) x (y ++ z) k)),
      )
  text_fits (Does line q rest) a t w h known argued k =
      let j = judged_passed line (rule_of_plain (counted a) q rest) _ t h in
      let holds = plain_holds (counted a) q rest j.0 in
      let first = use_of p.memref q w in
      let second = uses p.memref rest (w ++ Behind q ∷ []) in (
        access_fits q a rest w second known argued holds k,
        subst (Under (AccessFits p rs) rest) (sym (scope_behind q a))
            (text_fits rest (behind_plain q (counted a)) t (w ++ Behind q ∷ []) j.1 (further w (Behind q) _ (ranges_behind q a holds.new_name ∙ ap (ranges_after q) known)) (plain_argued p q a rest holds argued) (Each-second (UseFits args rs) first second k)),
      )

  -- ---- at its loop
  pub record Reached (x : Spot) (n : Nest) (a : Around) (rho : Ranges) : Type 0 where
    pub around : Around
    pub totals : Totals
    pub scope : around.scope ≡ scope_at x n a.scope
    pub passed : told (from_spot x n) around ≡ Passed totals
    pub ranges : ranges_in around.scope ≡ ranges_at_end (way_to x n) rho
    pub argued : Argued p around
    pub loop : IsLoop Here (from_spot x n)

  pub reached : (x : Spot) (n : Nest) (a : Around) (t : Totals) (rho : Ranges) → told n a ≡ Passed t → IsLoop x n → ranges_in a.scope ≡ rho → Argued p a → Reached x n a rho
  unfolding told
  reached x Nothing a t rho h is known argued = absurd is
  reached Here (Loop line v l u s body rest) a t rho h is known argued = record { around = a; totals = t; scope = refl; passed = h; ranges = known; argued = argued; loop = tt }
  reached (spot.Behind x) (Loop line v l u s body rest) a t rho h is known argued =
      let j = judged_passed line (rule_of_loop (counted a) v l u s) _ t h in
      let b = then_passed (told body (in_loop v l u (counted a))) (λ t. told rest (with_totals t a)) t j.1 in
      let r = reached x rest (with_totals b.0 a) t rho b.2 is known (same_argued a (with_totals b.0 a) refl refl argued) in
      record { around = r.around; totals = r.totals; scope = r.scope; passed = r.passed; ranges = r.ranges; argued = r.argued; loop = r.loop }
  reached (spot.Inside x) (Loop line v l u s body rest) a t rho h is known argued =
      let j = judged_passed line (rule_of_loop (counted a) v l u s) _ t h in
      let b = then_passed (told body (in_loop v l u (counted a))) (λ t. told rest (with_totals t a)) t j.1 in
      let r = reached x body (in_loop v l u (counted a)) b.0 (ranges_along (Round v l u s) rho) b.1 is (ranges_loop a.scope v l u ∙ (λ i. put (known i) v (turn_range (first_turn (known i) l) (last_end (known i) u)))) (loop_argued p a v l u (loop_holds (counted a) v l u s j.0).new_name argued) in
      record { around = r.around; totals = r.totals; scope = r.scope; passed = r.passed; ranges = r.ranges; argued = r.argued; loop = r.loop }
  reached (spot.Other x) (Loop line v l u s body rest) a t rho h is known argued = absurd is
  reached Here (Branch line set ns first has other rest) a t rho h is known argued = absurd is
  reached (spot.Behind x) (Branch line set ns first has other rest) a t rho h is known argued =
      let j = judged_passed line (rule_of_condition (counted a) set ns) _ t h in
      let b = then_passed (told first (in_condition (counted a))) (λ t. then_told (told other (in_condition (with_totals t a))) (λ u. told rest (with_totals u a))) t j.1 in
      let c = then_passed (told other (in_condition (with_totals b.0 a))) (λ u. told rest (with_totals u a)) t b.2 in
      let r = reached x rest (with_totals c.0 a) t rho c.2 is known (same_argued a (with_totals c.0 a) refl refl argued) in
      record { around = r.around; totals = r.totals; scope = r.scope; passed = r.passed; ranges = r.ranges; argued = r.argued; loop = r.loop }
  reached (spot.Inside x) (Branch line set ns first has other rest) a t rho h is known argued =
      let j = judged_passed line (rule_of_condition (counted a) set ns) _ t h in
      let b = then_passed (told first (in_condition (counted a))) (λ t. then_told (told other (in_condition (with_totals t a))) (λ u. told rest (with_totals u a))) t j.1 in
      let r = reached x first (in_condition (counted a)) b.0 rho b.1 is known (same_argued a (in_condition (counted a)) refl refl argued) in
      record { around = r.around; totals = r.totals; scope = r.scope; passed = r.passed; ranges = r.ranges; argued = r.argued; loop = r.loop }
  reached (spot.Other x) (Branch line set ns first has other rest) a t rho h is known argued =
      let j = judged_passed line (rule_of_condition (counted a) set ns) _ t h in
      let b = then_passed (told first (in_condition (counted a))) (λ t. then_told (told other (in_condition (with_totals t a))) (λ u. told rest (with_totals u a))) t j.1 in
      let c = then_passed (told other (in_condition (with_totals b.0 a))) (λ u. told rest (with_totals u a)) t b.2 in
      let r = reached x other (in_condition (with_totals b.0 a)) c.0 rho c.1 is known (same_argued a (in_condition (with_totals b.0 a)) refl refl argued) in
      record { around = r.around; totals = r.totals; scope = r.scope; passed = r.passed; ranges = r.ranges; argued = r.argued; loop = r.loop }
  reached Here (Does line q rest) a t rho h is known argued = absurd is
  reached (spot.Behind x) (Does line q rest) a t rho h is known argued =
      let j = judged_passed line (rule_of_plain (counted a) q rest) _ t h in
      let holds = plain_holds (counted a) q rest j.0 in
      let r = reached x rest (behind_plain q (counted a)) t (ranges_after q rho) j.1 is (ranges_behind q a holds.new_name ∙ ap (ranges_after q) known) (plain_argued p q a rest holds argued) in
      record { around = r.around; totals = r.totals; scope = r.scope ∙ ap (scope_at x rest) (sym (scope_behind q a)); passed = r.passed; ranges = r.ranges; argued = r.argued; loop = r.loop }
  reached (spot.Inside x) (Does line q rest) a t rho h is known argued = absurd is
  reached (spot.Other x) (Does line q rest) a t rho h is known argued = absurd is

  loop_fits : (here : Nest) (b : Around) (t : Totals) (w : List Header) → told here b ≡ Passed t → ranges_in b.scope ≡ end args w → Argued p b → Each (UseFits args rs) (loop_uses p.memref w here)
      → PlacesFit b.scope p.dims rs → CopiesFit p.how p.dims rs → Sized p.dims → LoopFits p rs here b.scope
  unfolding told
  loop_fits Nothing b t w h known argued k places copies sized = tt
  loop_fits (Loop line v l u s body rest) b t w h known argued k places copies sized =
      let j = judged_passed line (rule_of_loop (counted b) v l u s) _ t h in
      let c = then_passed (told body (in_loop v l u (counted b))) (λ t. told rest (with_totals t b)) t j.1 in (
        places,
        copies,
        sized,
        text_fits body (in_loop v l u (counted b)) c.0 (w ++ Round v l u s ∷ []) c.1
            (further w (Round v l u s) _ (ranges_loop b.scope v l u ∙ (λ i. put (known i) v (turn_range (first_turn (known i) l) (last_end (known i) u)))))
            (loop_argued p b v l u (loop_holds (counted b) v l u s j.0).new_name argued) k,
      )
  loop_fits (Branch line set ns first has other rest) b t w h known argued k places copies sized = tt
  loop_fits (Does line q rest) b t w h known argued k places copies sized = tt

-- the copies, where they are loops
copies_so : (dma : Bool) (ns : List Name) (p : Placement) (ds : List region.Dimension) (sizes : List ℕ) (rs : List Range) → p.how ≡ how_over dma p.dims → p.dims ≡ dims_over ns ds sizes → AllFit ds sizes
    → cond dma true (copies_fit ds rs) ≡ true → CopiesFit p.how p.dims rs
copies_so true ns p ds sizes rs how dims fit h = subst (λ x. CopiesFit x p.dims rs) (sym how) tt
copies_so false ns p ds sizes rs how dims fit h = subst (λ x. CopiesFit x p.dims rs) (sym how) (subst (λ x. CopiesFit Copies x rs) (sym dims) (copies_fit_ ns ds sizes rs fit h))

-- in a valid module, at the loop of a region whose templates keep to the rule
pub region_fits_there : (m : Module) → IsValid m → (p : Placement) (ty : MemrefType) (x : Spot) (dma : Bool) → IsOfRegion m.args (nest m.body) p ty x dma → slow_type p ≡ ty → p.how ≡ how_over dma p.dims
    → (rs : List Range) × FitsAt p rs x (nest m.body) (scope_behind_arguments m.args (λ n. None))
region_fits_there m valid p ty x dma r type_is how =
    let n = nest m.body in
    let args = m.args in
    let o = opens m valid in
    let a = behind_arguments args outside in
    let w = way_to x n in
    let us = loop_uses p.memref w (from_spot x n) in
    let ns = outer_names args w in
    let tested = is_tested args w us ty.sizes dma r.region r.is in
    let fit = fits_parts args tested.xs ty.sizes dma r.region (map (end args w) ns) tested.fits in
    let rs = fit.places in
    let extents = region_extents m valid p ty x dma r in
    let small = all_small ty.sizes (argument_sizes args outside p.memref ty o.arguments r.memref) (argument_small args outside p.memref ty o.arguments r.memref) in
    let argued : Argued p a = arguments_argued p args outside o.arguments refl (subst (λ y. HasArgument args p.memref (kind.Memref y)) (sym type_is) r.memref) in
    let start : ranges_in a.scope ≡ start_ranges args = ranges_arguments args outside o.arguments ∙ ap (λ (rho : Ranges). fold arg_ranges rho args) nothing_ranges in
    let there = reached args p rs x n a o.totals (start_ranges args) o.passed r.loop start argued in
    let places : PlacesFit there.around.scope p.dims rs =
    subst (λ ds. PlacesFit there.around.scope ds rs) (sym r.dims)
    (places_fit there.around.scope ns r.region ty.sizes rs (all_long args w us ty.sizes dma r.region r.is) extents small (ap (λ (rho : Ranges). place_ranges (map rho ns) ty.sizes r.region) there.ranges ∙ fit.are)) in
    let whole : LoopFits p rs (from_spot x n) there.around.scope =
    loop_fits args p rs (from_spot x n) there.around there.totals w there.passed there.ranges there.argued (uses_fit args rs us tested.xs tested.are fit.accesses) places
    (copies_so dma ns p r.region ty.sizes rs how r.dims extents fit.copies) (subst Sized (sym r.dims) (all_sized ns r.region ty.sizes extents small)) in
    (rs, subst (λ s. LoopFits p rs (from_spot x n) s) (there.scope ∙ ap (scope_at x n) (scope_is args outside)) whole)
