-- At a placement's loop the outer variables may stand as dimensions.
use Rattle.std.proofs.Common.{◌≡◌, ℕ, suc, ◌+◌, ℤ, pos, List, [], ◌∷◌, ◌++◌, refl, sym, ap, ◌∙◌, subst, Bool, true, false}
use Rattle.std.specs.Prelude.{Option, Some, None, if◌then◌else◌}
use Rattle.std.specs.Ordering.{int_eq}
use Rattle.affine_ast.specs.declared.module.Arg.{Arg}
use Rattle.affine_ast.specs.declared.module.ArgKind.{ArgKind}
use Rattle.affine_ast.specs.declared.module.ArgKind.TheVariants as kind
use Rattle.affine_ast.specs.declared.name.Name.{Name}
use Rattle.affine_ast.specs.declared.types.Bound.{Bound}
use Rattle.affine_ast.specs.declared.types.Scalar.TheVariants as scalar
use Rattle.affine_ast.specs.Names.{same_name, put}
use Rattle.affine_ast.proofs.Names.{put-same, put-other, same_name-refl}
use Rattle.affine_ast.specs.Nest.{Plain, Nest, Nothing, Loop, Branch, Does, Value, Load, Store, RawLoad, RawStore, Constant, Binary, Cast, Alloc, Dealloc, Start, Wait, Return}
use Rattle.affine_ast.specs.Rules.{is_in, is_new, may_be_dimension}
use Rattle.affine_ast.specs.Scope.{Binding, Scope, Totals, Around, with_totals, counted, in_loop, in_condition, behind_plain}
use Rattle.affine_ast.specs.Validity.{Passed, then_told, rule_of_plain, rule_of_loop, rule_of_condition, told, behind_argument}
use Rattle.valid_laws.proofs.Passing.{judged_passed, then_passed, Holds, plain_holds, loop_holds}
use Rattle.valid_laws.proofs.SafeStart.{ArgumentHolds, behind_arguments, ArgumentsHold}
use Rattle.nest_domain.specs.Boxes as region
use Rattle.nest_domain.specs.Ways.{loop_names}
use Rattle.nest_domain.specs.Domains.{names_of, symbol_names}
use Rattle.placement_texts.specs.Spots.{Spot, Here, Behind, Inside, Other, IsLoop}
use Rattle.placement_texts.specs.Template.{Dimension}
use Rattle.placement_texts.specs.Tests.{TermsStand, DimsStand, behind_scope, loop_scope, scope_at}
use Rattle.placement_texts.proofs.ScopedTexts.{new_apart, scope_behind}
use Rattle.placement_regions.specs.Sites.{way_to, terms_over, dims_over}

-- what is in scope stays
abbrev pub Keeps : Scope → Scope → Type 0
Keeps s s' = (n : Name) (b : Binding) → s n ≡ Some b → s' n ≡ Some b

-- these may stand as dimensions
abbrev pub AllStand : Scope → List Name → Type 0
AllStand s [] = Unit {0}
AllStand s (n ∷ ns) = ((b : Binding) × (s n ≡ Some b) × (may_be_dimension (Some b) ≡ true)) × AllStand s ns

pub stand_along : (s s' : Scope) (ns : List Name) → Keeps s s' → AllStand s ns → AllStand s' ns
stand_along s s' [] k h = tt
stand_along s s' (n ∷ ns) k h = ((h.0.0, k n h.0.0 h.0.1, h.0.2), stand_along s s' ns k h.1)

pub stand_append : (s : Scope) (ns ms : List Name) → AllStand s ns → AllStand s ms → AllStand s (ns ++ ms)
stand_append s [] ms h k = k
stand_append s (n ∷ ns) ms h k = (h.0, stand_append s ns ms h.1 k)

keeps_name : (a : Around) (r : Name) (x : Binding) → is_new a.scope r ≡ true → Keeps a.scope (put a.scope r (Some x))
keeps_name a r x new n b h = put-other a.scope r (Some x) n (new_apart a r n b new h) ∙ h

keeps_plain : (q : Plain) (a : Around) (rest : Nest) → Holds (counted a) q rest → Keeps a.scope (behind_plain q (counted a)).scope
keeps_plain (Value r pick at) a rest h = keeps_name a r _ h.new_name
keeps_plain (Load r m at ty) a rest h = keeps_name a r _ h.new_name
keeps_plain (Store x m at ty) a rest h = λ n b k. k
keeps_plain (RawLoad r m at ty) a rest h = keeps_name a r _ h.new_name
keeps_plain (RawStore x m at ty) a rest h = λ n b k. k
keeps_plain (Constant r z (scalar.Int element)) a rest h = keeps_name a r _ h.new_name
keeps_plain (Constant r z scalar.Index) a rest h = keeps_name a r _ h.new_name
keeps_plain (Binary r op x y ty) a rest h = keeps_name a r _ h.new_name
keeps_plain (Cast r k x from to) a rest h = keeps_name a r _ h.new_name
keeps_plain (Alloc r ty) a rest h = keeps_name a r _ h.new_name
keeps_plain (Dealloc m ty) a rest h = λ n b k. k
keeps_plain (Start x x_at y y_at t t_at n stride types) a rest h = λ n b k. k
keeps_plain (Wait t at n ty) a rest h = λ n b k. k
keeps_plain Return a rest h = λ n b k. k

-- at a loop of a text that passes: what was in scope is, and the loops' variables stand
pub record StandsAt (s : Spot) (n : Nest) (x : Scope) : Type 0 where
  pub keeps : Keeps x (scope_at s n x)
  pub loops : AllStand (scope_at s n x) (loop_names (way_to s n))

pub stands_at : (s : Spot) (n : Nest) (a : Around) (t : Totals) → told n a ≡ Passed t → IsLoop s n → StandsAt s n a.scope
unfolding told
stands_at s Nothing a t h i = absurd i
stands_at Here (Loop line v l u step body rest) a t h i = record { keeps = λ n b k. k; loops = tt }
stands_at (Behind s) (Loop line v l u step body rest) a t h i =
    let j = judged_passed line (rule_of_loop (counted a) v l u step) _ t h in
    let k = then_passed (told body (in_loop v l u (counted a))) (λ t. told rest (with_totals t a)) t j.1 in
    let r = stands_at s rest (with_totals k.0 a) t k.2 i in
    record { keeps = r.keeps; loops = r.loops }
stands_at (Inside s) (Loop line v l u step body rest) a t h i =
    let j = judged_passed line (rule_of_loop (counted a) v l u step) _ t h in
    let k = then_passed (told body (in_loop v l u (counted a))) (λ t. told rest (with_totals t a)) t j.1 in
    let b = in_loop v l u (counted a) in
    let r = stands_at s body b k.0 k.1 i in
    record {
      keeps = λ n x e. r.keeps n x (keeps_name a v _ (loop_holds (counted a) v l u step j.0).new_name n x e);
      loops = ((_, r.keeps v _ (put-same a.scope v _ v (same_name-refl v)), refl), r.loops);
    }
stands_at (Other s) (Loop line v l u step body rest) a t h i = absurd i
stands_at Here (Branch line set ns first has other rest) a t h i = absurd i
stands_at (Behind s) (Branch line set ns first has other rest) a t h i =
    let j = judged_passed line (rule_of_condition (counted a) set ns) _ t h in
    let k = then_passed (told first (in_condition (counted a))) (λ t. then_told (told other (in_condition (with_totals t a))) (λ u. told rest (with_totals u a))) t j.1 in
    let o = then_passed (told other (in_condition (with_totals k.0 a))) (λ u. told rest (with_totals u a)) t k.2 in
    let r = stands_at s rest (with_totals o.0 a) t o.2 i in
    record { keeps = r.keeps; loops = r.loops }
stands_at (Inside s) (Branch line set ns first has other rest) a t h i =
    let j = judged_passed line (rule_of_condition (counted a) set ns) _ t h in
    let k = then_passed (told first (in_condition (counted a))) (λ t. then_told (told other (in_condition (with_totals t a))) (λ u. told rest (with_totals u a))) t j.1 in
    let r = stands_at s first (in_condition (counted a)) k.0 k.1 i in
    record { keeps = r.keeps; loops = r.loops }
stands_at (Other s) (Branch line set ns first has other rest) a t h i =
    let j = judged_passed line (rule_of_condition (counted a) set ns) _ t h in
    let k = then_passed (told first (in_condition (counted a))) (λ t. then_told (told other (in_condition (with_totals t a))) (λ u. told rest (with_totals u a))) t j.1 in
    let o = then_passed (told other (in_condition (with_totals k.0 a))) (λ u. told rest (with_totals u a)) t k.2 in
    let r = stands_at s other (in_condition (with_totals k.0 a)) o.0 o.1 i in
    record { keeps = r.keeps; loops = r.loops }
stands_at (Behind s) (Does line q rest) a t h i =
    let j = judged_passed line (rule_of_plain (counted a) q rest) _ t h in
    let r = stands_at s rest (behind_plain q (counted a)) t j.1 i in
    let same = sym (scope_behind q a) in
    record {
      keeps = subst (λ x. Keeps a.scope (scope_at s rest x)) same (λ n b e. r.keeps n b (keeps_plain q a rest (plain_holds (counted a) q rest j.0) n b e));
      loops = subst (λ x. AllStand (scope_at s rest x) (loop_names (way_to s rest))) same r.loops;
    }
stands_at Here (Does line q rest) a t h i = absurd i
stands_at (Inside s) (Does line q rest) a t h i = absurd i
stands_at (Other s) (Does line q rest) a t h i = absurd i

-- ---- the index arguments
keeps_argument : (a : Around) (name : Name) (k : ArgKind) → ArgumentHolds a name k → Keeps a.scope (behind_argument name k a).scope
keeps_argument a name k h = keeps_name a name _ h.new_name

keeps_arguments : (args : List Arg) (a : Around) → ArgumentsHold args a → Keeps a.scope (behind_arguments args a).scope
keeps_arguments [] a h n b e = e
keeps_arguments (arg ∷ args) a h n b e = keeps_arguments args (behind_argument arg.name arg.kind a) h.1 n b (keeps_argument a arg.name arg.kind h.0 n b e)

pub symbols_stand : (args : List Arg) (a : Around) → ArgumentsHold args a → AllStand (behind_arguments args a).scope (symbol_names args)
symbols_stand [] a h = tt
symbols_stand (arg ∷ args) a h = by arg.kind h.0 h.1 (symbols_stand args (behind_argument arg.name arg.kind a) h.1)
  where
    by : (k : ArgKind) → ArgumentHolds a arg.name k → ArgumentsHold args (behind_argument arg.name k a) → AllStand (behind_arguments args (behind_argument arg.name k a)).scope (symbol_names args)
        → AllStand (behind_arguments args (behind_argument arg.name k a)).scope (names_of k arg.name ++ symbol_names args)
    by (kind.Memref ty) h more rest = rest
    by (kind.Index range) h more rest =
        ((_, keeps_arguments args (behind_argument arg.name (kind.Index range) a) more arg.name _ (put-same a.scope arg.name _ arg.name (same_name-refl arg.name)), refl), rest)

-- ---- so a region's terms stand
terms_stand : (s : Scope) (ns : List Name) (cs : List ℤ) → AllStand s ns → TermsStand s (terms_over ns cs)
terms_stand s [] cs h = tt
terms_stand s (n ∷ ns) [] h = tt
terms_stand s (n ∷ ns) (c ∷ cs) h = by (int_eq c (pos 0)) (terms_stand s ns cs h.1)
  where
    by : (t : Bool) → TermsStand s (terms_over ns cs) → TermsStand s (if t then terms_over ns cs else (n, c) ∷ terms_over ns cs)
    by true k = k
    by false k = (ap may_be_dimension h.0.1 ∙ h.0.2, k)

pub dims_stand : (s : Scope) (ns : List Name) (ds : List region.Dimension) (sizes : List ℕ) → AllStand s ns → DimsStand s (dims_over ns ds sizes)
dims_stand s ns [] sizes h = tt
dims_stand s ns (d ∷ ds) [] h = tt
dims_stand s ns (d ∷ ds) (n ∷ sizes) h = (terms_stand s ns d.coefs h, dims_stand s ns ds sizes h)
