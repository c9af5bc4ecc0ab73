-- How many outer variables there are at a place.
use Rattle.std.proofs.Common.{◌≡◌, ℕ, suc, ◌+◌, Bool, true, false, cond, List, [], ◌∷◌, take, drop, None, Result, Ok, Err, ℤ, refl, arith}
use Rattle.affine_expr.specs.declared.linear.LinearFault.{LinearFault}
use Rattle.affine_expr.specs.declared.map.Set.{Set}
use Rattle.affine_expr.specs.Spread.{Range}
use Rattle.affine_expr.specs.Forms.{Form, LocalForm}
use Rattle.affine_expr.specs.Linear.{◌>>=◌, variable_form, number_form, minus}
use Rattle.affine_expr.proofs.FormValues.{Gives, then}
use Rattle.affine_ast.specs.declared.module.Arg.{Arg}
use Rattle.affine_ast.specs.declared.module.ArgKind.{ArgKind}
use Rattle.affine_ast.specs.declared.module.ArgKind.TheVariants.{Memref, Index}
use Rattle.affine_ast.specs.declared.name.Name.{Name}
use Rattle.affine_ast.specs.declared.types.Access.{Access}
use Rattle.affine_ast.specs.declared.types.Bound.{Bound}
use Rattle.affine_ast.specs.declared.types.Pick.{Pick}
use Rattle.affine_ast.specs.declared.types.Pick.TheVariants.{Apply, Min, Max}
use Rattle.affine_ast.specs.declared.types.Scalar.TheVariants as scalar
use Rattle.affine_ast.specs.Intervals.{range_or}
use Rattle.affine_ast.specs.Nest.{Plain, Value, Load, Store, RawLoad, RawStore, Constant, Binary, Cast, Alloc, Dealloc, Start, Wait, Return}
use Rattle.nest_domain.specs.Ways.{Header, Round, Given, Except, Behind, Past, has_name, used, loop_count}
use Rattle.nest_domain.specs.Forms.{all_floor_rows}
use Rattle.nest_domain.specs.Domains.{Known, operand_forms, map_forms, bound_forms, all_from, upper_rows, set_rows, first_form, picked_rows, with_divisions, in_loop, in_condition, named, with_pick, with_value, formed_behind, behind_plain, along, count_of, symbol_count, with_kind, with_arguments, nothing_known, place}

-- a step whose answer says nothing
skip : {A B : Type 0} (w : Result A LinearFault) (f : A → Result B LinearFault) (Q : B → Type 0) → ((x : A) → Gives (f x) Q) → Gives (w >>= f) Q
skip (Ok x) f Q h = h x
skip (Err e) f Q h = tt

abbrev HasOuter : ℕ → Known → Type 0
HasOuter n k = k.outer ≡ n

divisions_outer : (ls : List LocalForm) (k : Known) → Gives (with_divisions ls k) (HasOuter k.outer)
divisions_outer ls k = skip (all_floor_rows ls) _ (HasOuter k.outer) (λ rows. refl)

loop_outer : (v : Name) (l u : Bound) (s : ℤ) (k : Known) → Gives (in_loop v l u s k) (HasOuter (suc k.outer))
loop_outer v l u s k = skip (bound_forms k.forms k.next l []) _ (HasOuter (suc k.outer)) (λ low. skip (bound_forms k.forms k.next u low.locals) _ (HasOuter (suc k.outer)) (λ high. skip (all_from (variable_form k.next k.outer) low.forms) _ (HasOuter (suc k.outer)) (λ below. skip (upper_rows low.forms s (variable_form k.next k.outer) high.forms) _ (HasOuter (suc k.outer)) (λ above. divisions_outer high.locals _))))

condition_outer : (set : Set) (names : List Name) (k : Known) → Gives (in_condition set names k) (HasOuter k.outer)
condition_outer set names k = skip (operand_forms k.forms names) _ (HasOuter k.outer) (λ fs. skip (set_rows k.next (take set.dims fs) (drop set.dims fs) set.rows []) _ (HasOuter k.outer) (λ rows. divisions_outer rows.locals _))

pick_outer : (r : Name) (pick : Pick) (at : Access) (range : Range) (v : Form) (k : Known) → Gives (with_pick r pick at range v k) (HasOuter k.outer)
pick_outer r pick at range v k = skip (map_forms k.forms (suc k.next) at []) _ (HasOuter k.outer) (λ formed. skip (picked_rows pick v formed.forms) _ (HasOuter k.outer) (λ rows. skip (minus v (number_form 0 range.least)) _ (HasOuter k.outer) (λ low. skip (minus (number_form 0 range.greatest) v) _ (HasOuter k.outer) (λ high. divisions_outer formed.locals _))))

value_outer : (r : Name) (pick : Pick) (at : Access) (k : Known) → Gives (with_value r pick at k) (HasOuter k.outer)
value_outer r Apply at k = skip (map_forms k.forms k.next at []) _ (HasOuter k.outer) (λ formed. skip (first_form formed.forms) _ (HasOuter k.outer) (λ f. divisions_outer formed.locals _))
value_outer r Min at k = pick_outer r Min at _ _ k
value_outer r Max at k = pick_outer r Max at _ _ k

formed_outer : (p : Plain) (names : List Name) (k : Known) → Gives (formed_behind p names k) (HasOuter k.outer)
formed_outer (Value r pick at) names k = by (has_name r names)
  where
    by : (b : Bool) → Gives (cond b (with_value r pick at k) (Ok (named r None k))) (HasOuter k.outer)
    by true = value_outer r pick at k
    by false = refl
formed_outer (Load r m at ty) names k = refl
formed_outer (Store x m at ty) names k = refl
formed_outer (RawLoad r m at ty) names k = refl
formed_outer (RawStore x m at ty) names k = refl
formed_outer (Constant r z (scalar.Int element)) names k = refl
formed_outer (Constant r z scalar.Index) names k = refl
formed_outer (Binary r op x y ty) names k = refl
formed_outer (Cast r kind x from to) names k = refl
formed_outer (Alloc r ty) names k = refl
formed_outer (Dealloc m ty) names k = refl
formed_outer (Start x x_at y y_at t t_at n stride types) names k = refl
formed_outer (Wait t at n ty) names k = refl
formed_outer Return names k = refl

plain_outer : (p : Plain) (names : List Name) (k : Known) → Gives (behind_plain p names k) (HasOuter k.outer)
plain_outer p names k = then (formed_behind p names k) _ (HasOuter k.outer) (HasOuter k.outer) (formed_outer p names k) (λ g h. h)

along_outer : (hs : List Header) (own : List Name) (k : Known) (n : ℕ) → n ≡ k.outer + loop_count hs → Gives (along hs own k) (HasOuter n)
unfolding along
along_outer [] own k n e = omega (arith, e)
along_outer (Round v l u s ∷ hs) own k n e = then (in_loop v l u s k) (along hs own) (HasOuter (suc k.outer)) (HasOuter n) (loop_outer v l u s k) (λ g h. along_outer hs own g n (omega (arith, e, h)))
along_outer (Given set names ∷ hs) own k n e = then (in_condition set names k) (along hs own) (HasOuter k.outer) (HasOuter n) (condition_outer set names k) (λ g h. along_outer hs own g n (omega (arith, e, h)))
along_outer (Except set names first ∷ hs) own k n e = along_outer hs own k n e
along_outer (Behind p ∷ hs) own k n e = then (behind_plain p (used hs own) k) (along hs own) (HasOuter k.outer) (HasOuter n) (plain_outer p (used hs own) k) (λ g h. along_outer hs own g n (omega (arith, e, h)))
along_outer (Past m ∷ hs) own k n e = along_outer hs own k n e

kind_outer : (kind : ArgKind) (name : Name) (k : Known) → Gives (with_kind kind name k) (HasOuter (k.outer + count_of kind))
kind_outer (Memref ty) name k = omega arith
kind_outer (Index range) name k = skip (minus (variable_form k.next k.outer) (number_form 0 (range_or range).least)) _ (HasOuter (k.outer + 1)) (λ low. skip (minus (number_form 0 (range_or range).greatest) (variable_form k.next k.outer)) _ (HasOuter (k.outer + 1)) (λ high. more k.outer))
  where
    more : (n : ℕ) → suc n ≡ n + 1
    more n = omega arith

arguments_outer : (args : List Arg) (k : Known) (n : ℕ) → n ≡ k.outer + symbol_count args → Gives (with_arguments args k) (HasOuter n)
arguments_outer [] k n e = omega (arith, e)
arguments_outer (arg ∷ args) k n e = then (with_kind arg.kind arg.name k) (with_arguments args) (HasOuter (k.outer + count_of arg.kind)) (HasOuter n) (kind_outer arg.kind arg.name k) (λ g h. arguments_outer args g n (omega (arith, e, h)))

pub place_outer : (args : List Arg) (way : List Header) (own : List Name) → Gives (place args way own) (HasOuter (symbol_count args + loop_count way))
unfolding place
place_outer args way own = then (with_arguments args (nothing_known (symbol_count args + loop_count way))) (along way own) (HasOuter (symbol_count args)) (HasOuter (symbol_count args + loop_count way))
    (arguments_outer args (nothing_known (symbol_count args + loop_count way)) (symbol_count args) (omega arith)) (λ k h. along_outer way own k (symbol_count args + loop_count way) (omega (arith, h)))
