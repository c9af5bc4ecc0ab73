-- The intervals that are known at a place are those of the text.
use Rattle.std.proofs.Common.{◌≡◌, ℕ, ◌+◌, List, [], ◌∷◌, take, drop, fold, Result, Ok, Err, ℤ, refl, sym, subst}
use Rattle.affine_expr.specs.declared.linear.LinearFault.{LinearFault}
use Rattle.affine_expr.specs.declared.map.Set.{Set}
use Rattle.affine_expr.specs.Forms.{LocalForm}
use Rattle.affine_expr.specs.Linear.{◌>>=◌, variable_form, number_form, minus}
use Rattle.affine_expr.proofs.FormValues.{Gives, then}
use Rattle.affine_ast.specs.declared.module.Arg.{Arg}
use Rattle.affine_ast.specs.declared.module.ArgKind.{ArgKind}
use Rattle.affine_ast.specs.declared.module.ArgKind.TheVariants.{Memref, Index}
use Rattle.affine_ast.specs.declared.name.Name.{Name}
use Rattle.affine_ast.specs.declared.types.Access.{Access}
use Rattle.affine_ast.specs.declared.types.Bound.{Bound}
use Rattle.affine_ast.specs.Intervals.{Ranges, range_or, first_turn, last_end, turn_range}
use Rattle.affine_ast.specs.Names.{put}
use Rattle.affine_ast.specs.Nest.{Plain}
use Rattle.direct_meaning.specs.Work.{arg_ranges, ranges_after, start_ranges}
use Rattle.module_work.specs.Workable.{WorkableAccess}
use Rattle.nest_domain.specs.Ways.{Header, Round, Given, Except, Behind, Past, used, loop_count}
use Rattle.nest_domain.specs.Forms.{all_floor_rows}
use Rattle.nest_domain.specs.Domains.{Known, Accessed, operand_forms, map_forms, bound_forms, all_from, upper_rows, set_rows, with_divisions, in_loop, in_condition, formed_behind, behind_plain, along, symbol_count, with_kind, with_arguments, nothing_known, place, access}
use Rattle.nest_domain.specs.Ready.{ranges_along, ranges_at_end}

-- a step whose answer says nothing
skip : {A B : Type 0} (w : Result A LinearFault) (f : A → Result B LinearFault) (Q : B → Type 0) → ((x : A) → Gives (f x) Q) → Gives (w >>= f) Q
skip (Ok x) f Q h = h x
skip (Err e) f Q h = tt

abbrev HasRanges : Ranges → Known → Type 0
HasRanges rho k = k.ranges ≡ rho

divisions_ranged : (ls : List LocalForm) (k : Known) (rho : Ranges) → k.ranges ≡ rho → Gives (with_divisions ls k) (HasRanges rho)
divisions_ranged ls k rho e = skip (all_floor_rows ls) _ (HasRanges rho) (λ rows. e)

loop_ranged : (v : Name) (l u : Bound) (s : ℤ) (k : Known) → Gives (in_loop v l u s k) (HasRanges (put k.ranges v (turn_range (first_turn k.ranges l) (last_end k.ranges u))))
loop_ranged v l u s k =
    let rho = put k.ranges v (turn_range (first_turn k.ranges l) (last_end k.ranges u)) in
    skip (bound_forms k.forms k.next l []) _ (HasRanges rho) (λ low. skip (bound_forms k.forms k.next u low.locals) _ (HasRanges rho) (λ high. skip (all_from (variable_form k.next k.outer) low.forms) _ (HasRanges rho) (λ below. skip (upper_rows low.forms s (variable_form k.next k.outer) high.forms) _ (HasRanges rho) (λ above. divisions_ranged high.locals _ rho refl))))

condition_ranged : (set : Set) (names : List Name) (k : Known) → Gives (in_condition set names k) (HasRanges k.ranges)
condition_ranged set names k = skip (operand_forms k.forms names) _ (HasRanges k.ranges) (λ fs. skip (set_rows k.next (take set.dims fs) (drop set.dims fs) set.rows []) _ (HasRanges k.ranges) (λ rows. divisions_ranged rows.locals _ k.ranges refl))

plain_ranged : (p : Plain) (names : List Name) (k : Known) → Gives (behind_plain p names k) (HasRanges (ranges_after p k.ranges))
plain_ranged p names k = skip (formed_behind p names k) _ (HasRanges (ranges_after p k.ranges)) (λ g. refl)

-- what comes behind one thing on a way
module _ (hs : List Header) (own : List Name) where
  behind_one : (w : Result Known LinearFault) (rho : Ranges) → Gives w (HasRanges rho) → ((g : Known) → Gives (along hs own g) (HasRanges (ranges_at_end hs g.ranges))) → Gives (w >>= along hs own) (HasRanges (ranges_at_end hs rho))
  behind_one w rho h more = then w (along hs own) (HasRanges rho) (HasRanges (ranges_at_end hs rho)) h (λ g e. subst (λ (r : Ranges). Gives (along hs own g) (HasRanges (ranges_at_end hs r))) e (more g))

along_ranged : (hs : List Header) (own : List Name) (k : Known) → Gives (along hs own k) (HasRanges (ranges_at_end hs k.ranges))
unfolding along
along_ranged [] own k = refl
along_ranged (Round v l u s ∷ hs) own k = behind_one hs own (in_loop v l u s k) (ranges_along (Round v l u s) k.ranges) (loop_ranged v l u s k) (along_ranged hs own)
along_ranged (Given set names ∷ hs) own k = behind_one hs own (in_condition set names k) k.ranges (condition_ranged set names k) (along_ranged hs own)
along_ranged (Except set names first ∷ hs) own k = along_ranged hs own k
along_ranged (Behind p ∷ hs) own k = behind_one hs own (behind_plain p (used hs own) k) (ranges_after p k.ranges) (plain_ranged p (used hs own) k) (along_ranged hs own)
along_ranged (Past n ∷ hs) own k = along_ranged hs own k

kind_ranged : (kind : ArgKind) (name : Name) (line : ℕ) (k : Known) → Gives (with_kind kind name k) (HasRanges (arg_ranges k.ranges (record { name = name; kind = kind; line = line })))
kind_ranged (Memref ty) name line k = refl
kind_ranged (Index range) name line k =
    skip (minus (variable_form k.next k.outer) (number_form 0 (range_or range).least)) _ _ (λ low.
    skip (minus (number_form 0 (range_or range).greatest) (variable_form k.next k.outer)) _ _ (λ high. refl))

arguments_ranged : (args : List Arg) (k : Known) → Gives (with_arguments args k) (HasRanges (fold arg_ranges k.ranges args))
arguments_ranged [] k = refl
arguments_ranged (arg ∷ args) k =
    then (with_kind arg.kind arg.name k) (with_arguments args) (HasRanges (arg_ranges k.ranges arg)) (HasRanges (fold arg_ranges (arg_ranges k.ranges arg) args)) (kind_ranged arg.kind arg.name arg.line k)
    (λ g h. subst (λ (rho : Ranges). Gives (with_arguments args g) (HasRanges (fold arg_ranges rho args))) h (arguments_ranged args g))

place_ranged : (args : List Arg) (way : List Header) (own : List Name) → Gives (place args way own) (HasRanges (ranges_at_end way (start_ranges args)))
unfolding place
place_ranged args way own =
    behind_one way own (with_arguments args (nothing_known (symbol_count args + loop_count way))) (start_ranges args)
    (arguments_ranged args (nothing_known (symbol_count args + loop_count way))) (along_ranged way own)

access_ranged : (args : List Arg) (way : List Header) (at : Access) → Gives (access args way at) (λ a. a.known.ranges ≡ ranges_at_end way (start_ranges args))
unfolding access
access_ranged args way at =
    let rho = ranges_at_end way (start_ranges args) in
    then (place args way at.operands) _ (HasRanges rho) (λ a. a.known.ranges ≡ rho) (place_ranged args way at.operands)
    (λ k h. skip (map_forms k.forms k.next at []) _ (λ (a : Accessed). a.known.ranges ≡ rho)
    (λ formed. then (with_divisions formed.locals k) (λ (g : Known). Ok (record { known = g; forms = formed.forms })) (HasRanges rho) (λ (a : Accessed). a.known.ranges ≡ rho) (divisions_ranged formed.locals k rho h) (λ g e. e)))

-- the subscripts of an access keep to the limits there
pub workable_there : (args : List Arg) (way : List Header) (at : Access) (a : Accessed) → access args way at ≡ Ok a → WorkableAccess (ranges_at_end way (start_ranges args)) at → WorkableAccess a.known.ranges at
workable_there args way at a e w = subst (λ (rho : Ranges). WorkableAccess rho at) (sym (subst (λ (r : Result Accessed LinearFault). Gives r (λ (x : Accessed). x.known.ranges ≡ ranges_at_end way (start_ranges args))) e (access_ranged args way at))) w
