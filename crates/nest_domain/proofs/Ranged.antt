-- The ranges that are known behind one thing on the way.
use Rattle.std.proofs.Common.{◌≡◌, Bool, true, false, List, [], ◌++◌, Some, suc, Result, Ok, Err, refl, sym, subst, ℤ, ◌+◌, length, take, drop}
use Rattle.affine_expr.specs.declared.linear.LinearFault.{LinearFault}
use Rattle.affine_expr.specs.Spread.{Range}
use Rattle.affine_expr.specs.Forms.{Form, LocalForm}
use Rattle.affine_expr.specs.Linear.{◌>>=◌, variable_form}
use Rattle.affine_expr.proofs.FormValues.{Gives}
use Rattle.affine_expr.specs.declared.map.Set.{Set}
use Rattle.affine_ast.specs.declared.name.Name.{Name}
use Rattle.affine_ast.specs.declared.types.Access.{Access}
use Rattle.affine_ast.specs.declared.types.Bound.{Bound}
use Rattle.affine_ast.specs.declared.types.Pick.{Pick}
use Rattle.affine_ast.specs.declared.types.Pick.TheVariants.{Apply, Min, Max}
use Rattle.affine_ast.specs.Intervals.{Ranges, ranges_at, picked_range, first_turn, last_end, turn_range}
use Rattle.affine_ast.specs.Names.{put}
use Rattle.affine_ast.specs.Nest.{Plain, Value}
use Rattle.direct_meaning.specs.Work.{ranges_after}
use Rattle.nest_domain.specs.Ways.{Header, Round, Given, Except, Behind, Past}
use Rattle.nest_domain.specs.Ready.{ranges_along}
use Rattle.nest_domain.specs.Forms.{Formed, all_floor_rows}
use Rattle.nest_domain.specs.Domains.{Known, map_forms, operand_forms, set_rows, with_divisions, in_loop, in_condition, named, first_form, applied, with_pick, with_value, formed_by, behind_by, along_by}
use Rattle.nest_domain.specs.Entered.{local_rows, with_local, LoopBounds, both_bounds, going_rows, with_turns}
use Rattle.nest_domain.proofs.Entered.{pick_by, loop_by}

abbrev Ranged : Ranges → Result Known LinearFault → Type 0
Ranged rho w = Gives w (λ (g : Known). g.ranges ≡ rho)

after : {A : Type 0} (w : Result A LinearFault) (f : A → Result Known LinearFault) (rho : Ranges) → ((x : A) → Ranged rho (f x)) → Ranged rho (w >>= f)
after (Ok x) f rho h = h x
after (Err e) f rho h = tt

divisions_ranged : (ls : List LocalForm) (k : Known) → Ranged k.ranges (with_divisions ls k)
divisions_ranged ls k = after (all_floor_rows ls) (λ rows. Ok (record k { next = k.next + length ls; locals = k.locals ++ rows })) k.ranges (λ rows. refl)

loop_ranged : (v : Name) (l u : Bound) (s : ℤ) (k : Known) → Ranged (put k.ranges v (turn_range (first_turn k.ranges l) (last_end k.ranges u))) (in_loop v l u s k)
loop_ranged v l u s k =
    let range = turn_range (first_turn k.ranges l) (last_end k.ranges u) in
    let rho = put k.ranges v range in
    let iv = variable_form k.next k.outer in
    subst (Ranged rho) (sym (loop_by v l u s k))
    (after (both_bounds k.forms k.next l u s) (λ (e : LoopBounds). going_rows iv e.going >>= (λ rows. with_divisions e.locals (with_turns v range iv rows e.going k))) rho (λ e.
    after (going_rows iv e.going) (λ rows. with_divisions e.locals (with_turns v range iv rows e.going k)) rho (λ rows.
    divisions_ranged e.locals (with_turns v range iv rows e.going k))))

condition_ranged : (set : Set) (names : List Name) (k : Known) → Ranged k.ranges (in_condition set names k)
condition_ranged set names k =
    after (operand_forms k.forms names) (λ fs. set_rows k.next (take set.dims fs) (drop set.dims fs) set.rows [] >>= (λ (rows : Formed). with_divisions rows.locals (record k { conditions = k.conditions ++ rows.forms }))) k.ranges (λ fs.
    after (set_rows k.next (take set.dims fs) (drop set.dims fs) set.rows []) (λ (rows : Formed). with_divisions rows.locals (record k { conditions = k.conditions ++ rows.forms })) k.ranges (λ rows.
    divisions_ranged rows.locals (record k { conditions = k.conditions ++ rows.forms })))

apply_ranged : (r : Name) (at : Access) (k : Known) → Ranged k.ranges (applied r at k)
apply_ranged r at k =
    after (map_forms k.forms k.next at []) (λ (formed : Formed). first_form formed.forms >>= (λ f. with_divisions formed.locals (named r (Some f) k))) k.ranges (λ formed.
    after (first_form formed.forms) (λ f. with_divisions formed.locals (named r (Some f) k)) k.ranges (λ f.
    divisions_ranged formed.locals (named r (Some f) k)))

pick_ranged : (r : Name) (pick : Pick) (at : Access) (range : Range) (v : Form) (k : Known) → Ranged k.ranges (with_pick r pick at range v k)
pick_ranged r pick at range v k =
    subst (Ranged k.ranges) (sym (pick_by r pick range v k at))
    (after (map_forms k.forms (suc k.next) at []) (λ (formed : Formed). local_rows pick v formed.forms range >>= (λ rows. with_divisions formed.locals (with_local r v rows k))) k.ranges (λ formed.
    after (local_rows pick v formed.forms range) (λ rows. with_divisions formed.locals (with_local r v rows k)) k.ranges (λ rows.
    divisions_ranged formed.locals (with_local r v rows k))))

value_ranged : (r : Name) (pick : Pick) (at : Access) (k : Known) → Ranged k.ranges (with_value r pick at k)
value_ranged r Apply at k = apply_ranged r at k
value_ranged r Min at k = pick_ranged r Min at (picked_range Min (ranges_at k.ranges at)) (variable_form (suc k.next) k.next) k
value_ranged r Max at k = pick_ranged r Max at (picked_range Max (ranges_at k.ranges at)) (variable_form (suc k.next) k.next) k

-- a value's form, needed or not, leaves the ranges
needed_ranged : (r : Name) (pick : Pick) (at : Access) (needed : Bool) (k : Known) → Ranged k.ranges (formed_by (Value r pick at) needed k)
needed_ranged r pick at true k = value_ranged r pick at k
needed_ranged r pick at false k = refl

plain_ranged : (p : Plain) (needed : Bool) (k : Known) → Ranged (ranges_after p k.ranges) (behind_by p needed k)
plain_ranged p needed k = after (formed_by p needed k) (λ (g : Known). Ok (record g { ranges = ranges_after p k.ranges })) (ranges_after p k.ranges) (λ g. refl)

along_ranged : (h : Header) (needed : Bool) (k : Known) → Ranged (ranges_along h k.ranges) (along_by h needed k)
along_ranged (Round v l u s) needed k = loop_ranged v l u s k
along_ranged (Given set names) needed k = condition_ranged set names k
along_ranged (Except set names first) needed k = refl
along_ranged (Behind p) needed k = plain_ranged p needed k
along_ranged (Past n) needed k = refl

given : (rho : Ranges) (w : Result Known LinearFault) (g : Known) → w ≡ Ok g → Ranged rho w → g.ranges ≡ rho
given rho w g e h = subst (Ranged rho) e h

pub value_keeps_ranges : (r : Name) (pick : Pick) (at : Access) (needed : Bool) (k g : Known) → formed_by (Value r pick at) needed k ≡ Ok g → g.ranges ≡ k.ranges
value_keeps_ranges r pick at needed k g e = given k.ranges (formed_by (Value r pick at) needed k) g e (needed_ranged r pick at needed k)

-- behind one thing on the way the ranges are those that it gives
pub ranges_behind : (h : Header) (needed : Bool) (k g : Known) → along_by h needed k ≡ Ok g → g.ranges ≡ ranges_along h k.ranges
ranges_behind h needed k g e = given (ranges_along h k.ranges) (along_by h needed k) g e (along_ranged h needed k)
