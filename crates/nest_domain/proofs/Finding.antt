-- In a valid module each form that is asked for along a way is there.
use Rattle.std.proofs.Common.{◌≡◌, ℕ, zero, suc, ◌+◌, Bool, true, false, cond, List, [], ◌∷◌, ◌++◌, Some, None, Option, Result, Ok, Err, ℤ, take, drop, length, refl, sym, ap, ◌∙◌, subst}
use Rattle.std.specs.Prelude.{◌||◌, is_some}
use Rattle.std.specs.List.{list_all}
use Rattle.std.proofs.lemmas.Bool.{and_parts}
use Rattle.constraint_set.specs.Lists.{Each}
use Rattle.affine_expr.specs.declared.linear.LinearFault.{LinearFault}
use Rattle.affine_expr.specs.declared.map.Set.{Set}
use Rattle.affine_expr.specs.Spread.{Range}
use Rattle.affine_expr.specs.Forms.{Form, LocalForm}
use Rattle.affine_expr.specs.Linear.{◌>>=◌, number_form, variable_form, minus}
use Rattle.affine_expr.proofs.FormValues.{Gives}
use Rattle.affine_ast.specs.declared.module.Arg.{Arg}
use Rattle.affine_ast.specs.declared.module.ArgKind.{ArgKind}
use Rattle.affine_ast.specs.declared.module.ArgKind.TheVariants.{Memref, Index}
use Rattle.affine_ast.specs.declared.module.Module.{Module}
use Rattle.affine_ast.specs.declared.name.Name.{Name}
use Rattle.affine_ast.specs.declared.types.Access.{Access}
use Rattle.affine_ast.specs.declared.types.Bound.{Bound}
use Rattle.affine_ast.specs.declared.types.Bound.TheVariants as bound
use Rattle.affine_ast.specs.declared.types.Pick.{Pick}
use Rattle.affine_ast.specs.declared.types.Pick.TheVariants.{Apply, Min, Max}
use Rattle.affine_ast.specs.declared.types.Scalar.{Scalar}
use Rattle.affine_ast.specs.declared.types.Scalar.TheVariants as scalar
use Rattle.affine_ast.specs.Intervals.{range_or, ranges_at, picked_range, first_turn, last_end, turn_range}
use Rattle.affine_ast.specs.Names.{same_name, put}
use Rattle.affine_ast.proofs.Names.{same_name-eq, same_name-refl, put-same, put-other}
use Rattle.affine_ast.specs.Nest.{Plain, Nest, Nothing, Loop, Branch, Does, Value, Load, Store, RawLoad, RawStore, Constant, Binary, Cast, Alloc, Dealloc, Start, Wait, Return, nest}
use Rattle.affine_ast.specs.Parts.{effect_of}
use Rattle.affine_ast.specs.Rules.{may_be_dimension, may_be_symbol, is_dimension, is_symbol, operands_stand, access_stands, bound_stands}
use Rattle.affine_ast.specs.Scope.{Binding, Variable, Symbol, IndexConstant, Data, MemrefArgument, Allocation, Scope, ranges_in, Totals, Around, binding_of_constant}
use Rattle.affine_ast.specs.Validity.{Told, Passed, told, told_arguments, rule_of_argument, behind_argument, binding_of_kind, told_module, outside, first_broken, IsValid}
use Rattle.valid_laws.proofs.Passing.{judged_passed, passed_of}
use Rattle.direct_meaning.specs.Work.{ranges_after}
use Rattle.nest_domain.specs.Ways.{Header, Round, Given, Except, Behind, Past, Spot, spot, at_path, has_name, bound_names, used_before, used, needed, plain_needed, loop_count}
use Rattle.nest_domain.specs.Forms.{Formed, all_floor_rows}
use Rattle.nest_domain.specs.Domains.{Known, map_forms, operand_forms, set_rows, with_divisions, in_loop, in_condition, named, first_form, applied, with_pick, with_value, constant_named, formed_by, behind_by, along_one, symbol_count, with_symbol, with_kind, with_arguments, nothing_known}
use Rattle.nest_domain.specs.Entered.{local_rows, with_local, LoopBounds, both_bounds, going_rows, with_turns}
use Rattle.nest_domain.specs.Asked.{HaveForms, asked_behind, asked, AreFound, operands_here}
use Rattle.nest_domain.proofs.Entered.{pick_by, loop_by}
use Rattle.nest_domain.proofs.Standing.{scope_effect, scope_along, scope_at_end, PlainStands, HeaderStands, WayStands, AccessStands, HereStands, stands_at, no_step}

-- ---- the forms behind one thing on the way
abbrev Forms : (Name → Option Form) → Result Known LinearFault → Type 0
Forms fs w = Gives w (λ (g : Known). g.forms ≡ fs)

after : {A : Type 0} (w : Result A LinearFault) (f : A → Result Known LinearFault) (fs : Name → Option Form) → ((x : A) → Forms fs (f x)) → Forms fs (w >>= f)
after (Ok x) f fs h = h x
after (Err e) f fs h = tt

divisions_forms : (ls : List LocalForm) (k : Known) → Forms k.forms (with_divisions ls k)
divisions_forms ls k = after (all_floor_rows ls) (λ rows. Ok (record k { next = k.next + length ls; locals = k.locals ++ rows })) k.forms (λ rows. refl)

loop_forms : (v : Name) (l u : Bound) (s : ℤ) (k : Known) → Forms (put k.forms v (Some (variable_form k.next k.outer))) (in_loop v l u s k)
loop_forms v l u s k =
    let range = turn_range (first_turn k.ranges l) (last_end k.ranges u) in
    let iv = variable_form k.next k.outer in
    let fs = put k.forms v (Some iv) in
    subst (Forms fs) (sym (loop_by v l u s k))
    (after (both_bounds k.forms k.next l u s) (λ (e : LoopBounds). going_rows iv e.going >>= (λ rows. with_divisions e.locals (with_turns v range iv rows e.going k))) fs (λ e.
    after (going_rows iv e.going) (λ rows. with_divisions e.locals (with_turns v range iv rows e.going k)) fs (λ rows.
    divisions_forms e.locals (with_turns v range iv rows e.going k))))

condition_forms : (set : Set) (names : List Name) (k : Known) → Forms k.forms (in_condition set names k)
condition_forms set names k =
    after (operand_forms k.forms names) (λ fs. set_rows k.next (take set.dims fs) (drop set.dims fs) set.rows [] >>= (λ (rows : Formed). with_divisions rows.locals (record k { conditions = k.conditions ++ rows.forms }))) k.forms (λ fs.
    after (set_rows k.next (take set.dims fs) (drop set.dims fs) set.rows []) (λ (rows : Formed). with_divisions rows.locals (record k { conditions = k.conditions ++ rows.forms })) k.forms (λ rows.
    divisions_forms rows.locals (record k { conditions = k.conditions ++ rows.forms })))

-- a name with a form, and all others as they were
abbrev OneMore : Name → (Name → Option Form) → Result Known LinearFault → Type 0
OneMore r fs w = Gives w (λ (g : Known). (f : Form) × (g.forms ≡ put fs r (Some f)))

one_more : (r : Name) (f : Form) (fs : Name → Option Form) (w : Result Known LinearFault) → Forms (put fs r (Some f)) w → OneMore r fs w
one_more r f fs (Ok g) h = (f, h)
one_more r f fs (Err e) h = tt

after_one : {A : Type 0} (r : Name) (fs : Name → Option Form) (w : Result A LinearFault) (f : A → Result Known LinearFault) → ((x : A) → OneMore r fs (f x)) → OneMore r fs (w >>= f)
after_one r fs (Ok x) f h = h x
after_one r fs (Err e) f h = tt

apply_forms : (r : Name) (at : Access) (k : Known) → OneMore r k.forms (applied r at k)
apply_forms r at k =
    after_one r k.forms (map_forms k.forms k.next at []) (λ (formed : Formed). first_form formed.forms >>= (λ f. with_divisions formed.locals (named r (Some f) k))) (λ formed.
    after_one r k.forms (first_form formed.forms) (λ f. with_divisions formed.locals (named r (Some f) k)) (λ f.
    one_more r f k.forms (with_divisions formed.locals (named r (Some f) k)) (divisions_forms formed.locals (named r (Some f) k))))

pick_forms : (r : Name) (pick : Pick) (at : Access) (range : Range) (v : Form) (k : Known) → OneMore r k.forms (with_pick r pick at range v k)
pick_forms r pick at range v k =
    subst (OneMore r k.forms) (sym (pick_by r pick range v k at))
    (after_one r k.forms (map_forms k.forms (suc k.next) at []) (λ (formed : Formed). local_rows pick v formed.forms range >>= (λ rows. with_divisions formed.locals (with_local r v rows k))) (λ formed.
    after_one r k.forms (local_rows pick v formed.forms range) (λ rows. with_divisions formed.locals (with_local r v rows k)) (λ rows.
    one_more r v k.forms (with_divisions formed.locals (with_local r v rows k)) (divisions_forms formed.locals (with_local r v rows k)))))

value_forms : (r : Name) (pick : Pick) (at : Access) (k : Known) → OneMore r k.forms (with_value r pick at k)
value_forms r Apply at k = apply_forms r at k
value_forms r Min at k = pick_forms r Min at (picked_range Min (ranges_at k.ranges at)) (variable_form (suc k.next) k.next) k
value_forms r Max at k = pick_forms r Max at (picked_range Max (ranges_at k.ranges at)) (variable_form (suc k.next) k.next) k

-- ---- names that are used and may be dimensions have forms
abbrev Kept : Scope → List Name → (Name → Option Form) → Type 0
Kept s names fs = (n : Name) → has_name n names ≡ true → may_be_dimension (s n) ≡ true → is_some (fs n) ≡ true

or_right : (b c : Bool) → c ≡ true → (b || c) ≡ true
or_right true c h = refl
or_right false c h = h

or_more : (b c d : Bool) → (b || c) ≡ true → (c ≡ true → d ≡ true) → (b || d) ≡ true
or_more true c d h f = refl
or_more false c d h f = f h

has_right : (n : Name) (xs ys : List Name) → has_name n ys ≡ true → has_name n (xs ++ ys) ≡ true
has_right n [] ys h = h
has_right n (x ∷ xs) ys h = or_right (same_name n x) (has_name n (xs ++ ys)) (has_right n xs ys h)

has_left : (n : Name) (xs ys : List Name) → has_name n xs ≡ true → has_name n (xs ++ ys) ≡ true
has_left n [] ys h = absurd (let z : ⊥ = cc in z)
has_left n (x ∷ xs) ys h = or_more (same_name n x) (has_name n xs) (has_name n (xs ++ ys)) h (has_left n xs ys)

has_head : (n : Name) (ns : List Name) → has_name n (n ∷ ns) ≡ true
has_head n ns = ap (λ b. b || has_name n ns) (same_name-refl n)

has_tail : (n m : Name) (ns : List Name) → has_name n ns ≡ true → has_name n (m ∷ ns) ≡ true
has_tail n m ns h = has_right n (m ∷ []) ns h

-- fewer names
fewer : (s : Scope) (fs : Name → Option Form) (xs ys : List Name) → ((n : Name) → has_name n ys ≡ true → has_name n xs ≡ true) → Kept s xs fs → Kept s ys fs
fewer s fs xs ys h k n a d = k n (h n a) d

-- a name more in scope, whose form is there where it may be a dimension and is used
kept_put : (s : Scope) (b : Binding) (r : Name) (names : List Name) (fs : Name → Option Form) (o : Option Form) → (has_name r names ≡ true → may_be_dimension (Some b) ≡ true → is_some o ≡ true) → Kept s names fs
    → Kept (put s r (Some b)) names (put fs r o)
kept_put s b r names fs o h k n a d = by (same_name r n) refl
  where
    by : (x : Bool) → same_name r n ≡ x → is_some (put fs r o n) ≡ true
    by true e =
        let same = same_name-eq r n e in
        let d2 : may_be_dimension (Some b) ≡ true = ap may_be_dimension (sym (put-same s r (Some b) n e)) ∙ d in
        ap is_some (put-same fs r o n e) ∙ h (ap (λ m. has_name m names) same ∙ a) d2
    by false e = ap is_some (put-other fs r o n e) ∙ k n a (ap may_be_dimension (sym (put-other s r (Some b) n e)) ∙ d)

-- a name that may be no dimension, whatever its form
kept_hidden : (s : Scope) (b : Binding) (r : Name) (names : List Name) (fs : Name → Option Form) → may_be_dimension (Some b) ≡ false → Kept s names fs → Kept (put s r (Some b)) names fs
kept_hidden s b r names fs h k n a d = by (same_name r n) refl
  where
    by : (x : Bool) → same_name r n ≡ x → is_some (fs n) ≡ true
    by true e =
        let d2 : may_be_dimension (Some b) ≡ true = ap may_be_dimension (sym (put-same s r (Some b) n e)) ∙ d in
        absurd (let z : ⊥ = cc in z)
    by false e = k n a (ap may_be_dimension (sym (put-other s r (Some b) n e)) ∙ d)

no_dimension : (b : Binding) (o : Option Form) → may_be_dimension (Some b) ≡ false → may_be_dimension (Some b) ≡ true → is_some o ≡ true
no_dimension b o f t = absurd (let z : ⊥ = cc in z)

-- ---- behind one thing on the way
abbrev done : Known → Result Known LinearFault
done k = Ok k

data_kept : (s : Scope) (names : List Name) (k g : Known) (r : Name) (ty : Scalar) → Kept s names k.forms → g.forms ≡ put k.forms r None → Kept (put s r (Some (Data ty))) names g.forms
data_kept s names k g r ty h e = subst (Kept (put s r (Some (Data ty))) names) (sym e) (kept_put s (Data ty) r names k.forms None (λ a d. no_dimension (Data ty) None refl d) h)

-- what a statement's forms are, when the answer is there
behind_forms : (p : Plain) (b : Bool) (k g : Known) → behind_by p b k ≡ Ok g → (j : Known) × (formed_by p b k ≡ Ok j) × (j.forms ≡ g.forms)
behind_forms p b k g e = by (formed_by p b k) refl e
  where
    by : (w : Result Known LinearFault) → formed_by p b k ≡ w → (w >>= (λ (j : Known). Ok (record j { ranges = ranges_after p k.ranges }))) ≡ Ok g → (j : Known) × (formed_by p b k ≡ Ok j) × (j.forms ≡ g.forms)
    by (Ok j) is e = let same : record j { ranges = ranges_after p k.ranges } ≡ g = cc in (j, is, ap (λ (x : Known). x.forms) same)
    by (Err x) is e = absurd (let z : ⊥ = cc in z)

value_kept : (s : Scope) (names : List Name) (k g : Known) (r : Name) (pick : Pick) (at : Access) (range : Range) (b : Bool) → has_name r names ≡ b → Kept s (used_before (Value r pick at) names) k.forms → formed_by (Value r pick at) b k ≡ Ok g
    → Kept (put s r (Some (Variable range))) names g.forms
value_kept s names k g r pick at range true is h e =
    let fine : OneMore r k.forms (Ok g) = subst (OneMore r k.forms) e (value_forms r pick at k) in
    let less = fewer s k.forms (used_before (Value r pick at) names) names (λ n a. subst (λ b. has_name n (cond b (at.operands ++ names) names) ≡ true) (sym is) (has_right n at.operands names a)) h in
    subst (Kept (put s r (Some (Variable range))) names) (sym fine.1) (kept_put s (Variable range) r names k.forms (Some fine.0) (λ a d. refl) less)
value_kept s names k g r pick at range false is h e =
    let same : named r None k ≡ g = cc in
    let less = fewer s k.forms (used_before (Value r pick at) names) names (λ n a. subst (λ b. has_name n (cond b (at.operands ++ names) names) ≡ true) (sym is) a) h in
    subst (λ (x : Known). Kept (put s r (Some (Variable range))) names x.forms) same (kept_put s (Variable range) r names k.forms None (λ a d. absurd (let z : true ≡ false = sym a ∙ is in let y : ⊥ = cc in y)) less)

constant_kept : (s : Scope) (names : List Name) (k g : Known) (r : Name) (z : ℤ) (ty : Scalar) → Kept s names k.forms → done (constant_named r z ty k) ≡ Ok g → Kept (put s r (Some (binding_of_constant z ty))) names g.forms
constant_kept s names k g r z (scalar.Int element) h e = let same : named r None k ≡ g = cc in data_kept s names k g r (scalar.Int element) h (ap (λ (x : Known). x.forms) (sym same))
constant_kept s names k g r z scalar.Index h e =
    let same : named r (Some (number_form 0 z)) k ≡ g = cc in
    subst (λ (x : Known). Kept (put s r (Some (IndexConstant z))) names x.forms) same (kept_put s (IndexConstant z) r names k.forms (Some (number_form 0 z)) (λ a d. refl) h)

none_kept : (s : Scope) (names : List Name) (k g : Known) (r : Name) (ty : Scalar) → Kept s names k.forms → done (named r None k) ≡ Ok g → Kept (put s r (Some (Data ty))) names g.forms
none_kept s names k g r ty h e = let same : named r None k ≡ g = cc in data_kept s names k g r ty h (ap (λ (x : Known). x.forms) (sym same))

same_kept : (s : Scope) (names : List Name) (k g : Known) → Kept s names k.forms → done k ≡ Ok g → Kept s names g.forms
same_kept s names k g h e = let same : k ≡ g = cc in subst (λ (x : Known). Kept s names x.forms) same h

plain_kept : (p : Plain) (s : Scope) (names : List Name) (k g : Known) → Kept s (used_before p names) k.forms → formed_by p (plain_needed p names) k ≡ Ok g → Kept (scope_effect (effect_of p) s) names g.forms
plain_kept (Value r pick at) s names k g h e = value_kept s names k g r pick at (picked_range pick (ranges_at (ranges_in s) at)) (has_name r names) refl h e
plain_kept (Load r m at ty) s names k g h e = none_kept s names k g r (scalar.Int ty.element) h e
plain_kept (Store x m at ty) s names k g h e = same_kept s names k g h e
plain_kept (RawLoad r m at ty) s names k g h e = none_kept s names k g r (scalar.Int ty.element) h e
plain_kept (RawStore x m at ty) s names k g h e = same_kept s names k g h e
plain_kept (Constant r z ty) s names k g h e = constant_kept s names k g r z ty h e
plain_kept (Binary r op x y ty) s names k g h e = none_kept s names k g r ty h e
plain_kept (Cast r kind x from to) s names k g h e = none_kept s names k g r to h e
plain_kept (Alloc r ty) s names k g h e = kept_hidden s (Allocation ty) r names g.forms refl (same_kept s names k g h e)
plain_kept (Dealloc m ty) s names k g h e = same_kept s names k g h e
plain_kept (Start x xa y ya t ta n stride types) s names k g h e = same_kept s names k g h e
plain_kept (Wait t at n ty) s names k g h e = same_kept s names k g h e
plain_kept Return s names k g h e = same_kept s names k g h e

given_forms : (fs : Name → Option Form) (w : Result Known LinearFault) (g : Known) → w ≡ Ok g → Forms fs w → g.forms ≡ fs
given_forms fs w g e h = subst (Forms fs) e h

header_kept : (h : Header) (hs : List Header) (own : List Name) (s : Scope) (k g : Known) → Kept s (used (h ∷ hs) own) k.forms → along_one h (used hs own) k ≡ Ok g → Kept (scope_along h s) (used hs own) g.forms
unfolding used
header_kept (Round v l u by) hs own s k g h e =
    let fs = given_forms (put k.forms v (Some (variable_form k.next k.outer))) (in_loop v l u by k) g e (loop_forms v l u by k) in
    let range = turn_range (first_turn (ranges_in s) l) (last_end (ranges_in s) u) in
    let less = fewer s k.forms (bound_names l ++ (bound_names u ++ used hs own)) (used hs own) (λ n a. has_right n (bound_names l) (bound_names u ++ used hs own) (has_right n (bound_names u) (used hs own) a)) h in
    subst (Kept (put s v (Some (Variable range))) (used hs own)) (sym fs) (kept_put s (Variable range) v (used hs own) k.forms (Some (variable_form k.next k.outer)) (λ a d. refl) less)
header_kept (Given set names) hs own s k g h e =
    let fs = given_forms k.forms (in_condition set names k) g e (condition_forms set names k) in
    subst (Kept s (used hs own)) (sym fs) (fewer s k.forms (names ++ used hs own) (used hs own) (λ n a. has_right n names (used hs own) a) h)
header_kept (Except set names first) hs own s k g h e = same_kept s (used hs own) k g h e
header_kept (Behind p) hs own s k g h e =
    let b = behind_forms p (plain_needed p (used hs own)) k g e in
    subst (Kept (scope_effect (effect_of p) s) (used hs own)) b.2 (plain_kept p s (used hs own) k b.0 h b.1)
header_kept (Past n) hs own s k g h e = same_kept s (used hs own) k g h e

-- ---- the names that are asked for
symbol_dimension : (b : Option Binding) → may_be_symbol b ≡ true → may_be_dimension b ≡ true
symbol_dimension None t = absurd (let z : ⊥ = cc in z)
symbol_dimension (Some (Variable r)) t = refl
symbol_dimension (Some (Symbol r)) t = refl
symbol_dimension (Some (IndexConstant z)) t = refl
symbol_dimension (Some (Data ty)) t = absurd (let z : ⊥ = cc in z)
symbol_dimension (Some (MemrefArgument ty)) t = absurd (let z : ⊥ = cc in z)
symbol_dimension (Some (Allocation ty)) t = absurd (let z : ⊥ = cc in z)

abbrev Dimensions : Scope → List Name → Type 0
Dimensions s names = Each (λ n. may_be_dimension (s n) ≡ true) names

all_dimensions : (s : Scope) (names : List Name) → list_all (is_dimension s) names ≡ true → Dimensions s names
unfolding is_dimension
all_dimensions s [] h = tt
all_dimensions s (n ∷ names) h = let a = and_parts (may_be_dimension (s n)) _ h in (a.0, all_dimensions s names a.1)

all_symbols : (s : Scope) (names : List Name) → list_all (is_symbol s) names ≡ true → Dimensions s names
unfolding is_symbol
all_symbols s [] h = tt
all_symbols s (n ∷ names) h = let a = and_parts (may_be_symbol (s n)) _ h in (symbol_dimension (s n) a.0, all_symbols s names a.1)

parted_dimensions : (s : Scope) (d : ℕ) (names : List Name) → Dimensions s (take d names) → Dimensions s (drop d names) → Dimensions s names
parted_dimensions s zero names a b = b
parted_dimensions s (suc d) [] a b = tt
parted_dimensions s (suc d) (n ∷ names) a b = (a.0, parted_dimensions s d names a.1 b)

operands_are : (s : Scope) (d : ℕ) (names : List Name) → operands_stand s d names ≡ true → Dimensions s names
unfolding operands_stand
operands_are s d names h =
    let a = and_parts (list_all (is_dimension s) (take d names)) (list_all (is_symbol s) (drop d names)) h in
    parted_dimensions s d names (all_dimensions s (take d names) a.0) (all_symbols s (drop d names) a.1)

bound_are : (s : Scope) (b : Bound) → bound_stands s b ≡ true → Dimensions s (bound_names b)
unfolding is_dimension
bound_are s (bound.Int z) h = tt
bound_are s (bound.Value n) h = (h, tt)
bound_are s (bound.Map at) h = operands_are s at.map.dims at.operands h

-- names that are used and are dimensions have forms
have : (s : Scope) (names all : List Name) (fs : Name → Option Form) → Kept s all fs → ((n : Name) → has_name n names ≡ true → has_name n all ≡ true) → Dimensions s names → HaveForms fs names
have s [] all fs k in_all d = tt
have s (n ∷ names) all fs k in_all d = (k n (in_all n (has_head n names)) d.0, have s names all fs k (λ m a. in_all m (has_tail m n names a)) d.1)

have_both : (fs : Name → Option Form) (xs ys : List Name) → HaveForms fs xs → HaveForms fs ys → HaveForms fs (xs ++ ys)
have_both fs [] ys a b = b
have_both fs (x ∷ xs) ys a b = (a.0, have_both fs xs ys a.1 b)

value_asked : (s : Scope) (r : Name) (pick : Pick) (at : Access) (names : List Name) (fs : Name → Option Form) (b : Bool) → has_name r names ≡ b → access_stands s at ≡ true → Kept s (used_before (Value r pick at) names) fs
    → HaveForms fs (asked_behind (Value r pick at) b)
value_asked s r pick at names fs true is h k =
    have s at.operands (used_before (Value r pick at) names) fs k (λ n a. subst (λ b. has_name n (cond b (at.operands ++ names) names) ≡ true) (sym is) (has_left n at.operands names a)) (operands_are s at.map.dims at.operands h)
value_asked s r pick at names fs false is h k = tt

plain_asked : (p : Plain) (s : Scope) (names : List Name) (fs : Name → Option Form) → PlainStands p s → Kept s (used_before p names) fs → HaveForms fs (asked_behind p (plain_needed p names))
plain_asked (Value r pick at) s names fs h k = value_asked s r pick at names fs (has_name r names) refl h k
plain_asked (Load r m at ty) s names fs h k = tt
plain_asked (Store x m at ty) s names fs h k = tt
plain_asked (RawLoad r m at ty) s names fs h k = tt
plain_asked (RawStore x m at ty) s names fs h k = tt
plain_asked (Constant r z ty) s names fs h k = tt
plain_asked (Binary r op x y ty) s names fs h k = tt
plain_asked (Cast r kind x from to) s names fs h k = tt
plain_asked (Alloc r ty) s names fs h k = tt
plain_asked (Dealloc m ty) s names fs h k = tt
plain_asked (Start x xa y ya t ta n stride types) s names fs h k = tt
plain_asked (Wait t at n ty) s names fs h k = tt
plain_asked Return s names fs h k = tt

header_asked : (h : Header) (hs : List Header) (own : List Name) (s : Scope) (fs : Name → Option Form) → HeaderStands h s → Kept s (used (h ∷ hs) own) fs → HaveForms fs (asked h (needed h (used hs own)))
unfolding used
header_asked (Round v l u by) hs own s fs h k =
    let all = bound_names l ++ (bound_names u ++ used hs own) in
    have_both fs (bound_names l) (bound_names u) (have s (bound_names l) all fs k (λ n a. has_left n (bound_names l) (bound_names u ++ used hs own) a) (bound_are s l h.0))
    (have s (bound_names u) all fs k (λ n a. has_right n (bound_names l) (bound_names u ++ used hs own) (has_left n (bound_names u) (used hs own) a)) (bound_are s u h.1))
header_asked (Given set names) hs own s fs h k = have s names (names ++ used hs own) fs k (λ n a. has_left n names (used hs own) a) (operands_are s set.dims names h)
header_asked (Except set names first) hs own s fs h k = tt
header_asked (Behind p) hs own s fs h k = plain_asked p s (used hs own) fs h k
header_asked (Past n) hs own s fs h k = tt

found_along : (hs : List Header) (own : List Name) (s : Scope) (k : Known) → WayStands hs s → Dimensions (scope_at_end hs s) own → Kept s (used hs own) k.forms → AreFound hs own k
unfolding WayStands AreFound used
found_along [] own s k w d h = have s own own k.forms h (λ n a. a) d
found_along (x ∷ hs) own s k w d h = (header_asked x hs own s k.forms w.0 h, λ g e. found_along hs own (scope_along x s) g w.1 d (header_kept x hs own s k g h e))

here_are : (n : Nest) (s : Scope) → HereStands n s → Dimensions s (operands_here n)
here_are Nothing s h = tt
here_are (Loop line v l u by body rest) s h = tt
here_are (Branch line set names first has other rest) s h = tt
here_are (Does line p rest) s h = by p h
  where
    by : (p : Plain) → AccessStands p s → Dimensions s (operands_here (Does line p rest))
    by (Load r m at ty) h = operands_are s at.map.dims at.operands h
    by (Store x m at ty) h = operands_are s at.map.dims at.operands h
    by (Value r pick at) h = tt
    by (RawLoad r m at ty) h = tt
    by (RawStore x m at ty) h = tt
    by (Constant r z ty) h = tt
    by (Binary r op x y ty) h = tt
    by (Cast r kind x from to) h = tt
    by (Alloc r ty) h = tt
    by (Dealloc m ty) h = tt
    by (Start x xa y ya t ta n stride types) h = tt
    by (Wait t at n ty) h = tt
    by Return h = tt

-- ---- the arguments
-- each name that may be a dimension has a form
abbrev Whole : Scope → (Name → Option Form) → Type 0
Whole s fs = (n : Name) → may_be_dimension (s n) ≡ true → is_some (fs n) ≡ true

whole_put : (s : Scope) (b : Binding) (r : Name) (fs : Name → Option Form) (o : Option Form) → is_some o ≡ true → Whole s fs → Whole (put s r (Some b)) (put fs r o)
whole_put s b r fs o h k n d = by (same_name r n) refl
  where
    by : (x : Bool) → same_name r n ≡ x → is_some (put fs r o n) ≡ true
    by true e = ap is_some (put-same fs r o n e) ∙ h
    by false e = ap is_some (put-other fs r o n e) ∙ k n (ap may_be_dimension (sym (put-other s r (Some b) n e)) ∙ d)

whole_hidden : (s : Scope) (b : Binding) (r : Name) (fs : Name → Option Form) → may_be_dimension (Some b) ≡ false → Whole s fs → Whole (put s r (Some b)) fs
whole_hidden s b r fs h k n d = kept_hidden s b r (n ∷ []) fs h (λ m a e. k m e) n (has_head n []) d

symbol_forms : (n : Name) (range : Range) (x : Form) (k : Known) → Forms (put k.forms n (Some x)) (with_symbol n range x k)
symbol_forms n range x k =
    after (minus x (number_form 0 range.least)) (λ low. minus (number_form 0 range.greatest) x >>= (λ high. Ok (record k { forms = put k.forms n (Some x); ranges = put k.ranges n range; outer = suc k.outer; symbols = k.symbols ++ low ∷ high ∷ [] }))) (put k.forms n (Some x)) (λ low.
    after (minus (number_form 0 range.greatest) x) (λ high. Ok (record k { forms = put k.forms n (Some x); ranges = put k.ranges n range; outer = suc k.outer; symbols = k.symbols ++ low ∷ high ∷ [] })) (put k.forms n (Some x)) (λ high. refl))

kind_whole : (kind : ArgKind) (n : Name) (a : Around) (k g : Known) → Whole a.scope k.forms → with_kind kind n k ≡ Ok g → Whole (behind_argument n kind a).scope g.forms
kind_whole (Memref ty) n a k g h e =
    let same : k ≡ g = cc in
    whole_hidden a.scope (MemrefArgument ty) n g.forms refl (subst (λ (x : Known). Whole a.scope x.forms) same h)
kind_whole (Index range) n a k g h e =
    let x = variable_form k.next k.outer in
    let r : Range = record { least = (range_or range).least; greatest = (range_or range).greatest } in
    let fs = given_forms (put k.forms n (Some x)) (with_symbol n r x k) g e (symbol_forms n r x k) in
    subst (Whole (behind_argument n (Index range) a).scope) (sym fs) (whole_put a.scope (binding_of_kind (Index range)) n k.forms (Some x) refl h)

record Placed (body : Around → Told) (t : Totals) (fs : Name → Option Form) : Type 0 where
  around : Around
  passed : body around ≡ Passed t
  whole : Whole around.scope fs

arguments_whole : (args : List Arg) (body : Around → Told) (a : Around) (t : Totals) (k g : Known) → Whole a.scope k.forms → told_arguments args body a ≡ Passed t → with_arguments args k ≡ Ok g → Placed body t g.forms
unfolding told_arguments
arguments_whole [] body a t k g h p e = let same : k ≡ g = cc in record { around = a; passed = p; whole = subst (λ (x : Known). Whole a.scope x.forms) same h }
arguments_whole (arg ∷ args) body a t k g h p e =
    let j = judged_passed arg.line (rule_of_argument a arg.name arg.kind) _ t p in
    by (with_kind arg.kind arg.name k) e (λ x is d. arguments_whole args body (behind_argument arg.name arg.kind a) t x g (kind_whole arg.kind arg.name a k x h is) j.1 d)
  where
    by : (w : Result Known LinearFault) → (w >>= with_arguments args) ≡ Ok g → ((x : Known) → w ≡ Ok x → with_arguments args x ≡ Ok g → Placed body t g.forms) → Placed body t g.forms
    by (Ok x) e f = f x refl e
    by (Err x) e f = absurd (let z : ⊥ = cc in z)

nothing_whole : (n : ℕ) → Whole outside.scope (nothing_known n).forms
nothing_whole n m d = absurd (let z : ⊥ = cc in z)

pub valid_found : (m : Module) → IsValid m → (steps : List (ℕ × Bool)) (s : Spot) → at_path (nest m.body) steps ≡ Some s → (k : Known) → with_arguments m.args (nothing_known (symbol_count m.args + loop_count s.way)) ≡ Ok k
    → AreFound s.way [] k × AreFound s.way (operands_here s.here) k
unfolding first_broken told_module
valid_found m v [] s e k is = absurd (let z : ⊥ = cc in z)
valid_found m v (step ∷ steps) s e k is =
    let p = passed_of (told_arguments m.args (told (nest m.body)) outside) v in
    let begun = nothing_known (symbol_count m.args + loop_count s.way) in
    let w = arguments_whole m.args (told (nest m.body)) outside p.0 begun k (nothing_whole (symbol_count m.args + loop_count s.way)) p.1 is in
    no_step step.1 (spot (nest m.body) step.0 steps) s e (λ d.
    let x = stands_at (nest m.body) step.0 steps w.around p.0 s w.passed d in
    (found_along s.way [] w.around.scope k x.way tt (λ n a c. w.whole n c), found_along s.way (operands_here s.here) w.around.scope k x.way (here_are s.here (scope_at_end s.way w.around.scope) x.here) (λ n a c. w.whole n c)))
