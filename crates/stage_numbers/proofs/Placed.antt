-- The parameters of a stage are numbered as the grammar has it.
use Rattle.std.proofs.Common.{◌≡◌, ℕ, zero, suc, ◌+◌, ◌*◌, ◌≤◌, inl, inr, Bool, true, false, List, [], ◌∷◌, ◌++◌, length, map, take, drop, refl, sym, ap, ◌∙◌, subst, arith}
use Rattle.std.specs.Prelude.{◌&&◌, ◌||◌, flat_map, nat_eq, nat_le, slice_index_or}
use Rattle.std.specs.List.{list_all}
use Rattle.std.proofs.lemmas.Bool.{and_parts}
use Rattle.std.proofs.lemmas.List.{length-map}
use Rattle.affine_expr.specs.declared.expr.Expr.{Expr}
use Rattle.affine_expr.specs.Pure.{has_leaves_below}
use Rattle.affine_expr.specs.Spread.{Range}
use Rattle.affine_ast.specs.declared.module.Module.{Module}
use Rattle.affine_ast.specs.declared.name.Name.{Name}
use Rattle.affine_ast.specs.declared.types.Access.{Access}
use Rattle.affine_ast.specs.declared.types.Bound.{Bound}
use Rattle.affine_ast.specs.declared.types.Bound.TheVariants as bound
use Rattle.affine_ast.specs.declared.types.MemrefType.{MemrefType}
use Rattle.affine_ast.specs.Names.{same_name}
use Rattle.affine_ast.specs.Nest.{Plain, Nest, Nothing, Loop, Branch, Does, Value, Load, Store, RawLoad, RawStore, Constant, Binary, Cast, Alloc, Dealloc, Start, Wait, Return, nest}
use Rattle.affine_ast.specs.Parts.{maps_of}
use Rattle.affine_ast.specs.Rules.{map_fits, subscripts_fit, ends_fit, has_interval, is_small_dimension, access_bounded, is_in}
use Rattle.affine_ast.specs.Scope.{Scope, Totals, Around, counted, in_loop, in_condition, with_totals, behind_plain}
use Rattle.affine_ast.specs.Validity.{Passed, told, then_told, rule_of_plain, rule_of_loop, rule_of_condition, told_module, outside, first_broken, IsValid}
use Rattle.affine_ast.proofs.Names.{same_name-eq, same_name-refl}
use Rattle.numbered_names.specs.Numbers.{defined, value_names}
use Rattle.numbered_names.proofs.Apart.{is_one_of}
use Rattle.numbered_names.proofs.Arguments.{names_of, behind_arguments}
use Rattle.numbered_names.proofs.Owned.{OwnScope, text_own}
use Rattle.placement_texts.specs.Normal.{no_name, first_order, normal}
use Rattle.placement_texts.specs.Own.{OwnNames, OwnPlain, OwnNest}
use Rattle.placement_texts.specs.Renamed.{KeepsApart, access_named, bound_named, plain_named, named}
use Rattle.placement_texts.proofs.Subscripts.{drop_all}
use Rattle.plan_laws.specs.Limits.{access_fits, expression_fits}
use Rattle.normal_texts.specs.Texts.{normal_plain, normal_text}
use Rattle.printed_texts.specs.Writable.{IsWritten, AllWritten, AllWithin, AreApart, OperandsFit, Operand, operands_of, operands_in, Appear}
use Rattle.valid_laws.proofs.Passing.{Holds, judged_passed, then_passed, plain_holds, passed_of}
use Rattle.writable_modules.specs.Formed.{InOrder, AreFew, FewInBound}
use Rattle.writable_modules.proofs.Expressions.{all_within, operands_fit}
use Rattle.writable_modules.proofs.Kept.{Limited}
use Rattle.stage_texts.specs.Distinct.{AreDistinct}
use Rattle.stage_numbers.specs.Numbered.{NumberedPlain, AreNumbered}
use Rattle.stage_texts.specs.Shape.{Each}
use Rattle.stage_texts.proofs.Apart.{named_distinct, distinct_apart}
use Rattle.stage_texts.proofs.Ordered.{normal_appears}
use Rattle.stage_texts.proofs.Orders.{normal_distinct}
use Rattle.stage_numbers.proofs.Ready.{own_take, ReadyAt, FewInValue, ReadyLoop, ReadyBranch, ReadyPlain}
use Rattle.stage_numbers.proofs.Given.{Ready}

-- ---- subscripts
pub record Ordered (at : Access) : Type 0 where
  pub order : Appear 0 0 (flat_map operands_of at.map.results) at.map.dims at.map.syms
  pub dims : AreDistinct (take at.map.dims at.operands)
  pub syms : AreDistinct (drop at.map.dims at.operands)

fit_join : (d s : ℕ) (xs ys : List Operand) → OperandsFit d s xs → OperandsFit d s ys → OperandsFit d s (xs ++ ys)
fit_join d s [] ys h k = k
fit_join d s (x ∷ xs) ys h k = (h.0, fit_join d s xs ys h.1 k)

all_operands : (d s : ℕ) (ds ss : List Range) (es : List Expr) → list_all (has_leaves_below d s) es ≡ true → list_all (has_interval ds ss) es ≡ true → OperandsFit d s (flat_map operands_of es)
unfolding has_interval
all_operands d s ds ss [] l b = tt
all_operands d s ds ss (e ∷ es) l b =
    let ls = and_parts (has_leaves_below d s e) (list_all (has_leaves_below d s) es) l in
    let bs = and_parts (has_interval ds ss e) (list_all (has_interval ds ss) es) b in
    fit_join d s (operands_of e) (flat_map operands_of es) (operands_fit d s ds ss e ls.0 bs.0) (all_operands d s ds ss es ls.1 bs.1)

ordered_at : (s : Scope) (at : Access) → ReadyAt at → map_fits at ≡ true → access_bounded s at ≡ true → Ordered (normal at)
unfolding map_fits access_bounded
ordered_at s at h f b =
    let fit = and_parts (nat_eq (length at.operands) (at.map.dims + at.map.syms)) (list_all (has_leaves_below at.map.dims at.map.syms) at.map.results) f in
    let bounds = and_parts (list_all (is_small_dimension s) (take at.map.dims at.operands)) _ b in
    let get = λ (n : ℕ). slice_index_or at.operands n no_name in
    record {
      order = normal_appears at h.symbols (all_operands at.map.dims at.map.syms _ _ at.map.results fit.1 bounds.1);
      dims = normal_distinct at f h.dims;
      syms = subst AreDistinct (sym (drop_all (map get (first_order at)) (drop at.map.dims at.operands) (length (first_order at)) (length-map (first_order at) get))) h.syms;
    }

abbrev pub OrderedPlain : Plain → Type 0
OrderedPlain (Value r pick at) = FewInValue at
OrderedPlain (Load r m at ty) = Ordered at
OrderedPlain (Store x m at ty) = Ordered at
OrderedPlain (Start x x_at y y_at t t_at n stride types) = Ordered x_at × Ordered y_at × Ordered t_at
OrderedPlain (Wait t at n ty) = Ordered at
OrderedPlain p = Unit {0}

abbrev pub OrderedText : Nest → Type 0
OrderedText = Each OrderedPlain ReadyLoop ReadyBranch

fits_of : (at : Access) (ty : MemrefType) → subscripts_fit at ty ≡ true → map_fits at ≡ true
unfolding subscripts_fit
fits_of at ty h = (and_parts (map_fits at) _ h).0

three : (x y t : Access) (types : List MemrefType) → ends_fit x y t types ≡ true → (map_fits x ≡ true) × (map_fits y ≡ true) × (map_fits t ≡ true)
three x y t [] h = absurd (let z : ⊥ = cc in z)
three x y t (a ∷ []) h = absurd (let z : ⊥ = cc in z)
three x y t (a ∷ b ∷ []) h = absurd (let z : ⊥ = cc in z)
three x y t (a ∷ b ∷ c ∷ []) h =
    let one = and_parts (subscripts_fit x a) (subscripts_fit y b && subscripts_fit t c) h in
    let two = and_parts (subscripts_fit y b) (subscripts_fit t c) one.1 in
    (fits_of x a one.0, fits_of y b two.0, fits_of t c two.1)
three x y t (a ∷ b ∷ c ∷ d ∷ more) h = absurd (let z : ⊥ = cc in z)

plain_ordered : (a : Around) (p : Plain) (rest : Nest) → Holds a p rest → ReadyPlain p → OrderedPlain (normal_plain p)
plain_ordered a (Value r pick at) rest k h = h
plain_ordered a (Load r m at ty) rest k h = ordered_at a.scope at h (fits_of at ty k.counts) k.bounded
plain_ordered a (Store x m at ty) rest k h = ordered_at a.scope at h (fits_of at ty k.counts) k.bounded
plain_ordered a (RawLoad r m at ty) rest k h = tt
plain_ordered a (RawStore x m at ty) rest k h = tt
plain_ordered a (Constant r z ty) rest k h = tt
plain_ordered a (Binary r op x y ty) rest k h = tt
plain_ordered a (Cast r kind x from to) rest k h = tt
plain_ordered a (Alloc r ty) rest k h = tt
plain_ordered a (Dealloc m ty) rest k h = tt
plain_ordered a (Start x xa y ya t ta n stride types) rest k h =
    let f = three xa ya ta types k.counts in
    let one = and_parts (access_bounded a.scope xa) (access_bounded a.scope ya && access_bounded a.scope ta) k.bounded in
    let two = and_parts (access_bounded a.scope ya) (access_bounded a.scope ta) one.1 in
    (ordered_at a.scope xa h.0 f.0 one.0, ordered_at a.scope ya h.1 f.1 two.0, ordered_at a.scope ta h.2 f.2 two.1)
plain_ordered a (Wait t at n ty) rest k h = ordered_at a.scope at h (fits_of at ty k.counts) k.bounded
plain_ordered a Return rest k h = tt

pub text_ordered : (n : Nest) (a : Around) (t : Totals) → told n a ≡ Passed t → Ready n → OrderedText (normal_text n)
unfolding told
text_ordered Nothing a t h r = tt
text_ordered (Loop line v l u s body rest) a t h r =
    let j = judged_passed line (rule_of_loop (counted a) v l u s) _ t h in
    let k = then_passed (told body (in_loop v l u (counted a))) (λ t. told rest (with_totals t a)) t j.1 in
    (r.0, text_ordered body (in_loop v l u (counted a)) k.0 k.1 r.1, text_ordered rest (with_totals k.0 a) t k.2 r.2)
text_ordered (Branch line set names first has other rest) a t h r =
    let j = judged_passed line (rule_of_condition (counted a) set names) _ t h in
    let k = then_passed (told first (in_condition (counted a))) (λ t. then_told (told other (in_condition (with_totals t a))) (λ u. told rest (with_totals u a))) t j.1 in
    let o = then_passed (told other (in_condition (with_totals k.0 a))) (λ u. told rest (with_totals u a)) t k.2 in
    (r.0, text_ordered first (in_condition (counted a)) k.0 k.1 r.1, text_ordered other (in_condition (with_totals k.0 a)) o.0 o.1 r.2, text_ordered rest (with_totals o.0 a) t o.2 r.3)
text_ordered (Does line p rest) a t h r =
    let j = judged_passed line (rule_of_plain (counted a) p rest) _ t h in
    (plain_ordered (counted a) p rest (plain_holds (counted a) p rest j.0) r.0, text_ordered rest (behind_plain p (counted a)) t j.1 r.1)

-- ---- names
take_map : (f : Name → Name) (n : ℕ) (xs : List Name) → take n (map f xs) ≡ map f (take n xs)
take_map f zero xs = refl
take_map f (suc n) [] = refl
take_map f (suc n) (x ∷ xs) = ap (λ ys. f x ∷ ys) (take_map f n xs)

drop_map : (f : Name → Name) (n : ℕ) (xs : List Name) → drop n (map f xs) ≡ map f (drop n xs)
drop_map f zero xs = refl
drop_map f (suc n) [] = refl
drop_map f (suc n) (x ∷ xs) = drop_map f n xs

own_drop : (own : Name → Bool) (n : ℕ) (xs : List Name) → OwnNames own xs → OwnNames own (drop n xs)
own_drop own zero xs h = h
own_drop own (suc n) [] h = tt
own_drop own (suc n) (x ∷ xs) h = own_drop own n xs h.1

few_operands : (es : List Expr) → AllWithin es → operands_in es ≤ 256 * length es
few_operands [] h = omega arith
few_operands (e ∷ es) h = let a = h.0.operands in let b = few_operands es h.1 in omega (arith, a, b)

few_value : (at : Access) → FewInValue at → list_all access_fits (at ∷ []) ≡ true → AreFew at.map.dims at.map.syms
few_value at (few, inl h) l = (h, few)
few_value at (few, inr h) l =
    let one = and_parts (access_fits at) true l in
    let two = and_parts (nat_le (length at.map.results) 8) (list_all expression_fits at.map.results) one.0 in
    let a = few_operands at.map.results (all_within at.map.results two.1) in
    let b = two.0 in
    (grind (arith, a, b, h), few)

module _ (f : Name → Name) (own other : Name → Bool) (apart : KeepsApart f own) (written : (n : Name) → other n ≡ true → IsWritten n) where
  all_written : (ns : List Name) → OwnNames other ns → AllWritten ns
  all_written [] h = tt
  all_written (n ∷ ns) h = (written n h.0, all_written ns h.1)

  still_apart : (ns : List Name) → OwnNames own ns → AllWritten (map f ns) → AreDistinct ns → AreApart (map f ns)
  still_apart ns o w h = distinct_apart (map f ns) w (named_distinct f own apart ns o h)

  in_order : (at : Access) → OwnNames own at.operands → OwnNames other (map f at.operands) → Ordered at → InOrder (access_named f at)
  in_order at o w h =
      let d = at.map.dims in
      record {
        order = h.order;
        dims = subst AreApart (sym (take_map f d at.operands)) (still_apart (take d at.operands) (own_take own d at.operands o) (subst AllWritten (take_map f d at.operands) (all_written _ (own_take other d (map f at.operands) w))) h.dims);
        syms = subst AreApart (sym (drop_map f d at.operands)) (still_apart (drop d at.operands) (own_drop own d at.operands o) (subst AllWritten (drop_map f d at.operands) (all_written _ (own_drop other d (map f at.operands) w))) h.syms);
      }

  plain_numbered : (p : Plain) → OrderedPlain p → OwnPlain own p → OwnPlain other (plain_named f p) → list_all access_fits (maps_of (plain_named f p)) ≡ true → NumberedPlain (plain_named f p)
  plain_numbered (Value r pick at) h o w l = few_value at h l
  plain_numbered (Load r m at ty) h o w l = in_order at o.1.1 w.1.1 h
  plain_numbered (Store x m at ty) h o w l = in_order at o.1.1 w.1.1 h
  plain_numbered (RawLoad r m at ty) h o w l = tt
  plain_numbered (RawStore x m at ty) h o w l = tt
  plain_numbered (Constant r z ty) h o w l = tt
  plain_numbered (Binary r op x y ty) h o w l = tt
  plain_numbered (Cast r kind x from to) h o w l = tt
  plain_numbered (Alloc r ty) h o w l = tt
  plain_numbered (Dealloc m ty) h o w l = tt
  plain_numbered (Start x xa y ya t ta n stride types) h o w l = (in_order xa o.0.1 w.0.1 h.0, in_order ya o.1.1 w.1.1 h.1, in_order ta o.2.1 w.2.1 h.2)
  plain_numbered (Wait t at n ty) h o w l = in_order at o.0.1 w.0.1 h
  plain_numbered Return h o w l = tt

  bound_numbered : (b : Bound) → FewInBound b → FewInBound (bound_named f b)
  bound_numbered (bound.Int z) h = tt
  bound_numbered (bound.Value n) h = tt
  bound_numbered (bound.Map at) h = h

  pub text_numbered : (n : Nest) → OrderedText n → OwnNest own n → OwnNest other (named f n) → Limited (named f n) → AreNumbered (named f n)
  text_numbered Nothing h o w l = tt
  text_numbered (Loop line v lower upper s body rest) h o w l = ((bound_numbered lower h.0.0, bound_numbered upper h.0.1), text_numbered body h.1 o.3 w.3 l.1, text_numbered rest h.2 o.4 w.4 l.2)
  text_numbered (Branch line set names first has more rest) h o w l = (h.0, text_numbered first h.1 o.1 w.1 l.1, text_numbered more h.2 o.2 w.2 l.2, text_numbered rest h.3 o.3 w.3 l.3)
  text_numbered (Does line p rest) h o w l = (plain_numbered p h.0 o.0 w.0 l.0, text_numbered rest h.1 o.1 w.1 l.1)

-- ---- the names of a valid module
pub one_written : (ns : List Name) (n : Name) → AllWritten ns → is_one_of ns n ≡ true → IsWritten n
one_written [] n w h = absurd (let e : false ≡ true = h in cc)
one_written (x ∷ ns) n w h = by (same_name x n) refl h (λ k. one_written ns n w.1 k)
  where
    by : (t : Bool) → same_name x n ≡ t → (t || is_one_of ns n) ≡ true → (is_one_of ns n ≡ true → IsWritten n) → IsWritten n
    by true t h again = subst IsWritten (same_name-eq x n t) w.0
    by false t h again = again h

right_true : (t : Bool) → (t || true) ≡ true
right_true true = refl
right_true false = refl

owned : (xs names : List Name) → ((n : Name) → is_one_of xs n ≡ true → is_one_of names n ≡ true) → OwnNames (is_one_of names) xs
owned [] names h = tt
owned (x ∷ xs) names h = (h x (ap (λ t. t || is_one_of xs x) (same_name-refl x)), owned xs names (λ n k. h n (ap (λ t. same_name x n || t) k ∙ right_true (same_name x n))))

own_parts : (own : Name → Bool) (xs ys : List Name) → OwnNames own (xs ++ ys) → OwnNames own xs × OwnNames own ys
own_parts own [] ys h = (tt, h)
own_parts own (x ∷ xs) ys h = let k = own_parts own xs ys h.1 in ((h.0, k.0), k.1)

none_in : (own : Name → Bool) → OwnScope own outside.scope
unfolding is_in
none_in own x h = absurd (let e : false ≡ true = h in cc)

pub own_of : (m : Module) → IsValid m → OwnNest (is_one_of (value_names m)) (nest m.body)
unfolding first_broken told_module
own_of m valid =
    let own = is_one_of (value_names m) in
    let names = own_parts own (names_of m.args) (defined (nest m.body)) (owned (value_names m) (value_names m) (λ n k. k)) in
    let passed = passed_of (told_module m) valid in
    let b = behind_arguments own m.args (told (nest m.body)) outside passed.0 names.0 (none_in own) passed.1 in
    text_own own (nest m.body) b.around passed.0 b.told b.scope names.1

-- ---- the text of a valid module
pub body_ordered : (m : Module) → IsValid m → Ready (nest m.body) → OrderedText (normal_text (nest m.body))
unfolding first_broken told_module
body_ordered m valid r =
    let own = is_one_of (value_names m) in
    let names = own_parts own (names_of m.args) (defined (nest m.body)) (owned (value_names m) (value_names m) (λ n k. k)) in
    let passed = passed_of (told_module m) valid in
    let b = behind_arguments own m.args (told (nest m.body)) outside passed.0 names.0 (none_in own) passed.1 in
    text_ordered (nest m.body) b.around passed.0 b.told r
