-- Measures and sums that stop at the greatest number of 64 bits.
use Rattle.std.proofs.Common.{◌≡◌, ℕ, zero, suc, ◌+◌, ◌*◌, ◌<◌, ◌≤◌, min, List, ◌∷◌, drop, length, get_or, Bool, true, false, refl, sym, ap, ◌∙◌, subst, arith, mul-suc, mul-zero, mul_assoc, add-one}
use Rattle.std.specs.Prelude.{◌&&◌, Option, nat_le, sum_by}
use Rattle.std.specs.List.{list_all}
use Rattle.std.proofs.lemmas.Bool.{leb-true, leb-false, le-leb, lt-leb}
use Rattle.std.proofs.lemmas.Bool.Decides.{nat_tests}
use Rattle.std.proofs.lemmas.List.{drop_more, drop_all}
use Rattle.std.proofs.Math.Seq.{drop-cons}
use Rattle.affine_ast.specs.declared.name.Name.{Name}
use Rattle.affine_ast.specs.declared.types.Access.{Access}
use Rattle.affine_ast.specs.declared.types.MemrefType.{MemrefType}
use Rattle.affine_ast.specs.declared.types.Pick.{Pick}
use Rattle.affine_ast.specs.declared.stmt.Stmt.{Stmt}
use Rattle.affine_ast.specs.declared.stmt.What as what
use Rattle.affine_ast.specs.declared.stmt.What.{What}
use Rattle.affine_ast.specs.declared.stmt.What.TheOpen.{What-F}
use Rattle.affine_ast.specs.declared.stmt.What.TheVariants.{rolls-Value, rolls-Load, rolls-Store, rolls-Alloc, rolls-Start, rolls-Wait}
use Rattle.affine_ast.specs.Nest.{Plain, Nothing, nest, put_what, head_plain, plain_of}
use Rattle.affine_ast.proofs.Nests.{nest-nil, nest-cons, put-followed, put_what_is}
use Rattle.affine_ast.specs.Parts.{maps_of}
use Rattle.affine_ast.specs.Sizes.{product}
use Rattle.plan_laws.specs.Limits.{map_operands}
use Rattle.text_limits.specs.declared.measures.Measure.{Measure}
use Rattle.text_limits.specs.declared.sums.Sums.{Sums}
use Rattle.text_limits.specs.Sums.{elements_of, tag_elements_of, plain_fits, sums_in, are_within}
use Rattle.text_limits.specs.Capped.{capped, measured, with_measure, capped_sums, LimitsAreTold}
use Rattle.text_limits.specs.Adding.{with_sums}
use Rattle.text_limits.proofs.Adding.{sums_followed}
use Rattle.text_limits.proofs.Prefixes.{limits_are_sums}

-- ---- measures
and_true : (x : Bool) → (x && true) ≡ x
and_true true = refl
and_true false = refl

pub none_more : (m : Measure) → m.operands ≤ 18446744073709551615 → with_measure m (measured 0 true) ≡ m
none_more m h = λ i. record { operands = (let e : capped (m.operands + capped 0) ≡ m.operands = omega (arith, h) in e) i; fits = and_true m.fits i }

pub measure_end : {X : Type 0} (count : X → ℕ) (test : X → Bool) (xs : List X) (i : ℕ) (m total : Measure) → length xs ≤ i → m.operands ≤ 18446744073709551615
    → total ≡ with_measure m (measured (sum_by count (drop i xs)) (list_all test (drop i xs))) → m ≡ total
measure_end count test xs i m total h k so = sym (so ∙ ap (λ xs. with_measure m (measured (sum_by count xs) (list_all test xs))) (drop_all i xs h) ∙ none_more m k)

and_assoc : (a b c : Bool) → (a && (b && c)) ≡ ((a && b) && c)
and_assoc true b c = refl
and_assoc false b c = refl

three : (a b c : ℕ) → capped (a + (b + c)) ≡ capped (capped (a + capped b) + c)
three a b c = omega arith

joined : (a b c : ℕ) → capped (a + capped (b + c)) ≡ capped (capped (a + capped b) + capped c)
joined a b c = omega arith

pub measures_join : (m : Measure) (a b : ℕ) (x y : Bool) → with_measure m (measured (a + b) (x && y)) ≡ with_measure (with_measure m (measured a x)) (measured b y)
measures_join m a b x y = λ i. record { operands = joined m.operands a b i; fits = and_assoc m.fits x y i }

-- what has no map and allocates nothing
abbrev Same : Plain → Type 0
Same p = measured (sum_by map_operands (maps_of p)) (plain_fits p) ≡ measured 0 true

pub unmeasured : (w : What)
    → ((r : Name) (pick : Pick) (at : Access) → w ≡ what.Value r pick at → ⊥)
    → ((r m : Name) (at : Access) (ty : MemrefType) → w ≡ what.Load r m at ty → ⊥)
    → ((x m : Name) (at : Access) (ty : MemrefType) → w ≡ what.Store x m at ty → ⊥)
    → ((r : Name) (ty : MemrefType) → w ≡ what.Alloc r ty → ⊥)
    → ((a : Name) (aa : Access) (b : Name) (bb : Access) (t : Name) (ta : Access) (n : Name) (stride : Option (Name × Name)) (types : List MemrefType) → w ≡ what.Start a aa b bb t ta n stride types → ⊥)
    → ((t : Name) (at : Access) (n : Name) (ty : MemrefType) → w ≡ what.Wait t at n ty → ⊥)
    → measured (sum_by map_operands (maps_of (plain_of w))) (plain_fits (plain_of w)) ≡ measured 0 true
unfolding plain_of
unmeasured w value load store alloc start wait = by (what.out-What w) (what.roll-out-What w)
  where
    by : (x : What-F What Stmt) → what.roll-What x ≡ w → Same (head_plain (put_what w 0 Nothing))
    by (What-F.Value r pick at) e = absurd (value r pick at (sym e ∙ rolls-Value r pick at))
    by (What-F.Load r m at ty) e = absurd (load r m at ty (sym e ∙ rolls-Load r m at ty))
    by (What-F.Store x m at ty) e = absurd (store x m at ty (sym e ∙ rolls-Store x m at ty))
    by (What-F.Alloc r ty) e = absurd (alloc r ty (sym e ∙ rolls-Alloc r ty))
    by (What-F.Start a aa b bb t ta n stride types) e = absurd (start a aa b bb t ta n stride types (sym e ∙ rolls-Start a aa b bb t ta n stride types))
    by (What-F.Wait t at n ty) e = absurd (wait t at n ty (sym e ∙ rolls-Wait t at n ty))
    by x e = subst (λ n. Same (head_plain n)) (sym (put_what_is 0 Nothing x w e)) refl

-- what allocates nothing
abbrev AllocatesNone : Plain → Type 0
AllocatesNone p = (elements_of p ≡ 0) × (tag_elements_of p ≡ 0)

pub unallocated : (w : What) → ((r : Name) (ty : MemrefType) → w ≡ what.Alloc r ty → ⊥) → (elements_of (plain_of w) ≡ 0) × (tag_elements_of (plain_of w) ≡ 0)
unfolding plain_of
unallocated w alloc = by (what.out-What w) (what.roll-out-What w)
  where
    by : (x : What-F What Stmt) → what.roll-What x ≡ w → AllocatesNone (head_plain (put_what w 0 Nothing))
    by (What-F.Alloc r ty) e = absurd (alloc r ty (sym e ∙ rolls-Alloc r ty))
    by x e = subst (λ n. AllocatesNone (head_plain n)) (sym (put_what_is 0 Nothing x w e)) (refl, refl)

-- ---- products
stops : (x q limit : ℕ) (below : Bool) → nat_le x limit ≡ below → min (min x limit * suc q) limit ≡ min (x * suc q) limit
stops x q limit true e = let h : x ≤ limit = grind (arith, nat_tests) in ap (λ n. min (n * suc q) limit) (let k : min x limit ≡ x = omega (arith, h) in k)
stops x q limit false e =
    let h : limit ≤ x = grind (arith, nat_tests) in
    let a : limit ≤ limit * suc q = omega (arith, mul-suc limit q) in
    let b : x ≤ x * suc q = omega (arith, mul-suc x q) in
    let k : min x limit ≡ limit = omega (arith, h) in
    ap (λ n. min (n * suc q) limit) k ∙ (let g : min (limit * suc q) limit ≡ min (x * suc q) limit = omega (arith, h, a, b) in g)

product_stops : (x p limit : ℕ) → min (min x limit * p) limit ≡ min (x * p) limit
product_stops x zero limit = ap (λ n. min n limit) (mul-zero (min x limit) ∙ sym (mul-zero x))
product_stops x (suc q) limit = stops x q limit (nat_le x limit) refl

pub product_step : (count limit : ℕ) (sizes : List ℕ) (i next : ℕ) → i < length sizes → next ≡ min (count * get_or sizes i 0) limit → min (count * product (drop i sizes)) limit ≡ min (next * product (drop (i + 1) sizes)) limit
product_step count limit sizes i next h e =
    rw (e, drop-cons sizes i 0 h, add-one) (ap (λ n. min n limit) (sym (mul_assoc count (get_or sizes i 0) (product (drop (suc i) sizes)))) ∙ sym (product_stops (count * get_or sizes i 0) (product (drop (suc i) sizes)) limit))

-- ---- sums
-- one statement more, whose sums are capped
one_more : (s x rest : Sums) → capped_sums (with_sums s (with_sums x rest)) ≡ capped_sums (with_sums (capped_sums (with_sums s (capped_sums x))) rest)
one_more s x rest = λ i. record {
  statements = three s.statements x.statements rest.statements i;
  operands = three s.operands x.operands rest.operands i;
  elements = three s.elements x.elements rest.elements i;
  tags = three s.tags x.tags rest.tags i;
  fits = and_assoc s.fits x.fits rest.fits i;
}

two : (a b : ℕ) → capped (capped a + capped b) ≡ capped (a + b)
two a b = omega arith

pub caps_add : (a b : Sums) → capped_sums (with_sums (capped_sums a) (capped_sums b)) ≡ capped_sums (with_sums a b)
caps_add a b = λ i. record {
  statements = two a.statements b.statements i;
  operands = two a.operands b.operands i;
  elements = two a.elements b.elements i;
  tags = two a.tags b.tags i;
  fits = a.fits && b.fits;
}

twice : (a : ℕ) → capped (capped a) ≡ capped a
twice a = omega arith

pub caps_again : (a : Sums) → capped_sums (capped_sums a) ≡ capped_sums a
caps_again a = λ i. record { statements = twice a.statements i; operands = twice a.operands i; elements = twice a.elements i; tags = twice a.tags i; fits = a.fits }

no_more : (a : ℕ) → capped (a + 0) ≡ capped a
no_more a = omega arith

pub none_added : (a : Sums) (loops ifs : ℕ) → capped_sums (with_sums a (sums_in loops ifs Nothing)) ≡ capped_sums a
none_added a loops ifs = λ i. record { statements = no_more a.statements i; operands = no_more a.operands i; elements = no_more a.elements i; tags = no_more a.tags i; fits = and_true a.fits i }

none_before : (a : ℕ) → capped (0 + a) ≡ capped a
none_before a = omega arith

zero_added : (a : Sums) → capped_sums (with_sums (sums_in 0 0 Nothing) a) ≡ capped_sums a
zero_added a = λ i. record { statements = none_before a.statements i; operands = none_before a.operands i; elements = none_before a.elements i; tags = none_before a.tags i; fits = a.fits }

-- ---- a list of statements
nest_step : (ss : List Stmt) (i : ℕ) (s : Stmt) → i < length ss → s ≡ get_or ss i s → nest (drop i ss) ≡ put_what s.what s.line (nest (drop (i + 1) ss))
nest_step ss i s h e = ap nest (drop_more ss i s h ∙ ap (λ x. x ∷ drop (i + 1) ss) (sym e)) ∙ nest-cons s (drop (i + 1) ss)

module _ (loops ifs : ℕ) (ss : List Stmt) (i : ℕ) where
  abbrev pub Left : Sums → Sums → Type 0
  Left total s = total ≡ capped_sums (with_sums s (sums_in loops ifs (nest (drop i ss))))

  pub list_step : (stmt : Stmt) (s x new total : Sums) → i < length ss → stmt ≡ get_or ss i stmt → x ≡ capped_sums (sums_in loops ifs (put_what stmt.what stmt.line Nothing))
      → new ≡ capped_sums (with_sums s x) → Left total s → total ≡ capped_sums (with_sums new (sums_in loops ifs (nest (drop (i + 1) ss))))
  list_step stmt s x new total h is x_is new_is so =
      let rest = nest (drop (i + 1) ss) in
      let own = sums_in loops ifs (put_what stmt.what stmt.line Nothing) in
      so
      ∙ ap (λ n. capped_sums (with_sums s (sums_in loops ifs n))) (nest_step ss i stmt h is ∙ sym (put-followed stmt.what stmt.line Nothing rest))
      ∙ ap (λ t. capped_sums (with_sums s t)) (sums_followed loops ifs (put_what stmt.what stmt.line Nothing) rest)
      ∙ one_more s own (sums_in loops ifs rest)
      ∙ ap (λ x. capped_sums (with_sums (capped_sums (with_sums s x)) (sums_in loops ifs rest))) (sym x_is)
      ∙ ap (λ x. capped_sums (with_sums x (sums_in loops ifs rest))) (sym new_is)

  pub list_end : (s total : Sums) → length ss ≤ i → s ≡ capped_sums s → Left total s → s ≡ total
  list_end s total h whole so =
      sym (so ∙ ap (λ xs. capped_sums (with_sums s (sums_in loops ifs (nest xs)))) (drop_all i ss h)
      ∙ ap (λ n. capped_sums (with_sums s (sums_in loops ifs n))) nest-nil ∙ none_added s loops ifs ∙ sym whole)

pub list_start : (loops ifs : ℕ) (ss : List Stmt) (s : Sums) → s ≡ sums_in 0 0 Nothing → capped_sums (sums_in loops ifs (nest ss)) ≡ capped_sums (with_sums s (sums_in loops ifs (nest (drop 0 ss))))
list_start loops ifs ss s e = let n = sums_in loops ifs (nest ss) in sym (ap (λ s. capped_sums (with_sums s n)) e ∙ zero_added n)

pub list_whole : (s x new : Sums) → new ≡ capped_sums (with_sums s x) → new ≡ capped_sums new
list_whole s x new e = e ∙ sym (caps_again (with_sums s x)) ∙ ap capped_sums (sym e)

-- ---- the limits are below the greatest number
below : (n limit : ℕ) → limit < 18446744073709551615 → nat_le (capped n) limit ≡ nat_le n limit
below n limit h = by (nat_le n limit) refl
  where
    by : (b : Bool) → nat_le n limit ≡ b → nat_le (capped n) limit ≡ b
    by true e = let k = leb-true n limit e in le-leb (capped n) limit (omega (arith, k, h))
    by false e = let k = leb-false n limit e in lt-leb (capped n) limit (omega (arith, k, h))

caps_tell_the_same : (t : Sums) → are_within (capped_sums t) ≡ are_within t
caps_tell_the_same t = λ i. t.fits && (below t.operands 1048576 (omega arith) i && (below t.statements 65536 (omega arith) i && (below t.elements 16777216 (omega arith) i && below t.tags 65536 (omega arith) i)))

pub limits_are_told : LimitsAreTold
limits_are_told args n = limits_are_sums args n ∙ sym (caps_tell_the_same (sums_in 0 0 n))
