-- The allocations of a valid text take few bytes.
use Rattle.std.proofs.Common.{◌≡◌, ℕ, ◌+◌, ◌*◌, ◌≤◌, Bool, true, false, arith}
use Rattle.std.specs.Prelude.{nat_le, if◌then◌else◌}
use Rattle.std.proofs.lemmas.Bool.{and_parts}
use Rattle.affine_ast.specs.declared.types.Element.{Element}
use Rattle.affine_ast.specs.declared.types.Element.TheVariants.{I8, I16, I32, I64}
use Rattle.affine_ast.specs.declared.types.MemrefType.{MemrefType}
use Rattle.affine_ast.specs.Nest.{Plain, Nest, Nothing, Loop, Branch, Does, Value, Load, Store, RawLoad, RawStore, Constant, Binary, Cast, Alloc, Dealloc, Start, Wait, Return}
use Rattle.affine_ast.specs.Rules.{shape_within, allocations_within}
use Rattle.affine_ast.specs.Scope.{Totals, Around, counted, in_loop, in_condition, with_totals, totals_with, tags_of, behind_plain}
use Rattle.affine_ast.specs.Sizes.{product}
use Rattle.affine_ast.specs.Validity.{Passed, then_told, told, rule_of_plain, rule_of_loop, rule_of_condition}
use Rattle.direct_meaning.specs.Actions.{is_fast}
use Rattle.direct_meaning.specs.Static.{element_bytes}
use Rattle.prompt_semantics.specs.Device.{bytes_of}
use Rattle.valid_laws.proofs.Passing.{Holds, judged_passed, then_passed, plain_holds}
use Rattle.peak_laws.specs.Peak.{fast_bytes, plain_live, peak_of, taken_by, bytes_in}

few : (n : ℕ) (e : Element) → n * element_bytes e ≤ n * 8
few n I8 = omega arith
few n I16 = omega arith
few n I32 = omega arith
few n I64 = omega arith

few_bytes : (ty : MemrefType) → fast_bytes ty ≤ product ty.sizes * 8
few_bytes ty = by (is_fast ty)
  where
    by : (t : Bool) → (if t then bytes_of ty.element ty.sizes else 0) ≤ product ty.sizes * 8
    by true = few (product ty.sizes) ty.element
    by false = omega arith

-- ---- the totals of a text

-- a statement's bytes count
plain_grows : (a : Around) (p : Plain) → a.totals.allocated * 8 + taken_by p ≤ (behind_plain p (counted a)).totals.allocated * 8
plain_grows a (Alloc r ty) = let f = few_bytes ty in omega (arith, f)
plain_grows a (Value r pick at) = omega arith
plain_grows a (Load r m at ty) = omega arith
plain_grows a (Store x m at ty) = omega arith
plain_grows a (RawLoad r m at ty) = omega arith
plain_grows a (RawStore x m at ty) = omega arith
plain_grows a (Constant r z ty) = omega arith
plain_grows a (Binary r op x y ty) = omega arith
plain_grows a (Cast r kind x from to) = omega arith
plain_grows a (Dealloc m ty) = omega arith
plain_grows a (Start x xa y ya t ta n stride types) = omega arith
plain_grows a (Wait t at n ty) = omega arith
plain_grows a Return = omega arith

-- and stay within the limit
plain_within : (a : Around) (p : Plain) (rest : Nest) → Holds (counted a) p rest → a.totals.allocated ≤ 16777216 → (behind_plain p (counted a)).totals.allocated ≤ 16777216
plain_within a (Alloc r ty) rest k h =
    let two = and_parts (shape_within ty) (allocations_within (totals_with ty (counted a).totals)) k.elements in
    let w = and_parts (nat_le (a.totals.allocated + product ty.sizes) 16777216) (nat_le (a.totals.tags + tags_of ty.space (product ty.sizes)) 65536) two.1 in
    grind (arith, w.0)
plain_within a (Value r pick at) rest k h = h
plain_within a (Load r m at ty) rest k h = h
plain_within a (Store x m at ty) rest k h = h
plain_within a (RawLoad r m at ty) rest k h = h
plain_within a (RawStore x m at ty) rest k h = h
plain_within a (Constant r z ty) rest k h = h
plain_within a (Binary r op x y ty) rest k h = h
plain_within a (Cast r kind x from to) rest k h = h
plain_within a (Dealloc m ty) rest k h = h
plain_within a (Start x xa y ya t ta n stride types) rest k h = h
plain_within a (Wait t at n ty) rest k h = h
plain_within a Return rest k h = h

pub record Grows (before after bytes : ℕ) : Type 0 where
  pub more : before * 8 + bytes ≤ after * 8
  pub within : after ≤ 16777216

pub grows : (n : Nest) (a : Around) (t : Totals) → told n a ≡ Passed t → a.totals.allocated ≤ 16777216 → Grows a.totals.allocated t.allocated (bytes_in n)
unfolding told
grows Nothing a t q h = end t q
  where
    end : (t : Totals) → Passed a.totals ≡ Passed t → Grows a.totals.allocated t.allocated 0
    end t q = let e : a.totals ≡ t = cc in record { more = (let f : a.totals.allocated ≡ t.allocated = (λ i. (e i).allocated) in omega (arith, f)); within = (let f : a.totals.allocated ≡ t.allocated = (λ i. (e i).allocated) in omega (arith, f, h)) }
grows (Loop line x l u s body rest) a t q h =
    let j = judged_passed line (rule_of_loop (counted a) x l u s) _ t q in
    let p = then_passed (told body (in_loop x l u (counted a))) (λ t. told rest (with_totals t a)) t j.1 in
    let one = grows body (in_loop x l u (counted a)) p.0 p.1 h in
    let two = grows rest (with_totals p.0 a) t p.2 one.within in
    let b = one.more in
    let c = two.more in
    record { more = omega (arith, b, c); within = two.within }
grows (Branch line set names first has other rest) a t q h =
    let j = judged_passed line (rule_of_condition (counted a) set names) _ t q in
    let p = then_passed (told first (in_condition (counted a))) (λ t. then_told (told other (in_condition (with_totals t a))) (λ u. told rest (with_totals u a))) t j.1 in
    let w = then_passed (told other (in_condition (with_totals p.0 a))) (λ u. told rest (with_totals u a)) t p.2 in
    let one = grows first (in_condition (counted a)) p.0 p.1 h in
    let two = grows other (in_condition (with_totals p.0 a)) w.0 w.1 one.within in
    let three = grows rest (with_totals w.0 a) t w.2 two.within in
    let b = one.more in
    let c = two.more in
    let d = three.more in
    record { more = omega (arith, b, c, d); within = three.within }
grows (Does line p rest) a t q h =
    let j = judged_passed line (rule_of_plain (counted a) p rest) _ t q in
    let one = plain_grows a p in
    let two = grows rest (behind_plain p (counted a)) t j.1 (plain_within a p rest (plain_holds (counted a) p rest j.0) h) in
    let c = two.more in
    record { more = omega (arith, one, c); within = two.within }

-- ---- the peak

live_less : (p : Plain) (l : ℕ) → plain_live p l ≤ l + taken_by p
live_less (Alloc r ty) l = omega arith
live_less (Dealloc m ty) l = omega arith
live_less (Value r pick at) l = omega arith
live_less (Load r m at ty) l = omega arith
live_less (Store x m at ty) l = omega arith
live_less (RawLoad r m at ty) l = omega arith
live_less (RawStore x m at ty) l = omega arith
live_less (Constant r z ty) l = omega arith
live_less (Binary r op x y ty) l = omega arith
live_less (Cast r kind x from to) l = omega arith
live_less (Start x xa y ya t ta n stride types) l = omega arith
live_less (Wait t at n ty) l = omega arith
live_less Return l = omega arith

pub peak_less : (n : Nest) (l : ℕ) → peak_of n l ≤ l + bytes_in n
peak_less Nothing l = omega arith
peak_less (Loop line v low high s body rest) l = let a = peak_less body l in let b = peak_less rest l in omega (arith, a, b)
peak_less (Branch line set names first has other rest) l = let a = peak_less first l in let b = peak_less other l in let c = peak_less rest l in omega (arith, a, b, c)
peak_less (Does line p rest) l = let a = live_less p l in let b = peak_less rest (plain_live p l) in omega (arith, a, b)
