-- Each region of a valid text gives back the bytes of fast memory that it takes.
use Rattle.std.proofs.Common.{◌≡◌, ℕ, ◌+◌, ◌*◌, ◌-◌, ◌≤◌, Bool, true, false, refl, sym, ap, ◌∙◌, arith}
use Rattle.std.specs.Prelude.{not, nat_eq, Some, is_some, if◌then◌else◌}
use Rattle.std.proofs.lemmas.Bool.{and_parts}
use Rattle.affine_ast.specs.declared.name.Name.{Name}
use Rattle.affine_ast.specs.declared.types.Element.{Element}
use Rattle.affine_ast.specs.declared.types.Element.TheVariants.{I8, I16, I32, I64}
use Rattle.affine_ast.specs.declared.types.MemrefType.{MemrefType}
use Rattle.affine_ast.specs.Names.{same_name, put}
use Rattle.affine_ast.proofs.Names.{put-same, put-other, same_name-eq, same_name-refl, same_name-sym}
use Rattle.affine_ast.specs.Nest.{Plain, Nest, Nothing, Loop, Branch, Does, Value, Load, Store, RawLoad, RawStore, Constant, Binary, Cast, Alloc, Dealloc, Start, Wait, Return}
use Rattle.affine_ast.specs.Rules.{is_in, is_memref_of, binding_is_memref_of, is_dealloc_of, deallocs, own_deallocs, is_allocated, is_live, same_type}
use Rattle.affine_ast.specs.Scope.{Variable, Allocation, Scope, Totals, Around, counted, in_loop, in_condition, with_totals, behind_plain}
use Rattle.affine_ast.specs.Sizes.{element_bits, product}
use Rattle.affine_ast.specs.Validity.{Passed, then_told, told, rule_of_plain, rule_of_loop, rule_of_condition}
use Rattle.direct_meaning.specs.Static.{element_bytes}
use Rattle.valid_laws.proofs.Passing.{Holds, judged_passed, then_passed, plain_holds}
use Rattle.valid_laws.proofs.Scoped.{type_same}
use Rattle.box_run_laws.specs.Peaks.{fast_bytes, plain_live, live_after, IsEven, AreEven}
use Rattle.peak_laws.proofs.Names.{both, scope_kept, put_allocated, Before, was, is_made, before}
use Rattle.peak_laws.proofs.Own.{OwnAll, NoneIn, none_own, own_loop, own_branch, once, own_plain}

-- ---- one type

bytes_of_bits : (a b : Element) → element_bits a ≡ element_bits b → element_bytes a ≡ element_bytes b
bytes_of_bits I8 I8 h = refl
bytes_of_bits I16 I16 h = refl
bytes_of_bits I32 I32 h = refl
bytes_of_bits I64 I64 h = refl
bytes_of_bits I8 I16 h = absurd (let z : ⊥ = omega (arith, h) in z)
bytes_of_bits I8 I32 h = absurd (let z : ⊥ = omega (arith, h) in z)
bytes_of_bits I8 I64 h = absurd (let z : ⊥ = omega (arith, h) in z)
bytes_of_bits I16 I8 h = absurd (let z : ⊥ = omega (arith, h) in z)
bytes_of_bits I16 I32 h = absurd (let z : ⊥ = omega (arith, h) in z)
bytes_of_bits I16 I64 h = absurd (let z : ⊥ = omega (arith, h) in z)
bytes_of_bits I32 I8 h = absurd (let z : ⊥ = omega (arith, h) in z)
bytes_of_bits I32 I16 h = absurd (let z : ⊥ = omega (arith, h) in z)
bytes_of_bits I32 I64 h = absurd (let z : ⊥ = omega (arith, h) in z)
bytes_of_bits I64 I8 h = absurd (let z : ⊥ = omega (arith, h) in z)
bytes_of_bits I64 I16 h = absurd (let z : ⊥ = omega (arith, h) in z)
bytes_of_bits I64 I32 h = absurd (let z : ⊥ = omega (arith, h) in z)

-- equal types take as many bytes
same_bytes : (a b : MemrefType) → same_type a b ≡ true → fast_bytes a ≡ fast_bytes b
same_bytes a b h =
    let s = type_same a b h in
    (λ i. if nat_eq (s.space i) 1 then product (s.sizes i) * bytes_of_bits a.element b.element s.bits i else 0)

-- a dealloc of an allocation writes its type
dealloc_type : (s : Scope) (m : Name) (ty written : MemrefType) → s m ≡ Some (Allocation ty) → is_memref_of s m written ≡ true → same_type ty written ≡ true
unfolding is_memref_of
dealloc_type s m ty written h t = sym (ap (λ b. binding_is_memref_of b written) h) ∙ t

-- ---- what a region owes

-- the bytes of a region's own deallocs of some names
abbrev owed_by : (Name → Bool) → Plain → ℕ
owed_by P (Dealloc m ty) = if P m then fast_bytes ty else 0
owed_by P p = 0

abbrev owed : (Name → Bool) → Nest → ℕ
owed P Nothing = 0
owed P (Loop line v l u s body rest) = owed P rest
owed P (Branch line set names first has other rest) = owed P rest
owed P (Does line p rest) = owed_by P p + owed P rest

abbrev no_name : Name → Bool
no_name n = false

owed_none_by : (p : Plain) → owed_by no_name p ≡ 0
owed_none_by (Dealloc m ty) = refl
owed_none_by p = refl

owed_none : (n : Nest) → owed no_name n ≡ 0
owed_none Nothing = refl
owed_none (Loop line v l u s body rest) = owed_none rest
owed_none (Branch line set names first has other rest) = owed_none rest
owed_none (Does line p rest) = let a = owed_none_by p in let b = owed_none rest in omega (arith, a, b)

-- ---- one name more

module _ (P : Name → Bool) (r : Name) (ty : MemrefType) (not_yet : P r ≡ false) where
  more : Name → Bool
  more = put P r true

  added : (m : Name) (written : MemrefType) → (same_name m r ≡ true → fast_bytes written ≡ fast_bytes ty)
      → (if put P r true m then fast_bytes written else 0) ≡ (if P m then fast_bytes written else 0) + (if same_name m r then 1 else 0) * fast_bytes ty
  added m written h = by (same_name m r) refl
    where
      bytes_if : Bool → ℕ
      bytes_if t = if t then fast_bytes written else 0

      one_if : Bool → ℕ
      one_if t = if t then 1 else 0

      by : (t : Bool) → same_name m r ≡ t → bytes_if (put P r true m) ≡ bytes_if (P m) + one_if (same_name m r) * fast_bytes ty
      by true t =
          let a : bytes_if (put P r true m) ≡ fast_bytes written = ap bytes_if (put-same P r true m (same_name-sym r m ∙ t)) in
          let b : bytes_if (P m) ≡ 0 = ap bytes_if (ap P (same_name-eq m r t) ∙ not_yet) in
          let c : one_if (same_name m r) * fast_bytes ty ≡ 1 * fast_bytes ty = ap (λ t. one_if t * fast_bytes ty) t in
          let d = h t in
          omega (arith, a, b, c, d)
      by false t =
          let a : bytes_if (put P r true m) ≡ bytes_if (P m) = ap bytes_if (put-other P r true m (same_name-sym r m ∙ t)) in
          let c : one_if (same_name m r) * fast_bytes ty ≡ 0 * fast_bytes ty = ap (λ t. one_if t * fast_bytes ty) t in
          omega (arith, a, c)

  added_by : (a : Around) (p : Plain) (rest : Nest) → Holds (counted a) p rest → a.scope r ≡ Some (Allocation ty)
      → owed_by (put P r true) p ≡ owed_by P p + is_dealloc_of r p * fast_bytes ty
  added_by a (Dealloc m written) rest k h = added m written (λ t. sym (same_bytes ty written (dealloc_type a.scope m ty written (ap a.scope (same_name-eq m r t) ∙ h) k.types)))
  added_by a (Value x pick at) rest k h = omega arith
  added_by a (Load x m at t) rest k h = omega arith
  added_by a (Store x m at t) rest k h = omega arith
  added_by a (RawLoad x m at t) rest k h = omega arith
  added_by a (RawStore x m at t) rest k h = omega arith
  added_by a (Constant x z t) rest k h = omega arith
  added_by a (Binary x op y z t) rest k h = omega arith
  added_by a (Cast x kind y from to) rest k h = omega arith
  added_by a (Alloc x t) rest k h = omega arith
  added_by a (Start x xa y ya t ta n stride types) rest k h = omega arith
  added_by a (Wait t at n x) rest k h = omega arith
  added_by a Return rest k h = omega arith

  sum_of : (x y a b c d : ℕ) → x ≡ a + c → y ≡ b + d → x + y ≡ (a + b) + (c + d)
  sum_of x y a b c d p q = omega (arith, p, q)

  parts_of : (m n k : ℕ) → (m + n) * k ≡ m * k + n * k
  parts_of m n k = grind arith

  in_scope : (a : Around) → a.scope r ≡ Some (Allocation ty) → is_in a.scope r ≡ true
  unfolding is_in
  in_scope a h = ap is_some h

  owed_more : (n : Nest) (a : Around) (t : Totals) → a.scope r ≡ Some (Allocation ty) → told n a ≡ Passed t → owed (put P r true) n ≡ owed P n + own_deallocs r n * fast_bytes ty
  unfolding told own_deallocs
  owed_more Nothing a t h q = omega arith
  owed_more (Loop line x l u s body rest) a t h q =
      let j = judged_passed line (rule_of_loop (counted a) x l u s) _ t q in
      let p = then_passed (told body (in_loop x l u (counted a))) (λ t. told rest (with_totals t a)) t j.1 in
      owed_more rest (with_totals p.0 a) t h p.2
  owed_more (Branch line set names first has other rest) a t h q =
      let j = judged_passed line (rule_of_condition (counted a) set names) _ t q in
      let p = then_passed (told first (in_condition (counted a))) (λ t. then_told (told other (in_condition (with_totals t a))) (λ u. told rest (with_totals u a))) t j.1 in
      let w = then_passed (told other (in_condition (with_totals p.0 a))) (λ u. told rest (with_totals u a)) t p.2 in
      owed_more rest (with_totals w.0 a) t h w.2
  owed_more (Does line p rest) a t h q =
      let j = judged_passed line (rule_of_plain (counted a) p rest) _ t q in
      let holds = plain_holds (counted a) p rest j.0 in
      let one = added_by a p rest holds h in
      let two = owed_more rest (behind_plain p (counted a)) t (scope_kept a p rest r holds (in_scope a h) ∙ h) j.1 in
      sum_of (owed_by (put P r true) p) (owed (put P r true) rest) (owed_by P p) (owed P rest) (is_dealloc_of r p * fast_bytes ty) (own_deallocs r rest * fast_bytes ty) one two
      ∙ ap (λ k. (owed_by P p + owed P rest) + k) (sym (parts_of (is_dealloc_of r p) (own_deallocs r rest) (fast_bytes ty)))

-- ---- along a region

-- the names that a region has allocated so far, behind a statement
abbrev taken_by : Plain → (Name → Bool) → Name → Bool
taken_by (Alloc r ty) P = put P r true
taken_by p P = P

-- what a region has allocated so far is in scope; only that it releases
record Gives (P : Name → Bool) (s : Scope) (n : Nest) : Type 0 where
  mine : (m : Name) → is_allocated s m ≡ true → P m ≡ false → deallocs m n ≡ 0
  there : (m : Name) → P m ≡ true → is_in s m ≡ true

in_put : (s : Scope) (n : Name) (ty : MemrefType) (m : Name) → same_name n m ≡ true → is_in (put s n (Some (Allocation ty))) m ≡ true
unfolding is_in
in_put s n ty m t = ap is_some (put-same s n (Some (Allocation ty)) m t)

kept_in : (a : Around) (p : Plain) (rest : Nest) (m : Name) → Holds (counted a) p rest → is_in a.scope m ≡ true → is_in (behind_plain p (counted a)).scope m ≡ true
unfolding is_in
kept_in a p rest m k i = ap is_some (scope_kept a p rest m k i) ∙ i

was_not : (P : Name → Bool) (p : Plain) (m : Name) → taken_by p P m ≡ false → P m ≡ false
was_not P (Alloc r ty) m h = by (same_name r m) refl
  where
    by : (t : Bool) → same_name r m ≡ t → P m ≡ false
    by true t = absurd (both (put P r true m) (put-same P r true m t) h)
    by false t = sym (put-other P r true m t) ∙ h
was_not P (Value x pick at) m h = h
was_not P (Load x y at t) m h = h
was_not P (Store x y at t) m h = h
was_not P (RawLoad x y at t) m h = h
was_not P (RawStore x y at t) m h = h
was_not P (Constant x z t) m h = h
was_not P (Binary x op y z t) m h = h
was_not P (Cast x kind y from to) m h = h
was_not P (Dealloc y t) m h = h
was_not P (Start x xa y ya t ta n stride types) m h = h
was_not P (Wait t at n x) m h = h
was_not P Return m h = h

there_behind : (P : Name → Bool) (a : Around) (p : Plain) (rest : Nest) → Holds (counted a) p rest → ((m : Name) → P m ≡ true → is_in a.scope m ≡ true)
    → (m : Name) → taken_by p P m ≡ true → is_in (behind_plain p (counted a)).scope m ≡ true
there_behind P a (Alloc r ty) rest k h m i = by (same_name r m) refl
  where
    by : (t : Bool) → same_name r m ≡ t → is_in (put a.scope r (Some (Allocation ty))) m ≡ true
    by true t = in_put a.scope r ty m t
    by false t = kept_in a (Alloc r ty) rest m k (h m (sym (put-other P r true m t) ∙ i))
there_behind P a (Value x pick at) rest k h m i = kept_in a (Value x pick at) rest m k (h m i)
there_behind P a (Load x y at t) rest k h m i = kept_in a (Load x y at t) rest m k (h m i)
there_behind P a (Store x y at t) rest k h m i = h m i
there_behind P a (RawLoad x y at t) rest k h m i = kept_in a (RawLoad x y at t) rest m k (h m i)
there_behind P a (RawStore x y at t) rest k h m i = h m i
there_behind P a (Constant x z t) rest k h m i = kept_in a (Constant x z t) rest m k (h m i)
there_behind P a (Binary x op y z t) rest k h m i = kept_in a (Binary x op y z t) rest m k (h m i)
there_behind P a (Cast x kind y from to) rest k h m i = kept_in a (Cast x kind y from to) rest m k (h m i)
there_behind P a (Dealloc y t) rest k h m i = h m i
there_behind P a (Start x xa y ya t ta n stride types) rest k h m i = h m i
there_behind P a (Wait t at n x) rest k h m i = h m i
there_behind P a Return rest k h m i = h m i

gives_behind : (P : Name → Bool) (a : Around) (line : ℕ) (p : Plain) (rest : Nest) → Holds (counted a) p rest → Gives P a.scope (Does line p rest) → Gives (taken_by p P) (behind_plain p (counted a)).scope rest
unfolding deallocs
gives_behind P a line p rest k h = record {
  mine = λ m i none. by m none (before a p m i);
  there = there_behind P a p rest k h.there;
}
  where
    by : (m : Name) → taken_by p P m ≡ false → Before a p m → deallocs m rest ≡ 0
    by m none (was j) = let c = h.mine m j (was_not P p m none) in omega (arith, c)
    by m none (is_made ty r) = absurd (both (put P m true m) (put-same P m true m (same_name-refl m)) (sym (ap (λ p. taken_by p P m) r) ∙ none))

-- a dealloc is one of what the region has allocated
taken : (P : Name → Bool) (a : Around) (line : ℕ) (m : Name) (ty : MemrefType) (rest : Nest) → Holds (counted a) (Dealloc m ty) rest → Gives P a.scope (Does line (Dealloc m ty) rest) → P m ≡ true
unfolding deallocs
taken P a line m ty rest k h = by (P m) refl
  where
    one_if : Bool → ℕ
    one_if t = if t then 1 else 0

    by : (t : Bool) → P m ≡ t → P m ≡ true
    by true t = t
    by false t =
        let i = (and_parts (is_allocated a.scope m) (is_live (counted a) m) k.spaces).0 in
        let c : one_if (same_name m m) + deallocs m rest ≡ 0 = h.mine m i t in
        let d : one_if (same_name m m) ≡ 1 = ap one_if (same_name-refl m) in
        absurd (let z : ⊥ = omega (arith, c, d) in z)

untaken : (P : Name → Bool) (a : Around) (r : Name) (ty : MemrefType) (rest : Nest) → Holds (counted a) (Alloc r ty) rest → ((m : Name) → P m ≡ true → is_in a.scope m ≡ true) → P r ≡ false
untaken P a r ty rest k h = by (P r) refl
  where
    new : (b : Bool) → not b ≡ true → b ≡ true → ⊥
    new true p q = let z : ⊥ = cc in z
    new false p q = let z : ⊥ = cc in z

    by : (t : Bool) → P r ≡ t → P r ≡ false
    by true t = absurd (new (is_in a.scope r) k.new_name (h r t))
    by false t = t

-- the live bytes and what the region owes: a statement keeps their sum
step : (P : Name → Bool) (a : Around) (line : ℕ) (p : Plain) (rest : Nest) (t : Totals) → Holds (counted a) p rest → told rest (behind_plain p (counted a)) ≡ Passed t
    → Gives P a.scope (Does line p rest) → (l : ℕ) → plain_live p (l + (owed_by P p + owed P rest)) ≡ l + owed (taken_by p P) rest
step P a line (Alloc r ty) rest t k q h l =
    let e = owed_more P r ty (untaken P a r ty rest k h.there) rest (behind_plain (Alloc r ty) (counted a)) t (put-same a.scope r (Some (Allocation ty)) r (same_name-refl r)) q in
    let o : own_deallocs r rest * fast_bytes ty ≡ 1 * fast_bytes ty = ap (λ k. k * fast_bytes ty) (once a r ty rest k).1 in
    omega (arith, e, o)
step P a line (Dealloc m ty) rest t k q h l =
    let bytes_if : Bool → ℕ = λ t. if t then fast_bytes ty else 0 in
    let o : bytes_if (P m) ≡ fast_bytes ty = ap bytes_if (taken P a line m ty rest k h) in
    ap (λ n. (l + (n + owed P rest)) - fast_bytes ty) o ∙ omega arith
step P a line (Value x pick at) rest t k q h l = omega arith
step P a line (Load x y at ty) rest t k q h l = omega arith
step P a line (Store x y at ty) rest t k q h l = omega arith
step P a line (RawLoad x y at ty) rest t k q h l = omega arith
step P a line (RawStore x y at ty) rest t k q h l = omega arith
step P a line (Constant x z ty) rest t k q h l = omega arith
step P a line (Binary x op y z ty) rest t k q h l = omega arith
step P a line (Cast x kind y from to) rest t k q h l = omega arith
step P a line (Start x xa y ya tag ta n stride types) rest t k q h l = omega arith
step P a line (Wait tag at n x) rest t k q h l = omega arith
step P a line Return rest t k q h l = omega arith

gives_rest : (P : Name → Bool) (s : Scope) (n rest : Nest) → ((m : Name) → deallocs m rest ≤ deallocs m n) → Gives P s n → Gives P s rest
gives_rest P s n rest less h = record { mine = λ m i none. let c = h.mine m i none in let d = less m in omega (arith, c, d); there = h.there }

-- behind a region that has taken so much the bytes are those before it
even_from : (n : Nest) (P : Name → Bool) (a : Around) (t : Totals) → told n a ≡ Passed t → Gives P a.scope n → (l : ℕ) → live_after n (l + owed P n) ≡ l
unfolding told deallocs
even_from Nothing P a t q h l = omega arith
even_from (Loop line x lo u s body rest) P a t q h l =
    let j = judged_passed line (rule_of_loop (counted a) x lo u s) _ t q in
    let p = then_passed (told body (in_loop x lo u (counted a))) (λ t. told rest (with_totals t a)) t j.1 in
    even_from rest P (with_totals p.0 a) t p.2 (gives_rest P a.scope (Loop line x lo u s body rest) rest (λ m. omega arith) h) l
even_from (Branch line set names first has other rest) P a t q h l =
    let j = judged_passed line (rule_of_condition (counted a) set names) _ t q in
    let p = then_passed (told first (in_condition (counted a))) (λ t. then_told (told other (in_condition (with_totals t a))) (λ u. told rest (with_totals u a))) t j.1 in
    let w = then_passed (told other (in_condition (with_totals p.0 a))) (λ u. told rest (with_totals u a)) t p.2 in
    even_from rest P (with_totals w.0 a) t w.2 (gives_rest P a.scope (Branch line set names first has other rest) rest (λ m. omega arith) h) l
even_from (Does line p rest) P a t q h l =
    let j = judged_passed line (rule_of_plain (counted a) p rest) _ t q in
    let k = plain_holds (counted a) p rest j.0 in
    ap (live_after rest) (step P a line p rest t k j.1 h l)
    ∙ even_from rest (taken_by p P) (behind_plain p (counted a)) t j.1 (gives_behind P a line p rest k h) l

-- a region in which nothing from outside is released
even_region : (n : Nest) (a : Around) (t : Totals) → told n a ≡ Passed t → NoneIn a.scope n → IsEven n
even_region n a t q h l =
    let e = owed_none n in
    let z : l + owed no_name n ≡ l = omega (arith, e) in
    sym (ap (live_after n) z) ∙ even_from n no_name a t q (record { mine = λ m i none. h m i; there = λ m i. absurd (let z : ⊥ = cc in z) }) l

none_turn : (s : Scope) (v : Name) (r : _) (n : Nest) → NoneIn s n → NoneIn (put s v (Some (Variable r))) n
none_turn s v r n h m i = h m (put_allocated s v (Some (Variable r)) m refl i)

pub all_even : (n : Nest) (a : Around) (t : Totals) → told n a ≡ Passed t → OwnAll a.scope n → AreEven n
unfolding told
all_even Nothing a t q h = tt
all_even (Loop line x l u s body rest) a t q h =
    let j = judged_passed line (rule_of_loop (counted a) x l u s) _ t q in
    let p = then_passed (told body (in_loop x l u (counted a))) (λ t. told rest (with_totals t a)) t j.1 in
    let o = own_loop line x l u s body rest a.scope h in
    let none = none_turn a.scope x _ body o.0 in (
      even_region body (in_loop x l u (counted a)) p.0 p.1 none,
      all_even body (in_loop x l u (counted a)) p.0 p.1 (none_own (in_loop x l u (counted a)).scope body none),
      all_even rest (with_totals p.0 a) t p.2 o.1,
    )
all_even (Branch line set names first has other rest) a t q h =
    let j = judged_passed line (rule_of_condition (counted a) set names) _ t q in
    let p = then_passed (told first (in_condition (counted a))) (λ t. then_told (told other (in_condition (with_totals t a))) (λ u. told rest (with_totals u a))) t j.1 in
    let w = then_passed (told other (in_condition (with_totals p.0 a))) (λ u. told rest (with_totals u a)) t p.2 in
    let o = own_branch line set names first has other rest a.scope h in (
      even_region first (in_condition (counted a)) p.0 p.1 o.0,
      even_region other (in_condition (with_totals p.0 a)) w.0 w.1 o.1,
      all_even first (in_condition (counted a)) p.0 p.1 (none_own a.scope first o.0),
      all_even other (in_condition (with_totals p.0 a)) w.0 w.1 (none_own a.scope other o.1),
      all_even rest (with_totals w.0 a) t w.2 o.2,
    )
all_even (Does line p rest) a t q h =
    let j = judged_passed line (rule_of_plain (counted a) p rest) _ t q in
    all_even rest (behind_plain p (counted a)) t j.1 (own_plain a line p rest (plain_holds (counted a) p rest j.0) h)
