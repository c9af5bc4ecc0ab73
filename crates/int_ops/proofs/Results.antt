-- What an operation and a cast give, from what the code computes.
use Rattle.std.proofs.Common.{◌≡◌, ℕ, ◌-◌, ◌^◌, ◌<◌, ◌≤◌, min, Bool, true, false, Some, None, ℤ, pos, refl, sym, ◌∙◌, ap, subst, arith}
use Rattle.std.specs.Prelude.{if◌then◌else◌, nat_lt}
use Rattle.std.proofs.lemmas.Int.{ints}
use Rattle.std.proofs.lemmas.Bool.{ltb-false}
use Rattle.std.proofs.Math.Pow.{pow_mono}
use Rattle.int_ops.specs.declared.operation.Op.{Op}
use Rattle.int_ops.specs.declared.operation.CastKind.{CastKind}
use Rattle.int_ops.specs.declared.operation.CastKind.TheVariants.{Index, ExtS, ExtU, Trunc}
use Rattle.int_ops.specs.Wrapped.{wrapped, unsigned, IsWidth, InRange, SameModulo, IsReduced}
use Rattle.int_ops.specs.Operation.{exact_value, is_divide_fault, operation}
use Rattle.int_ops.specs.Cast.{CanCast, operand_value, cast_value}
use Rattle.int_ops.proofs.Wraps.{wrapped_range, wrapped_same, wrapped_reduced, wrapped_kept, same_itself, range_grows, unsigned_below, unsigned_same, same_trans, fewer_bits}

-- ---- operations: t is the test for the fault, x the exact value and r the result
pub fault_none : (op : Op) (n : ℕ) (a b : ℤ) (t : Bool) → t ≡ is_divide_fault op n a b → t ≡ true → operation op n a b ≡ None
unfolding operation
fault_none op n a b t e h = let f : is_divide_fault op n a b ≡ true = sym e ∙ h in rw f refl

pub value_some : (op : Op) (n : ℕ) (a b : ℤ) (t : Bool) (x r : ℤ) → t ≡ is_divide_fault op n a b → t ≡ false → x ≡ exact_value op n a b → r ≡ wrapped n x → operation op n a b ≡ Some r
unfolding operation
value_some op n a b t x r e h v w = let f : is_divide_fault op n a b ≡ false = sym e ∙ h in rw f (ap Some (sym (w ∙ ap (wrapped n) v)))

pub value_reduced : (op : Op) (n : ℕ) (a b x r : ℤ) → IsWidth n → x ≡ exact_value op n a b → r ≡ wrapped n x → IsReduced n (exact_value op n a b) r
value_reduced op n a b x r h v w = subst (λ z. IsReduced n (exact_value op n a b) z) (sym (w ∙ ap (wrapped n) v)) (wrapped_reduced n (exact_value op n a b) (omega arith))

-- what an operation gives, where it isn't the fault, is the reduced number of its exact value
pub operation_reduced : (op : Op) (n : ℕ) (a b z : ℤ) → 1 ≤ n → operation op n a b ≡ Some z → IsReduced n (exact_value op n a b) z
unfolding operation
operation_reduced op n a b z h e = either (is_divide_fault op n a b) e
  where
    either : (t : Bool) → (if t then None else Some (wrapped n (exact_value op n a b))) ≡ Some z → IsReduced n (exact_value op n a b) z
    either true g = absurd (let x : ⊥ = cc in x)
    either false g = let s : wrapped n (exact_value op n a b) ≡ z = cc in subst (λ y. IsReduced n (exact_value op n a b) y) s (wrapped_reduced n (exact_value op n a b) h)

pub operation_inside : (op : Op) (n : ℕ) (a b z : ℤ) → 1 ≤ n → operation op n a b ≡ Some z → InRange n z
operation_inside op n a b z h e = (operation_reduced op n a b z h e).inside

-- ---- casts
-- the unsigned value of fewer bits is a number of the signed range of more
extended : (from to : ℕ) (a : ℤ) → from < to → InRange to (pos (unsigned from a))
extended from to a h =
    let u = unsigned_below from a in
    let p : 2 ^ from ≤ 2 ^ (to - 1) = (let b : from ≤ to - 1 = omega arith in pow_mono b) in
    record { least = omega (arith, ints); most = omega (arith, ints) }

-- a cast is what its operand's value is in the target's signed range: where it widens, that value itself
pub cast_wrapped : (kind : CastKind) (from to : ℕ) (a : ℤ) → IsWidth to → CanCast kind from to → InRange from a → wrapped to (operand_value kind from a) ≡ cast_value kind from to a
unfolding cast_value
cast_wrapped Index from to a w k h = either (nat_lt to from) refl
  where
    either : (t : Bool) → nat_lt to from ≡ t → wrapped to a ≡ (if t then wrapped to a else a)
    either true n = refl
    either false n = wrapped_kept to a (omega arith) (range_grows from to a (ltb-false to from n) h)
cast_wrapped ExtS from to a w k h = wrapped_kept to a (omega arith) (range_grows from to a (omega arith) h)
cast_wrapped ExtU from to a w k h = wrapped_kept to (pos (unsigned from a)) (omega arith) (extended from to a k)
cast_wrapped Trunc from to a w k h = refl

-- x is the operand's value, and r what the code makes of it
pub cast_is : (kind : CastKind) (from to : ℕ) (a x r : ℤ) → IsWidth to → CanCast kind from to → InRange from a → x ≡ operand_value kind from a → r ≡ wrapped to x → r ≡ cast_value kind from to a
cast_is kind from to a x r w k h e f = f ∙ ap (wrapped to) e ∙ cast_wrapped kind from to a w k h

pub cast_inside : (to : ℕ) (x r : ℤ) → IsWidth to → r ≡ wrapped to x → InRange to r
cast_inside to x r w f = rw f (wrapped_range to x (omega arith))

pub cast_value_inside : (kind : CastKind) (from to : ℕ) (a : ℤ) → IsWidth to → CanCast kind from to → InRange from a → InRange to (cast_value kind from to a)
cast_value_inside kind from to a w k h = subst (λ z. InRange to z) (cast_wrapped kind from to a w k h) (wrapped_range to (operand_value kind from a) (omega arith))

-- the value that a cast reads is equal to the number modulo 2 ^ from
operand_same : (kind : CastKind) (from : ℕ) (a : ℤ) → SameModulo from (operand_value kind from a) a
operand_same Index from a = same_itself from a
operand_same ExtS from a = same_itself from a
operand_same ExtU from a = unsigned_same from a
operand_same Trunc from a = same_itself from a

pub cast_same : (kind : CastKind) (from to : ℕ) (a x r : ℤ) → x ≡ operand_value kind from a → r ≡ wrapped to x → SameModulo (min from to) r a
cast_same kind from to a x r e f =
    let read = subst (λ z. SameModulo from z a) (sym e) (operand_same kind from a) in
    let made = subst (λ z. SameModulo to z x) (sym f) (wrapped_same to x) in
    same_trans (min from to) r x a (fewer_bits (min from to) to r x (omega arith) made) (fewer_bits (min from to) from x a (omega arith) read)
