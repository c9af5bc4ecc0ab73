-- Products of sizes, and numbers taken into the range of an element.
use Rattle.std.proofs.Common.{◌≡◌, ℕ, suc, ◌+◌, ◌*◌, ◌<◌, ℤ, List, ◌∷◌, length, drop, drop-cons, get_or, refl, sym, ap, ◌∙◌, arith}
use Rattle.affine_ast.specs.declared.types.Element.{Element}
use Rattle.affine_ast.specs.declared.types.Element.TheVariants.{I8, I16, I32, I64}
use Rattle.affine_ast.specs.Sizes.{element_bits, product}
use Rattle.int_ops.specs.declared.operation.CastKind.TheVariants.{Index}
use Rattle.int_ops.specs.Cast.{cast_value}
use Rattle.int_ops.specs.Wrapped.{InRange, wrapped}
use Rattle.int_ops.proofs.Wraps.{wrapped_kept}

pub wraps : (element : Element) (z : ℤ) → InRange 64 z → cast_value Index 64 (element_bits element) z ≡ wrapped (element_bits element) z
unfolding cast_value
wraps I8 z h = refl
wraps I16 z h = refl
wraps I32 z h = refl
wraps I64 z h = sym (wrapped_kept 64 z (omega arith) h)

-- one size more in a product
pub sizes_more : (ns : List ℕ) (k c d : ℕ) → k < length ns → d ≡ c * get_or ns k 0 → c * product (drop k ns) ≡ product ns → d * product (drop (k + 1) ns) ≡ product ns
sizes_more ns k c d h e f =
    let next : suc k ≡ k + 1 = omega arith in
    let split : product (drop k ns) ≡ get_or ns k 0 * product (drop (k + 1) ns) = ap product (drop-cons ns k 0 h ∙ ap (λ j. get_or ns k 0 ∷ drop j ns) next) in
    let times : (c * get_or ns k 0) * product (drop (k + 1) ns) ≡ c * (get_or ns k 0 * product (drop (k + 1) ns)) = grind arith in
    ap (λ x. x * product (drop (k + 1) ns)) e ∙ times ∙ ap (λ x. c * x) (sym split) ∙ f
