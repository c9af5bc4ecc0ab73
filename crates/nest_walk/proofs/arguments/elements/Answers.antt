use Rattle.std.proofs.Common.{◌≡◌, ℕ, ◌+◌, ◌*◌, ◌<◌, List, ◌∷◌, length, drop, drop-cons, get_or, suc, sym, ap, ◌∙◌, arith}
use Rattle.affine_ast.specs.Sizes.{product}
use Rattle.nest_walk.proofs.arguments.elements.Goals as goal

more : (ns : List ℕ) (k c d : ℕ) → k < length ns → d ≡ c * get_or ns k 0 → c * product (drop k ns) ≡ product ns → d * product (drop (k + 1) ns) ≡ product ns
more ns k c d h e f =
    let next : suc k ≡ k + 1 = omega arith in
    let split : product (drop k ns) ≡ get_or ns k 0 * product (drop (k + 1) ns) = ap product (drop-cons ns k 0 h ∙ ap (λ j. get_or ns k 0 ∷ drop j ns) next) in
    let times : (c * get_or ns k 0) * product (drop (k + 1) ns) ≡ c * (get_or ns k 0 * product (drop (k + 1) ns)) = grind arith in
    ap (λ x. x * product (drop (k + 1) ns)) e ∙ times ∙ ap (λ x. c * x) (sym split) ∙ f

pub loop-size-preserved : goal.loop-size-preserved
loop-size-preserved c = more c.args.sizes.now c.loop-size.size-index c.loop-size.count c.in_ok-count.count (omega arith) c.in_ok-count.ensures.1 c.loop-size.invariant
