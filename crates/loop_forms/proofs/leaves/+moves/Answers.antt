use Rattle.std.proofs.Common.{IfOk, ◌≡◌, refl, subst}
use Rattle.loop_forms.proofs.Behind.{moved-Dim, moved-Sym, moved-Const, moved-Neg, moved-Add, moved-Sub, moved-Mul, moved-FloorDiv, moved-CeilDiv, moved-Mod}
use Rattle.loop_forms.proofs.leaves.+moves.Goals as goal

pub behind-returns-in_ok-leaf_behind-in-Dim : goal.behind-returns-in_ok-leaf_behind-in-Dim
behind-returns-in_ok-leaf_behind-in-Dim t c = moved-Dim c.args.dims c.args.syms c.args.expr.now _ _ c.in-Dim.is c.in_ok-leaf_behind-in-Dim.ensures

pub behind-returns-in_ok-leaf_behind-in-Sym : goal.behind-returns-in_ok-leaf_behind-in-Sym
behind-returns-in_ok-leaf_behind-in-Sym t c = moved-Sym c.args.dims c.args.syms c.args.expr.now _ _ c.in-Sym.is c.in_ok-leaf_behind-in-Sym.ensures

pub behind-returns-in_ok-part_behind-in-Neg : goal.behind-returns-in_ok-part_behind-in-Neg
behind-returns-in_ok-part_behind-in-Neg t c = moved-Neg c.args.dims c.args.syms c.args.expr.now _ _ _ c.in-Neg.is c.get.ensures c.in_ok-part_behind-in-Neg.ensures

pub behind-returns-in_ok-part_behind-in-Add : goal.behind-returns-in_ok-part_behind-in-Add
behind-returns-in_ok-part_behind-in-Add t c = moved-Add c.args.dims c.args.syms c.args.expr.now _ _ _ _ _ _ c.in-Add.is c.get-in-Add.ensures c.get-in-Add-2.ensures c.in_ok-left-in-Add.ensures c.in_ok-part_behind-in-Add.ensures

pub behind-returns-in_ok-part_behind-in-Sub : goal.behind-returns-in_ok-part_behind-in-Sub
behind-returns-in_ok-part_behind-in-Sub t c = moved-Sub c.args.dims c.args.syms c.args.expr.now _ _ _ _ _ _ c.in-Sub.is c.get-in-Sub.ensures c.get-in-Sub-2.ensures c.in_ok-left-in-Sub.ensures c.in_ok-part_behind-in-Sub.ensures

pub behind-returns-in_ok-part_behind-in-Mul : goal.behind-returns-in_ok-part_behind-in-Mul
behind-returns-in_ok-part_behind-in-Mul t c = moved-Mul c.args.dims c.args.syms c.args.expr.now _ _ _ _ _ _ c.in-Mul.is c.get-in-Mul.ensures c.get-in-Mul-2.ensures c.in_ok-left-in-Mul.ensures c.in_ok-part_behind-in-Mul.ensures

pub behind-returns-in_ok-part_behind-in-FloorDiv : goal.behind-returns-in_ok-part_behind-in-FloorDiv
behind-returns-in_ok-part_behind-in-FloorDiv t c = moved-FloorDiv c.args.dims c.args.syms c.args.expr.now _ _ _ _ _ _ c.in-FloorDiv.is c.get-in-FloorDiv.ensures c.get-in-FloorDiv-2.ensures c.in_ok-left-in-FloorDiv.ensures c.in_ok-part_behind-in-FloorDiv.ensures

pub behind-returns-in_ok-part_behind-in-CeilDiv : goal.behind-returns-in_ok-part_behind-in-CeilDiv
behind-returns-in_ok-part_behind-in-CeilDiv t c = moved-CeilDiv c.args.dims c.args.syms c.args.expr.now _ _ _ _ _ _ c.in-CeilDiv.is c.get-in-CeilDiv.ensures c.get-in-CeilDiv-2.ensures c.in_ok-left-in-CeilDiv.ensures c.in_ok-part_behind-in-CeilDiv.ensures

pub behind-returns-in_ok-part_behind-in-Mod : goal.behind-returns-in_ok-part_behind-in-Mod
behind-returns-in_ok-part_behind-in-Mod t c = moved-Mod c.args.dims c.args.syms c.args.expr.now _ _ _ _ _ _ c.in-Mod.is c.get-in-Mod.ensures c.get-in-Mod-2.ensures c.in_ok-left-in-Mod.ensures c.in_ok-part_behind-in-Mod.ensures

pub behind-returns-in-Const : goal.behind-returns-in-Const
behind-returns-in-Const t c =
    subst (λ e. IfOk c.copy.result (λ moved. moved ≡ e)) (moved-Const c.args.dims c.args.syms c.args.expr.now c.args.expr.now _ c.in-Const.is refl) c.copy.ensures
