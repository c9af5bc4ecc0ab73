use Rattle.std.proofs.Common.{rules, arith, ◌≡◌, ◌-ℤ◌, sym, ap, ◌∙◌, subst, w64, SFits, to_z, of_z}
use Rattle.std.proofs.lemmas.Int.{ints, to_z-of_z}
use Rattle.affine_expr.specs.declared.expr.Expr.{Const}
use Rattle.valid_laws.specs.Safe.{IsSmall}
use Rattle.placement_code.proofs.Lessened.{less_const, less_other, small_const}
use Rattle.placement_code.proofs.redirects.less.Goals as goal

pub lowered-requires-clause-number : goal.lowered-requires-clause-number
lowered-requires-clause-number c =
    let f : SFits w64 c.in-Const.number = search rules in
    subst IsSmall (sym (to_z-of_z w64 c.in-Const.number f)) (small_const c.args.expr.now c.in-Const.number c.in-Const.is c.requires.constant)

pub returns-in-Const : goal.returns-in-Const
returns-in-Const c =
    let f : SFits w64 c.in-Const.number = search rules in
    let r : SFits w64 c.lowered.result = search rules in
    let p : SFits w64 c.args.place = search rules in
    let e : to_z w64 (of_z w64 c.lowered.result) ≡ c.in-Const.number -ℤ c.args.place = omega (arith, ints, c.lowered.ensures) in
    ap Const e ∙ sym (less_const c.args.expr.now c.in-Const.number c.args.place c.in-Const.is)

pub returns-then-place-eq0 : goal.returns-then-place-eq0
returns-then-place-eq0 c =
    let o = less_other c.args.expr.now c.args.place c.in_default.not-Const in
    grind (arith, ints, o, c.in_ok-copied-in_default.ensures)

pub returns-else-place-eq0 : goal.returns-else-place-eq0
returns-else-place-eq0 c =
    let o = less_other c.args.expr.now c.args.place c.in_default.not-Const in
    grind (arith, ints, o, c.in_ok-copied-in_default.ensures, c.taken.ensures)
