use Rattle.std.proofs.Common.{rules, ◌≡◌, sym, subst}
use Rattle.std.specs.Prelude.{IfOk}
use Rattle.placement_code.specs.Placed.{placement_of}
use Rattle.placement_stage.proofs.Redirections.{store_same, store_other}
use Rattle.placement_stage.proofs.redirect.redirected_store.Goals as goal

pub returns-then-is : goal.returns-then-is
returns-then-is c =
    let e : c.args.placed.now.memref ≡ c.args.memref.now = search rules in
    subst (λ w. IfOk c.store_in_fast.result (λ made. made ≡ w)) (sym (store_same (placement_of c.args.placed.now) c.args.value.now c.args.memref.now c.args.at.now c.args.ty.now e)) c.store_in_fast.ensures

pub returns-else-is : goal.returns-else-is
returns-else-is c =
    let unlike : c.args.placed.now.memref ≡ c.args.memref.now → ⊥ = search rules in
    subst (λ w. IfOk c.store_copied.result (λ made. made ≡ w)) (sym (store_other (placement_of c.args.placed.now) c.args.value.now c.args.memref.now c.args.at.now c.args.ty.now unlike)) c.store_copied.ensures
