use Rattle.std.proofs.Common.{◌≡◌, ◌++◌, ◌∷◌, [], OnOk, refl, sym, ap, ◌∙◌, subst, drop, length}
use Rattle.std.proofs.lemmas.List.{drop_all, append-nil}
use Rattle.affine_ast.specs.Nest.{nest}
use Rattle.numbered_names.specs.Numbers.{defined}
use Rattle.number_names.proofs.Listing.{of_one, Value_listed, Load_listed, RawLoad_listed, Constant_listed, Binary_listed, Cast_listed, Alloc_listed, Store_listed, RawStore_listed, Dealloc_listed, Start_listed, Wait_listed, Return_listed, for_listed, if_listed, if_else_listed, listed_step, listed_end}
use Rattle.number_names.proofs.value_names.+listing.Goals as goal

pub add_all-loop-stmt-preserved : goal.add_all-loop-stmt-preserved
add_all-loop-stmt-preserved t c = listed_step c.args.stmts.now c.loop-stmt.stmt-index c.stmt-item.result _ _ _ c.loop-stmt-test.true c.stmt-item.is c.in_ok-add_defined.ensures c.loop-stmt.invariant

pub add_all-returns : goal.add_all-returns
add_all-returns t c = listed_end (drop c.loop-stmt.stmt-index c.args.stmts.now) _ _ (drop_all c.loop-stmt.stmt-index c.args.stmts.now c.loop-stmt-test.false) c.loop-stmt.invariant

pub add_defined-returns-in_ok-add-in-For : goal.add_defined-returns-in_ok-add-in-For
add_defined-returns-in_ok-add-in-For t c = subst (λ l. OnOk c.add_all.result (c.add_all.new.names ≡ l)) (for_listed c.args.what.now _ _ _ _ _ _ c.args.names.now c.add.new.names c.in-For.is c.as_slice.ensures c.in_ok-add-in-For.ensures) c.add_all.ensures

pub add_defined-returns-in-None : goal.add_defined-returns-in-None
add_defined-returns-in-None t c = if_listed c.args.what.now _ _ _ _ _ c.args.names.now _ c.in-If.is c.as_slice-in-If.ensures c.in-None.is c.in_ok-add_all-in-If.ensures

pub add_defined-returns-in-Some : goal.add_defined-returns-in-Some
add_defined-returns-in-Some t c = subst (λ l. OnOk c.add_all-in-Some.result (c.add_all-in-Some.new.names ≡ l)) (if_else_listed c.args.what.now _ _ _ _ _ _ _ c.args.names.now c.add_all-in-If.new.names c.in-If.is c.as_slice-in-If.ensures c.in-Some.is c.as_slice-in-Some.ensures c.in_ok-add_all-in-If.ensures) c.add_all-in-Some.ensures

pub add_defined-returns-in-Value : goal.add_defined-returns-in-Value
add_defined-returns-in-Value t c = subst (λ l. OnOk c.add-in-Value.result (c.add-in-Value.new.names ≡ c.args.names.now ++ l)) (sym (Value_listed c.args.what.now _ _ _ c.in-Value.is)) c.add-in-Value.ensures

pub add_defined-returns-in-Load : goal.add_defined-returns-in-Load
add_defined-returns-in-Load t c = subst (λ l. OnOk c.add-in-Load.result (c.add-in-Load.new.names ≡ c.args.names.now ++ l)) (sym (Load_listed c.args.what.now _ _ _ _ c.in-Load.is)) c.add-in-Load.ensures

pub add_defined-returns-in-RawLoad : goal.add_defined-returns-in-RawLoad
add_defined-returns-in-RawLoad t c = subst (λ l. OnOk c.add-in-RawLoad.result (c.add-in-RawLoad.new.names ≡ c.args.names.now ++ l)) (sym (RawLoad_listed c.args.what.now _ _ _ _ c.in-RawLoad.is)) c.add-in-RawLoad.ensures

pub add_defined-returns-in-Constant : goal.add_defined-returns-in-Constant
add_defined-returns-in-Constant t c = subst (λ l. OnOk c.add-in-Constant.result (c.add-in-Constant.new.names ≡ c.args.names.now ++ l)) (sym (Constant_listed c.args.what.now _ _ _ c.in-Constant.is)) c.add-in-Constant.ensures

pub add_defined-returns-in-Binary : goal.add_defined-returns-in-Binary
add_defined-returns-in-Binary t c = subst (λ l. OnOk c.add-in-Binary.result (c.add-in-Binary.new.names ≡ c.args.names.now ++ l)) (sym (Binary_listed c.args.what.now _ _ _ _ _ c.in-Binary.is)) c.add-in-Binary.ensures

pub add_defined-returns-in-Cast : goal.add_defined-returns-in-Cast
add_defined-returns-in-Cast t c = subst (λ l. OnOk c.add-in-Cast.result (c.add-in-Cast.new.names ≡ c.args.names.now ++ l)) (sym (Cast_listed c.args.what.now _ _ _ _ _ c.in-Cast.is)) c.add-in-Cast.ensures

pub add_defined-returns-in-Alloc : goal.add_defined-returns-in-Alloc
add_defined-returns-in-Alloc t c = subst (λ l. OnOk c.add-in-Alloc.result (c.add-in-Alloc.new.names ≡ c.args.names.now ++ l)) (sym (Alloc_listed c.args.what.now _ _ c.in-Alloc.is)) c.add-in-Alloc.ensures

pub add_defined-returns-in-Store : goal.add_defined-returns-in-Store
add_defined-returns-in-Store t c = sym (ap (λ l. c.args.names.now ++ l) (Store_listed c.args.what.now _ _ _ _ c.in-Store.is) ∙ append-nil c.args.names.now)

pub add_defined-returns-in-RawStore : goal.add_defined-returns-in-RawStore
add_defined-returns-in-RawStore t c = sym (ap (λ l. c.args.names.now ++ l) (RawStore_listed c.args.what.now _ _ _ _ c.in-RawStore.is) ∙ append-nil c.args.names.now)

pub add_defined-returns-in-Dealloc : goal.add_defined-returns-in-Dealloc
add_defined-returns-in-Dealloc t c = sym (ap (λ l. c.args.names.now ++ l) (Dealloc_listed c.args.what.now _ _ c.in-Dealloc.is) ∙ append-nil c.args.names.now)

pub add_defined-returns-in-Start : goal.add_defined-returns-in-Start
add_defined-returns-in-Start t c = sym (ap (λ l. c.args.names.now ++ l) (Start_listed c.args.what.now _ _ _ _ _ _ _ _ _ c.in-Start.is) ∙ append-nil c.args.names.now)

pub add_defined-returns-in-Wait : goal.add_defined-returns-in-Wait
add_defined-returns-in-Wait t c = sym (ap (λ l. c.args.names.now ++ l) (Wait_listed c.args.what.now _ _ _ _ c.in-Wait.is) ∙ append-nil c.args.names.now)

pub add_defined-returns-in-Return : goal.add_defined-returns-in-Return
add_defined-returns-in-Return t c = sym (ap (λ l. c.args.names.now ++ l) (Return_listed c.args.what.now c.in-Return.is) ∙ append-nil c.args.names.now)
