use Rattle.std.proofs.Common.{rules, w64, ◌≡◌, ◌≢◌, true, false, map, refl, sym, ap, ◌∙◌}
use Rattle.std.proofs.lemmas.Int.{to_z-of_z}
use Rattle.std.proofs.lemmas.Result.{IfOk-weaker}
use Rattle.affine_ast.specs.declared.stmt.What as what
use Rattle.affine_ast.specs.Nest.{is_region}
use Rattle.affine_ast.proofs.Nests.{region-For, region-If}
use Rattle.number_names.specs.Renaming.{new_name}
use Rattle.number_names.proofs.Renamings.{Value_renamed, Load_renamed, Store_renamed, RawLoad_renamed, RawStore_renamed, Constant_renamed, Binary_renamed, Cast_renamed, Alloc_renamed, Dealloc_renamed, Start_renamed, Wait_renamed, Return_renamed}
use Rattle.number_names.proofs.renamed.renamed_plain.Goals as goal

no_bool : true ≢ false
no_bool e = cc

pub returns-in-Value : goal.returns-in-Value
returns-in-Value c = IfOk-weaker c.value.result _ _ (λ made e. Value_renamed (new_name c.args.numbering.now) c.args.what.now made _ _ _ c.in-Value.is e) c.value.ensures

pub returns-in-Load : goal.returns-in-Load
returns-in-Load c = IfOk-weaker c.load.result _ _ (λ made e. Load_renamed (new_name c.args.numbering.now) c.args.what.now made _ _ _ _ c.in-Load.is e) c.load.ensures

pub returns-in-Store : goal.returns-in-Store
returns-in-Store c = IfOk-weaker c.store.result _ _ (λ made e. Store_renamed (new_name c.args.numbering.now) c.args.what.now made _ _ _ _ c.in-Store.is e) c.store.ensures

pub returns-in-RawLoad : goal.returns-in-RawLoad
returns-in-RawLoad c = IfOk-weaker c.raw_load.result _ _ (λ made e. RawLoad_renamed (new_name c.args.numbering.now) c.args.what.now made _ _ _ _ c.in-RawLoad.is (e ∙ ap (λ at. what.RawLoad (new_name c.args.numbering.now c.in-RawLoad.result) (new_name c.args.numbering.now c.in-RawLoad.memref) (map (new_name c.args.numbering.now) at) c.in-RawLoad.ty) c.as_slice.ensures)) c.raw_load.ensures

pub returns-in-RawStore : goal.returns-in-RawStore
returns-in-RawStore c = IfOk-weaker c.raw_store.result _ _ (λ made e. RawStore_renamed (new_name c.args.numbering.now) c.args.what.now made _ _ _ _ c.in-RawStore.is (e ∙ ap (λ at. what.RawStore (new_name c.args.numbering.now c.in-RawStore.value) (new_name c.args.numbering.now c.in-RawStore.memref) (map (new_name c.args.numbering.now) at) c.in-RawStore.ty) c.as_slice-in-RawStore.ensures)) c.raw_store.ensures

pub returns-in-Constant : goal.returns-in-Constant
returns-in-Constant c = IfOk-weaker c.constant.result _ _ (λ made e. Constant_renamed (new_name c.args.numbering.now) c.args.what.now made _ _ _ c.in-Constant.is (e ∙ ap (λ z. what.Constant (new_name c.args.numbering.now c.in-Constant.result) z c.in-Constant.ty) (to_z-of_z w64 c.in-Constant.value (search rules)))) c.constant.ensures

pub returns-in-Binary : goal.returns-in-Binary
returns-in-Binary c = IfOk-weaker c.binary.result _ _ (λ made e. Binary_renamed (new_name c.args.numbering.now) c.args.what.now made _ _ _ _ _ c.in-Binary.is e) c.binary.ensures

pub returns-in-Cast : goal.returns-in-Cast
returns-in-Cast c = IfOk-weaker c.cast.result _ _ (λ made e. Cast_renamed (new_name c.args.numbering.now) c.args.what.now made _ _ _ _ _ c.in-Cast.is e) c.cast.ensures

pub returns-in-Alloc : goal.returns-in-Alloc
returns-in-Alloc c = IfOk-weaker c.allocation.result _ _ (λ made e. Alloc_renamed (new_name c.args.numbering.now) c.args.what.now made _ _ c.in-Alloc.is e) c.allocation.ensures

pub returns-in-Dealloc : goal.returns-in-Dealloc
returns-in-Dealloc c = IfOk-weaker c.dealloc.result _ _ (λ made e. Dealloc_renamed (new_name c.args.numbering.now) c.args.what.now made _ _ c.in-Dealloc.is e) c.dealloc.ensures

pub returns-in-Start : goal.returns-in-Start
returns-in-Start c = IfOk-weaker c.start.result _ _ (λ made e. Start_renamed (new_name c.args.numbering.now) c.args.what.now made _ _ _ _ _ _ _ _ _ c.in-Start.is e) c.start.ensures

pub returns-in-Wait : goal.returns-in-Wait
returns-in-Wait c = IfOk-weaker c.wait.result _ _ (λ made e. Wait_renamed (new_name c.args.numbering.now) c.args.what.now made _ _ _ _ c.in-Wait.is e) c.wait.ensures

pub returns-in-Return : goal.returns-in-Return
returns-in-Return c = Return_renamed (new_name c.args.numbering.now) c.args.what.now what.Return c.in-Return.is refl

pub returns-in-For : goal.returns-in-For
returns-in-For c = absurd (no_bool (sym (ap is_region c.in-For.is ∙ region-For _ _ _ _ _) ∙ c.requires.plain))

pub returns-in-If : goal.returns-in-If
returns-in-If c = absurd (no_bool (sym (ap is_region c.in-If.is ∙ region-If _ _ _ _) ∙ c.requires.plain))
