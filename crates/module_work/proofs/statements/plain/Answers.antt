use Rattle.std.proofs.Common.{◌∙◌, ◌+◌, ap, subst, refl, rules, w64, SFits}
use Rattle.std.proofs.lemmas.Int.{to_z-of_z}
use Rattle.affine_ast.specs.Names.{put}
use Rattle.affine_expr.specs.Spread.{Range}
use Rattle.affine_ast.specs.Nest.{plain_of}
use Rattle.affine_ast.proofs.Nests.{plain-Value, plain-Load, plain-Store, plain-RawLoad, plain-RawStore, plain-Constant, plain-Binary, plain-Cast, plain-Alloc, plain-Dealloc, plain-Start, plain-Wait, plain-Return, plain-For, plain-If}
use Rattle.direct_meaning.specs.Turns.{gap}
use Rattle.module_work.specs.Steps.{range_of_constant}
use Rattle.module_work.specs.Table.{ranges_of}
use Rattle.module_work.specs.Workable.{WorkablePlain}
use Rattle.module_work.proofs.Works.{does_as, constant_after}
use Rattle.module_work.proofs.statements.plain.Goals as goal

pub picked-requires : goal.picked-requires
picked-requires c = subst (WorkablePlain (ranges_of c.args.ranges.now.entries)) (ap plain_of c.in-Value.is ∙ plain-Value c.in-Value.result c.in-Value.pick c.in-Value.at) c.requires.workable

pub returns-in_ok-define-in-Value-clause-does : goal.returns-in_ok-define-in-Value-clause-does
returns-in_ok-define-in-Value-clause-does c = does_as _ _ _ _ _ (ap plain_of c.in-Value.is ∙ plain-Value c.in-Value.result c.in-Value.pick c.in-Value.at) (record { work_is = refl; ranges_are = c.in_ok-define-in-Value.ensures.ranges ∙ ap (put (ranges_of c.args.ranges.now.entries) c.in-Value.result) c.in_ok-interval-in-Value.ensures })

pub returns-in_ok-define-in-Constant-clause-does : goal.returns-in_ok-define-in-Constant-clause-does
returns-in_ok-define-in-Constant-clause-does c = does_as _ _ _ _ _ (ap plain_of c.in-Constant.is ∙ plain-Constant c.in-Constant.result c.in-Constant.value c.in-Constant.ty) (record { work_is = refl; ranges_are = c.in_ok-define-in-Constant.ensures.ranges ∙ ap (put (ranges_of c.args.ranges.now.entries) c.in-Constant.result) (c.constant.ensures ∙ ap (λ z. range_of_constant z c.in-Constant.ty) (to_z-of_z w64 c.in-Constant.value (let f : SFits w64 c.in-Constant.value = search rules in f))) ∙ constant_after c.in-Constant.result c.in-Constant.value c.in-Constant.ty (ranges_of c.args.ranges.now.entries) })

pub returns-in_ok-define-in-Load-clause-does : goal.returns-in_ok-define-in-Load-clause-does
returns-in_ok-define-in-Load-clause-does c = does_as _ _ _ _ _ (ap plain_of c.in-Load.is ∙ plain-Load c.in-Load.result c.in-Load.memref c.in-Load.at c.in-Load.ty) (record { work_is = refl; ranges_are = c.in_ok-define-in-Load.ensures.ranges ∙ ap (put (ranges_of c.args.ranges.now.entries) c.in-Load.result) c.only.ensures })

pub returns-in_ok-define-in-RawLoad-clause-does : goal.returns-in_ok-define-in-RawLoad-clause-does
returns-in_ok-define-in-RawLoad-clause-does c = does_as _ _ _ _ _ (ap plain_of c.in-RawLoad.is ∙ plain-RawLoad c.in-RawLoad.result c.in-RawLoad.memref c.in-RawLoad.at c.in-RawLoad.ty) (record { work_is = refl; ranges_are = c.in_ok-define-in-RawLoad.ensures.ranges ∙ ap (put (ranges_of c.args.ranges.now.entries) c.in-RawLoad.result) c.only-in-RawLoad.ensures })

pub returns-in_ok-define-in-Binary-clause-does : goal.returns-in_ok-define-in-Binary-clause-does
returns-in_ok-define-in-Binary-clause-does c = does_as _ _ _ _ _ (ap plain_of c.in-Binary.is ∙ plain-Binary c.in-Binary.result c.in-Binary.op c.in-Binary.left c.in-Binary.right c.in-Binary.ty) (record { work_is = refl; ranges_are = c.in_ok-define-in-Binary.ensures.ranges ∙ ap (put (ranges_of c.args.ranges.now.entries) c.in-Binary.result) c.only-in-Binary.ensures })

pub returns-in_ok-define-in-Cast-clause-does : goal.returns-in_ok-define-in-Cast-clause-does
returns-in_ok-define-in-Cast-clause-does c = does_as _ _ _ _ _ (ap plain_of c.in-Cast.is ∙ plain-Cast c.in-Cast.result c.in-Cast.kind c.in-Cast.value c.in-Cast.from c.in-Cast.to) (record { work_is = refl; ranges_are = c.in_ok-define-in-Cast.ensures.ranges ∙ ap (put (ranges_of c.args.ranges.now.entries) c.in-Cast.result) c.only-in-Cast.ensures })

pub returns-in-Store-clause-does : goal.returns-in-Store-clause-does
returns-in-Store-clause-does c = does_as _ _ _ _ _ (ap plain_of c.in-Store.is ∙ plain-Store c.in-Store.value c.in-Store.memref c.in-Store.at c.in-Store.ty) (record { work_is = refl; ranges_are = refl })

pub returns-in-RawStore-clause-does : goal.returns-in-RawStore-clause-does
returns-in-RawStore-clause-does c = does_as _ _ _ _ _ (ap plain_of c.in-RawStore.is ∙ plain-RawStore c.in-RawStore.value c.in-RawStore.memref c.in-RawStore.at c.in-RawStore.ty) (record { work_is = refl; ranges_are = refl })

pub returns-in-Alloc-clause-does : goal.returns-in-Alloc-clause-does
returns-in-Alloc-clause-does c = does_as _ _ _ _ _ (ap plain_of c.in-Alloc.is ∙ plain-Alloc c.in-Alloc.result c.in-Alloc.ty) (record { work_is = refl; ranges_are = refl })

pub returns-in-Dealloc-clause-does : goal.returns-in-Dealloc-clause-does
returns-in-Dealloc-clause-does c = does_as _ _ _ _ _ (ap plain_of c.in-Dealloc.is ∙ plain-Dealloc c.in-Dealloc.memref c.in-Dealloc.ty) (record { work_is = refl; ranges_are = refl })

pub returns-in-Wait-clause-does : goal.returns-in-Wait-clause-does
returns-in-Wait-clause-does c = does_as _ _ _ _ _ (ap plain_of c.in-Wait.is ∙ plain-Wait c.in-Wait.tag c.in-Wait.tag_at c.in-Wait.count c.in-Wait.ty) (record { work_is = refl; ranges_are = refl })

pub returns-in-Return-clause-does : goal.returns-in-Return-clause-does
returns-in-Return-clause-does c = does_as _ _ _ _ _ (ap plain_of c.in-Return.is ∙ plain-Return) (record { work_is = refl; ranges_are = refl })

pub returns-in-For-clause-does : goal.returns-in-For-clause-does
returns-in-For-clause-does c = does_as _ _ _ _ _ (ap plain_of c.in-For.is ∙ plain-For c.in-For.var c.in-For.lower c.in-For.upper c.in-For.step c.in-For.body) (record { work_is = refl; ranges_are = refl })

pub returns-in-If-clause-does : goal.returns-in-If-clause-does
returns-in-If-clause-does c = does_as _ _ _ _ _ (ap plain_of c.in-If.is ∙ plain-If c.in-If.set c.in-If.operands c.in-If.first c.in-If.other) (record { work_is = refl; ranges_are = refl })

pub returns-in-Start-clause-does : goal.returns-in-Start-clause-does
returns-in-Start-clause-does c = does_as _ _ _ _ _ (ap plain_of c.in-Start.is ∙ plain-Start c.in-Start.from c.in-Start.from_at c.in-Start.to c.in-Start.to_at c.in-Start.tag c.in-Start.tag_at c.in-Start.count c.in-Start.stride c.in-Start.types) (record { work_is = c.start_work.ensures ∙ ap (λ z. gap z + 3) (to_z-of_z w64 c.range_of.result.greatest (let f : SFits w64 c.range_of.result.greatest = search rules in f)) ∙ ap (λ (r : Range). gap r.greatest + 3) c.range_of.ensures; ranges_are = refl })
