use Rattle.std.proofs.Common.{rules, ◌∙◌, ap, subst, refl, w64, SFits}
use Rattle.std.proofs.lemmas.Int.{to_z-of_z}
use Rattle.affine_ast.specs.Nest.{Value, Load, RawLoad, Constant, Binary, Cast, Store, RawStore, Alloc, Dealloc, Start, Wait, Return, plain_of}
use Rattle.affine_ast.proofs.Nests.{plain-Value, plain-Load, plain-Store, plain-RawLoad, plain-RawStore, plain-Constant, plain-Binary, plain-Cast, plain-Alloc, plain-Dealloc, plain-Start, plain-Wait, plain-Return, plain-For, plain-If}
use Rattle.module_work.specs.Workable.{WorkablePlain}
use Rattle.box_covers.specs.Traced.{with_constant}
use Rattle.box_covers.specs.Told.{traced_of, Tells}
use Rattle.box_covers.proofs.Passing.{passed_as, passed_none}
use Rattle.box_covers.proofs.along.pass_plain.Goals as goal

pub take_value-requires : goal.take_value-requires
take_value-requires c = (c.requires.0, subst (WorkablePlain c.requires.0) (ap plain_of c.in-Value.is ∙ plain-Value c.in-Value.result c.in-Value.pick c.in-Value.at) c.requires.1)

pub returns-in-Constant : goal.returns-in-Constant
returns-in-Constant c =
    let f : SFits w64 c.in-Constant.value = search rules in
    passed_as c.args.what.now (Constant c.in-Constant.result c.in-Constant.value c.in-Constant.ty) (traced_of c.args.known.now) c.take_constant.new.known c.take_constant.result
    (ap plain_of c.in-Constant.is ∙ plain-Constant c.in-Constant.result c.in-Constant.value c.in-Constant.ty)
    (subst (λ z. Tells (with_constant c.in-Constant.result z c.in-Constant.ty (traced_of c.args.known.now)) (λ done. traced_of c.take_constant.new.known) c.take_constant.result) (to_z-of_z w64 c.in-Constant.value f) c.take_constant.ensures)

pub returns-in-Value : goal.returns-in-Value
returns-in-Value c =
    passed_as c.args.what.now (Value c.in-Value.result c.in-Value.pick c.in-Value.at) (traced_of c.args.known.now) c.take_value.new.known c.take_value.result
    (ap plain_of c.in-Value.is ∙ plain-Value c.in-Value.result c.in-Value.pick c.in-Value.at) c.take_value.ensures

pub returns-in-Load : goal.returns-in-Load
returns-in-Load c =
    passed_as c.args.what.now (Load c.in-Load.result c.in-Load.memref c.in-Load.at c.in-Load.ty) (traced_of c.args.known.now) c.take_form.new.known c.take_form.result
    (ap plain_of c.in-Load.is ∙ plain-Load c.in-Load.result c.in-Load.memref c.in-Load.at c.in-Load.ty) c.take_form.ensures

pub returns-in-RawLoad : goal.returns-in-RawLoad
returns-in-RawLoad c =
    passed_as c.args.what.now (RawLoad c.in-RawLoad.result c.in-RawLoad.memref c.in-RawLoad.at c.in-RawLoad.ty) (traced_of c.args.known.now) c.take_form-in-RawLoad.new.known c.take_form-in-RawLoad.result
    (ap plain_of c.in-RawLoad.is ∙ plain-RawLoad c.in-RawLoad.result c.in-RawLoad.memref c.in-RawLoad.at c.in-RawLoad.ty) c.take_form-in-RawLoad.ensures

pub returns-in-Binary : goal.returns-in-Binary
returns-in-Binary c =
    passed_as c.args.what.now (Binary c.in-Binary.result c.in-Binary.op c.in-Binary.left c.in-Binary.right c.in-Binary.ty) (traced_of c.args.known.now) c.take_form-in-Binary.new.known c.take_form-in-Binary.result
    (ap plain_of c.in-Binary.is ∙ plain-Binary c.in-Binary.result c.in-Binary.op c.in-Binary.left c.in-Binary.right c.in-Binary.ty) c.take_form-in-Binary.ensures

pub returns-in-Cast : goal.returns-in-Cast
returns-in-Cast c =
    passed_as c.args.what.now (Cast c.in-Cast.result c.in-Cast.kind c.in-Cast.value c.in-Cast.from c.in-Cast.to) (traced_of c.args.known.now) c.take_form-in-Cast.new.known c.take_form-in-Cast.result
    (ap plain_of c.in-Cast.is ∙ plain-Cast c.in-Cast.result c.in-Cast.kind c.in-Cast.value c.in-Cast.from c.in-Cast.to) c.take_form-in-Cast.ensures

pub returns-in-Store : goal.returns-in-Store
returns-in-Store c = passed_none c.args.what.now (Store c.in-Store.value c.in-Store.memref c.in-Store.at c.in-Store.ty) (traced_of c.args.known.now) (ap plain_of c.in-Store.is ∙ plain-Store c.in-Store.value c.in-Store.memref c.in-Store.at c.in-Store.ty) refl

pub returns-in-RawStore : goal.returns-in-RawStore
returns-in-RawStore c = passed_none c.args.what.now (RawStore c.in-RawStore.value c.in-RawStore.memref c.in-RawStore.at c.in-RawStore.ty) (traced_of c.args.known.now) (ap plain_of c.in-RawStore.is ∙ plain-RawStore c.in-RawStore.value c.in-RawStore.memref c.in-RawStore.at c.in-RawStore.ty) refl

pub returns-in-Alloc : goal.returns-in-Alloc
returns-in-Alloc c = passed_none c.args.what.now (Alloc c.in-Alloc.result c.in-Alloc.ty) (traced_of c.args.known.now) (ap plain_of c.in-Alloc.is ∙ plain-Alloc c.in-Alloc.result c.in-Alloc.ty) refl

pub returns-in-Dealloc : goal.returns-in-Dealloc
returns-in-Dealloc c = passed_none c.args.what.now (Dealloc c.in-Dealloc.memref c.in-Dealloc.ty) (traced_of c.args.known.now) (ap plain_of c.in-Dealloc.is ∙ plain-Dealloc c.in-Dealloc.memref c.in-Dealloc.ty) refl

pub returns-in-Start : goal.returns-in-Start
returns-in-Start c = passed_none c.args.what.now (Start c.in-Start.from c.in-Start.from_at c.in-Start.to c.in-Start.to_at c.in-Start.tag c.in-Start.tag_at c.in-Start.count c.in-Start.stride c.in-Start.types) (traced_of c.args.known.now) (ap plain_of c.in-Start.is ∙ plain-Start c.in-Start.from c.in-Start.from_at c.in-Start.to c.in-Start.to_at c.in-Start.tag c.in-Start.tag_at c.in-Start.count c.in-Start.stride c.in-Start.types) refl

pub returns-in-Wait : goal.returns-in-Wait
returns-in-Wait c = passed_none c.args.what.now (Wait c.in-Wait.tag c.in-Wait.tag_at c.in-Wait.count c.in-Wait.ty) (traced_of c.args.known.now) (ap plain_of c.in-Wait.is ∙ plain-Wait c.in-Wait.tag c.in-Wait.tag_at c.in-Wait.count c.in-Wait.ty) refl

pub returns-in-Return : goal.returns-in-Return
returns-in-Return c = passed_none c.args.what.now Return (traced_of c.args.known.now) (ap plain_of c.in-Return.is ∙ plain-Return) refl

pub returns-in-For : goal.returns-in-For
returns-in-For c = passed_none c.args.what.now Return (traced_of c.args.known.now) (ap plain_of c.in-For.is ∙ plain-For c.in-For.var c.in-For.lower c.in-For.upper c.in-For.step c.in-For.body) refl

pub returns-in-If : goal.returns-in-If
returns-in-If c = passed_none c.args.what.now Return (traced_of c.args.known.now) (ap plain_of c.in-If.is ∙ plain-If c.in-If.set c.in-If.operands c.in-If.first c.in-If.other) refl
