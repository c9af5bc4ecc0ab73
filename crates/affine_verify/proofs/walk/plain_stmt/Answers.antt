use Rattle.std.proofs.Common.{◌≡◌, ◌∙◌, ap, sym, refl, subst, true, false, rules, w64, SFits}
use Rattle.std.proofs.lemmas.Int.{to_z-of_z}
use Rattle.affine_ast.specs.Nest.{Plain, Nest}
use Rattle.affine_ast.specs.Nest as plain
use Rattle.affine_verify.specs.Comes.{Plainly}
use Rattle.affine_verify.specs.Deallocs.{once_of}
use Rattle.affine_ast.specs.Nest.{plain_of, is_region}
use Rattle.affine_verify.proofs.PlainlyLaws.{plainly_kept}
use Rattle.affine_ast.proofs.Nests.{region-For, region-If, plain-Value, plain-Load, plain-Store, plain-RawLoad, plain-RawStore, plain-Constant, plain-Binary, plain-Cast, plain-Alloc, plain-Dealloc, plain-Start, plain-Wait, plain-Return}
use Rattle.affine_verify.proofs.walk.plain_stmt.Goals as goal

pub returns-in-Value : goal.returns-in-Value
returns-in-Value c = λ rest e. subst (λ p. Plainly c.value_stmt.result c.args.line p rest c.args.scoped.now c.value_stmt.new.scoped) (sym (ap plain_of c.in-Value.is ∙ plain-Value c.in-Value.result c.in-Value.pick c.in-Value.at)) (c.value_stmt.ensures rest)

pub returns-in-Load : goal.returns-in-Load
returns-in-Load c = λ rest e. subst (λ p. Plainly c.load_stmt.result c.args.line p rest c.args.scoped.now c.load_stmt.new.scoped) (sym (ap plain_of c.in-Load.is ∙ plain-Load c.in-Load.result c.in-Load.memref c.in-Load.at c.in-Load.ty)) (c.load_stmt.ensures rest)

pub returns-in_ok-rule-in-Store : goal.returns-in_ok-rule-in-Store
returns-in_ok-rule-in-Store c = λ rest e.
    subst (λ p. Plainly c.judged.result c.args.line p rest c.args.scoped.now c.args.scoped.now) (sym (ap plain_of c.in-Store.is ∙ plain-Store c.in-Store.value c.in-Store.memref c.in-Store.at c.in-Store.ty))
    (subst (λ r. Plainly r c.args.line (plain.Store c.in-Store.value c.in-Store.memref c.in-Store.at c.in-Store.ty) rest c.args.scoped.now c.args.scoped.now) (sym c.judged.ensures) (plainly_kept c.args.line (plain.Store c.in-Store.value c.in-Store.memref c.in-Store.at c.in-Store.ty) rest c.args.scoped.now c.in_ok-rule-in-Store.rule (c.in_ok-rule-in-Store.ensures rest) refl))

pub returns-in-RawLoad : goal.returns-in-RawLoad
returns-in-RawLoad c = λ rest e. subst (λ p. Plainly c.raw_load_stmt.result c.args.line p rest c.args.scoped.now c.raw_load_stmt.new.scoped) (sym (ap plain_of c.in-RawLoad.is ∙ plain-RawLoad c.in-RawLoad.result c.in-RawLoad.memref c.in-RawLoad.at c.in-RawLoad.ty ∙ ap (λ a. plain.RawLoad c.in-RawLoad.result c.in-RawLoad.memref a c.in-RawLoad.ty) (sym c.as_slice.ensures))) (c.raw_load_stmt.ensures rest)

pub returns-in-RawStore : goal.returns-in-RawStore
returns-in-RawStore c = λ rest e.
    subst (λ p. Plainly c.judged-in-RawStore.result c.args.line p rest c.args.scoped.now c.args.scoped.now) (sym (ap plain_of c.in-RawStore.is ∙ plain-RawStore c.in-RawStore.value c.in-RawStore.memref c.in-RawStore.at c.in-RawStore.ty ∙ ap (λ a. plain.RawStore c.in-RawStore.value c.in-RawStore.memref a c.in-RawStore.ty) (sym c.as_slice-in-RawStore.ensures)))
    (subst (λ r. Plainly r c.args.line (plain.RawStore c.in-RawStore.value c.in-RawStore.memref c.as_slice-in-RawStore.result.now c.in-RawStore.ty) rest c.args.scoped.now c.args.scoped.now) (sym c.judged-in-RawStore.ensures) (plainly_kept c.args.line (plain.RawStore c.in-RawStore.value c.in-RawStore.memref c.as_slice-in-RawStore.result.now c.in-RawStore.ty) rest c.args.scoped.now c.rule_of_raw_store.result (c.rule_of_raw_store.ensures rest) refl))

pub returns-in-Constant : goal.returns-in-Constant
returns-in-Constant c = λ rest e. subst (λ p. Plainly c.constant_stmt.result c.args.line p rest c.args.scoped.now c.constant_stmt.new.scoped) (sym (ap plain_of c.in-Constant.is ∙ plain-Constant c.in-Constant.result c.in-Constant.value c.in-Constant.ty ∙ ap (λ z. plain.Constant c.in-Constant.result z c.in-Constant.ty) (sym (to_z-of_z w64 c.in-Constant.value (let f : SFits w64 c.in-Constant.value = search rules in f))))) (c.constant_stmt.ensures rest)

pub returns-in-Binary : goal.returns-in-Binary
returns-in-Binary c = λ rest e. subst (λ p. Plainly c.binary_stmt.result c.args.line p rest c.args.scoped.now c.binary_stmt.new.scoped) (sym (ap plain_of c.in-Binary.is ∙ plain-Binary c.in-Binary.result c.in-Binary.op c.in-Binary.left c.in-Binary.right c.in-Binary.ty)) (c.binary_stmt.ensures rest)

pub returns-in-Cast : goal.returns-in-Cast
returns-in-Cast c = λ rest e. subst (λ p. Plainly c.cast_stmt.result c.args.line p rest c.args.scoped.now c.cast_stmt.new.scoped) (sym (ap plain_of c.in-Cast.is ∙ plain-Cast c.in-Cast.result c.in-Cast.kind c.in-Cast.value c.in-Cast.from c.in-Cast.to)) (c.cast_stmt.ensures rest)

pub returns-in-Alloc : goal.returns-in-Alloc
returns-in-Alloc c = λ rest e. subst (λ p. Plainly c.alloc_stmt.result c.args.line p rest c.args.scoped.now c.alloc_stmt.new.scoped) (sym (ap plain_of c.in-Alloc.is ∙ plain-Alloc c.in-Alloc.result c.in-Alloc.ty)) (c.alloc_stmt.ensures rest (e ∙ ap (λ p. once_of p rest) (ap plain_of c.in-Alloc.is ∙ plain-Alloc c.in-Alloc.result c.in-Alloc.ty)))

pub returns-in-Dealloc : goal.returns-in-Dealloc
returns-in-Dealloc c = λ rest e. subst (λ p. Plainly c.dealloc_stmt.result c.args.line p rest c.args.scoped.now c.dealloc_stmt.new.scoped) (sym (ap plain_of c.in-Dealloc.is ∙ plain-Dealloc c.in-Dealloc.memref c.in-Dealloc.ty)) (c.dealloc_stmt.ensures rest)

pub returns-in_ok-rule-in-Start : goal.returns-in_ok-rule-in-Start
returns-in_ok-rule-in-Start c = λ rest e.
    subst (λ p. Plainly c.judged-in-Start.result c.args.line p rest c.args.scoped.now c.args.scoped.now) (sym (ap plain_of c.in-Start.is ∙ plain-Start c.in-Start.from c.in-Start.from_at c.in-Start.to c.in-Start.to_at c.in-Start.tag c.in-Start.tag_at c.in-Start.count c.in-Start.stride c.in-Start.types))
    (subst (λ r. Plainly r c.args.line (plain.Start c.in-Start.from c.in-Start.from_at c.in-Start.to c.in-Start.to_at c.in-Start.tag c.in-Start.tag_at c.in-Start.count c.in-Start.stride c.in-Start.types) rest c.args.scoped.now c.args.scoped.now) (sym c.judged-in-Start.ensures) (plainly_kept c.args.line (plain.Start c.in-Start.from c.in-Start.from_at c.in-Start.to c.in-Start.to_at c.in-Start.tag c.in-Start.tag_at c.in-Start.count c.in-Start.stride c.in-Start.types) rest c.args.scoped.now c.in_ok-rule-in-Start.rule (c.in_ok-rule-in-Start.ensures rest) refl))

pub returns-in_ok-rule-in-Wait : goal.returns-in_ok-rule-in-Wait
returns-in_ok-rule-in-Wait c = λ rest e.
    subst (λ p. Plainly c.judged-in-Wait.result c.args.line p rest c.args.scoped.now c.args.scoped.now) (sym (ap plain_of c.in-Wait.is ∙ plain-Wait c.in-Wait.tag c.in-Wait.tag_at c.in-Wait.count c.in-Wait.ty))
    (subst (λ r. Plainly r c.args.line (plain.Wait c.in-Wait.tag c.in-Wait.tag_at c.in-Wait.count c.in-Wait.ty) rest c.args.scoped.now c.args.scoped.now) (sym c.judged-in-Wait.ensures) (plainly_kept c.args.line (plain.Wait c.in-Wait.tag c.in-Wait.tag_at c.in-Wait.count c.in-Wait.ty) rest c.args.scoped.now c.in_ok-rule-in-Wait.rule (c.in_ok-rule-in-Wait.ensures rest) refl))

pub returns-in-Return : goal.returns-in-Return
returns-in-Return c = λ rest e.
    subst (λ p. Plainly c.judged-in-Return.result c.args.line p rest c.args.scoped.now c.args.scoped.now) (sym (ap plain_of c.in-Return.is ∙ plain-Return))
    (subst (λ r. Plainly r c.args.line plain.Return rest c.args.scoped.now c.args.scoped.now) (sym c.judged-in-Return.ensures) (plainly_kept c.args.line plain.Return rest c.args.scoped.now c.rule_of_return.result (c.rule_of_return.ensures rest) refl))

clash : true ≡ false → ⊥
clash h = cc

pub returns-in-For : goal.returns-in-For
returns-in-For c = λ rest e. absurd (clash (sym (ap is_region c.in-For.is ∙ region-For c.in-For.var c.in-For.lower c.in-For.upper c.in-For.step c.in-For.body) ∙ c.requires))

pub returns-in-If : goal.returns-in-If
returns-in-If c = λ rest e. absurd (clash (sym (ap is_region c.in-If.is ∙ region-If c.in-If.set c.in-If.operands c.in-If.first c.in-If.other) ∙ c.requires))
