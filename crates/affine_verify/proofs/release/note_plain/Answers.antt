use Rattle.std.proofs.Common.{ap, ◌∙◌}
use Rattle.std.specs.Prelude.{◌||◌}
use Rattle.std.proofs.lemmas.Result.{IfOk-weaker}
use Rattle.affine_ast.specs.Names.{same_name}
use Rattle.affine_rules.specs.Scoped.{names_of}
use Rattle.affine_verify.proofs.Released.{one_noted, none_noted}
use Rattle.affine_verify.proofs.release.note_plain.Goals as goal

pub returns-in-Dealloc : goal.returns-in-Dealloc
returns-in-Dealloc c = IfOk-weaker c.note.result _ _ (λ done h m. h m ∙ ap (λ b. names_of c.args.names.now.keys m || b) (one_noted m c.args.what.now (same_name c.in-Dealloc.memref.now m) c.requires (c.in-Dealloc.ensures.own m))) c.note.ensures

pub returns-in-Alloc : goal.returns-in-Alloc
returns-in-Alloc c = λ m. none_noted m c.args.what.now (names_of c.args.names.now.keys m) c.requires (c.in-Alloc.ensures.own m)

pub returns-in-Other : goal.returns-in-Other
returns-in-Other c = λ m. none_noted m c.args.what.now (names_of c.args.names.now.keys m) c.requires (c.in-Other.ensures.own m)
