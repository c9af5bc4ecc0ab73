-- The parameters of a stage are numbered as the grammar has it, so it may be written.
use Rattle.std.specs.Prelude.{◌≡◌, ℕ, ℤ, List, ◌++◌, All, None}
use Rattle.affine_expr.specs.declared.map.Set.{Set}
use Rattle.affine_ast.specs.declared.module.Module.{Module}
use Rattle.affine_ast.specs.declared.name.Name.{Name}
use Rattle.affine_ast.specs.declared.types.Bound.{Bound}
use Rattle.affine_ast.specs.Nest.{Plain, Nest, Value, Load, Store, Start, Wait, nest}
use Rattle.affine_ast.specs.PlainLimits.{plain_fault}
use Rattle.affine_ast.specs.Spelling.{spelling}
use Rattle.affine_ast.specs.Validity.{IsValid}
use Rattle.nest_domain.specs.declared.plan.Options.{Options}
use Rattle.plan_theorem.specs.Law.{IsWritten}
use Rattle.printed_texts.specs.Comments.{AreOnOneLine, comment_lines}
use Rattle.printed_texts.specs.Writable.{MayBeWritten}
use Rattle.stage_laws.specs.Law.{IsStageOf}
use Rattle.writable_modules.specs.Formed.{InOrder, AreFew, FewInBound}
use Rattle.writable_modules.specs.Law.{SpellsAgain}
use Rattle.stage_texts.specs.Shape.{Each}

-- subscripts are in order, and other parameters can be numbered
abbrev pub NumberedPlain : Plain → Type 0
NumberedPlain (Value r pick at) = AreFew at.map.dims at.map.syms
NumberedPlain (Load r m at ty) = InOrder at
NumberedPlain (Store x m at ty) = InOrder at
NumberedPlain (Start x x_at y y_at t t_at n stride types) = InOrder x_at × InOrder y_at × InOrder t_at
NumberedPlain (Wait t at n ty) = InOrder at
NumberedPlain p = Unit {0}

abbrev pub NumberedLoop : Name → Bound → Bound → ℤ → Type 0
NumberedLoop v l u s = FewInBound l × FewInBound u

abbrev pub NumberedBranch : Set → List Name → Type 0
NumberedBranch set names = AreFew set.dims set.syms

abbrev pub AreNumbered : Nest → Type 0
AreNumbered = Each NumberedPlain NumberedLoop NumberedBranch

-- of a valid module that may be written and meets V13: the parameters of its stage are numbered so
abbrev pub StageIsNumbered : Type 0
StageIsNumbered = (o : Options) (m q : Module) → IsValid m → plain_fault m ≡ None → IsWritten m → MayBeWritten m → IsStageOf o m q → AreNumbered (nest q.body)

-- and it may be written
abbrev pub StageIsWritten : Type 0
StageIsWritten = (o : Options) (m q : Module) → IsValid m → plain_fault m ≡ None → IsWritten m → MayBeWritten m → IsStageOf o m q → MayBeWritten q

-- so its printed text spells it, but for lines
abbrev pub StageIsSpelled : Type 0
StageIsSpelled = (o : Options) (m q : Module) → IsValid m → plain_fault m ≡ None → IsWritten m → MayBeWritten m → IsStageOf o m q
    → (comments : List (List ℕ)) → All AreOnOneLine comments → SpellsAgain q (comment_lines comments ++ spelling q)
