-- Valid modules that may be written.
use Rattle.std.specs.Prelude.{◌≡◌, ℕ, true, List, ◌++◌, All}
use Rattle.affine_ast.specs.declared.module.Module.{Module}
use Rattle.affine_ast.specs.Nest.{nest}
use Rattle.affine_ast.specs.Spelling.{spelling}
use Rattle.affine_ast.specs.Validity.{IsValid}
use Rattle.affine_grammar.specs.Spelling.{Spells}
use Rattle.plan_laws.specs.Limits.{keeps_limits}
use Rattle.printed_texts.specs.Comments.{AreOnOneLine, comment_lines}
use Rattle.printed_texts.specs.Lines.{AreSameButLines}
use Rattle.printed_texts.specs.Writable.{MayBeWritten}
use Rattle.writable_modules.specs.Formed.{IsFormed}

-- a valid module that keeps to the limits of the grammar and is formed as the grammar has it may be written
abbrev pub ValidMayBeWritten : Type 0
ValidMayBeWritten = (m : Module) → IsValid m → keeps_limits m.args (nest m.body) ≡ true → IsFormed m → MayBeWritten m

-- each module that may be written is formed so; by that what a text spells is
abbrev pub WrittenIsFormed : Type 0
WrittenIsFormed = (m : Module) → MayBeWritten m → IsFormed m

-- so its printed text, behind any lines of comments, spells a module that is the same but for lines
pub record SpellsAgain (m : Module) (text : List ℕ) : Type 0 where
  pub printed : Module
  pub same : AreSameButLines m printed
  pub spelled : Spells text printed

abbrev pub WrittenIsSpelled : Type 0
WrittenIsSpelled = (m : Module) → IsValid m → keeps_limits m.args (nest m.body) ≡ true → IsFormed m
    → (comments : List (List ℕ)) → All AreOnOneLine comments → SpellsAgain m (comment_lines comments ++ spelling m)
