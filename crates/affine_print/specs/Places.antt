-- What the parts of the printer are told of the place that they print at.
use Rattle.std.specs.Prelude.{ℕ, ◌==◌, if◌then◌else◌, List, [], codes}
use Rattle.affine_ast.specs.Spelling as spelling
use Rattle.affine_ast.specs.Spelling.{Texts}
use Rattle.affine_print.specs.declared.expression.Leaves as leaves
use Rattle.affine_print.specs.declared.expression.Leaves.TheVariants.{Numbered, Named}
use Rattle.affine_print.specs.declared.expression.Place.{Place}
use Rattle.affine_print.specs.declared.expression.Place.TheVariants.{Sum, Product, Unary, Negated}

-- what stands before an item of a list, by its number
abbrev pub comma_text : ℕ → List ℕ
comma_text place = if place == 0 then [] else codes ", "

-- how the leaves are spelled
abbrev pub leaves_of : leaves.Leaves → spelling.Leaves
leaves_of Numbered = spelling.parameters
leaves_of (Named names dims) = spelling.operands names.now dims

-- an expression's spelling at a place
abbrev pub text_at : Place → Texts → List ℕ
text_at Sum t = t.sum
text_at Product t = t.product
text_at Unary t = t.unary
text_at Negated t = t.negated
