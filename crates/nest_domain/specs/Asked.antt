-- Where forms are asked for along a way, and that a valid module has each that is asked for.
use Rattle.std.specs.Prelude.{◌≡◌, ℕ, ◌+◌, Bool, true, List, [], ◌∷◌, ◌++◌, is_some, Option, Some, Ok}
use Rattle.constraint_set.specs.Lists.{Each}
use Rattle.affine_expr.specs.Forms.{Form}
use Rattle.affine_ast.specs.declared.module.Module.{Module}
use Rattle.affine_ast.specs.declared.name.Name.{Name}
use Rattle.affine_ast.specs.Nest.{Plain, Nest, Does, Value, Load, Store, nest}
use Rattle.affine_ast.specs.Validity.{IsValid}
use Rattle.nest_domain.specs.Ways.{Header, Round, Given, Except, Behind, Past, Spot, at_path, bound_names, needed, used, loop_count}
use Rattle.nest_domain.specs.Domains.{Known, along_one, symbol_count, nothing_known, with_arguments}

-- each of these names has a form
abbrev pub HaveForms : (Name → Option Form) → List Name → Type 0
HaveForms forms names = Each (λ n. is_some (forms n) ≡ true) names

-- the names whose forms a statement asks for: the operands of a value that is needed
abbrev pub asked_behind : Plain → Bool → List Name
asked_behind (Value r pick at) true = at.operands
asked_behind p needed = []

-- those that one thing on the way asks for: the operands of a loop's bounds, of a condition, of a value that is needed
abbrev pub asked : Header → Bool → List Name
asked (Round v l u s) needed = bound_names l ++ bound_names u
asked (Given set names) needed = names
asked (Except set names first) needed = []
asked (Behind p) needed = asked_behind p needed
asked (Past n) needed = []

-- along a way each form that is asked for is there, and at its end so are those of some names
unfoldable pub AreFound : List Header → List Name → Known → Type 0
AreFound [] own k = HaveForms k.forms own
AreFound (h ∷ hs) own k = HaveForms k.forms (asked h (needed h (used hs own))) × ((g : Known) → along_one h (used hs own) k ≡ Ok g → AreFound hs own g)

-- the operands of an affine access
abbrev pub operands_here : Nest → List Name
operands_here (Does line (Load r m at ty) rest) = at.operands
operands_here (Does line (Store x m at ty) rest) = at.operands
operands_here n = []

-- in a valid module, on the way to what a path names, no form is missing: neither for the place, nor for the subscripts of the access
-- that stands there
abbrev pub FormsAreFound : Type 0
FormsAreFound = (m : Module) → IsValid m → (steps : List (ℕ × Bool)) (s : Spot) → at_path (nest m.body) steps ≡ Some s
    → (k : Known) → with_arguments m.args (nothing_known (symbol_count m.args + loop_count s.way)) ≡ Ok k → AreFound s.way [] k × AreFound s.way (operands_here s.here) k
