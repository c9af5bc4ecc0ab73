-- What is proved of well-formed texts, and of the texts of rings.
use Rattle.std.specs.Prelude.{◌≡◌, true, false}
use Rattle.affine_ast.specs.declared.module.Module.{Module}
use Rattle.affine_ast.specs.Nest.{Nest, nest}
use Rattle.affine_ast.specs.Scope.{Totals, Around}
use Rattle.affine_ast.specs.Validity.{Passed, told, IsValid}
use Rattle.placement_texts.specs.Valid.{body_scope}
use Rattle.plan_laws.specs.Limits.{keeps_limits, keeps_intervals}
use Rattle.ring_validity.specs.Wells.{kinds, WellFormed}

-- a text that breaks no rule is well-formed under what stands round it
abbrev pub PassedIsWell : Type 0
PassedIsWell = (n : Nest) (a : Around) (t : Totals) → told n a ≡ Passed t → WellFormed n (kinds a.scope) a.released

-- with the arguments of a valid module, a well-formed text that keeps to the rule on intervals and to the limits makes a valid module
abbrev pub WellIsValid : Type 0
WellIsValid = (m q : Module) → IsValid m → q.args ≡ m.args → WellFormed (nest q.body) (kinds (body_scope m)) (λ n. false)
    → keeps_intervals m.args (nest q.body) ≡ true → keeps_limits m.args (nest q.body) ≡ true → IsValid q
