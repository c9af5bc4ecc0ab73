-- The names that a place uses, as code gathers them from the end of the way; and the way with which values are needed.
use Rattle.std.specs.Prelude.{◌≡◌, Bool, ◌||◌, List, [], ◌∷◌, Result, Ok}
use Rattle.affine_expr.specs.declared.linear.LinearFault.{LinearFault}
use Rattle.affine_expr.specs.Linear.{◌>>=◌}
use Rattle.affine_ast.specs.declared.name.Name.{Name}
use Rattle.affine_rules.specs.declared.scope.Key.{Key}
use Rattle.affine_rules.specs.Scoped.{names_of}
use Rattle.nest_domain.specs.Ways.{Header, has_name, needed, used}
use Rattle.nest_domain.specs.Domains.{Known, along_by}

-- the names of the keys are these
abbrev pub AreUsed : List Key → List Name → Type 0
AreUsed keys names = (m : Name) → names_of keys m ≡ has_name m names

-- the keys have these names more
abbrev pub HasMore : List Name → List Key → List Key → Type 0
HasMore names old new = (m : Name) → names_of new m ≡ (has_name m names || names_of old m)

-- from the names used behind a thing on the way code comes to those used from before it on, and tells whether its value is needed
abbrev pub TakesIn : Header → Bool → List Key → List Key → Type 0
TakesIn h is_needed old new = (hs : List Header) (own : List Name) → AreUsed old (used hs own) → (is_needed ≡ needed h (used hs own)) × AreUsed new (used (h ∷ hs) own)

-- each thing on a way with whether its value is needed
unfoldable pub marked : List Header → List Name → List (Header × Bool)
marked [] own = []
marked (h ∷ hs) own = (h, needed h (used hs own)) ∷ marked hs own

-- along such a way
unfoldable pub along_marked : List (Header × Bool) → Known → Result Known LinearFault
along_marked [] k = Ok k
along_marked (m ∷ ms) k = along_by m.0 m.1 k >>= along_marked ms
