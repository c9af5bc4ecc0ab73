-- The order in which dimensions and symbols appear in subscripts.
use Rattle.std.specs.Prelude.{◌≡◌, ◌⊎◌, ℕ, suc, ◌<◌, List, [], ◌∷◌}
use Rattle.std.specs.List.{flat_map}
use Rattle.affine_ast.specs.declared.types.Access.{Access}
use Rattle.placement_texts.specs.Normal.{normal}
use Rattle.printed_texts.specs.Writable.{Operand, Dimension, Symbol, Integer, operands_of, OperandsFit, Appear}

-- Symbols appear in the order of their numbers: behind so many, a symbol is one of these or the next. The last number says how
-- many there are then.
abbrev pub SymbolsAppear : ℕ → List Operand → ℕ → Type 0
SymbolsAppear k [] l = k ≡ l
SymbolsAppear k (Dimension i ∷ xs) l = SymbolsAppear k xs l
SymbolsAppear k (Symbol i ∷ xs) l = ((i < k) × SymbolsAppear k xs l) ⊎ ((i ≡ k) × SymbolsAppear (suc k) xs l)
SymbolsAppear k (Integer z ∷ xs) l = SymbolsAppear k xs l

-- where the symbols of subscripts do, and their integers are in range, the subscripts with their dimensions numbered by first
-- appearance have the order of the grammar
abbrev pub NormalAppears : Type 0
NormalAppears = (at : Access) → SymbolsAppear 0 (flat_map operands_of at.map.results) at.map.syms
    → OperandsFit at.map.dims at.map.syms (flat_map operands_of at.map.results)
    → Appear 0 0 (flat_map operands_of (normal at).map.results) (normal at).map.dims (normal at).map.syms
