-- What is proved of split loops.
use Rattle.std.specs.Prelude.{◌≡◌, ℕ, ◌-◌, ◌≤◌, ℤ, pos, ◌<ℤ◌, List, length, take, drop, true}
use Rattle.affine_ast.specs.declared.types.Bound.{Bound}
use Rattle.affine_ast.specs.declared.types.Bound.TheVariants as bound
use Rattle.affine_ast.specs.Rules.{map_fits}
use Rattle.direct_meaning.specs.Static.{Env, lower_of, upper_of}
use Rattle.direct_meaning.specs.Turns.{turns}
use Rattle.loop_forms.specs.Split.{split_of}

-- a bound with one result, whose operands are as many as its parameters
abbrev pub HasOneResult : Bound → Type 0
HasOneResult (bound.Map at) = (map_fits at ≡ true) × (length at.map.results ≡ 1)
HasOneResult b = Unit {0}

-- the turns of a loop with these bounds and this step
abbrev pub turns_of : Env → Bound × Bound → ℤ → List ℤ
turns_of e bounds s = turns (lower_of e bounds.0) (upper_of e bounds.1) s

abbrev pub SplitCutsTurns : Type 0
SplitCutsTurns = (e : Env) (lower upper : Bound) (s : ℤ) (n : ℕ) → HasOneResult lower → HasOneResult upper → pos 0 <ℤ s → 2 ≤ n
    → (turns_of e (split_of lower upper s n).prologue s ≡ take (n - 1) (turns_of e (lower, upper) s))
    × (turns_of e (split_of lower upper s n).main s ≡ take (length (turns_of e (lower, upper) s) - (n - 1)) (turns_of e (lower, upper) s))
    × (turns_of e (split_of lower upper s n).epilogue s ≡ drop (length (turns_of e (lower, upper) s) - (n - 1)) (turns_of e (lower, upper) s))
