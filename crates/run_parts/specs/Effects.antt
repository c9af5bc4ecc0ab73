-- What an effect by number means.
use Rattle.std.specs.Prelude.{ℕ, ◌<◌, List}
use Rattle.affine_ast.specs.declared.name.Name.{Name}
use Rattle.direct_meaning.specs.Action as meaning
use Rattle.walk_program.specs.Names.{name_at}
use Rattle.walk_actions.specs.Meant.{place_meant}
use Rattle.run_parts.specs.declared.effect.Effect.{Effect}
use Rattle.run_parts.specs.declared.effect.Effect.TheVariants.{Nothing, Sets, Loads, Stores, Allocates, Releases, ReleasesTags, Starts, Waits, Faults}

-- the action with its operands read
abbrev pub effect_meant : List Name → Effect → meaning.Action
effect_meant names Nothing = meaning.Known
effect_meant names (Sets r z) = meaning.Sets (name_at names r) z
effect_meant names (Loads r place) = meaning.Loads (name_at names r) (place_meant place)
effect_meant names (Stores z place) = meaning.Stores (meaning.Number z) (place_meant place)
effect_meant names (Allocates number element sizes) = meaning.Allocates number element sizes.now
effect_meant names (Releases number element sizes) = meaning.Releases number element sizes.now
effect_meant names (ReleasesTags first count) = meaning.ReleasesTags first count
effect_meant names (Starts t) = meaning.Starts t
effect_meant names (Waits tag count) = meaning.Waits tag count
effect_meant names (Faults k) = meaning.Faults k

-- the number of a name in it is that of one of so many names
abbrev pub EffectIn : ℕ → Effect → Type 0
EffectIn count (Sets r z) = r < count
EffectIn count (Loads r place) = r < count
EffectIn count effect = Unit {0}
