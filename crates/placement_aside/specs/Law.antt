-- Memrefs are apart in each text on the way of a plan, for raw accesses and transfers too, and the tags of a dealloc move up
-- together.
use Rattle.std.specs.Prelude.{◌≡◌, ℤ, false, List, [], ◌∷◌}
use Rattle.affine_ast.specs.declared.module.Arg.{Arg}
use Rattle.affine_ast.specs.Nest.{Plain, Nest, Dealloc}
use Rattle.affine_ast.specs.Sizes.{product}
use Rattle.direct_meaning.specs.Actions.{is_fast}
use Rattle.direct_meaning.specs.Memory.{start_env}
use Rattle.direct_meaning.specs.Static.{Env}
use Rattle.boxes.specs.Every.{Every}
use Rattle.placement_texts.specs.Each.{Each}
use Rattle.placement_texts.specs.Fold.{Step, numbers_at}
use Rattle.placement_texts.specs.OneTag.{InText}
use Rattle.placement_texts.specs.Spots.{stage_one}
use Rattle.placement_texts.specs.Template.{dim_sizes}
use Rattle.placement_texts.specs.Valid.{AllPass, StagesArgument}
use Rattle.staging_laws.specs.Spared.{Aside, ReleasedTogether}

-- a memref of tags that is released has one element
abbrev pub ReleaseIsOne : Plain → Type 0
ReleaseIsOne (Dealloc m ty) = is_fast ty ≡ false → product ty.sizes ≡ 1
ReleaseIsOne q = Unit {0}

-- in each text on the way
abbrev pub AllAside : List Step → Nest → Env → Type 0
AllAside [] n e = Unit {0}
AllAside (s ∷ ss) n e = Each (Aside s.placement.memref s.first (dim_sizes s.placement.dims)) n e × Each (ReleasedTogether (numbers_at s n e)) n e
    × AllAside ss (stage_one s.placement s.spot n) e

-- where each text on the way passes
abbrev pub PassingIsAside : Type 0
PassingIsAside = (args : List Arg) (symbols : List ℤ) (ss : List Step) (n : Nest) → Every (StagesArgument args symbols) ss → AllPass args ss n → InText ReleaseIsOne n
    → AllAside ss n (start_env args symbols)
