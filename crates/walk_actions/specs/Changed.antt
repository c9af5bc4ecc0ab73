-- What a change by number does to what is known.
use Rattle.std.specs.Prelude.{ℕ, suc, ◌+◌, ◌<◌, List, Some}
use Rattle.affine_ast.specs.declared.name.Name.{Name}
use Rattle.direct_meaning.specs.Action.{FastMemref, TagMemref}
use Rattle.direct_meaning.specs.Static.{Env}
use Rattle.affine_ast.specs.Names.{put}
use Rattle.walk_program.specs.Names.{name_at}
use Rattle.walk_actions.specs.declared.change.Change.{Change}
use Rattle.walk_actions.specs.declared.change.Change.TheVariants.{Nothing, Known, Fast, Tags}
use Rattle.walk_actions.specs.Looked.{with_known}

abbrev pub changed : List Name → Change → Env → Env
changed names Nothing e = e
changed names (Known n number) e = with_known (name_at names n) number e
changed names (Fast n) e = record e {
  home = put e.home (name_at names n) (Some (FastMemref e.fasts));
  fasts = suc e.fasts;
}
changed names (Tags n count) e = record e {
  home = put e.home (name_at names n) (Some (TagMemref e.tags));
  tags = e.tags + count;
}

-- the name that changes is one of so many
abbrev pub ChangesIn : ℕ → Change → Type 0
ChangesIn count Nothing = Unit {0}
ChangesIn count (Known n number) = n < count
ChangesIn count (Fast n) = n < count
ChangesIn count (Tags n tags) = n < count
