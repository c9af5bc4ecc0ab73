-- How a walk comes to its next action.
use Rattle.std.specs.Prelude.{◌≡◌, [], ◌∷◌, length, Option, Some, None}
use Rattle.walk_actions.specs.declared.action.Action.{Action}
use Rattle.walk_actions.specs.Meant.{meant, NamesIn}
use Rattle.nest_walk.specs.Standing.{Standing}
use Rattle.nest_walk.specs.Jobs.{actions_left}
use Rattle.nest_walk.specs.Ready.{IsReady}

-- a walk came to its next action
pub record Advanced (action : Action) (p q : Standing) : Type 0 where
  pub ready : IsReady q
  pub left : actions_left p ≡ meant p.bindings.names q.subscripts action ∷ actions_left q
  pub inside : NamesIn (length p.bindings.names) q.subscripts action
  pub names : q.bindings.names ≡ p.bindings.names

-- a walk has no action left
pub record Done (p q : Standing) : Type 0 where
  pub ready : IsReady q
  pub was : actions_left p ≡ []
  pub stays : actions_left q ≡ []
  pub names : q.bindings.names ≡ p.bindings.names

abbrev pub Advances : Option Action → Standing → Standing → Type 0
Advances None p q = Done p q
Advances (Some action) p q = Advanced action p q
