use Rattle.std.proofs.Common.{◌≡◌, refl, false}
use Rattle.std.specs.Prelude.{Option, Some, None}
use Rattle.std.specs.Option.{is_some}
use Rattle.nest_walk.proofs.Steps.{bound_same, bound_new}
use Rattle.nest_walk.proofs.position.Position.bind.Goals as goal

is_none : {A : Type 0} (o : Option A) → is_some o ≡ false → None ≡ o
is_none None h = refl
is_none (Some x) h = cc

pub returns-then-is_none-2 : goal.returns-then-is_none-2
returns-then-is_none-2 c =
    bound_same c.args.self.now _ c.args.name c.args.number c.know-before.result c.requires.ready c.know-before.ensures.at (is_none c.know-before.result c.if-is_none.ensures) (is_none c.args.number c.if-is_none-2.ensures) c.know-before.ensures.before

pub returns : goal.returns
returns c = bound_new c.args.self.now _ _ c.args.name c.args.number c.know-before.result c.requires.ready c.requires.name c.requires.room c.know-before.ensures.at c.know-before.ensures.before c.push.ensures
