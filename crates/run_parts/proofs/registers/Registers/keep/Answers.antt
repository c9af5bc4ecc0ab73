use Rattle.std.proofs.Common.{◌≡◌, ◌<◌, ◌∙◌, ap, subst, sym, set, length, w64}
use Rattle.std.proofs.lemmas.Int.{to_z-of_z}
use Rattle.affine_ast.specs.Names.{put}
use Rattle.walk_program.specs.Names.{name_at}
use Rattle.run_parts.specs.Registered.{Registered, held, values_of}
use Rattle.run_parts.proofs.Numbers.{kept}
use Rattle.run_parts.proofs.registers.Registers.keep.Goals as goal

pub returns-clause-values : goal.returns-clause-values
returns-clause-values c =
    let inside : c.args.into < length c.self.inside.names.now = subst (λ (r : Registered). c.args.into < length r.names) (sym c.self.view_is) c.requires in
    kept c.self.inside.names.now c.self.inside.values.items c.args.into c.self.invariant.distinct c.self.invariant.registers inside c.args.value _
    (ap (set c.self.inside.values.items c.args.into) (to_z-of_z w64 c.args.value c.ranges.value))
    ∙ ap (λ (r : Registered). put (values_of r) (name_at r.names c.args.into) c.args.value) c.self.view_is
