-- The laws.
use Rattle.std.proofs.Common.{inl, inr, refl, arith, Bool}
use Rattle.affine_ast.specs.declared.name.Name.{Name}
use Rattle.direct_meaning.specs.Static.{Env}
use Rattle.placement_texts.specs.Labels.{Numbers}
use Rattle.placement_texts.specs.Law.{Alike, TextsAgree, CarriesOver}
use Rattle.placement_texts.proofs.Follows.{Follows}
use Rattle.placement_texts.proofs.SpotRun.{original_at, staged_run}
use Rattle.placement_texts.proofs.CarriedOver.{carried}
use Rattle.placement_texts.proofs.CarriedApart.{carried_apart}

alike_follows : (own : Name → Bool) (new : Numbers) (e g : Env) → Alike own new e g → Follows own new 0 0 g e g
alike_follows own new e g a =
    let f = a.fasts in
    let t = a.tags in
    record { known = a.known; home = a.home; fasts = omega (arith, f); tags = omega (arith, t); made_known = λ n h. refl; made_home = λ n h. refl }

pub texts : TextsAgree
texts own p order first new s n e g u a tidy fine = record {
  first_reading = original_at p s n e;
  second_reading = staged_run own p u.names order first new u.memref_own u.dims_own u.tags s n e g u.loop u.text_own tidy fine u.fast u.tag (alike_follows own new e g a);
}

pub carries : CarriesOver
carries own p order first new s n e g u line a fine o order' first' t o_own o_dims (inl differ) j =
    carried own p u.names order first new u.memref_own u.dims_own u.tags o order' first' o_own o_dims differ t s n e g u.loop line u.text_own fine u.fast u.tag (alike_follows own new e g a) j
carries own p order first new s n e g u line a fine o order' first' t o_own o_dims (inr apart) j =
    carried_apart own p u.names order first new u.memref_own u.dims_own u.tags o order' first' o_own o_dims t s n e g apart u.loop line u.text_own fine u.fast u.tag (alike_follows own new e g a) j
