use Rattle.std.proofs.Common.{rules, to_z-of_z, Ok, ◌≡◌, ◌∙◌, ap, suc, map}
use Rattle.constraint_set.specs.Points.{LinearRow, LinearSystem}
use Rattle.constraint_set.specs.Elimination.{countdown}
use Rattle.constraint_set.specs.Reach.{valued}
use Rattle.projection.proofs.Values.{both_wide, others_within}
use Rattle.projection.proofs.value.only_value.Goals as goal

pub tidy-requires : goal.tidy-requires
tidy-requires c =
    let form : LinearRow = record { coefs = c.args.coefs.now; constant = c.args.constant } in
    let made : valued c.args.system.now form ≡ Ok c.in_ok-both.both.items = search (rules, to_z-of_z) in
    rw (c.vars-vars.ensures.vars, c.deref.ensures.value) (both_wide c.args.system.now form c.in_ok-both.both.items c.vars-vars.ensures.wide c.requires.long made)

pub step_each-requires : goal.step_each-requires
step_each-requires c =
    let v = ap (λ (s : LinearSystem). s.vars) c.in_ok-rows.ensures in
    let all = c.deref-2.ensures.value ∙ c.in_ok-others.ensures ∙ ap (λ n. map suc (countdown n)) c.vars-vars.ensures.vars in
    rw (v, c.vars-vars.ensures.vars, all) (others_within c.args.system.now.vars)
