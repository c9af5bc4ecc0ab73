use Rattle.std.proofs.Common.{rules, to_z-of_z, ◌≡◌, ◌++◌, ◌∷◌, [], ◌∙◌, ap, map, Ok, neg_ℤ, pos}
use Rattle.std.proofs.lemmas.Result.{err_from_is_err_and}
use Rattle.num_row.specs.Ints.{narrowed}
use Rattle.constraint_set.specs.Points.{LinearRow}
use Rattle.constraint_set.specs.Elimination.{or_wide}
use Rattle.constraint_set.specs.Reach.{behind, at_least, at_most}
use Rattle.projection.specs.Answers.{IsRefused}
use Rattle.projection.specs.Reaches.{form_of}
use Rattle.projection.proofs.Values.{no_coefs, no_constant, valued_ends}
use Rattle.projection.proofs.value.with_value.Goals as goal

pub returns-in_err-negated : goal.returns-in_err-negated
returns-in_err-negated c =
    let form : LinearRow = record { coefs = c.args.coefs.now; constant = c.args.constant } in
    let p = err_from_is_err_and c.from_residual.result c.from_residual.ensures.1 in
    rw (p.1, p.2) (no_coefs c.args.system.now form _ c.in_err-negated.ensures)

pub returns-in_err-below : goal.returns-in_err-below
returns-in_err-below c =
    let form : LinearRow = record { coefs = c.args.coefs.now; constant = c.args.constant } in
    let m : IsRefused (or_wide (narrowed (neg_ℤ c.args.constant))) c.in_err-below.field-0.0 = search (rules, to_z-of_z) in
    let p = err_from_is_err_and c.from_residual-in_err-below.result c.from_residual-in_err-below.ensures.1 in
    rw (p.1, p.2) (no_constant c.args.system.now form c.in_ok-negated.negated.items _ c.in_ok-negated.ensures m)

pub returns : goal.returns
returns c =
    let form : LinearRow = record { coefs = c.args.coefs.now; constant = c.args.constant } in
    let k : or_wide (narrowed (neg_ℤ c.args.constant)) ≡ Ok c.in_ok-below.below = search (rules, to_z-of_z) in
    let rows : c.in_ok-out.out.items ≡ map behind c.args.system.now.rows = c.in_ok-out.ensures ∙ ap (map behind) c.rows.ensures.rows in
    let pushed_least : c.push.new.self.items ≡ c.in_ok-out.out.items ++ form_of c.in_ok-at_least.at_least.items c.in_ok-below.below ∷ [] = search (rules, to_z-of_z) in
    let pushed_most : c.push-2.new.self.items ≡ c.push.new.self.items ++ form_of c.in_ok-at_most.at_most.items c.args.constant ∷ [] = search (rules, to_z-of_z) in
    let least : c.push.new.self.items ≡ c.in_ok-out.out.items ++ at_least c.in_ok-negated.negated.items c.in_ok-below.below ∷ [] = pushed_least ∙ ap (λ xs. c.in_ok-out.out.items ++ form_of xs c.in_ok-below.below ∷ []) (c.in_ok-at_least.ensures ∙ ap (λ xs. pos 1 ∷ xs) c.deref.ensures.value) in
    let most : c.push-2.new.self.items ≡ c.push.new.self.items ++ at_most form ∷ [] = pushed_most ∙ ap (λ xs. c.push.new.self.items ++ form_of xs c.args.constant ∷ []) c.in_ok-at_most.ensures in
    valued_ends c.args.system.now form c.in_ok-negated.negated.items c.in_ok-below.below _ c.in_ok-negated.ensures k (most ∙ ap (λ xs. xs ++ at_most form ∷ []) (least ∙ ap (λ xs. xs ++ at_least c.in_ok-negated.negated.items c.in_ok-below.below ∷ []) rows))
