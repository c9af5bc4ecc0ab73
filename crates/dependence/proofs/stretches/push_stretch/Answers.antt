use Rattle.std.proofs.Common.{rules, to_z-of_z, ◌≡◌, ◌++◌, ◌∷◌, [], Ok, pos, neg_ℤ, ◌+ℤ◌, ◌-ℤ◌}
use Rattle.num_row.specs.Ints.{narrowed}
use Rattle.constraint_set.specs.Elimination.{or_wide}
use Rattle.constraint_set.specs.Reach.{negated}
use Rattle.dependence.specs.Clashes.{with_variable}
use Rattle.dependence.proofs.StretchRows.{stretch_made}
use Rattle.dependence.proofs.stretches.push_stretch.Goals as goal

pub returns : goal.returns
returns c =
    let low : negated c.args.begin.now.coefs ≡ Ok c.in_ok-low.low.items = search (rules, to_z-of_z) in
    let below : or_wide (narrowed (neg_ℤ c.args.begin.now.constant)) ≡ Ok c.in-Some.below = search (rules, to_z-of_z) in
    let top : or_wide (narrowed (c.args.begin.now.constant +ℤ (pos c.args.extent -ℤ pos 1))) ≡ Ok c.in-Some-exact_add.top = search (rules, to_z-of_z) in
    let from : c.in_ok-from.from.items ≡ with_variable c.args.place (pos 1) c.in_ok-low.low.items = search (rules, to_z-of_z) in
    let up : c.in_ok-up_to.up_to.items ≡ with_variable c.args.place (neg_ℤ (pos 1)) c.args.begin.now.coefs = search (rules, to_z-of_z) in
    let one : c.push.new.self.items ≡ c.args.out.now.items ++ record { coefs = c.in_ok-from.from.items; constant = c.in-Some.below } ∷ [] = search (rules, to_z-of_z) in
    let two : c.push-2.new.self.items ≡ c.push.new.self.items ++ record { coefs = c.in_ok-up_to.up_to.items; constant = c.in-Some-exact_add.top } ∷ [] = search (rules, to_z-of_z) in
    stretch_made c.args.place c.args.begin.now (pos c.args.extent) c.args.out.now.items c.push.new.self.items c.push-2.new.self.items c.in_ok-low.low.items c.in_ok-from.from.items c.in_ok-up_to.up_to.items c.in-Some.below c.in-Some-exact_add.top low below top from up one two
