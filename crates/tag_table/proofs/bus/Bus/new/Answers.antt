use Rattle.std.proofs.Common.{ℕ, ℤ, List, length, replicate, subst, sym, ◌∙◌}
use Rattle.std.specs.Prelude.{None}
use Rattle.atomic_table.specs.Table.{opening}
use Rattle.tag_table.specs.declared.view.View.TheVariants.{Compute}
use Rattle.tag_table.specs.Rule.{BusOk, fresh}
use Rattle.tag_table.proofs.Opens.{opens}
use Rattle.tag_table.proofs.bus.Bus.new.Goals as goal

pub vacant-requires : goal.vacant-requires
vacant-requires c =
    let words = c.args.words.now in
    let tags = c.args.tags in
    let same = c.in_ok-to_vec.ensures.items_if_clones_equal (λ x y e. e) in
    let row = c.as_slice.ensures.value ∙ c.in_ok-row.ensures in
    subst (λ (z : List ℤ × List ℕ). BusOk (length z.0) tags (opening z.1 (replicate tags None) (Compute (fresh z.0 tags)))) (λ k. (sym same k, sym row k)) (opens words tags c.all_fit.ensures)
