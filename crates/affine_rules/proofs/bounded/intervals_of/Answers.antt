use Rattle.std.proofs.Common.{◌≡◌, ◌∙◌, ap, sym, List, [], ◌∷◌, ◌++◌, map, take, length, ◌<◌, ℕ, ◌+◌, get_or}
use Rattle.std.proofs.lemmas.List.{take_more, map-append}
use Rattle.affine_expr.specs.declared.map.Interval.{Interval}
use Rattle.affine_expr.specs.Bounded.{range_at, ranges}
use Rattle.affine_expr.specs.Spread.{Range}
use Rattle.affine_ast.specs.declared.name.Name.{Name}
use Rattle.affine_ast.specs.Scope.{ranges_in}
use Rattle.affine_rules.specs.Scoped.{scope_of}
use Rattle.affine_rules.proofs.Intervals.{ranges_push}
use Rattle.affine_rules.proofs.bounded.intervals_of.Goals as goal

one_more : (f : Name → Range) (names : List Name) (i : ℕ) (n : Name) (is js : List Interval) (x : Interval) → i < length names → n ≡ get_or names i n → ranges is ≡ map f (take i names) → range_at x ≡ f n
    → js ≡ is ++ x ∷ [] → ranges js ≡ map f (take (i + 1) names)
one_more f names i n is js x h at so r push =
    ap ranges push ∙ ranges_push is x ∙ (λ k. so k ++ (r ∙ ap f at) k ∷ [])
    ∙ sym (map-append f (take i names) (get_or names i n ∷ [])) ∙ ap (map f) (sym (take_more names i n h))

pub loop-name-preserved : goal.loop-name-preserved
loop-name-preserved c =
    one_more (ranges_in (scope_of c.args.names.now.entries)) c.args.used.now c.loop-name.name-index c.name-item.result c.loop-name.intervals.items c.push.new.self.items c.interval_of.result
    c.loop-name-test.true c.name-item.is c.loop-name.invariant c.interval_of.ensures c.in_ok-push.ensures.items
