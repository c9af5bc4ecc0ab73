-- One placement of a plan after the other.
use Rattle.std.proofs.Common.{◌≡◌, ℕ, ◌+◌, ◌<◌, ◌≤◌, List, [], ◌∷◌, drop, length, get_or, refl, sym, ap, ◌∙◌, subst}
use Rattle.std.proofs.lemmas.List.{drop_more, drop_all}
use Rattle.affine_ast.specs.Nest.{Nest}
use Rattle.placement_texts.specs.Fold.{Step, staged_all}
use Rattle.placement_texts.specs.Spots.{stage_one}
use Rattle.placement_code.specs.Placed.{placement_of, MayBeWritten}
use Rattle.placement_stage.specs.declared.all.PlacedAt.{PlacedAt}
use Rattle.placement_stage.specs.Stages.{IsSmallText}
use Rattle.placement_stage.specs.All.{with_one, staged_with, AllMayBeStaged, IsStepOf, AreSteps}

first_left : (xs : List PlacedAt) (i : ℕ) (x : PlacedAt) → i < length xs → x ≡ get_or xs i x → drop i xs ≡ x ∷ drop (i + 1) xs
first_left xs i x h is = drop_more xs i x h ∙ ap (λ x. x ∷ drop (i + 1) xs) (sym is)

pub may_first : (xs : List PlacedAt) (i : ℕ) (x : PlacedAt) (n : Nest) → i < length xs → x ≡ get_or xs i x → AllMayBeStaged (drop i xs) n
    → MayBeWritten x.placed × IsSmallText n × AllMayBeStaged (drop (i + 1) xs) (with_one x n)
may_first xs i x n h is may = subst (λ ys. AllMayBeStaged ys n) (first_left xs i x h is) may

pub all_next : (xs : List PlacedAt) (i : ℕ) (x : PlacedAt) (n m total : Nest) → i < length xs → x ≡ get_or xs i x → m ≡ with_one x n → total ≡ staged_with (drop i xs) n → total ≡ staged_with (drop (i + 1) xs) m
all_next xs i x n m total h is made so = so ∙ ap (λ ys. staged_with ys n) (first_left xs i x h is) ∙ ap (staged_with (drop (i + 1) xs)) (sym made)

pub all_done : (xs : List PlacedAt) (i : ℕ) (n total : Nest) → length xs ≤ i → total ≡ staged_with (drop i xs) n → n ≡ total
all_done xs i n total h so = sym (so ∙ ap (λ ys. staged_with ys n) (drop_all i xs h))

step_same : (x : PlacedAt) (s : Step) (n : Nest) → IsStepOf x s → stage_one s.placement s.spot n ≡ with_one x n
step_same x s n is = ap (λ p. stage_one p s.spot n) is.placement ∙ ap (λ t. stage_one (placement_of x.placed) t n) is.spot

pub steps_staged : (xs : List PlacedAt) (ss : List Step) (n : Nest) → AreSteps xs ss → staged_all ss n ≡ staged_with xs n
steps_staged [] [] n h = refl
steps_staged [] (s ∷ ss) n h = absurd h
steps_staged (x ∷ xs) [] n h = absurd h
steps_staged (x ∷ xs) (s ∷ ss) n h = ap (staged_all ss) (step_same x s n h.0) ∙ steps_staged xs ss (with_one x n) h.1
