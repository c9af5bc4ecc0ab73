-- Loops in the order in which they end: none lies in one that ends before it.
use Rattle.std.proofs.Common.{◌≡◌, Bool, true, false, List, [], ◌∷◌, ◌++◌, refl, ◌∙◌}
use Rattle.std.specs.Prelude.{map, ◌||◌}
use Rattle.affine_ast.specs.Nest.{Nothing, Loop, Branch, Does}
use Rattle.placement_texts.specs.Spots.{Spot, Here, Behind, Inside, Other}
use Rattle.ring_plans.specs.Spots.{loops_by_end, lies_in, one_lies_in}
use Rattle.ring_plans.specs.Law.{NoneHolds, LoopsEndInOrder}

either_false : (a b c : Bool) → (a || b) ≡ false → (b ≡ false → c ≡ false) → (a || c) ≡ false
either_false false b c h more = more h
either_false true b c h more = absurd (let z : ⊥ = cc in z)

-- what is false of two lists is false of both together
none_of_both : (s : Spot) (ts us : List Spot) → one_lies_in s ts ≡ false → one_lies_in s us ≡ false → one_lies_in s (ts ++ us) ≡ false
none_of_both s [] us h k = k
none_of_both s (t ∷ ts) us h k = either_false (lies_in s t) (one_lies_in s ts) (one_lies_in s (ts ++ us)) h (λ e. none_of_both s ts us e k)

-- places of one part of a text lie to one another as they do in it, and not in places of another part
module _ (f : Spot → Spot) (same : (s t : Spot) → lies_in (f s) (f t) ≡ lies_in s t) where
  none_moved : (s : Spot) (ts : List Spot) → one_lies_in (f s) (map f ts) ≡ one_lies_in s ts
  none_moved s [] = refl
  none_moved s (t ∷ ts) = λ i. same s t i || none_moved s ts i

  holds_moved : (ts : List Spot) → NoneHolds ts → NoneHolds (map f ts)
  holds_moved [] h = tt
  holds_moved (t ∷ ts) h = (none_moved t ts ∙ h.0, holds_moved ts h.1)

module _ (f g : Spot → Spot) (apart : (s t : Spot) → lies_in (f s) (g t) ≡ false) where
  none_there : (s : Spot) (ts : List Spot) → one_lies_in (f s) (map g ts) ≡ false
  none_there s [] = refl
  none_there s (t ∷ ts) = λ i. apart s t i || none_there s ts i

-- places of a part, and then others none of which lies in one of that part
joined : (f : Spot → Spot) (ts us : List Spot) → NoneHolds (map f ts) → NoneHolds us → ((s : Spot) → one_lies_in (f s) us ≡ false) → NoneHolds (map f ts ++ us)
joined f [] us h k apart = k
joined f (t ∷ ts) us h k apart = (none_of_both (f t) (map f ts) us h.0 (apart t), joined f ts us h.1 k apart)

pub end_in_order : LoopsEndInOrder
end_in_order Nothing = tt
end_in_order (Loop line v l u step body rest) =
    joined Inside (loops_by_end body) (Here ∷ map Behind (loops_by_end rest))
    (holds_moved Inside (λ s t. refl) (loops_by_end body) (end_in_order body))
    (none_here (loops_by_end rest), holds_moved Behind (λ s t. refl) (loops_by_end rest) (end_in_order rest))
    (λ s. none_there Inside Behind (λ s t. refl) s (loops_by_end rest))
  where
    none_here : (ts : List Spot) → one_lies_in Here (map Behind ts) ≡ false
    none_here [] = refl
    none_here (t ∷ ts) = none_here ts
end_in_order (Branch line set names first has other rest) =
    joined Inside (loops_by_end first) (map Other (loops_by_end other) ++ map Behind (loops_by_end rest))
    (holds_moved Inside (λ s t. refl) (loops_by_end first) (end_in_order first))
    (joined Other (loops_by_end other) (map Behind (loops_by_end rest))
    (holds_moved Other (λ s t. refl) (loops_by_end other) (end_in_order other))
    (holds_moved Behind (λ s t. refl) (loops_by_end rest) (end_in_order rest))
    (λ s. none_there Other Behind (λ s t. refl) s (loops_by_end rest)))
    (λ s. none_of_both (Inside s) (map Other (loops_by_end other)) (map Behind (loops_by_end rest))
    (none_there Inside Other (λ s t. refl) s (loops_by_end other)) (none_there Inside Behind (λ s t. refl) s (loops_by_end rest)))
end_in_order (Does line q rest) = holds_moved Behind (λ s t. refl) (loops_by_end rest) (end_in_order rest)
