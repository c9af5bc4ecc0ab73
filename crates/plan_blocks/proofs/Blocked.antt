-- Blocks by their places.
use Rattle.std.proofs.Common.{◌≡◌, ℕ, zero, suc, Bool, List, [], ◌∷◌, ◌++◌, map, refl, sym, ap, ◌∙◌, append_assoc, append-nil}
use Rattle.std.proofs.lemmas.List.{map-append}
use Rattle.affine_expr.specs.declared.map.Set.{Set}
use Rattle.affine_ast.specs.declared.name.Name.{Name}
use Rattle.affine_ast.specs.Nest.{Plain, Nest, Nothing, Loop, Branch, Does}
use Rattle.nest_domain.specs.Ways as ways
use Rattle.nest_domain.specs.Ways.{Header}
use Rattle.placement_texts.specs.Spots.{Spot, Behind, Inside, Other}
use Rattle.placement_regions.specs.Sites.{from_spot, alone, way_to}
use Rattle.text_places.specs.Blocks.{blocks}
use Rattle.plan_laws.specs.Sites.{loops_at}
use Rattle.plan_blocks.specs.Law.{Standing, of_block, BlocksAreLoops}

pub twice : {A B C : Type 0} (f : B → C) (g : A → B) (h : A → C) → ((x : A) → f (g x) ≡ h x) → (xs : List A) → map f (map g xs) ≡ map h xs
twice f g h same [] = refl
twice f g h same (x ∷ xs) = λ i. same x i ∷ twice f g h same xs i

abbrev standing : List Header → Nest → Standing
standing way loop = record { way = way; loop = loop }

-- a place of statements behind a way
abbrev placed : Nest → List Header → Spot → Standing
placed n way s = standing (way ++ way_to s n) (alone (from_spot s n))

-- behind one header more, and behind two
further : (way : List Header) (h : Header) (m : Nest) (s : Spot) → standing (way ++ h ∷ way_to s m) (alone (from_spot s m)) ≡ placed m (way ++ h ∷ []) s
further way h m s = ap (λ w. standing w (alone (from_spot s m))) (sym (append_assoc way (h ∷ []) (way_to s m)))

further_two : (way : List Header) (h k : Header) (m : Nest) (s : Spot) → standing (way ++ h ∷ k ∷ way_to s m) (alone (from_spot s m)) ≡ placed m ((way ++ h ∷ []) ++ k ∷ []) s
further_two way h k m s = ap (λ w. standing w (alone (from_spot s m))) (sym (append_assoc way (h ∷ []) (k ∷ way_to s m))) ∙ further (way ++ h ∷ []) k m s

IsJoined : ℕ → Nest → List Header → Type 0
IsJoined depth n way = map of_block (blocks depth n way) ≡ map (placed n way) (loops_at depth n)

module _ (depth line : ℕ) (set : Set) (names : List Name) (first : Nest) (has : Bool) (other rest : Nest) (way : List Header) where
  branch : IsJoined depth first (way ++ ways.Given set names ∷ []) → IsJoined depth other (way ++ ways.Except set names first ∷ []) → IsJoined depth rest ((way ++ ways.Past first ∷ []) ++ ways.Past other ∷ [])
      → map of_block (blocks depth first (way ++ ways.Given set names ∷ []) ++ (blocks depth other (way ++ ways.Except set names first ∷ []) ++ blocks depth rest ((way ++ ways.Past first ∷ []) ++ ways.Past other ∷ [])))
      ≡ map (placed (Branch line set names first has other rest) way) (map Inside (loops_at depth first) ++ (map Other (loops_at depth other) ++ map Behind (loops_at depth rest)))
  unfolding IsJoined
  branch a b c =
      let n = Branch line set names first has other rest in
      let p = placed n way in
      let one = blocks depth first (way ++ ways.Given set names ∷ []) in
      let two = blocks depth other (way ++ ways.Except set names first ∷ []) in
      let more = blocks depth rest ((way ++ ways.Past first ∷ []) ++ ways.Past other ∷ []) in
      map-append of_block one (two ++ more)
      ∙ ap (λ l. map of_block one ++ l) (map-append of_block two more)
      ∙ (λ i.
      (a ∙ sym (twice p Inside (placed first (way ++ ways.Given set names ∷ [])) (further way (ways.Given set names) first) (loops_at depth first))) i
      ++ ((b ∙ sym (twice p Other (placed other (way ++ ways.Except set names first ∷ [])) (further way (ways.Except set names first) other) (loops_at depth other))) i
      ++ (c ∙ sym (twice p Behind (placed rest ((way ++ ways.Past first ∷ []) ++ ways.Past other ∷ [])) (further_two way (ways.Past first) (ways.Past other) rest) (loops_at depth rest))) i))
      ∙ sym
      (map-append p (map Inside (loops_at depth first)) (map Other (loops_at depth other) ++ map Behind (loops_at depth rest))
      ∙ ap (λ l. map p (map Inside (loops_at depth first)) ++ l) (map-append p (map Other (loops_at depth other)) (map Behind (loops_at depth rest))))

does : (depth line : ℕ) (q : Plain) (rest : Nest) (way : List Header) → IsJoined depth rest (way ++ ways.Behind q ∷ [])
    → map of_block (blocks depth rest (way ++ ways.Behind q ∷ [])) ≡ map (placed (Does line q rest) way) (map Behind (loops_at depth rest))
unfolding IsJoined
does depth line q rest way a =
    a ∙ sym (twice (placed (Does line q rest) way) Behind (placed rest (way ++ ways.Behind q ∷ [])) (further way (ways.Behind q) rest) (loops_at depth rest))

joined : (depth : ℕ) (n : Nest) (way : List Header) → IsJoined depth n way
unfolding IsJoined blocks
joined zero Nothing way = refl
joined (suc depth) Nothing way = refl
joined zero (Loop line v l u step body rest) way =
    let n = Loop line v l u step body rest in
    λ i.
    standing (sym (append-nil way) i) (Loop line v l u step body Nothing)
    ∷ (joined zero rest (way ++ ways.Past body ∷ [])
    ∙ sym (twice (placed n way) Behind (placed rest (way ++ ways.Past body ∷ [])) (further way (ways.Past body) rest) (loops_at zero rest))) i
joined (suc depth) (Loop line v l u step body rest) way =
    let n = Loop line v l u step body rest in
    map-append of_block (blocks depth body (way ++ ways.Round v l u step ∷ [])) (blocks (suc depth) rest (way ++ ways.Past body ∷ []))
    ∙ (λ i.
    (joined depth body (way ++ ways.Round v l u step ∷ [])
    ∙ sym (twice (placed n way) Inside (placed body (way ++ ways.Round v l u step ∷ [])) (further way (ways.Round v l u step) body) (loops_at depth body))) i
    ++ (joined (suc depth) rest (way ++ ways.Past body ∷ [])
    ∙ sym (twice (placed n way) Behind (placed rest (way ++ ways.Past body ∷ [])) (further way (ways.Past body) rest) (loops_at (suc depth) rest))) i)
    ∙ sym (map-append (placed n way) (map Inside (loops_at depth body)) (map Behind (loops_at (suc depth) rest)))
joined zero (Branch line set names first has other rest) way =
    branch zero line set names first has other rest way (joined zero first (way ++ ways.Given set names ∷ [])) (joined zero other (way ++ ways.Except set names first ∷ []))
    (joined zero rest ((way ++ ways.Past first ∷ []) ++ ways.Past other ∷ []))
joined (suc depth) (Branch line set names first has other rest) way =
    branch (suc depth) line set names first has other rest way (joined (suc depth) first (way ++ ways.Given set names ∷ []))
    (joined (suc depth) other (way ++ ways.Except set names first ∷ [])) (joined (suc depth) rest ((way ++ ways.Past first ∷ []) ++ ways.Past other ∷ []))
joined zero (Does line q rest) way = does zero line q rest way (joined zero rest (way ++ ways.Behind q ∷ []))
joined (suc depth) (Does line q rest) way = does (suc depth) line q rest way (joined (suc depth) rest (way ++ ways.Behind q ∷ []))

pub loops : BlocksAreLoops
unfolding IsJoined
loops depth n = joined depth n []
