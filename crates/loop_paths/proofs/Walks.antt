-- What a walk adds, statement by statement.
use Rattle.std.proofs.Common.{◌≡◌, ℕ, zero, suc, ◌+◌, ◌<◌, ◌≤◌, Bool, true, false, List, [], ◌∷◌, ◌++◌, length, map, drop, get_or, Option, Some, None, ℤ, refl, sym, ap, ◌∙◌, arith, append_assoc, append-nil, length-append, zero-add, add-zero}
use Rattle.std.proofs.lemmas.List.{map-append, drop_all}
use Rattle.affine_expr.specs.declared.map.Set.{Set}
use Rattle.affine_ast.specs.declared.name.Name.{Name}
use Rattle.affine_ast.specs.declared.types.Bound.{Bound}
use Rattle.affine_ast.specs.declared.stmt.Stmt.{Stmt}
use Rattle.affine_ast.specs.declared.stmt.What as what
use Rattle.affine_ast.specs.declared.stmt.What.{What}
use Rattle.affine_ast.specs.declared.stmt.What.TheOpen.{What-F}
use Rattle.affine_ast.specs.Nest.{Plain, Nest, Nothing, Loop, Branch, Does, Puts, joined, joined_other, is_there, nest, put_what, put_layer, plain_of}
use Rattle.affine_ast.proofs.Nests.{nest-nil, put-For, put-If, put-If-else, put_plain, plain_unless}
use Rattle.placement_texts.specs.Spots.{Spot, Behind, Inside, Other}
use Rattle.placement_stage.proofs.Layers.{layers, in_layers}
use Rattle.module_work.proofs.Works.{nest_step}
use Rattle.plan_laws.specs.Sites.{position, further, loops_at}
use Rattle.loop_paths.specs.declared.paths.LoopPath.{LoopPath}
use Rattle.loop_paths.specs.Found.{found_of}
use Rattle.loop_paths.specs.Walk.{rounds, found_under, found_in}
use Rattle.loop_paths.proofs.Lists.{twice}

at-nothing : (depth : ℕ) → loops_at depth Nothing ≡ []
at-nothing zero = refl
at-nothing (suc depth) = refl

at-branch : (depth line : ℕ) (set : Set) (names : List Name) (first : Nest) (has : Bool) (other rest : Nest)
    → loops_at depth (Branch line set names first has other rest) ≡ map Inside (loops_at depth first) ++ (map Other (loops_at depth other) ++ map Behind (loops_at depth rest))
at-branch zero line set names first has other rest = refl
at-branch (suc depth) line set names first has other rest = refl

at-does : (depth line : ℕ) (q : Plain) (rest : Nest) → loops_at depth (Does line q rest) ≡ map Behind (loops_at depth rest)
at-does zero line q rest = refl
at-does (suc depth) line q rest = refl

module _ (outer : List (ℕ × Bool)) (round : List ℕ) (mark : Bool) (k : ℕ) where
  -- the same place, seen from the statement behind the first one
  next : (s : Spot) → k + suc (position s) ≡ k + 1 + position s
  next s = omega arith

  behind : (n rest : Nest) → ((s : Spot) → rounds (length outer + 1) (Behind s) n ≡ rounds (length outer + 1) s rest)
      → (xs : List Spot) → map (found_under outer round mark k n) (map Behind xs) ≡ map (found_under outer round mark (k + 1) rest) xs
  behind n rest same = twice (found_under outer round mark k n) Behind (found_under outer round mark (k + 1) rest)
      (λ s i. record { steps = outer ++ (next s i, mark) ∷ further s; round = round ++ same s i })

  -- and from a region of the first statement
  longer : length outer + 1 + 1 ≡ length (outer ++ (k, mark) ∷ []) + 1
  longer = ap (λ d. d + 1) (sym (length-append outer ((k, mark) ∷ [])))

  steps_inside : (other : Bool) (s : Spot) → outer ++ (k + 0, mark) ∷ (position s, other) ∷ further s ≡ (outer ++ (k, mark) ∷ []) ++ (0 + position s, other) ∷ further s
  steps_inside other s =
      (λ i. outer ++ (add-zero k i, mark) ∷ (sym (zero-add (position s)) i, other) ∷ further s)
      ∙ sym (append_assoc outer ((k, mark) ∷ []) ((0 + position s, other) ∷ further s))

  found-nothing : (depth : ℕ) → found_in depth outer round mark k Nothing ≡ []
  unfolding found_in
  found-nothing depth = ap (map (found_under outer round mark k Nothing)) (at-nothing depth)

  found-does : (depth line : ℕ) (q : Plain) (rest : Nest) → found_in depth outer round mark k (Does line q rest) ≡ found_in depth outer round mark (k + 1) rest
  unfolding found_in
  found-does depth line q rest =
      ap (map (found_under outer round mark k (Does line q rest))) (at-does depth line q rest)
      ∙ behind (Does line q rest) rest (λ s. refl) (loops_at depth rest)

  found-loop : (line : ℕ) (v : Name) (l u : Bound) (step : ℤ) (body rest : Nest)
      → found_in 0 outer round mark k (Loop line v l u step body rest) ≡ (record { steps = outer ++ (k, mark) ∷ []; round = round }) ∷ found_in 0 outer round mark (k + 1) rest
  unfolding found_in
  found-loop line v l u step body rest = λ i.
      (record { steps = outer ++ (add-zero k i, mark) ∷ []; round = append-nil round i })
      ∷ behind (Loop line v l u step body rest) rest (λ s. refl) (loops_at 0 rest) i

  found-body : (depth line : ℕ) (v : Name) (l u : Bound) (step : ℤ) (body rest : Nest)
      → found_in (suc depth) outer round mark k (Loop line v l u step body rest)
      ≡ found_in depth (outer ++ (k, mark) ∷ []) (round ++ (length outer + 1) ∷ []) false 0 body ++ found_in (suc depth) outer round mark (k + 1) rest
  unfolding found_in
  found-body depth line v l u step body rest =
      let n = Loop line v l u step body rest in
      let inner = outer ++ (k, mark) ∷ [] in
      let within = round ++ (length outer + 1) ∷ [] in
      map-append (found_under outer round mark k n) (map Inside (loops_at depth body)) (map Behind (loops_at (suc depth) rest))
      ∙ (λ i.
      twice (found_under outer round mark k n) Inside (found_under inner within false 0 body)
      (λ s i. record {
        steps = steps_inside false s i;
        round = (ap (λ d. round ++ (length outer + 1) ∷ rounds d s body) longer
            ∙ sym (append_assoc round ((length outer + 1) ∷ []) (rounds (length inner + 1) s body))) i;
      })
      (loops_at depth body) i
      ++ behind n rest (λ s. refl) (loops_at (suc depth) rest) i)

  found-branch : (depth line : ℕ) (set : Set) (names : List Name) (first : Nest) (has : Bool) (other rest : Nest)
      → found_in depth outer round mark k (Branch line set names first has other rest)
      ≡ found_in depth (outer ++ (k, mark) ∷ []) round false 0 first ++ (found_in depth (outer ++ (k, mark) ∷ []) round true 0 other ++ found_in depth outer round mark (k + 1) rest)
  unfolding found_in
  found-branch depth line set names first has other rest =
      let n = Branch line set names first has other rest in
      let f = found_under outer round mark k n in
      let inner = outer ++ (k, mark) ∷ [] in
      ap (map f) (at-branch depth line set names first has other rest)
      ∙ map-append f (map Inside (loops_at depth first)) (map Other (loops_at depth other) ++ map Behind (loops_at depth rest))
      ∙ ap (λ l. map f (map Inside (loops_at depth first)) ++ l) (map-append f (map Other (loops_at depth other)) (map Behind (loops_at depth rest)))
      ∙ (λ i.
      twice f Inside (found_under inner round false 0 first) (λ s i. record { steps = steps_inside false s i; round = round ++ rounds (longer i) s first }) (loops_at depth first) i
      ++ (twice f Other (found_under inner round true 0 other) (λ s i. record { steps = steps_inside true s i; round = round ++ rounds (longer i) s other }) (loops_at depth other) i
      ++ behind n rest (λ s. refl) (loops_at depth rest) i))

-- ---- a statement before others

does_then : (outer : List (ℕ × Bool)) (round : List ℕ) (mark : Bool) (k depth line : ℕ) (q : Plain) (rest : Nest)
    → found_in depth outer round mark k (Does line q rest) ≡ found_in depth outer round mark k (Does line q Nothing) ++ found_in depth outer round mark (k + 1) rest
does_then outer round mark k depth line q rest =
    found-does outer round mark k depth line q rest
    ∙ sym (ap (λ l. l ++ found_in depth outer round mark (k + 1) rest) (found-does outer round mark k depth line q Nothing ∙ found-nothing outer round mark (k + 1) depth))

layer_then : (outer : List (ℕ × Bool)) (round : List ℕ) (mark : Bool) (k depth : ℕ) (x : What-F (ℕ → Puts) Puts) (line : ℕ) (rest : Nest)
    → found_in depth outer round mark k (put_layer x line rest) ≡ found_in depth outer round mark k (put_layer x line Nothing) ++ found_in depth outer round mark (k + 1) rest
layer_then outer round mark k zero (What-F.For v l u s body) line rest =
    found-loop outer round mark k line v l u s (joined body) rest
    ∙ sym (ap (λ l. l ++ found_in 0 outer round mark (k + 1) rest)
    (found-loop outer round mark k line v l u s (joined body) Nothing ∙ ap (λ l. (record { steps = outer ++ (k, mark) ∷ []; round = round }) ∷ l) (found-nothing outer round mark (k + 1) 0)))
layer_then outer round mark k (suc depth) (What-F.For v l u s body) line rest =
    let inner = found_in depth (outer ++ (k, mark) ∷ []) (round ++ (length outer + 1) ∷ []) false 0 (joined body) in
    found-body outer round mark k depth line v l u s (joined body) rest
    ∙ sym (ap (λ l. l ++ found_in (suc depth) outer round mark (k + 1) rest)
    (found-body outer round mark k depth line v l u s (joined body) Nothing ∙ ap (λ l. inner ++ l) (found-nothing outer round mark (k + 1) (suc depth)) ∙ append-nil inner))
layer_then outer round mark k depth (What-F.If set names first other) line rest =
    let one = found_in depth (outer ++ (k, mark) ∷ []) round false 0 (joined first) in
    let two = found_in depth (outer ++ (k, mark) ∷ []) round true 0 (joined_other other) in
    let more = found_in depth outer round mark (k + 1) rest in
    found-branch outer round mark k depth line set names (joined first) (is_there other) (joined_other other) rest
    ∙ sym (append_assoc one two more)
    ∙ sym (ap (λ l. l ++ more)
    (found-branch outer round mark k depth line set names (joined first) (is_there other) (joined_other other) Nothing
    ∙ ap (λ l. one ++ (two ++ l)) (found-nothing outer round mark (k + 1) depth)
    ∙ ap (λ l. one ++ l) (append-nil two)))
layer_then outer round mark k depth x line rest = does_then outer round mark k depth line _ rest

pub found-cons : (outer : List (ℕ × Bool)) (round : List ℕ) (mark : Bool) (k depth : ℕ) (w : What) (line : ℕ) (rest : Nest)
    → found_in depth outer round mark k (put_what w line rest) ≡ found_in depth outer round mark k (put_what w line Nothing) ++ found_in depth outer round mark (k + 1) rest
found-cons outer round mark k depth w line rest =
    ap (found_in depth outer round mark k) (in_layers w line rest)
    ∙ layer_then outer round mark k depth (layers w) line rest
    ∙ ap (λ n. found_in depth outer round mark k n ++ found_in depth outer round mark (k + 1) rest) (sym (in_layers w line Nothing))

-- ---- a list, as far as the walk has come
module _ (depth : ℕ) (outer : List (ℕ × Bool)) (round : List ℕ) (mark : Bool) (stmts : List Stmt) where
  abbrev pub IsAdded : ℕ → List LoopPath → List LoopPath → Type 0
  IsAdded i first out = map found_of first ++ found_in depth outer round mark 0 (nest stmts) ≡ map found_of out ++ found_in depth outer round mark i (nest (drop i stmts))

  pub adding_goes_on : (i : ℕ) (x : Stmt) (first out new : List LoopPath) → i < length stmts → x ≡ get_or stmts i x → IsAdded i first out
      → map found_of new ≡ map found_of out ++ found_in depth outer round mark i (put_what x.what x.line Nothing) → IsAdded (i + 1) first new
  adding_goes_on i x first out new h is so e =
      let rest = nest (drop (i + 1) stmts) in
      so
      ∙ ap (λ n. map found_of out ++ found_in depth outer round mark i n) (nest_step stmts i x h is)
      ∙ ap (λ l. map found_of out ++ l) (found-cons outer round mark i depth x.what x.line rest)
      ∙ sym (append_assoc (map found_of out) (found_in depth outer round mark i (put_what x.what x.line Nothing)) (found_in depth outer round mark (i + 1) rest))
      ∙ ap (λ l. l ++ found_in depth outer round mark (i + 1) rest) (sym e)

  pub adding_ends : (i : ℕ) (first out : List LoopPath) → length stmts ≤ i → IsAdded i first out
      → map found_of out ≡ map found_of first ++ found_in depth outer round mark 0 (nest stmts)
  adding_ends i first out h so =
      sym
      (so
      ∙ ap (λ n. map found_of out ++ found_in depth outer round mark i n) (ap nest (drop_all i stmts h) ∙ nest-nil)
      ∙ ap (λ l. map found_of out ++ l) (found-nothing outer round mark i depth)
      ∙ append-nil (map found_of out))

-- ---- kinds of statements
module _ (outer : List (ℕ × Bool)) (round : List ℕ) (mark : Bool) (k line : ℕ) (w : What) where
  pub here : (v : Name) (l u : Bound) (s : ℤ) (body : List Stmt) → w ≡ what.For v l u s body
      → found_in 0 outer round mark k (put_what w line Nothing) ≡ (record { steps = outer ++ (k, mark) ∷ []; round = round }) ∷ []
  here v l u s body is =
      ap (found_in 0 outer round mark k) (ap (λ w. put_what w line Nothing) is ∙ put-For line Nothing v l u s body)
      ∙ found-loop outer round mark k line v l u s (nest body) Nothing
      ∙ ap (λ l. (record { steps = outer ++ (k, mark) ∷ []; round = round }) ∷ l) (found-nothing outer round mark (k + 1) 0)

  pub deeper : (depth : ℕ) (v : Name) (l u : Bound) (s : ℤ) (body : List Stmt) → w ≡ what.For v l u s body
      → found_in (suc depth) outer round mark k (put_what w line Nothing) ≡ found_in depth (outer ++ (k, mark) ∷ []) (round ++ (length outer + 1) ∷ []) false 0 (nest body)
  deeper depth v l u s body is =
      let inner = found_in depth (outer ++ (k, mark) ∷ []) (round ++ (length outer + 1) ∷ []) false 0 (nest body) in
      ap (found_in (suc depth) outer round mark k) (ap (λ w. put_what w line Nothing) is ∙ put-For line Nothing v l u s body)
      ∙ found-body outer round mark k depth line v l u s (nest body) Nothing
      ∙ ap (λ l. inner ++ l) (found-nothing outer round mark (k + 1) (suc depth))
      ∙ append-nil inner

  branch : (depth : ℕ) (set : Set) (names : List Name) (first : Nest) (has : Bool) (other : Nest)
      → found_in depth outer round mark k (Branch line set names first has other Nothing)
      ≡ found_in depth (outer ++ (k, mark) ∷ []) round false 0 first ++ found_in depth (outer ++ (k, mark) ∷ []) round true 0 other
  branch depth set names first has other =
      let one = found_in depth (outer ++ (k, mark) ∷ []) round false 0 first in
      let two = found_in depth (outer ++ (k, mark) ∷ []) round true 0 other in
      found-branch outer round mark k depth line set names first has other Nothing
      ∙ ap (λ l. one ++ (two ++ l)) (found-nothing outer round mark (k + 1) depth)
      ∙ ap (λ l. one ++ l) (append-nil two)

  pub first_alone : (depth : ℕ) (set : Set) (names : List Name) (first : List Stmt) → w ≡ what.If set names first None
      → found_in depth outer round mark k (put_what w line Nothing) ≡ found_in depth (outer ++ (k, mark) ∷ []) round false 0 (nest first)
  first_alone depth set names first is =
      let one = found_in depth (outer ++ (k, mark) ∷ []) round false 0 (nest first) in
      ap (found_in depth outer round mark k) (ap (λ w. put_what w line Nothing) is ∙ put-If line Nothing set names first)
      ∙ branch depth set names (nest first) false Nothing
      ∙ ap (λ l. one ++ l) (found-nothing (outer ++ (k, mark) ∷ []) round true 0 depth)
      ∙ append-nil one

  pub both_regions : (depth : ℕ) (set : Set) (names : List Name) (first other : List Stmt) → w ≡ what.If set names first (Some other)
      → found_in depth outer round mark k (put_what w line Nothing)
      ≡ found_in depth (outer ++ (k, mark) ∷ []) round false 0 (nest first) ++ found_in depth (outer ++ (k, mark) ∷ []) round true 0 (nest other)
  both_regions depth set names first other is =
      ap (found_in depth outer round mark k) (ap (λ w. put_what w line Nothing) is ∙ put-If-else line Nothing set names first other)
      ∙ branch depth set names (nest first) true (nest other)

  pub none_of_plain : (depth : ℕ) → ((v : Name) (l u : Bound) (s : ℤ) (body : List Stmt) → w ≡ what.For v l u s body → ⊥)
      → ((set : Set) (names : List Name) (first : List Stmt) (other : Option (List Stmt)) → w ≡ what.If set names first other → ⊥)
      → found_in depth outer round mark k (put_what w line Nothing) ≡ []
  none_of_plain depth no_loop no_condition =
      ap (found_in depth outer round mark k) (put_plain w line Nothing (plain_unless w no_loop no_condition))
      ∙ found-does outer round mark k depth line (plain_of w) Nothing
      ∙ found-nothing outer round mark (k + 1) depth
