-- The loops round a statement, one step down a path.
use Rattle.std.proofs.Common.{◌≡◌, ℕ, zero, suc, ◌+◌, ◌*◌, ◌<◌, ◌≤◌, min, ℤ, Bool, true, false, List, [], ◌∷◌, drop, length, get_or, refl, sym, ap, ◌∙◌, arith, mul-suc, mul-zero, mul_assoc, le_trans}
use Rattle.std.specs.Prelude.{Option, Some, None, nat_le, unsigned_abs}
use Rattle.std.proofs.lemmas.List.{drop_more}
use Rattle.std.proofs.lemmas.Bool.Decides.{nat_tests}
use Rattle.affine_expr.specs.declared.map.Set.{Set}
use Rattle.affine_ast.specs.declared.name.Name.{Name}
use Rattle.affine_ast.specs.declared.types.Bound.{Bound}
use Rattle.affine_ast.specs.declared.stmt.Stmt.{Stmt}
use Rattle.affine_ast.specs.declared.stmt.What as what
use Rattle.affine_ast.specs.declared.stmt.What.{What}
use Rattle.affine_ast.specs.declared.stmt.What.TheOpen.{What-F}
use Rattle.affine_ast.specs.Nest.{Plain, Nest, Puts, joined, put_layer, nest, put_what, put_stmt}
use Rattle.affine_ast.specs.Sizes.{product}
use Rattle.affine_ast.proofs.Nests.{nest-nil, nest-cons, put-For, put-If, put-If-else, put_what_is, put_plain, plain_unless}
use Rattle.nest_domain.specs.Boxes.{Dimension}
use Rattle.nest_domain.specs.Ways as ways
use Rattle.nest_domain.specs.Ways.{Header, Spot, under, spot, loop_count}
use Rattle.plan_report.specs.Report.{loops_of, one_more, extents}

-- ---- what isn't round it
past : (n : Nest) (o : Option Spot) → loops_of (under (ways.Past n) o) ≡ loops_of o
past n (Some s) = refl
past n None = refl

behind : (p : Plain) (o : Option Spot) → loops_of (under (ways.Behind p) o) ≡ loops_of o
behind p (Some s) = refl
behind p None = refl

passed_layer : (x : What-F (ℕ → Puts) Puts) (line : ℕ) (rest : Nest) (k : ℕ) (steps : List (ℕ × Bool)) → loops_of (spot (put_layer x line rest) (suc k) steps) ≡ loops_of (spot rest k steps)
unfolding spot
passed_layer (What-F.For v l u s body) line rest k steps = past (joined body) (spot rest k steps)
passed_layer (What-F.If set names first other) line rest k steps = past (joined first) (under (ways.Past _) (spot rest k steps)) ∙ past _ (spot rest k steps)
passed_layer x line rest k steps = behind _ (spot rest k steps)

passed : (w : What) (line : ℕ) (rest : Nest) (k : ℕ) (steps : List (ℕ × Bool)) → loops_of (spot (put_what w line rest) (suc k) steps) ≡ loops_of (spot rest k steps)
passed w line rest k steps =
    ap (λ n. loops_of (spot n (suc k) steps)) (put_what_is line rest (what.out-What w) w (what.roll-out-What w))
    ∙ passed_layer (what.map-What What Stmt (ℕ → Puts) Puts put_what put_stmt (what.out-What w)) line rest k steps

-- the statement at a position
pub at_position : (ss : List Stmt) (k : ℕ) (s : Stmt) (steps : List (ℕ × Bool)) → k < length ss → s ≡ get_or ss k s
    → loops_of (spot (nest ss) k steps) ≡ loops_of (spot (put_what s.what s.line (nest (drop (k + 1) ss))) 0 steps)
at_position [] k s steps h e = absurd (omega (arith, h))
at_position (x ∷ xs) zero s steps h e = ap (λ n. loops_of (spot n 0 steps)) (nest-cons x xs) ∙ ap (λ (x : Stmt). loops_of (spot (put_what x.what x.line (nest xs)) 0 steps)) (sym e)
at_position (x ∷ xs) (suc k) s steps h e =
    ap (λ n. loops_of (spot n (suc k) steps)) (nest-cons x xs)
    ∙ passed x.what x.line (nest xs) k steps
    ∙ at_position xs k s steps (omega (arith, h)) e
    ∙ ap (λ j. loops_of (spot (put_what s.what s.line (nest (drop j (x ∷ xs)))) 0 steps)) (let z : suc (k + 1) ≡ suc k + 1 = omega arith in z)

-- there is none
pub no_position : (ss : List Stmt) (k : ℕ) (steps : List (ℕ × Bool)) → length ss ≤ k → loops_of (spot (nest ss) k steps) ≡ None
unfolding spot
no_position [] k steps h = ap (λ n. loops_of (spot n k steps)) nest-nil
no_position (x ∷ xs) zero steps h = absurd (omega (arith, h))
no_position (x ∷ xs) (suc k) steps h =
    ap (λ n. loops_of (spot n (suc k) steps)) (nest-cons x xs)
    ∙ passed x.what x.line (nest xs) k steps
    ∙ no_position xs k steps (omega (arith, h))

-- ---- one step down
round : (v : Name) (l u : Bound) (s : ℤ) (o : Option Spot) → loops_of (under (ways.Round v l u s) o) ≡ one_more (loops_of o)
round v l u s (Some x) = refl
round v l u s None = refl

given : (set : Set) (names : List Name) (o : Option Spot) → loops_of (under (ways.Given set names) o) ≡ loops_of o
given set names (Some x) = refl
given set names None = refl

except : (set : Set) (names : List Name) (first : Nest) (o : Option Spot) → loops_of (under (ways.Except set names first) o) ≡ loops_of o
except set names first (Some x) = refl
except set names first None = refl

here_layer : (x : What-F (ℕ → Puts) Puts) (line : ℕ) (rest : Nest) → loops_of (spot (put_layer x line rest) 0 []) ≡ Some 0
unfolding spot
here_layer (What-F.For v l u s body) line rest = refl
here_layer (What-F.If set names first other) line rest = refl
here_layer x line rest = refl

module _ (line : ℕ) (rest : Nest) where
  -- the statement itself
  pub here : (w : What) → loops_of (spot (put_what w line rest) 0 []) ≡ Some 0
  here w =
      ap (λ n. loops_of (spot n 0 [])) (put_what_is line rest (what.out-What w) w (what.roll-out-What w))
      ∙ here_layer (what.map-What What Stmt (ℕ → Puts) Puts put_what put_stmt (what.out-What w)) line rest

  step_is : (n : Nest) (next : ℕ) (mark other : Bool) (steps : List (ℕ × Bool)) → mark ≡ other → loops_of (spot n 0 ((next, mark) ∷ steps)) ≡ loops_of (spot n 0 ((next, other) ∷ steps))
  step_is n next mark other steps h = λ i. loops_of (spot n 0 ((next, h i) ∷ steps))

  pub in_loop : (w : What) (v : Name) (l u : Bound) (s : ℤ) (body ss : List Stmt) (next : ℕ) (mark : Bool) (steps : List (ℕ × Bool)) → w ≡ what.For v l u s body → ss ≡ body → mark ≡ false
      → loops_of (spot (put_what w line rest) 0 ((next, mark) ∷ steps)) ≡ one_more (loops_of (spot (nest ss) next steps))
  unfolding spot
  in_loop w v l u s body ss next mark steps is same h =
      step_is (put_what w line rest) next mark false steps h
      ∙ ap (λ w. loops_of (spot (put_what w line rest) 0 ((next, false) ∷ steps))) is
      ∙ ap (λ n. loops_of (spot n 0 ((next, false) ∷ steps))) (put-For line rest v l u s body)
      ∙ round v l u s (spot (nest body) next steps)
      ∙ ap (λ ss. one_more (loops_of (spot (nest ss) next steps))) (sym same)

  pub no_else_of_loop : (w : What) (v : Name) (l u : Bound) (s : ℤ) (body : List Stmt) (next : ℕ) (mark : Bool) (steps : List (ℕ × Bool)) → w ≡ what.For v l u s body → mark ≡ true
      → loops_of (spot (put_what w line rest) 0 ((next, mark) ∷ steps)) ≡ None
  unfolding spot
  no_else_of_loop w v l u s body next mark steps is h =
      step_is (put_what w line rest) next mark true steps h
      ∙ ap (λ w. loops_of (spot (put_what w line rest) 0 ((next, true) ∷ steps))) is
      ∙ ap (λ n. loops_of (spot n 0 ((next, true) ∷ steps))) (put-For line rest v l u s body)

  pub in_first : (w : What) (set : Set) (names : List Name) (first : List Stmt) (other : Option (List Stmt)) (ss : List Stmt) (next : ℕ) (mark : Bool) (steps : List (ℕ × Bool)) → w ≡ what.If set names first other → ss ≡ first → mark ≡ false
      → loops_of (spot (put_what w line rest) 0 ((next, mark) ∷ steps)) ≡ loops_of (spot (nest ss) next steps)
  unfolding spot
  in_first w set names first None ss next mark steps is same h =
      step_is (put_what w line rest) next mark false steps h
      ∙ ap (λ w. loops_of (spot (put_what w line rest) 0 ((next, false) ∷ steps))) is
      ∙ ap (λ n. loops_of (spot n 0 ((next, false) ∷ steps))) (put-If line rest set names first)
      ∙ given set names (spot (nest first) next steps)
      ∙ ap (λ ss. loops_of (spot (nest ss) next steps)) (sym same)
  in_first w set names first (Some other) ss next mark steps is same h =
      step_is (put_what w line rest) next mark false steps h
      ∙ ap (λ w. loops_of (spot (put_what w line rest) 0 ((next, false) ∷ steps))) is
      ∙ ap (λ n. loops_of (spot n 0 ((next, false) ∷ steps))) (put-If-else line rest set names first other)
      ∙ given set names (spot (nest first) next steps)
      ∙ ap (λ ss. loops_of (spot (nest ss) next steps)) (sym same)

  pub in_other : (w : What) (set : Set) (names : List Name) (first other ss : List Stmt) (next : ℕ) (mark : Bool) (steps : List (ℕ × Bool)) → w ≡ what.If set names first (Some other) → ss ≡ other → mark ≡ true
      → loops_of (spot (put_what w line rest) 0 ((next, mark) ∷ steps)) ≡ loops_of (spot (nest ss) next steps)
  unfolding spot
  in_other w set names first other ss next mark steps is same h =
      step_is (put_what w line rest) next mark true steps h
      ∙ ap (λ w. loops_of (spot (put_what w line rest) 0 ((next, true) ∷ steps))) is
      ∙ ap (λ n. loops_of (spot n 0 ((next, true) ∷ steps))) (put-If-else line rest set names first other)
      ∙ except set names (nest first) (spot (nest other) next steps)
      ∙ ap (λ ss. loops_of (spot (nest ss) next steps)) (sym same)

  pub no_other : (w : What) (set : Set) (names : List Name) (first : List Stmt) (next : ℕ) (mark : Bool) (steps : List (ℕ × Bool)) → w ≡ what.If set names first None → mark ≡ true
      → loops_of (spot (put_what w line rest) 0 ((next, mark) ∷ steps)) ≡ None
  unfolding spot
  no_other w set names first next mark steps is h =
      step_is (put_what w line rest) next mark true steps h
      ∙ ap (λ w. loops_of (spot (put_what w line rest) 0 ((next, true) ∷ steps))) is
      ∙ ap (λ n. loops_of (spot n 0 ((next, true) ∷ steps))) (put-If line rest set names first)

  -- another statement has no region
  pub no_region : (w : What) (step : ℕ × Bool) (steps : List (ℕ × Bool)) → ((v : Name) (l u : Bound) (s : ℤ) (body : List Stmt) → w ≡ what.For v l u s body → ⊥)
      → ((set : Set) (names : List Name) (first : List Stmt) (other : Option (List Stmt)) → w ≡ what.If set names first other → ⊥)
      → loops_of (spot (put_what w line rest) 0 (step ∷ steps)) ≡ None
  unfolding spot
  no_region w step steps loop condition = ap (λ n. loops_of (spot n 0 (step ∷ steps))) (put_plain w line rest (plain_unless w loop condition))

-- a path that goes no further
pub ends_here : (line : ℕ) (w : What) (rest : Nest) (steps : List (ℕ × Bool)) → length steps ≡ 0 → Some 0 ≡ loops_of (spot (put_what w line rest) 0 steps)
ends_here line w rest [] h = sym (here line rest w)
ends_here line w rest (step ∷ steps) h = absurd (omega (arith, h))

-- ---- products that stop at a limit
min_left : (a b : ℕ) → a ≤ b → min a b ≡ a
min_left a b h = omega arith

min_right : (a b : ℕ) → b ≤ a → min a b ≡ b
min_right a b h = omega arith

at_least : (a q : ℕ) → a ≤ a * suc q
at_least a q = omega (arith, mul-suc a q)

stops : (x q limit : ℕ) (below : Bool) → nat_le x limit ≡ below → min (min x limit * suc q) limit ≡ min (x * suc q) limit
stops x q limit true e = let h : x ≤ limit = grind (arith, nat_tests) in ap (λ n. min (n * suc q) limit) (min_left x limit h)
stops x q limit false e =
    let h : limit ≤ x = grind (arith, nat_tests) in
    ap (λ n. min (n * suc q) limit) (min_right x limit h) ∙ min_right (limit * suc q) limit (at_least limit q) ∙ sym (min_right (x * suc q) limit (le_trans h (at_least x q)))

pub product_stops : (x p limit : ℕ) → min (min x limit * p) limit ≡ min (x * p) limit
product_stops x zero limit = ap (λ n. min n limit) (mul-zero (min x limit) ∙ sym (mul-zero x))
product_stops x (suc q) limit = stops x q limit (nat_le x limit) refl

pub extents_step : (count limit : ℕ) (ds : List Dimension) (i : ℕ) (d : Dimension) (next : ℕ) → i < length ds → d ≡ get_or ds i d → next ≡ min (count * unsigned_abs d.extent) limit
    → min (count * product (extents (drop i ds))) limit ≡ min (next * product (extents (drop (i + 1) ds))) limit
extents_step count limit ds i d next h is e =
    ap (λ ds. min (count * product (extents ds)) limit) (drop_more ds i d h)
    ∙ ap (λ (d : Dimension). min (count * (unsigned_abs d.extent * product (extents (drop (i + 1) ds)))) limit) (sym is)
    ∙ ap (λ n. min n limit) (sym (mul_assoc count (unsigned_abs d.extent) (product (extents (drop (i + 1) ds)))))
    ∙ sym (product_stops (count * unsigned_abs d.extent) (product (extents (drop (i + 1) ds))) limit)
    ∙ ap (λ n. min (n * product (extents (drop (i + 1) ds))) limit) (sym e)
