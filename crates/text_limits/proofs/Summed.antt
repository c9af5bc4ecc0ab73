-- A number that is summed over the statements of a text, with one placement more in the text.
use Rattle.std.proofs.Common.{◌≡◌, ℕ, suc, ◌+◌, List, [], ◌∷◌, Bool, true, false, refl, sym, ap, ◌∙◌, arith}
use Rattle.std.specs.Prelude.{Option, Some, None, ℤ}
use Rattle.affine_expr.specs.declared.map.Set.{Set}
use Rattle.affine_ast.specs.declared.name.Name.{Name}
use Rattle.affine_ast.specs.declared.types.Bound.{Bound}
use Rattle.affine_ast.specs.Nest.{Plain, Nest, Nothing, Loop, Branch, Does, followed_by}
use Rattle.placement_texts.specs.Mapped.{mapped}
use Rattle.placement_texts.specs.Template.{Dimension, How, Copies, Transfers, Placement, place_statement, places_from, read_in, write_out, chunk_constants, constants, allocs, deallocs, where_so, before, behind_loop, redirect}
use Rattle.placement_texts.specs.Spots.{Spot, Here, Behind, Inside, Other, IsLoop, staged_at}
use Rattle.placement_regions.specs.Sites.{from_spot}

-- ---- the template as statements before others
followed_assoc : (a b c : Nest) → followed_by (followed_by a b) c ≡ followed_by a (followed_by b c)
followed_assoc Nothing b c = refl
followed_assoc (Loop line v l u s body rest) b c = ap (Loop line v l u s body) (followed_assoc rest b c)
followed_assoc (Branch line set names first has other rest) b c = ap (Branch line set names first has other) (followed_assoc rest b c)
followed_assoc (Does line q rest) b c = ap (Does line q) (followed_assoc rest b c)

module _ (name : ℕ → Name) where
  place_followed : (k : ℕ) (d : Dimension) (ts : List (Name × ℤ)) (a b : Nest) → followed_by (place_statement name k d ts a) b ≡ place_statement name k d ts (followed_by a b)
  place_followed k d [] a b = refl
  place_followed k d (t ∷ ts) a b = by d.clamped
    where
      by : (x : Bool) → followed_by (place_statement name k (record d { clamped = x }) (t ∷ ts) a) b ≡ place_statement name k (record d { clamped = x }) (t ∷ ts) (followed_by a b)
      by true = refl
      by false = refl

  places_followed : (k : ℕ) (ds : List Dimension) (a b : Nest) → followed_by (places_from name k ds a) b ≡ places_from name k ds (followed_by a b)
  places_followed k [] a b = refl
  places_followed k (d ∷ ds) a b = place_followed k d d.terms (places_from name (suc k) ds a) b ∙ ap (place_statement name k d d.terms) (places_followed (suc k) ds a b)

module _ (p : Placement) where
  chunks_followed : (chunks : Option (ℕ × ℕ)) (a b : Nest) → followed_by (chunk_constants p chunks a) b ≡ chunk_constants p chunks (followed_by a b)
  chunks_followed None a b = refl
  chunks_followed (Some two) a b = refl

  constants_followed : (how : How) (a b : Nest) → followed_by (constants p how a) b ≡ constants p how (followed_by a b)
  constants_followed Copies a b = refl
  constants_followed (Transfers None) a b = refl
  constants_followed (Transfers (Some two)) a b = refl

  allocs_followed : (how : How) (a b : Nest) → followed_by (allocs p how a) b ≡ allocs p how (followed_by a b)
  allocs_followed Copies a b = refl
  allocs_followed (Transfers chunks) a b = refl

  deallocs_followed : (how : How) (a b : Nest) → followed_by (deallocs p how a) b ≡ deallocs p how (followed_by a b)
  deallocs_followed Copies a b = refl
  deallocs_followed (Transfers chunks) a b = refl

  so_followed : (x : Bool) (part a b : Nest) → followed_by (where_so p x part a) b ≡ where_so p x part (followed_by a b)
  so_followed true part a b = followed_assoc part a b
  so_followed false part a b = refl

  pub before_followed : (a b : Nest) → followed_by (before p a) b ≡ before p (followed_by a b)
  before_followed a b =
      let reads = where_so p p.reads (read_in p p.how) in
      places_followed p.name 0 p.dims (constants p p.how (allocs p p.how (reads a))) b
      ∙ ap (places_from p.name 0 p.dims)
      (constants_followed p.how (allocs p p.how (reads a)) b
      ∙ ap (constants p p.how) (allocs_followed p.how (reads a) b ∙ ap (allocs p p.how) (so_followed p.reads (read_in p p.how) a b)))

  pub behind_followed : (a b : Nest) → followed_by (behind_loop p a) b ≡ behind_loop p (followed_by a b)
  behind_followed a b = so_followed p.writes (write_out p p.how) (deallocs p p.how a) b ∙ ap (where_so p p.writes (write_out p p.how)) (deallocs_followed p.how a b)

-- ---- a number that is summed
pub record IsSummed (loop : Bound → Bound → ℕ) (condition : Set → ℕ) (plain : Plain → ℕ) (sum : Nest → ℕ) : Type 0 where
  pub nothing : sum Nothing ≡ 0
  pub of_loop : (line : ℕ) (v : Name) (l u : Bound) (s : ℤ) (body rest : Nest) → sum (Loop line v l u s body rest) ≡ loop l u + (sum body + sum rest)
  pub of_condition : (line : ℕ) (set : Set) (names : List Name) (first : Nest) (has : Bool) (other rest : Nest)
      → sum (Branch line set names first has other rest) ≡ condition set + (sum first + (sum other + sum rest))
  pub of_plain : (line : ℕ) (q : Plain) (rest : Nest) → sum (Does line q rest) ≡ plain q + sum rest

-- in the loop that a text begins with
abbrev pub in_loop : (Nest → ℕ) → Nest → ℕ
in_loop sum (Loop line v l u s body rest) = sum body
in_loop sum n = 0

module _ (loop : Bound → Bound → ℕ) (condition : Set → ℕ) (plain : Plain → ℕ) (sum : Nest → ℕ) (is : IsSummed loop condition plain sum) where
  pub sum_followed : (a b : Nest) → sum (followed_by a b) ≡ sum a + sum b
  sum_followed Nothing b = let e = is.nothing in omega (arith, e)
  sum_followed (Loop line v l u s body rest) b =
      let h = sum_followed rest b in
      let e = is.of_loop line v l u s body (followed_by rest b) in
      let f = is.of_loop line v l u s body rest in
      omega (arith, h, e, f)
  sum_followed (Branch line set names first has other rest) b =
      let h = sum_followed rest b in
      let e = is.of_condition line set names first has other (followed_by rest b) in
      let f = is.of_condition line set names first has other rest in
      omega (arith, h, e, f)
  sum_followed (Does line q rest) b =
      let h = sum_followed rest b in
      let e = is.of_plain line q (followed_by rest b) in
      let f = is.of_plain line q rest in
      omega (arith, h, e, f)

  pub before_sum : (p : Placement) (a : Nest) → sum (before p a) ≡ sum (before p Nothing) + sum a
  before_sum p a = ap sum (sym (before_followed p Nothing a)) ∙ sum_followed (before p Nothing) a

  pub behind_sum : (p : Placement) (a : Nest) → sum (behind_loop p a) ≡ sum (behind_loop p Nothing) + sum a
  behind_sum p a = ap sum (sym (behind_followed p Nothing a)) ∙ sum_followed (behind_loop p Nothing) a

  -- redirected statements have so much more
  module _ (p : Placement) (more : Plain → ℕ) (more_in : Nest → ℕ) (add : IsSummed (λ l u. 0) (λ set. 0) more more_in)
      (step : (q : Plain) → plain (redirect p q) ≡ plain q + more q) where
    pub redirected_sum : (n : Nest) → sum (mapped (redirect p) n) ≡ sum n + more_in n
    redirected_sum Nothing = let e = add.nothing in omega (arith, e)
    redirected_sum (Loop line v l u s body rest) =
        let a = redirected_sum body in
        let b = redirected_sum rest in
        let e = is.of_loop line v l u s (mapped (redirect p) body) (mapped (redirect p) rest) in
        let f = is.of_loop line v l u s body rest in
        let g = add.of_loop line v l u s body rest in
        omega (arith, a, b, e, f, g)
    redirected_sum (Branch line set names first has other rest) =
        let a = redirected_sum first in
        let b = redirected_sum other in
        let c = redirected_sum rest in
        let e = is.of_condition line set names (mapped (redirect p) first) has (mapped (redirect p) other) (mapped (redirect p) rest) in
        let f = is.of_condition line set names first has other rest in
        let g = add.of_condition line set names first has other rest in
        omega (arith, a, b, c, e, f, g)
    redirected_sum (Does line q rest) =
        let a = redirected_sum rest in
        let e = is.of_plain line (redirect p q) (mapped (redirect p) rest) in
        let f = is.of_plain line q rest in
        let g = add.of_plain line q rest in
        let k = step q in
        omega (arith, a, e, f, g, k)

    pub staged_sum : (s : Spot) (n : Nest) → IsLoop s n
        → sum (staged_at p s n) ≡ (sum n + (sum (before p Nothing) + sum (behind_loop p Nothing))) + in_loop more_in (from_spot s n)
    staged_sum s Nothing h = absurd h
    staged_sum Here (Loop line v l u step body rest) h =
        let a = before_sum p (Loop line v l u step (mapped (redirect p) body) (behind_loop p rest)) in
        let b = behind_sum p rest in
        let c = redirected_sum body in
        let e = is.of_loop line v l u step (mapped (redirect p) body) (behind_loop p rest) in
        let f = is.of_loop line v l u step body rest in
        omega (arith, a, b, c, e, f)
    staged_sum (Behind s) (Loop line v l u step body rest) h =
        let a = staged_sum s rest h in
        let e = is.of_loop line v l u step body (staged_at p s rest) in
        let f = is.of_loop line v l u step body rest in
        omega (arith, a, e, f)
    staged_sum (Inside s) (Loop line v l u step body rest) h =
        let a = staged_sum s body h in
        let e = is.of_loop line v l u step (staged_at p s body) rest in
        let f = is.of_loop line v l u step body rest in
        omega (arith, a, e, f)
    staged_sum (Other s) (Loop line v l u step body rest) h = absurd h
    staged_sum Here (Branch line set names first has other rest) h = absurd h
    staged_sum (Behind s) (Branch line set names first has other rest) h =
        let a = staged_sum s rest h in
        let e = is.of_condition line set names first has other (staged_at p s rest) in
        let f = is.of_condition line set names first has other rest in
        omega (arith, a, e, f)
    staged_sum (Inside s) (Branch line set names first has other rest) h =
        let a = staged_sum s first h in
        let e = is.of_condition line set names (staged_at p s first) has other rest in
        let f = is.of_condition line set names first has other rest in
        omega (arith, a, e, f)
    staged_sum (Other s) (Branch line set names first has other rest) h =
        let a = staged_sum s other h in
        let e = is.of_condition line set names first has (staged_at p s other) rest in
        let f = is.of_condition line set names first has other rest in
        omega (arith, a, e, f)
    staged_sum Here (Does line q rest) h = absurd h
    staged_sum (Behind s) (Does line q rest) h =
        let a = staged_sum s rest h in
        let e = is.of_plain line q (staged_at p s rest) in
        let f = is.of_plain line q rest in
        omega (arith, a, e, f)
    staged_sum (Inside s) (Does line q rest) h = absurd h
    staged_sum (Other s) (Does line q rest) h = absurd h
