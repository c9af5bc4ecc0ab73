-- The sums of a module's own text, and how many statements a placement adds.
use Rattle.std.proofs.Common.{◌≡◌, ℕ, suc, ◌+◌, ◌≤◌, Bool, true, false, List, [], ◌∷◌, ◌++◌, length, refl, sym, ap, subst, arith, length-append}
use Rattle.std.specs.Prelude.{◌&&◌, nat_le, sum_by}
use Rattle.std.proofs.lemmas.Bool.Decides.{nat_tests}
use Rattle.affine_ast.specs.declared.stmt.Stmt.{Stmt}
use Rattle.affine_ast.specs.declared.stmt.What as what
use Rattle.affine_ast.specs.declared.stmt.What.{What}
use Rattle.affine_ast.specs.declared.stmt.What.TheOpen.{What-F}
use Rattle.affine_ast.specs.Parts.{maps_of}
use Rattle.affine_ast.specs.Nest.{Nest, Nothing, Loop, Branch, Does, nest, put_what}
use Rattle.affine_ast.proofs.Nests.{nest-cons, put_what_is}
use Rattle.nest_domain.specs.Ways.{Use}
use Rattle.placement_lists.specs.Statements.{before, allocs, constants, places_from, where_so, read_in}
use Rattle.placement_texts.specs.Template.{Placement, How, Copies, Transfers}
use Rattle.plan_laws.specs.Limits.{bound_fits, rows_fit, map_operands, bound_operands, row_operands, operands_in}
use Rattle.plan_laws.specs.Sites.{lined}
use Rattle.text_limits.specs.declared.sums.Sums.{Sums}
use Rattle.text_limits.specs.Sums.{is_shallow, plain_fits, statements_in, elements_of, elements_in, tag_elements_of, tags_in, each_fits, sums_in, are_within}
use Rattle.text_limits.specs.Telling.{told_with}

-- ---- lines have no part
statements_lined : (n : Nest) → statements_in (lined n) ≡ statements_in n
statements_lined Nothing = refl
statements_lined (Loop line v l u s body rest) = λ i. suc (statements_lined body i + statements_lined rest i)
statements_lined (Branch line set names first has other rest) = λ i. suc (statements_lined first i + (statements_lined other i + statements_lined rest i))
statements_lined (Does line p rest) = ap suc (statements_lined rest)

operands_lined : (n : Nest) → operands_in (lined n) ≡ operands_in n
operands_lined Nothing = refl
operands_lined (Loop line v l u s body rest) = λ i. bound_operands l + (bound_operands u + (operands_lined body i + operands_lined rest i))
operands_lined (Branch line set names first has other rest) = λ i. sum_by row_operands set.rows + (operands_lined first i + (operands_lined other i + operands_lined rest i))
operands_lined (Does line p rest) = ap (λ k. sum_by map_operands (maps_of p) + k) (operands_lined rest)

elements_lined : (n : Nest) → elements_in (lined n) ≡ elements_in n
elements_lined Nothing = refl
elements_lined (Loop line v l u s body rest) = λ i. elements_lined body i + elements_lined rest i
elements_lined (Branch line set names first has other rest) = λ i. elements_lined first i + (elements_lined other i + elements_lined rest i)
elements_lined (Does line p rest) = ap (λ k. elements_of p + k) (elements_lined rest)

tags_lined : (n : Nest) → tags_in (lined n) ≡ tags_in n
tags_lined Nothing = refl
tags_lined (Loop line v l u s body rest) = λ i. tags_lined body i + tags_lined rest i
tags_lined (Branch line set names first has other rest) = λ i. tags_lined first i + (tags_lined other i + tags_lined rest i)
tags_lined (Does line p rest) = ap (λ k. tag_elements_of p + k) (tags_lined rest)

fits_lined : (loops ifs : ℕ) (n : Nest) → each_fits loops ifs (lined n) ≡ each_fits loops ifs n
fits_lined loops ifs Nothing = refl
fits_lined loops ifs (Loop line v l u s body rest) = λ i. (is_shallow loops ifs && (bound_fits l && bound_fits u)) && (fits_lined (suc loops) ifs body i && fits_lined loops ifs rest i)
fits_lined loops ifs (Branch line set names first has other rest) =
    λ i. (is_shallow loops ifs && rows_fit set.rows) && (fits_lined loops (suc ifs) first i && (fits_lined loops (suc ifs) other i && fits_lined loops ifs rest i))
fits_lined loops ifs (Does line p rest) = ap (λ b. (is_shallow loops ifs && plain_fits p) && b) (fits_lined loops ifs rest)

pub sums_lined : (loops ifs : ℕ) (n : Nest) → sums_in loops ifs (lined n) ≡ sums_in loops ifs n
sums_lined loops ifs n = λ i. record {
  statements = statements_lined n i;
  operands = operands_lined n i;
  elements = elements_lined n i;
  tags = tags_lined n i;
  fits = fits_lined loops ifs n i;
}

-- ---- a placement adds a statement
one_more : (line : ℕ) (rest : Nest) (w : What) → suc (statements_in rest) ≤ statements_in (put_what w line rest)
one_more line rest w = by (what.out-What w) (what.roll-out-What w)
  where
    is : (x : What-F What Stmt) → what.roll-What x ≡ w → (n : Nest) → put_what w line rest ≡ n → suc (statements_in rest) ≤ statements_in n → suc (statements_in rest) ≤ statements_in (put_what w line rest)
    is x d n e h = subst (λ k. suc (statements_in rest) ≤ statements_in k) (sym e) h

    by : (x : What-F What Stmt) → what.roll-What x ≡ w → suc (statements_in rest) ≤ statements_in (put_what w line rest)
    by (What-F.For v l u s body) d = is (What-F.For v l u s body) d _ (put_what_is line rest (What-F.For v l u s body) w d) (omega arith)
    by (What-F.If set names first other) d = is (What-F.If set names first other) d _ (put_what_is line rest (What-F.If set names first other) w d) (omega arith)
    by x d = is x d _ (put_what_is line rest x w d) (omega arith)

counted : (ss : List Stmt) → length ss ≤ statements_in (nest ss)
counted [] = omega arith
counted (s ∷ ss) =
    let more = one_more s.line (nest ss) s.what in
    let e = ap statements_in (nest-cons s ss) in
    let h = counted ss in
    omega (arith, more, e, h)

an_alloc : (p : Placement) (how : How) → 1 ≤ length (allocs p how)
an_alloc p Copies = omega arith
an_alloc p (Transfers chunks) = omega arith

pub a_statement : (p : Placement) → 1 ≤ statements_in (nest (before p))
a_statement p =
    let a = an_alloc p p.how in
    let last = where_so p p.reads (read_in p p.how) in
    let e = length-append (places_from p.name 0 p.dims) (constants p p.how ++ (allocs p p.how ++ last)) in
    let f = length-append (constants p p.how) (allocs p p.how ++ last) in
    let g = length-append (allocs p p.how) last in
    let h = counted (before p) in
    omega (arith, a, e, f, g, h)

pub more_statements : (p : Placement) (loops ifs : ℕ) (us : List Use) (t : Sums) (number : ℕ) → number ≤ t.statements → number ≤ 65536 → suc number ≤ (told_with p loops ifs us t).statements
more_statements p loops ifs us t number h k = let a = a_statement p in omega (arith, a, h, k)

-- ---- within the limits there are at most so many
second_of : (a b : Bool) → (a && b) ≡ true → b ≡ true
second_of true b h = h
second_of false b h = absurd (let z : ⊥ = cc in z)

first_of : (a b : Bool) → (a && b) ≡ true → a ≡ true
first_of true b h = refl
first_of false b h = absurd (let z : ⊥ = cc in z)

pub few_statements : (t : Sums) → are_within t ≡ true → t.statements ≤ 65536
few_statements t h =
    let rest = second_of (nat_le t.operands 1048576) (nat_le t.statements 65536 && (nat_le t.elements 16777216 && nat_le t.tags 65536)) (second_of t.fits (nat_le t.operands 1048576 && (nat_le t.statements 65536 && (nat_le t.elements 16777216 && nat_le t.tags 65536))) h) in
    let e = first_of (nat_le t.statements 65536) (nat_le t.elements 16777216 && nat_le t.tags 65536) rest in
    grind (arith, nat_tests)
