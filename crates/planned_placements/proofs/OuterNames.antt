-- A loop of a valid module has few outer variables.
use Rattle.std.proofs.Common.{◌≡◌, ℕ, zero, suc, ◌+◌, ◌≤◌, List, [], ◌∷◌, ◌++◌, length, Bool, true, Some, None, refl, sym, ap, ◌∙◌, subst, arith, length-append}
use Rattle.std.specs.Prelude.{nat_le, ◌&&◌}
use Rattle.std.proofs.lemmas.Bool.{and_parts}
use Rattle.affine_ast.specs.declared.module.Arg.{Arg}
use Rattle.affine_ast.specs.declared.module.ArgKind.{ArgKind}
use Rattle.affine_ast.specs.declared.module.ArgKind.TheVariants as kind
use Rattle.affine_ast.specs.declared.name.Name.{Name}
use Rattle.affine_ast.specs.Nest.{Plain, Nest, Nothing, Loop, Branch, Does, Value, Load, Store, RawLoad, RawStore, Constant, Binary, Cast, Alloc, Dealloc, Start, Wait, Return}
use Rattle.affine_ast.specs.Rules.{arguments_within, text_within}
use Rattle.affine_ast.specs.Scope.{Totals, Around, with_totals, counted, in_loop, in_condition, behind_plain}
use Rattle.affine_ast.specs.Validity.{Passed, told, then_told, rule_of_plain, rule_of_loop, rule_of_condition, argument_shape, with_argument, behind_argument}
use Rattle.valid_laws.proofs.Passing.{judged_passed, then_passed, loop_holds}
use Rattle.valid_laws.proofs.SafeStart.{ArgumentHolds, ArgumentsHold}
use Rattle.nest_domain.specs.Ways.{Header, Round, Given, Except, Behind as Before, Past, loop_count, loop_names}
use Rattle.nest_domain.specs.Domains.{names_of, count_of, symbol_names, symbol_count}
use Rattle.placement_texts.specs.Spots.{Spot, Here, Behind, Inside, Other, IsLoop}
use Rattle.placement_regions.specs.Sites.{way_to, outer_names}

-- ---- as many as are counted
kind_names : (k : ArgKind) (n : Name) → length (names_of k n) ≡ count_of k
kind_names (kind.Memref ty) n = refl
kind_names (kind.Index r) n = refl

symbols_counted : (args : List Arg) → length (symbol_names args) ≡ symbol_count args
symbols_counted [] = refl
symbols_counted (arg ∷ args) = length-append (names_of arg.kind arg.name) (symbol_names args) ∙ (λ i. kind_names arg.kind arg.name i + symbols_counted args i)

loops_counted : (way : List Header) → length (loop_names way) ≡ loop_count way
loops_counted [] = refl
loops_counted (Round v l u s ∷ hs) = ap suc (loops_counted hs)
loops_counted (Given set names ∷ hs) = loops_counted hs
loops_counted (Except set names first ∷ hs) = loops_counted hs
loops_counted (Before p ∷ hs) = loops_counted hs
loops_counted (Past n ∷ hs) = loops_counted hs

pub outer_counted : (args : List Arg) (way : List Header) → length (outer_names args way) ≡ symbol_count args + loop_count way
outer_counted args way = length-append (symbol_names args) (loop_names way) ∙ (λ i. symbols_counted args i + loops_counted way i)

-- ---- at most 16 index arguments
few_symbols : (args : List Arg) (a : Around) → ArgumentsHold args a → a.totals.indexes ≤ 16 → a.totals.indexes + symbol_count args ≤ 16
few_symbols [] a h few = omega (arith, few)
few_symbols (arg ∷ args) a h few = by arg.kind h.0 (few_symbols args (behind_argument arg.name arg.kind a) h.1)
  where
    by : (k : ArgKind) → ArgumentHolds a arg.name k → ((behind_argument arg.name k a).totals.indexes ≤ 16 → (behind_argument arg.name k a).totals.indexes + symbol_count args ≤ 16) → a.totals.indexes + (count_of k + symbol_count args) ≤ 16
    by (kind.Memref ty) holds more = let l = more few in omega (arith, l)
    by (kind.Index r) holds more =
        let one = and_parts (argument_shape (kind.Index r)) (arguments_within (with_argument (kind.Index r) a.totals)) holds.elements in
        let two = and_parts (nat_le a.totals.memrefs 64) (nat_le (suc a.totals.indexes) 16 && nat_le a.totals.elements 1048576) one.1 in
        let three = and_parts (nat_le (suc a.totals.indexes) 16) (nat_le a.totals.elements 1048576) two.1 in
        let most : suc a.totals.indexes ≤ 16 = grind (arith, three.0) in
        let l = more most in
        omega (arith, l)

-- ---- at most 16 loops, the one itself among them
within_loops : (a : Around) → text_within a ≡ true → a.loops ≤ 16
within_loops a h =
    let one = and_parts (nat_le a.totals.statements 65536) (nat_le a.loops 16 && nat_le a.ifs 16) h in
    let two = and_parts (nat_le a.loops 16) (nat_le a.ifs 16) one.1 in
    grind (arith, two.0)

loops_behind : (q : Plain) (a : Around) → (behind_plain q a).loops ≡ a.loops
loops_behind (Load r m at ty) a = refl
loops_behind (Store x m at ty) a = refl
loops_behind (Value r pick at) a = refl
loops_behind (RawLoad r m at ty) a = refl
loops_behind (RawStore x m at ty) a = refl
loops_behind (Constant r z ty) a = refl
loops_behind (Binary r op x y ty) a = refl
loops_behind (Cast r k x from to) a = refl
loops_behind (Alloc r ty) a = refl
loops_behind (Dealloc m ty) a = refl
loops_behind (Start x x_at y y_at t t_at n stride types) a = refl
loops_behind (Wait t at n ty) a = refl
loops_behind Return a = refl

pub few_loops : (s : Spot) (n : Nest) (a : Around) (t : Totals) → told n a ≡ Passed t → IsLoop s n → loop_count (way_to s n) + a.loops ≤ 16
unfolding told
few_loops s Nothing a t h i = absurd i
few_loops Here (Loop line v l u step body rest) a t h i =
    let j = judged_passed line (rule_of_loop (counted a) v l u step) _ t h in
    let m = within_loops (counted a) (loop_holds (counted a) v l u step j.0).text in
    omega (arith, m)
few_loops (Behind s) (Loop line v l u step body rest) a t h i =
    let j = judged_passed line (rule_of_loop (counted a) v l u step) _ t h in
    let k = then_passed (told body (in_loop v l u (counted a))) (λ t. told rest (with_totals t a)) t j.1 in
    few_loops s rest (with_totals k.0 a) t k.2 i
few_loops (Inside s) (Loop line v l u step body rest) a t h i =
    let j = judged_passed line (rule_of_loop (counted a) v l u step) _ t h in
    let k = then_passed (told body (in_loop v l u (counted a))) (λ t. told rest (with_totals t a)) t j.1 in
    let m = few_loops s body (in_loop v l u (counted a)) k.0 k.1 i in
    omega (arith, m)
few_loops (Other s) (Loop line v l u step body rest) a t h i = absurd i
few_loops Here (Branch line set ns first has other rest) a t h i = absurd i
few_loops (Behind s) (Branch line set ns first has other rest) a t h i =
    let j = judged_passed line (rule_of_condition (counted a) set ns) _ t h in
    let k = then_passed (told first (in_condition (counted a))) (λ t. then_told (told other (in_condition (with_totals t a))) (λ u. told rest (with_totals u a))) t j.1 in
    let o = then_passed (told other (in_condition (with_totals k.0 a))) (λ u. told rest (with_totals u a)) t k.2 in
    few_loops s rest (with_totals o.0 a) t o.2 i
few_loops (Inside s) (Branch line set ns first has other rest) a t h i =
    let j = judged_passed line (rule_of_condition (counted a) set ns) _ t h in
    let k = then_passed (told first (in_condition (counted a))) (λ t. then_told (told other (in_condition (with_totals t a))) (λ u. told rest (with_totals u a))) t j.1 in
    few_loops s first (in_condition (counted a)) k.0 k.1 i
few_loops (Other s) (Branch line set ns first has other rest) a t h i =
    let j = judged_passed line (rule_of_condition (counted a) set ns) _ t h in
    let k = then_passed (told first (in_condition (counted a))) (λ t. then_told (told other (in_condition (with_totals t a))) (λ u. told rest (with_totals u a))) t j.1 in
    let o = then_passed (told other (in_condition (with_totals k.0 a))) (λ u. told rest (with_totals u a)) t k.2 in
    few_loops s other (in_condition (with_totals k.0 a)) o.0 o.1 i
few_loops Here (Does line q rest) a t h i = absurd i
few_loops (Behind s) (Does line q rest) a t h i =
    let j = judged_passed line (rule_of_plain (counted a) q rest) _ t h in
    let m = few_loops s rest (behind_plain q (counted a)) t j.1 i in
    subst (λ k. loop_count (way_to s rest) + k ≤ 16) (loops_behind q (counted a)) m
few_loops (Inside s) (Does line q rest) a t h i = absurd i
few_loops (Other s) (Does line q rest) a t h i = absurd i

pub few_outer : (args : List Arg) (s : Spot) (n : Nest) (a : Around) (b : Around) (t : Totals) → ArgumentsHold args a → a.totals.indexes ≤ 16 → told n b ≡ Passed t → IsLoop s n → length (outer_names args (way_to s n)) ≤ 32
few_outer args s n a b t holds few h i =
    let x = few_symbols args a holds few in
    let y = few_loops s n b t h i in
    let z = outer_counted args (way_to s n) in
    omega (arith, x, y, z)
