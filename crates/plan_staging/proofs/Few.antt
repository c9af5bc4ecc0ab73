-- A plan has no more decisions than its module has statements.
use Rattle.std.proofs.Common.{◌≡◌, ℕ, zero, suc, ◌+◌, ◌≤◌, List, [], ◌∷◌, ◌++◌, length, Bool, true, false, Option, Some, None, refl, sym, ap, ◌∙◌, subst, arith, length-append}
use Rattle.std.specs.Prelude.{fold, map, nat_le, ◌&&◌, if◌then◌else◌}
use Rattle.std.proofs.lemmas.Bool.{and_parts}
use Rattle.affine_ast.specs.declared.module.Arg.{Arg}
use Rattle.affine_ast.specs.declared.module.ArgKind.{ArgKind}
use Rattle.affine_ast.specs.declared.module.ArgKind.TheVariants as kind
use Rattle.affine_ast.specs.declared.module.Module.{Module}
use Rattle.affine_ast.specs.declared.name.Name.{Name}
use Rattle.affine_expr.specs.declared.map.Set.{Set}
use Rattle.affine_ast.specs.Nest.{Plain, Nest, Nothing, Loop, Branch, Does, Value, Load, Store, RawLoad, RawStore, Constant, Binary, Cast, Alloc, Dealloc, Start, Wait, Return, nest}
use Rattle.affine_ast.specs.Rules.{text_within}
use Rattle.affine_ast.specs.Scope.{Totals, Around, with_totals, counted, in_loop, in_condition, behind_plain}
use Rattle.affine_ast.specs.Validity.{Passed, told, then_told, rule_of_plain, rule_of_loop, rule_of_condition, behind_argument, outside, IsValid}
use Rattle.nest_domain.specs.declared.plan.Options.{Options}
use Rattle.nest_domain.specs.Ways.{has_name}
use Rattle.placement_regions.specs.Sites.{from_spot, alone}
use Rattle.placement_regions.proofs.Theorem.{opens}
use Rattle.placement_texts.specs.Spots.{Spot, Behind, Inside, Other}
use Rattle.plan_laws.specs.Plan.{Asked, Planned, accessed, with_access, accesses, firsts, type_of, accesses_in, settled, decision, decided, asked_in, asked_from, asked, planned, plan}
use Rattle.plan_laws.specs.Sites.{loops_at}
use Rattle.valid_laws.proofs.Passing.{judged_passed, then_passed, plain_holds, loop_holds, condition_holds}
use Rattle.valid_laws.proofs.SafeStart.{behind_arguments}

-- ---- accesses in loops apart are accesses of the text
inner : Nest → Spot → ℕ
inner n s = length (accesses (alone (from_spot s n)))

total_in : Nest → List Spot → ℕ
total_in n [] = 0
total_in n (s ∷ ss) = inner n s + total_in n ss

total_append : (n : Nest) (ss ts : List Spot) → total_in n (ss ++ ts) ≡ total_in n ss + total_in n ts
unfolding total_in
total_append n [] ts = omega arith
total_append n (s ∷ ss) ts = let h = total_append n ss ts in omega (arith, h)

total_mapped : (n m : Nest) (f : Spot → Spot) → ((s : Spot) → from_spot (f s) n ≡ from_spot s m) → (ss : List Spot) → total_in n (map f ss) ≡ total_in m ss
unfolding total_in inner
total_mapped n m f same [] = refl
total_mapped n m f same (s ∷ ss) = λ i. length (accesses (alone (same s i))) + total_mapped n m f same ss i

with_more : (x : Option Name) (ms : List Name) → length ms ≤ length (with_access x ms)
with_more None ms = omega arith
with_more (Some m) ms = omega arith

no_more : (x : Option Name) (ms : List Name) → length (with_access x ms) ≤ suc (length ms)
no_more None ms = omega arith
no_more (Some m) ms = omega arith

branches : (depth line : ℕ) (set : Set) (names : List Name) (first : Nest) (has : Bool) (other rest : Nest) → total_in first (loops_at depth first) ≤ length (accesses first) → total_in other (loops_at depth other) ≤ length (accesses other) → total_in rest (loops_at depth rest) ≤ length (accesses rest)
    → total_in (Branch line set names first has other rest) (map Inside (loops_at depth first) ++ (map Other (loops_at depth other) ++ map Behind (loops_at depth rest))) ≤ length (accesses first ++ (accesses other ++ accesses rest))
branches depth line set names first has other rest h k m =
    let n = Branch line set names first has other rest in
    let ins = map Inside (loops_at depth first) in
    let others = map Other (loops_at depth other) in
    let rests = map Behind (loops_at depth rest) in
    let p = total_append n ins (others ++ rests) in
    let q = total_append n others rests in
    let x = total_mapped n first Inside (λ s. refl) (loops_at depth first) in
    let y = total_mapped n other Other (λ s. refl) (loops_at depth other) in
    let z = total_mapped n rest Behind (λ s. refl) (loops_at depth rest) in
    let d = length-append (accesses first) (accesses other ++ accesses rest) in
    let e = length-append (accesses other) (accesses rest) in
    omega (arith, h, k, m, p, q, x, y, z, d, e)

plains : (depth line : ℕ) (q : Plain) (rest : Nest) → total_in rest (loops_at depth rest) ≤ length (accesses rest) → total_in (Does line q rest) (map Behind (loops_at depth rest)) ≤ length (with_access (accessed q) (accesses rest))
plains depth line q rest h =
    let z = total_mapped (Does line q rest) rest Behind (λ s. refl) (loops_at depth rest) in
    let w = with_more (accessed q) (accesses rest) in
    omega (arith, h, z, w)

all_in : (depth : ℕ) (n : Nest) → total_in n (loops_at depth n) ≤ length (accesses n)
unfolding total_in inner
all_in zero Nothing = omega arith
all_in (suc depth) Nothing = omega arith
all_in zero (Loop line v l u step body rest) =
    let n = Loop line v l u step body rest in
    let h = all_in zero rest in
    let m = total_mapped n rest Behind (λ s. refl) (loops_at zero rest) in
    let a = length-append (accesses body) (accesses rest) in
    let b = length-append (accesses body) [] in
    omega (arith, h, m, a, b)
all_in (suc depth) (Loop line v l u step body rest) =
    let n = Loop line v l u step body rest in
    let h = all_in depth body in
    let k = all_in (suc depth) rest in
    let p = total_append n (map Inside (loops_at depth body)) (map Behind (loops_at (suc depth) rest)) in
    let i = total_mapped n body Inside (λ s. refl) (loops_at depth body) in
    let j = total_mapped n rest Behind (λ s. refl) (loops_at (suc depth) rest) in
    let a = length-append (accesses body) (accesses rest) in
    omega (arith, h, k, p, i, j, a)
all_in zero (Branch line set names first has other rest) = branches zero line set names first has other rest (all_in zero first) (all_in zero other) (all_in zero rest)
all_in (suc depth) (Branch line set names first has other rest) = branches (suc depth) line set names first has other rest (all_in (suc depth) first) (all_in (suc depth) other) (all_in (suc depth) rest)
all_in zero (Does line q rest) = plains zero line q rest (all_in zero rest)
all_in (suc depth) (Does line q rest) = plains (suc depth) line q rest (all_in (suc depth) rest)

-- ---- each decision is of a memref that is accessed in its block
fewer_firsts : (seen ms : List Name) → length (firsts seen ms) ≤ length ms
fewer_firsts seen [] = omega arith
fewer_firsts seen (m ∷ ms) = by (has_name m seen) (fewer_firsts seen ms) (fewer_firsts (m ∷ seen) ms)
  where
    by : (b : Bool) → length (firsts seen ms) ≤ length ms → length (firsts (m ∷ seen) ms) ≤ length ms → length (if b then firsts seen ms else m ∷ firsts (m ∷ seen) ms) ≤ suc (length ms)
    by true h k = omega (arith, h)
    by false h k = omega (arith, k)

mapped_long : {A B : Type 0} (f : A → B) (xs : List A) → length (map f xs) ≡ length xs
mapped_long f [] = refl
mapped_long f (x ∷ xs) = ap suc (mapped_long f xs)

module _ (o : Options) (args : List Arg) (n : Nest) where
  asked_few : (block : ℕ) (ss : List Spot) → length (asked_from o args n block ss) ≤ total_in n ss
  unfolding total_in inner
  asked_few block [] = omega arith
  asked_few block (s ∷ ss) =
      let ms = firsts [] (accesses_in o args n s) in
      let a = length-append (asked_in o args n block s ms) (asked_from o args n (suc block) ss) in
      let b = mapped_long {A = Name} {B = Asked} (λ m. record { block = block; at = s; memref = m }) ms in
      let c = fewer_firsts [] (accesses_in o args n s) in
      let d = asked_few (suc block) ss in
      omega (arith, a, b, c, d)

  all_decided : (as_ : List Asked) (so : Planned) → length (fold (decided o args n) so as_).decisions ≡ length so.decisions + length as_
  all_decided [] so = omega arith
  all_decided (a ∷ as_) so =
      let h = all_decided as_ (decided o args n so a) in
      let k = length-append so.decisions (decision o args n a (settled o args n so.steps a.memref a.at (type_of args a.memref)) ∷ []) in
      omega (arith, h, k)

  few_decisions : length (planned o args n).decisions ≤ length (accesses n)
  unfolding planned
  few_decisions =
      let h = all_decided (asked o args n) (record { steps = []; decisions = [] }) in
      let k = asked_few 0 (loops_at o.depth n) in
      let m = all_in o.depth n in
      omega (arith, h, k, m)

-- ---- each access is a statement, of at most 65,536
statements_within : (a : Around) → text_within a ≡ true → a.totals.statements ≤ 65536
statements_within a h = let one = and_parts (nat_le a.totals.statements 65536) (nat_le a.loops 16 && nat_le a.ifs 16) h in grind (arith, one.0)

statements_behind : (q : Plain) (a : Around) → (behind_plain q a).totals.statements ≡ a.totals.statements
statements_behind (Load r m at ty) a = refl
statements_behind (Store x m at ty) a = refl
statements_behind (Value r pick at) a = refl
statements_behind (RawLoad r m at ty) a = refl
statements_behind (RawStore x m at ty) a = refl
statements_behind (Constant r z ty) a = refl
statements_behind (Binary r op x y ty) a = refl
statements_behind (Cast r k x from to) a = refl
statements_behind (Alloc r ty) a = refl
statements_behind (Dealloc m ty) a = refl
statements_behind (Start x x_at y y_at t t_at n stride types) a = refl
statements_behind (Wait t at n ty) a = refl
statements_behind Return a = refl

record Few (n : Nest) (before behind : ℕ) : Type 0 where
  accesses : before + length (accesses n) ≤ behind
  most : behind ≤ 65536

few_accesses : (n : Nest) (a : Around) (t : Totals) → told n a ≡ Passed t → a.totals.statements ≤ 65536 → Few n a.totals.statements t.statements
unfolding told
few_accesses Nothing a t h most = let same : a.totals ≡ t = cc in record { accesses = subst (λ (x : Totals). a.totals.statements + 0 ≤ x.statements) same (omega arith); most = subst (λ (x : Totals). x.statements ≤ 65536) same most }
few_accesses (Loop line v l u step body rest) a t h most =
    let j = judged_passed line (rule_of_loop (counted a) v l u step) _ t h in
    let k = then_passed (told body (in_loop v l u (counted a))) (λ t. told rest (with_totals t a)) t j.1 in
    let w = statements_within (counted a) (loop_holds (counted a) v l u step j.0).text in
    let x = few_accesses body (in_loop v l u (counted a)) k.0 k.1 w in
    let y = few_accesses rest (with_totals k.0 a) t k.2 x.most in
    let p = x.accesses in
    let q = y.accesses in
    let e = length-append (accesses body) (accesses rest) in
    record { accesses = omega (arith, p, q, e); most = y.most }
few_accesses (Branch line set ns first has other rest) a t h most =
    let j = judged_passed line (rule_of_condition (counted a) set ns) _ t h in
    let k = then_passed (told first (in_condition (counted a))) (λ t. then_told (told other (in_condition (with_totals t a))) (λ u. told rest (with_totals u a))) t j.1 in
    let o = then_passed (told other (in_condition (with_totals k.0 a))) (λ u. told rest (with_totals u a)) t k.2 in
    let w = statements_within (counted a) (condition_holds (counted a) set ns j.0).text in
    let x = few_accesses first (in_condition (counted a)) k.0 k.1 w in
    let y = few_accesses other (in_condition (with_totals k.0 a)) o.0 o.1 x.most in
    let z = few_accesses rest (with_totals o.0 a) t o.2 y.most in
    let p = x.accesses in
    let q = y.accesses in
    let r = z.accesses in
    let d = length-append (accesses first) (accesses other ++ accesses rest) in
    let e = length-append (accesses other) (accesses rest) in
    record { accesses = omega (arith, p, q, r, d, e); most = z.most }
few_accesses (Does line q rest) a t h most =
    let j = judged_passed line (rule_of_plain (counted a) q rest) _ t h in
    let w = statements_within (counted a) (plain_holds (counted a) q rest j.0).text in
    let b = statements_behind q (counted a) in
    let x = few_accesses rest (behind_plain q (counted a)) t j.1 (subst (λ k. k ≤ 65536) (sym b) w) in
    let p = x.accesses in
    let m = no_more (accessed q) (accesses rest) in
    record { accesses = omega (arith, p, b, m); most = x.most }

argument_statements : (k : ArgKind) (name : Name) (a : Around) → (behind_argument name k a).totals.statements ≡ a.totals.statements
argument_statements (kind.Memref ty) name a = refl
argument_statements (kind.Index r) name a = refl

arguments_statements : (args : List Arg) (a : Around) → (behind_arguments args a).totals.statements ≡ a.totals.statements
arguments_statements [] a = refl
arguments_statements (arg ∷ args) a = arguments_statements args (behind_argument arg.name arg.kind a) ∙ argument_statements arg.kind arg.name a

pub few_planned : (o : Options) (m : Module) → IsValid m → length (plan o m) ≤ 65536
few_planned o m valid =
    let p = opens m valid in
    let s = arguments_statements m.args outside in
    let x = few_accesses (nest m.body) (behind_arguments m.args outside) p.totals p.passed (subst (λ k. k ≤ 65536) (sym s) (omega arith)) in
    let a = x.accesses in
    let b = x.most in
    let d = few_decisions o m.args (nest m.body) in
    omega (arith, a, b, d)
