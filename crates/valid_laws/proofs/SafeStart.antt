-- A valid module is safe from every memory that fits it.
use Rattle.std.proofs.Common.{◌≡◌, ℕ, suc, ◌+◌, ◌≤◌, ℤ, pos, true, List, [], ◌∷◌, drop, refl, sym, ap, subst, arith}
use Rattle.std.specs.Prelude.{◌&&◌, not, nat_eq, nat_le, fold, Option, Some, None, slice_index_or}
use Rattle.std.proofs.lemmas.Bool.{and_parts}
use Rattle.std.proofs.lemmas.Int.{ints}
use Rattle.affine_expr.specs.declared.map.Interval.{Interval}
use Rattle.affine_expr.specs.Bounded.{range_at}
use Rattle.affine_ast.specs.declared.image.Cells.{Cells}
use Rattle.affine_ast.specs.declared.image.Image.{Image}
use Rattle.affine_ast.specs.declared.module.Arg.{Arg}
use Rattle.affine_ast.specs.declared.module.ArgKind.{ArgKind}
use Rattle.affine_ast.specs.declared.module.ArgKind.TheVariants.{Memref, Index}
use Rattle.affine_ast.specs.declared.module.Module.{Module}
use Rattle.affine_ast.specs.declared.name.Name.{Name}
use Rattle.affine_ast.specs.declared.types.MemrefType.{MemrefType}
use Rattle.affine_ast.specs.Intervals.{range_or}
use Rattle.affine_ast.specs.Nest.{Nest, nest}
use Rattle.affine_ast.specs.Rules.{is_in, is_small, shape_within, arguments_within}
use Rattle.affine_ast.specs.Scope.{Symbol, MemrefArgument, Totals, Around}
use Rattle.affine_ast.specs.Sizes.{product}
use Rattle.affine_ast.specs.Validity.{Passed, told, told_arguments, rule_of_argument, with_argument, range_ordered, range_small, argument_is_slow, argument_shape, behind_argument, told_module, outside, first_broken, IsValid}
use Rattle.direct_meaning.specs.Action.{SlowMemref}
use Rattle.direct_meaning.specs.Static.{Env}
use Rattle.direct_meaning.specs.Memory.{InInterval, FitsArg, FitsArgs, Fits, Placed, place_kind, place_arg, empty_env, start_env}
use Rattle.valid_laws.specs.Laws.{ValidIsSafe}
use Rattle.valid_laws.specs.Safe.{IsSmall, IsSlow}
use Rattle.valid_laws.proofs.Counted.{IsCounted}
use Rattle.valid_laws.proofs.Evaluated.{valid_evaluable}
use Rattle.valid_laws.proofs.Passing.{rule_held, judged_passed, passed_of}
use Rattle.valid_laws.proofs.SafeHolds.{stands_number, stands_memref, safe_of_told}
use Rattle.valid_laws.proofs.SafePlaces.{shape_sizes, shape_rank}
use Rattle.valid_laws.proofs.Scoped.{ScopeStands}
use Rattle.valid_laws.proofs.Small.{small_of_test}

-- what holds of an argument that breaks no rule
pub record ArgumentHolds (a : Around) (n : Name) (k : ArgKind) : Type 0 where
  pub new_name : not (is_in a.scope n) ≡ true
  pub ordered : range_ordered k ≡ true
  pub small : range_small k ≡ true
  pub slow : argument_is_slow k ≡ true
  pub elements : (argument_shape k && arguments_within (with_argument k a.totals)) ≡ true

pub argument_holds : (a : Around) (n : Name) (k : ArgKind) → rule_of_argument a n k ≡ None → ArgumentHolds a n k
unfolding rule_of_argument
argument_holds a n k h =
    let r2 = rule_held 2 _ _ h in
    let r3 = rule_held 3 _ _ r2.1 in
    let r9 = rule_held 9 _ _ r3.1 in
    let r10 = rule_held 10 _ _ r9.1 in
    let r11 = rule_held 11 _ _ r10.1 in
    record { new_name = r2.0; ordered = r3.0; small = r9.0; slow = r10.0; elements = r11.0 }

-- the names so far, and where the next argument lies
pub record ArgumentsStand (a : Around) (p : Placed) : Type 0 where
  pub scope : ScopeStands a.scope p.env
  pub memrefs : p.memrefs ≡ a.totals.memrefs
  pub elements : p.elements ≡ a.totals.elements
  pub fasts : p.env.fasts ≡ 0
  pub tags : p.env.tags ≡ 0
  pub no_statements : a.totals.statements ≡ 0
  pub no_tags : a.totals.tags ≡ 0

-- a memref lies behind those before it
slow_home : (ty : MemrefType) (t : Totals) (number first : ℕ) → number ≡ t.memrefs → first ≡ t.elements → nat_eq ty.space 0 ≡ true → (shape_within ty && arguments_within (with_argument (Memref ty) t)) ≡ true → IsSlow number first ty
slow_home ty t number first p q s h =
    let two = and_parts (shape_within ty) (arguments_within (with_argument (Memref ty) t)) h in
    let m = and_parts (nat_le (suc t.memrefs) 64) (nat_le t.indexes 16 && nat_le (t.elements + product ty.sizes) 1048576) two.1 in
    let l = and_parts (nat_le t.indexes 16) (nat_le (t.elements + product ty.sizes) 1048576) m.1 in
    let e : ty.space ≡ 0 = grind (arith, s) in
    let r = shape_rank ty 0 e two.0 in
    let many : suc t.memrefs ≤ 64 = grind (arith, m.0) in
    let long : t.elements + product ty.sizes ≤ 1048576 = grind (arith, l.1) in
    record { space = e; rank = grind (arith, r); number_fits = omega (arith, many, p); places_fit = omega (arith, long, q) }

memref_stands : (a : Around) (p : Placed) (name : Name) (ty : MemrefType) → ArgumentsStand a p → ArgumentHolds a name (Memref ty) → ArgumentsStand (behind_argument name (Memref ty) a) (place_kind (Memref ty) name p)
memref_stands a p name ty h k =
    let two = and_parts (shape_within ty) (arguments_within (with_argument (Memref ty) a.totals)) k.elements in
    record {
      scope = stands_memref a.scope p.env h.scope name (MemrefArgument ty) (SlowMemref p.memrefs p.elements) k.new_name
          (refl, record { stands = slow_home ty a.totals p.memrefs p.elements h.memrefs h.elements k.slow k.elements; sizes = shape_sizes ty two.0 });
      memrefs = ap suc h.memrefs;
      elements = ap (λ n. n + product ty.sizes) h.elements;
      fasts = h.fasts;
      tags = h.tags;
      no_statements = h.no_statements;
      no_tags = h.no_tags;
    }

-- an index argument has a small number
interval_small : (i : Interval) (z : ℤ) → (is_small i.least && is_small i.greatest) ≡ true → InInterval i z → IsSmall z
interval_small i z t h =
    let two = and_parts (is_small i.least) (is_small i.greatest) t in
    let low = small_of_test i.least two.0 in
    let high = small_of_test i.greatest two.1 in
    record { least = omega (arith, ints, low.least, h.low); most = omega (arith, ints, high.most, h.high) }

index_stands : (a : Around) (p : Placed) (name : Name) (range : Option Interval) → ArgumentsStand a p → ArgumentHolds a name (Index range) → InInterval (range_or range) (slice_index_or p.symbols 0 (pos 0))
    → ArgumentsStand (behind_argument name (Index range) a) (place_kind (Index range) name p)
index_stands a p name range h k i = record {
  scope = stands_number a.scope p.env h.scope name (Symbol (range_at (range_or range))) (Some (slice_index_or p.symbols 0 (pos 0))) k.new_name
      (record { value = slice_index_or p.symbols 0 (pos 0); is = refl; small = interval_small (range_or range) (slice_index_or p.symbols 0 (pos 0)) k.small i }, refl);
  memrefs = h.memrefs;
  elements = h.elements;
  fasts = h.fasts;
  tags = h.tags;
  no_statements = h.no_statements;
  no_tags = h.no_tags;
}

-- one argument, and those behind it
arg_stands : (args : List Arg) (kind : ArgKind) (name : Name) (a : Around) (p : Placed) (cells : List Cells) (Then : (a : Around) → Placed → Type 0)
    → ((a : Around) (p : Placed) (cells : List Cells) → ArgumentsStand a p → FitsArgs args cells p.symbols → Then a p)
    → FitsArg kind (FitsArgs args) cells p.symbols → ArgumentsStand a p → ArgumentHolds a name kind → Then (behind_argument name kind a) (place_kind kind name p)
arg_stands args (Memref ty) name a p [] Then more fits h k = absurd fits
arg_stands args (Memref ty) name a p (c ∷ cells) Then more fits h k = more _ _ cells (memref_stands a p name ty h k) fits.2
arg_stands args (Index range) name a p cells Then more fits h k = by p.symbols refl fits
  where
    by : (zs : List ℤ) → p.symbols ≡ zs → FitsArg (Index range) (FitsArgs args) cells zs → Then (behind_argument name (Index range) a) (place_kind (Index range) name p)
    by [] is f = absurd f
    by (z ∷ zs) is f = more _ _ cells
        (index_stands a p name range h k (subst (InInterval (range_or range)) (sym (ap (λ ys. slice_index_or ys 0 (pos 0)) is)) f.0))
        (subst (FitsArgs args cells) (sym (ap (drop 1) is)) f.1)

-- what stands round the statements behind arguments
abbrev pub behind_arguments : List Arg → Around → Around
behind_arguments [] a = a
behind_arguments (arg ∷ args) a = behind_arguments args (behind_argument arg.name arg.kind a)

-- no argument breaks a rule
abbrev pub ArgumentsHold : List Arg → Around → Type 0
ArgumentsHold [] a = Unit {0}
ArgumentsHold (arg ∷ args) a = ArgumentHolds a arg.name arg.kind × ArgumentsHold args (behind_argument arg.name arg.kind a)

pub arguments_hold : (args : List Arg) (body : Nest) (a : Around) (t : Totals) → told_arguments args (told body) a ≡ Passed t → ArgumentsHold args a
unfolding told_arguments
arguments_hold [] body a t k = tt
arguments_hold (arg ∷ args) body a t k =
    let j = judged_passed arg.line (rule_of_argument a arg.name arg.kind) _ t k in
    (argument_holds a arg.name arg.kind j.0, arguments_hold args body (behind_argument arg.name arg.kind a) t j.1)

args_passed : (args : List Arg) (body : Nest) (a : Around) (t : Totals) → told_arguments args (told body) a ≡ Passed t → told body (behind_arguments args a) ≡ Passed t
unfolding told_arguments
args_passed [] body a t k = k
args_passed (arg ∷ args) body a t k =
    let j = judged_passed arg.line (rule_of_argument a arg.name arg.kind) _ t k in
    args_passed args body (behind_argument arg.name arg.kind a) t j.1

args_stand : (args : List Arg) (a : Around) (p : Placed) (cells : List Cells) → ArgumentsStand a p → FitsArgs args cells p.symbols → ArgumentsHold args a → ArgumentsStand (behind_arguments args a) (fold place_arg p args)
args_stand [] a p cells h fits k = h
args_stand (arg ∷ args) a p cells h fits k =
    arg_stands args arg.kind arg.name a p cells (λ a p. ArgumentsHold args a → ArgumentsStand (behind_arguments args a) (fold place_arg p args))
    (λ a p cells h fits k. args_stand args a p cells h fits k) fits h k.0 k.1

-- what stands round a module's body
abbrev pub start_around : Module → Around
start_around m = behind_arguments m.args outside

-- the body of a valid module passes, and its names stand for what they do
pub record Starts (m : Module) (e : Env) : Type 0 where
  pub totals : Totals
  pub arguments : ArgumentsHold m.args outside
  pub passed : told (nest m.body) (start_around m) ≡ Passed totals
  pub stands : ScopeStands (start_around m).scope e
  pub counted : IsCounted (start_around m).totals e.fasts e.tags

pub start_stands : (m : Module) → IsValid m → (memory : Image) → Fits m memory → Starts m (start_env m.args memory.symbols)
unfolding first_broken told_module start_env
start_stands m h memory fits =
    let p = passed_of (told_arguments m.args (told (nest m.body)) outside) h in
    let all = arguments_hold m.args (nest m.body) outside p.0 p.1 in
    let none : ArgumentsStand outside (record { env = empty_env; memrefs = 0; elements = 0; symbols = memory.symbols }) =
    record { scope = λ n. (refl, refl); memrefs = refl; elements = refl; fasts = refl; tags = refl; no_statements = refl; no_tags = refl } in
    let e = args_stand m.args outside (record { env = empty_env; memrefs = 0; elements = 0; symbols = memory.symbols }) memory.memrefs none fits.fits all in
    record {
      totals = p.0;
      arguments = all;
      passed = args_passed m.args (nest m.body) outside p.0 p.1;
      stands = e.scope;
      counted = record { statements_fit = omega (arith, e.no_statements); tags_fit = omega (arith, e.no_tags); fasts = omega (arith, e.fasts); tags = omega (arith, e.tags) };
    }

pub valid_safe : ValidIsSafe
valid_safe m h memory fits =
    let s = start_stands m h memory fits in
    safe_of_told (nest m.body) (start_around m) s.totals (start_env m.args memory.symbols) s.stands s.counted (valid_evaluable m h memory fits) s.passed
